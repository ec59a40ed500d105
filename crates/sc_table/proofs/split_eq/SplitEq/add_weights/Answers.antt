use Rattle.std.proofs.Common.{◌≡◌, ℕ, ◌+◌, ◌-◌, ◌*◌, ◌^◌, ◌≤◌, ◌++◌, min, length, take, drop, sym, ◌∙◌, ap, refl, subst, arith}
use Rattle.sc_definitions.specs.Ring.{plus, times}
use Rattle.sc_definitions.specs.Tables.{entries}
use Rattle.sc_field.specs.Written.{HasWritten}
use Rattle.sc_field.proofs.EntryLaws.{entry-read, part-entry, part-length}
use Rattle.sc_field.proofs.WrittenLaws.{written-none, written-block}
use Rattle.sc_table.specs.Polys.{table_of}
use Rattle.sc_table.specs.SplitEqs.{split_variables, split_weight}
use Rattle.sc_table.proofs.EntryLaws.{entry-take}
use Rattle.sc_table.proofs.FoldLaws.{written-part}
use Rattle.sc_table.proofs.SplitLaws.{rows-few, block-within, all-rows, gain-block}
use Rattle.sc_table.proofs.split_eq.SplitEq.add_weights.Goals as goal

pub loop-a-init : goal.loop-a-init
loop-a-init g c =
    let f = g.EF.Field in
    let old = c.args.rows.now in
    let none : 0 ≡ min (0 * length c.as_slice-inner.result.now) (length old) = omega arith in
    let table : ℕ → ℕ = λ b. plus f.ops (entries f.number old b)
    (times f.ops (f.number c.args.factor) (split_weight f.number f.ops c.args.self.now b)) in
    record { rows = subst (λ k. HasWritten f.number table 0 k old old) none (written-none f.number table 0 old) }

pub overflow_mul-a : goal.overflow_mul-a
overflow_mul-a g c =
    let s = c.args.self.now in
    omega (arith, rows-few s, block-within s _ _ c.loop-a.a c.as_slice-outer.ensures.size c.as_slice-inner.ensures.size c.loop-a-test.true)

pub loop-a-preserved : goal.loop-a-preserved
loop-a-preserved g c =
    let f = g.EF.Field in
    let ring = g.met.EF.Field.is_field.ring in
    let s = c.args.self.now in
    let outer = c.as_slice-outer.result.now in
    let inner = c.as_slice-inner.result.now in
    let a = c.loop-a.a in
    let block = length inner in
    let from = c.min-from.result in
    let to = c.min-to.result in
    let n = to - from in
    let old = c.args.rows.now in
    let new = c.loop-a.rows in
    let size = length old in
    let part = c.add_scaled.new.rows in
    let newer = take from new ++ (part ++ drop n (drop from new)) in
    let scale = f.number c.args.factor in
    let factor = f.number c.mul.result in
    let gain : ℕ → ℕ = λ b. times f.ops scale (split_weight f.number f.ops s b) in
    let table : ℕ → ℕ = λ b. plus f.ops (entries f.number old b) (gain b) in
    let next : ℕ → ℕ = λ b. plus f.ops (entries f.number new b) (gain b) in
    let same : length new ≡ size = c.loop-a.auto.rows in
    let start : from ≡ min (a * block) size = c.min-from.ensures ∙ ap (min (a * block)) same in
    let end : to ≡ min (from + block) size = c.min-to.ensures ∙ ap (min (from + block)) same in
    let within : from + n ≤ length new = omega (arith, start, end, same) in
    let given : length (take n (drop from new)) ≡ n = part-length new n from n refl within in
    let weight : f.number c.index-outer-a.result ≡ table_of f.number s.outer a =
    sym (entry-read f.number outer a c.index-outer-a.result c.loop-a-test.true c.index-outer-a.is) ∙ ap (λ t. t a) c.as_slice-outer.ensures.numbers in
    let next_block : (a + 1) * block ≡ a * block + block = omega arith in
    let more : from + n ≡ min ((a + 1) * block) size = omega (arith, next_block, start, end) in
    record {
      rows = subst (λ k. HasWritten f.number table 0 k old newer) more
          (written-block f.number table next from n old new newer
          (subst (λ k. HasWritten f.number table 0 k old new) (sym start) c.loop-a.invariant.rows)
          (written-part f.number next from n n new part refl within (c.add_scaled.auto.rows ∙ given)
          (λ k low.
          c.add_scaled.ensures k (omega (arith, low, given))
          ∙ ap (λ x. plus f.ops x (times f.ops factor (entries f.number (take n inner) k)))
          (part-entry f.number new n from k (from + k) low refl)
          ∙ ap (plus f.ops (entries f.number new (from + k)))
          (ap (times f.ops factor) (entry-take f.number inner n k low ∙ ap (λ t. t k) c.as_slice-inner.ensures.numbers)
          ∙ gain-block f.number f.ops ring s size block a from to c.as_slice-inner.ensures.size start end scale factor (f.number c.index-outer-a.result)
          c.mul.ensures weight k low)))
          (λ b high low. ap (λ x. plus f.ops x (gain b)) (c.loop-a.invariant.rows.behind b (omega (arith, high, start)))));
    }

pub returns : goal.returns
returns g c = λ b low.
    let s = c.args.self.now in
    let outer = length c.as_slice-outer.result.now in
    let inner = length c.as_slice-inner.result.now in
    let all : c.loop-a.a ≡ outer = omega (arith, c.loop-a-test.false, c.loop-a.auto.a-end) in
    let whole : c.loop-a.a * inner ≡ 2 ^ split_variables s = ap (λ k. k * inner) all
    ∙ all-rows s outer inner c.as_slice-outer.ensures.size c.as_slice-inner.ensures.size in
    c.loop-a.invariant.rows.written b (omega arith) (omega (arith, low, whole, c.requires))
