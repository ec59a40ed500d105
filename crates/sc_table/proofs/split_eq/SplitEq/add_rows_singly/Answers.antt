use Rattle.std.proofs.Common.{ℕ, ◌≡◌, ◌+◌, ◌-◌, ◌*◌, ◌<◌, length, take, drop, ◌∙◌, ap, refl, arith}
use Rattle.sc_definitions.specs.Ring.{plus, times}
use Rattle.sc_definitions.specs.Tables.{entries, sum_below}
use Rattle.sc_definitions.proofs.RingLaws.{times_comm}
use Rattle.sc_field.proofs.EntryLaws.{part-entry}
use Rattle.sc_table.specs.SplitEqs.{split_weight}
use Rattle.sc_table.proofs.SumLaws.{gained-none, gained-more}
use Rattle.sc_table.proofs.split_eq.SplitEq.add_rows_singly.Goals as goal

pub loop-a-init : goal.loop-a-init
loop-a-init g c = record {
  rows = gained-none g.EF.Field.number g.EF.Field.ops g.met.EF.Field.is_field.ring _ c.args.sums.now
      g.met.EF.Field.number_below;
}

pub loop-a-preserved : goal.loop-a-preserved
loop-a-preserved g c =
    let f = g.EF.Field in
    let of = λ (x : g.row.A.Denot). g.EF.Algebra.embedding (g.A.Field.number x) in
    let w = split_weight f.number f.ops c.args.self.now in
    let old = c.args.sums.now in
    let new = c.loop-a.sums in
    let table = c.args.table.now in
    let width = length old in
    let a = c.loop-a.a in
    let gain : ℕ → ℕ → ℕ = λ k i. times f.ops (entries of table (i * width + k)) (w i) in
    record {
      rows = gained-more f.number f.ops g.met.EF.Field.is_field.ring gain old a new c.add_scaled.new.rows c.loop-a.invariant.rows
          (λ k low.
          let from = a * width in
          let n = from + width - from in
          let inside : k < n = omega (arith, low) in
          let row = entries of (take n (drop from table)) k in
          c.add_scaled.ensures k (omega (arith, low, c.loop-a.auto.sums))
          ∙ ap (λ x. plus f.ops (entries f.number new k) (times f.ops x row)) c.weight.ensures
          ∙ ap (plus f.ops (entries f.number new k))
          (times_comm f.ops g.met.EF.Field.is_field.ring (w a) row
          ∙ ap (λ x. times f.ops x (w a)) (part-entry of table n from k (from + k) inside refl)));
    }

pub returns : goal.returns
returns g c = λ k low.
    let f = g.EF.Field in
    let of = λ (x : g.row.A.Denot). g.EF.Algebra.embedding (g.A.Field.number x) in
    let done : c.loop-a.a ≡ c.args.rows = omega (arith, c.loop-a.auto, c.loop-a-test) in
    c.loop-a.invariant.rows.rows k low
    ∙ ap (λ n. plus f.ops (entries f.number c.args.sums.now k) (sum_below f.ops n (λ i. times f.ops (entries of c.args.table.now (i * length c.args.sums.now + k))
    (split_weight f.number f.ops c.args.self.now i)))) done
