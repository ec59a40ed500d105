use Rattle.std.proofs.Common.{◌≡◌, ◌+◌, ◌-◌, ◌*◌, ◌^◌, ◌≤◌, min, length, take, drop, sym, ◌∙◌, ap, refl, arith}
use Rattle.sc_definitions.specs.Ring.{plus}
use Rattle.sc_definitions.specs.Tables.{entries}
use Rattle.sc_definitions.proofs.LoopLaws.{entry-read}
use Rattle.sc_field.specs.Products.{products}
use Rattle.sc_field.proofs.DotLaws.{products-none, products-all}
use Rattle.sc_table.specs.Polys.{table_of}
use Rattle.sc_table.specs.SplitEqs.{split_variables}
use Rattle.sc_table.proofs.EntryLaws.{entry-take}
use Rattle.sc_table.proofs.KernelLaws.{part-length, part-entry}
use Rattle.sc_table.proofs.SumLaws.{products-same}
use Rattle.sc_table.proofs.SplitLaws.{rows-few, block-within, all-rows, dot-block}
use Rattle.sc_table.proofs.split_eq.SplitEq.dot.Goals as goal

pub loop-a-init : goal.loop-a-init
loop-a-init g c =
    let f = g.EF.Field in
    let none : 0 ≡ min (0 * length c.as_slice-inner.result.now) (length c.args.xs.now) = omega arith in
    record { so_far = products-all f.ops _ _ none (products-none f.ops _ _ _ (ap f.number c.ZERO-sum.ensures ∙ g.met.EF.Field.zero_is)) }

pub overflow_mul-a : goal.overflow_mul-a
overflow_mul-a g c =
    let s = c.args.self.now in
    omega (arith, rows-few s, block-within s _ _ c.loop-a.a c.as_slice-outer.ensures.size c.as_slice-inner.ensures.size c.loop-a-test.true)

pub loop-a-preserved : goal.loop-a-preserved
loop-a-preserved g c =
    let f = g.EF.Field in
    let of = λ (x : g.row.A.Denot). g.EF.Algebra.embedding (g.A.Field.number x) in
    let s = c.args.self.now in
    let xs = c.args.xs.now in
    let outer = c.as_slice-outer.result.now in
    let inner = c.as_slice-inner.result.now in
    let a = c.loop-a.a in
    let from = c.min-from.result in
    let to = c.min-to.result in
    let n = to - from in
    let piece = take n (drop from xs) in
    let within : from + n ≤ length xs = omega arith in
    let size : length piece ≡ n = part-length xs n from n refl within in
    let weight : f.number c.index-outer-a.result ≡ table_of f.number s.outer a =
    sym (entry-read f.number outer a c.index-outer-a.result c.loop-a-test.true c.index-outer-a.is) ∙ ap (λ t. t a) c.as_slice-outer.ensures.numbers in
    record {
      so_far = dot-block f.number f.ops g.met.EF.Field.is_field.ring s (entries of xs) (length xs)
          (length inner) a from to c.as_slice-inner.ensures.size c.min-from.ensures c.min-to.ensures
          _ (f.number c.index-outer-a.result) (f.number c.dot_slices-products.result) _ c.loop-a.invariant.so_far weight
          (c.dot_slices-products.ensures
          ∙ ap (λ k. products f.ops k (entries of piece) (entries f.number (take n inner))) size
          ∙ products-same f.ops n (entries of piece) (λ k. entries of xs (from + k)) (entries f.number (take n inner)) (table_of f.number s.inner)
          (λ k low. part-entry of xs n from k (from + k) low refl)
          (λ k low. entry-take f.number inner n k low ∙ ap (λ t. t k) c.as_slice-inner.ensures.numbers))
          (c.add-sum.ensures ∙ ap (plus f.ops (f.number c.loop-a.sum)) c.mul.ensures);
    }

pub returns : goal.returns
returns g c =
    let f = g.EF.Field in
    let s = c.args.self.now in
    let outer = length c.as_slice-outer.result.now in
    let inner = length c.as_slice-inner.result.now in
    let all : c.loop-a.a ≡ outer = omega (arith, c.loop-a-test.false, c.loop-a.auto.a-end) in
    let whole : c.loop-a.a * inner ≡ 2 ^ split_variables s = ap (λ k. k * inner) all
    ∙ all-rows s outer inner c.as_slice-outer.ensures.size c.as_slice-inner.ensures.size in
    let size : min (c.loop-a.a * inner) (length c.args.xs.now) ≡ length c.args.xs.now = omega (arith, whole, c.requires) in
    products-all f.ops _ _ size c.loop-a.invariant.so_far
