use Rattle.std.proofs.Common.{◌≡◌, ◌+◌, ◌-◌, ◌≤◌, length, take, drop, ◌∙◌, ap, refl, arith}
use Rattle.sc_definitions.specs.Tables.{entries}
use Rattle.sc_field.specs.Products.{products}
use Rattle.sc_field.proofs.DotLaws.{products-none, products-all}
use Rattle.sc_table.proofs.KernelLaws.{part-length, part-entry}
use Rattle.sc_table.proofs.SumLaws.{products-piece}
use Rattle.sc_table.proofs.sums.dot_slices.Goals as goal

pub loop-from-init : goal.loop-from-init
loop-from-init g c = record {
  within = omega arith;
  so_far = products-none g.E.Field.ops _ _ _ (ap g.E.Field.number c.ZERO-sum.ensures ∙ g.met.E.Field.zero_is);
}

pub loop-from-preserved : goal.loop-from-preserved
loop-from-preserved g c =
    let e = g.E.Field in
    let of = λ (x : g.row.A.Denot). g.E.Algebra.embedding (g.A.Field.number x) in
    let xs = c.args.xs.now in
    let ys = c.args.ys.now in
    let from = c.loop-from.from in
    let len = c.min-len.result in
    let n = from + len - from in
    let same : n ≡ len = omega arith in
    let within : from + len ≤ length xs = omega arith in
    record {
      within = within;
      so_far = products-piece e.ops g.met.E.Field.is_field.ring from len (entries of xs) (entries e.number ys) (entries of (take n (drop from xs)))
          (entries e.number (take n (drop from ys)))
          (λ k low. part-entry of xs n from k (from + k) (omega (arith, same, low)) refl)
          (λ k low. part-entry e.number ys n from k (from + k) (omega (arith, same, low)) refl)
          _ _ _ c.loop-from.invariant.so_far
          (c.dot_base.ensures ∙ ap (λ k. products e.ops k (entries of (take n (drop from xs))) (entries e.number (take n (drop from ys))))
          (part-length xs n from len same within))
          c.add-sum.ensures;
    }

pub returns : goal.returns
returns g c =
    let e = g.E.Field in
    let all : c.loop-from.from ≡ length c.args.xs.now = omega (arith, c.loop-from.invariant.within, c.loop-from-test) in
    products-all e.ops (entries (λ x. g.E.Algebra.embedding (g.A.Field.number x)) c.args.xs.now) (entries e.number c.args.ys.now) all
    c.loop-from.invariant.so_far
