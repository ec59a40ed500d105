use Rattle.std.proofs.Common.{◌≡◌, ℕ, ◌+◌, map, sym, ◌∙◌, ap, arith}
use Rattle.sc_definitions.specs.Ring.{plus}
use Rattle.sc_definitions.specs.Tables.{sum_below}
use Rattle.sc_definitions.proofs.Sums.{sum-zero, sum-next}
use Rattle.sc_table.specs.Polys.{table_of}
use Rattle.sc_degree.specs.Lines.{lines_at}
use Rattle.sc_degree.proofs.table_product.sum_singly.Goals as goal

pub loop-b-init : goal.loop-b-init
loop-b-init g c = record {
  so_far = ap g.EF.Field.number c.ZERO-sum.ensures ∙ g.met.EF.Field.zero_is ∙ sym (sum-zero g.EF.Field.ops _);
}

pub loop-b-preserved : goal.loop-b-preserved
loop-b-preserved g c =
    let e = g.EF.Field in
    let fs = map (table_of e.number) c.args.tables.now in
    let b = c.loop-b.b in
    let term : ℕ → ℕ = λ k. lines_at e.ops fs k (c.args.apart + k) (e.number c.args.x) in
    record {
      so_far = c.add-sum.ensures ∙ ap (λ s. plus e.ops s (e.number c.product_at.result)) c.loop-b.invariant.so_far
          ∙ ap (plus e.ops (sum_below e.ops b term)) c.product_at.ensures ∙ sym (sum-next e.ops b term);
    }

pub returns : goal.returns
returns g c =
    let e = g.EF.Field in
    let fs = map (table_of e.number) c.args.tables.now in
    let done : c.loop-b.b ≡ c.args.rows = omega (arith, c.loop-b.auto, c.loop-b-test) in
    c.loop-b.invariant.so_far ∙ ap (λ n. sum_below e.ops n (λ b. lines_at e.ops fs b (c.args.apart + b) (e.number c.args.x))) done
