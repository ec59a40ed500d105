use Rattle.std.proofs.Common.{◌≡◌, ℕ, ◌+◌, length, map, take, sym, ◌∙◌, ap, arith}
use Rattle.std.proofs.lemmas.List.{length-take, length-replicate}
use Rattle.sc_definitions.specs.Ring.{plus}
use Rattle.sc_definitions.specs.Tables.{sum_below}
use Rattle.sc_definitions.proofs.Sums.{sum-zero, sum-split}
use Rattle.sc_table.specs.Polys.{table_of}
use Rattle.sc_degree.specs.Lines.{lines_at}
use Rattle.sc_degree.proofs.LineLaws.{ones-part, room-kept}
use Rattle.sc_degree.proofs.table_product.sum_by_blocks.Goals as goal

pub loop-from-init : goal.loop-from-init
loop-from-init g c = record {
  within = omega arith;
  room = length-replicate 256 c.ZERO-products.result;
  so_far = ap g.EF.Field.number c.ZERO-sum.ensures ∙ g.met.EF.Field.zero_is ∙ sym (sum-zero g.EF.Field.ops _);
}

pub loop-from-preserved : goal.loop-from-preserved
loop-from-preserved g c =
    let e = g.EF.Field in
    let ring = g.met.EF.Field.is_field.ring in
    let fs = map (table_of e.number) c.args.tables.now in
    let from = c.loop-from.from in
    let rows = c.min-block.result in
    let term : ℕ → ℕ = λ b. lines_at e.ops fs b b 0 in
    let zero : e.number c.ZERO.result ≡ 0 = ap e.number c.ZERO.ensures ∙ g.met.EF.Field.zero_is in
    let taken : length (take rows c.loop-from.products) ≡ rows = omega (arith, length-take rows c.loop-from.products, c.loop-from.invariant.room, c.min-block.ensures) in
    record {
      within = omega (arith, c.loop-from.invariant.within);
      room = room-kept 256 rows c.loop-from.products c.block_sum-gained.new.products c.loop-from.invariant.room c.block_sum-gained.auto.products;
      so_far = c.add-sum.ensures
          ∙ ap (λ s. plus e.ops s (e.number c.block_sum-gained.result)) c.loop-from.invariant.so_far
          ∙ ap (plus e.ops (sum_below e.ops from term)) (c.block_sum-gained.ensures
          ∙ ap (λ x. sum_below e.ops (length (take rows c.loop-from.products)) (λ b. lines_at e.ops fs (from + b) (from + b) x)) zero
          ∙ ap (λ n. sum_below e.ops n (λ b. term (from + b))) taken)
          ∙ sym (sum-split e.ops ring from rows term);
    }

pub block_sum-gained-requires-clause-ones : goal.block_sum-gained-requires-clause-ones
block_sum-gained-requires-clause-ones g c = λ b inside.
    ones-part g.EF.Field.number c.ONE-ones.result c.min-block.result 256 b (ap g.EF.Field.number c.ONE-ones.ensures ∙ g.met.EF.Field.one_is) inside

pub returns : goal.returns
returns g c =
    let e = g.EF.Field in
    let fs = map (table_of e.number) c.args.tables.now in
    let all : c.loop-from.from ≡ c.args.rows = omega (arith, c.loop-from.invariant.within, c.loop-from-test.false) in
    c.loop-from.invariant.so_far ∙ ap (λ n. sum_below e.ops n (λ b. lines_at e.ops fs b b 0)) all
