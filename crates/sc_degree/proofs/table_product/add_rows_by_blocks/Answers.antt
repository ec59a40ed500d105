use Rattle.std.proofs.Common.{◌≡◌, ℕ, ◌+◌, length, map, take, ◌∙◌, ap, arith}
use Rattle.std.proofs.lemmas.List.{length-take, length-replicate}
use Rattle.sc_definitions.specs.Ring.{plus}
use Rattle.sc_definitions.specs.Tables.{sum_below, entries}
use Rattle.sc_definitions.proofs.Sums.{sum-same}
use Rattle.sc_table.specs.Polys.{table_of}
use Rattle.sc_table.proofs.SumLaws.{gained-none, gained-block}
use Rattle.sc_degree.specs.Nodes.{node_of}
use Rattle.sc_degree.specs.Lines.{lines_at}
use Rattle.sc_degree.proofs.LineLaws.{ones-part, room-kept}
use Rattle.sc_degree.proofs.table_product.add_rows_by_blocks.Goals as goal

pub loop-from-init : goal.loop-from-init
loop-from-init g c = record {
  within = omega arith;
  room = length-replicate 256 c.ZERO-products.result;
  so_far = gained-none g.EF.Field.number g.EF.Field.ops g.met.EF.Field.is_field.ring _ c.args.values.now g.met.EF.Field.number_below;
}

pub loop-from-preserved : goal.loop-from-preserved
loop-from-preserved g c =
    let e = g.EF.Field in
    let ring = g.met.EF.Field.is_field.ring in
    let fs = map (table_of e.number) c.args.tables.now in
    let half = c.args.half in
    let from = c.loop-from.from in
    let rows = c.min-rows.result in
    let gain : ℕ → ℕ → ℕ = λ k b. lines_at e.ops fs b (half + b) (node_of k) in
    let taken : length (take rows c.loop-from.products) ≡ rows = omega (arith, length-take rows c.loop-from.products, c.loop-from.invariant.room, c.min-rows.ensures) in
    record {
      within = omega (arith, c.loop-from.invariant.within);
      room = room-kept 256 rows c.loop-from.products c.add_block.new.products c.loop-from.invariant.room c.add_block.auto.products;
      so_far = gained-block e.number e.ops ring gain c.args.values.now from rows c.loop-from.values c.add_block.new.values c.loop-from.invariant.so_far
          (λ k low. c.add_block.ensures k (omega (arith, low, c.loop-from.auto.values)) ∙ ap (plus e.ops (entries e.number c.loop-from.values k))
          (ap (λ n. sum_below e.ops n (λ b. lines_at e.ops fs (from + b) (half + from + b) (node_of k))) taken
          ∙ sum-same e.ops rows _ _ (λ b inside. let at : half + from + b ≡ half + (from + b) = omega arith in ap (λ j. lines_at e.ops fs (from + b) j (node_of k)) at)));
    }

pub overflow_add-half : goal.overflow_add-half
overflow_add-half g c = omega (arith, c.loop-from-test.true, c.requires.fits)

pub add_block-requires-clause-ones : goal.add_block-requires-clause-ones
add_block-requires-clause-ones g c = λ b inside.
    ones-part g.EF.Field.number c.ONE-ones.result c.min-rows.result 256 b (ap g.EF.Field.number c.ONE-ones.ensures ∙ g.met.EF.Field.one_is) inside

pub returns : goal.returns
returns g c = λ k low.
    let e = g.EF.Field in
    let fs = map (table_of e.number) c.args.tables.now in
    let half = c.args.half in
    let all : c.loop-from.from ≡ half = omega (arith, c.loop-from-test.false, c.loop-from.invariant.within) in
    c.loop-from.invariant.so_far.rows k low
    ∙ ap (λ n. plus e.ops (entries e.number c.args.values.now k) (sum_below e.ops n (λ b. lines_at e.ops fs b (half + b) (node_of k)))) all
