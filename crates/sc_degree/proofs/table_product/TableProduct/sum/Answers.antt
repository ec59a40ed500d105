use Rattle.std.proofs.Common.{◌≡◌, ◌+◌, map, ◌∙◌, ap, refl, arith}
use Rattle.sc_definitions.proofs.Sums.{sum-same}
use Rattle.sc_table.specs.Polys.{table_of}
use Rattle.sc_degree.specs.Lines.{lines_at}
use Rattle.sc_degree.proofs.TableProductLaws.{sum-whole}
use Rattle.sc_degree.proofs.table_product.TableProduct.sum.Goals as goal

pub returns-then-fits_in_blocks : goal.returns-then-fits_in_blocks
returns-then-fits_in_blocks g c =
    let e = g.EF.Field in
    c.sum_by_blocks.ensures
    ∙ sum-whole e.ops g.met.EF.Field.is_field.ring e.number c.args.self.now c.as_slice-tables.result.now c.index-tables-0.result c.num_evals-rows.result 0
    c.as_slice-tables.ensures.value c.index-tables-0.is c.num_evals-rows.ensures refl

pub returns-else-fits_in_blocks : goal.returns-else-fits_in_blocks
returns-else-fits_in_blocks g c =
    let e = g.EF.Field in
    let tables = c.as_slice-tables.result.now in
    let rows = c.num_evals-rows.result in
    let x = e.number c.ZERO.result in
    c.sum_singly.ensures
    ∙ sum-same e.ops rows _ _ (λ b low. let same : 0 + b ≡ b = omega arith in ap (λ j. lines_at e.ops (map (table_of e.number) tables) b j x) same)
    ∙ sum-whole e.ops g.met.EF.Field.is_field.ring e.number c.args.self.now tables c.index-tables-0.result rows x
    c.as_slice-tables.ensures.value c.index-tables-0.is c.num_evals-rows.ensures (ap e.number c.ZERO.ensures ∙ g.met.EF.Field.zero_is)
