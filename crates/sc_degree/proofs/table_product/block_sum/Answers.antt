use Rattle.std.proofs.Common.{◌≡◌, ◌+◌, ◌-◌, length, take, drop, ◌∙◌, ap, refl, arith}
use Rattle.sc_definitions.specs.Tables.{entries}
use Rattle.sc_table.specs.Polys.{table_of}
use Rattle.sc_table.proofs.KernelLaws.{part-entry}
use Rattle.sc_degree.proofs.LineLaws.{products-first, products-next, products-total}
use Rattle.sc_degree.proofs.table_product.block_sum.Goals as goal

pub loop-index-init : goal.loop-index-init
loop-index-init g c =
    let e = g.EF.Field in
    let low = c.args.low in
    let high = c.args.high in
    let size = length c.args.products.now in
    let n = low + size - low in
    let m = high + size - high in
    let first = c.as_slice-first.result.now in
    let rows = c.write_lines.new.lines in
    let same : length rows ≡ size = c.write_lines.auto.lines in
    products-first e.number e.ops g.met.EF.Field.is_field.ring (table_of e.number) c.args.tables.now low high (e.number c.args.x) rows
    c.index-tables-0.result (entries e.number (take n (drop low first))) (entries e.number (take m (drop high first))) c.requires.some c.index-tables-0.is
    (λ b inside. part-entry e.number first n low b (low + b) (omega (arith, inside, same)) refl ∙ ap (λ f. f (low + b)) c.as_slice-first.ensures.numbers)
    (λ b inside. part-entry e.number first m high b (high + b) (omega (arith, inside, same)) refl ∙ ap (λ f. f (high + b)) c.as_slice-first.ensures.numbers)
    (λ b inside. c.write_lines.ensures b (omega (arith, inside, same)))

pub loop-index-preserved : goal.loop-index-preserved
loop-index-preserved g c =
    let e = g.EF.Field in
    let low = c.args.low in
    let high = c.args.high in
    let size = length c.args.products.now in
    let n = low + size - low in
    let m = high + size - high in
    let table = c.as_slice-table.result.now in
    let rows = c.loop-index.products in
    let new = c.multiply_lines.new.products in
    let start : length c.write_lines.new.lines ≡ size = c.write_lines.auto.lines in
    let before : length rows ≡ size = c.loop-index.auto.products ∙ start in
    let same : length new ≡ length rows = c.multiply_lines.auto.products in
    products-next e.number e.ops g.met.EF.Field.is_field.ring (table_of e.number) c.args.tables.now low high (e.number c.args.x) c.loop-index.index rows new
    c.index-tables-index.result (entries e.number (take n (drop low table))) (entries e.number (take m (drop high table)))
    (omega (arith, c.loop-index-test.true)) c.index-tables-index.is same c.loop-index.invariant
    (λ b inside. part-entry e.number table n low b (low + b) (omega (arith, inside, before)) refl ∙ ap (λ f. f (low + b)) c.as_slice-table.ensures.numbers)
    (λ b inside. part-entry e.number table m high b (high + b) (omega (arith, inside, before)) refl ∙ ap (λ f. f (high + b)) c.as_slice-table.ensures.numbers)
    c.multiply_lines.ensures

pub returns : goal.returns
returns g c =
    let e = g.EF.Field in
    let size = length c.args.products.now in
    let rows = c.loop-index.products in
    let start : length c.write_lines.new.lines ≡ size = c.write_lines.auto.lines in
    let same : length rows ≡ size = c.loop-index.auto.products ∙ start in
    let all : c.loop-index.index ≡ length c.args.tables.now = omega (arith, c.loop-index-test.false, c.loop-index.auto.index-end, c.requires.some) in
    c.dot.ensures
    ∙ products-total e.number e.ops g.met.EF.Field.is_field.ring (table_of e.number) c.args.tables.now c.args.low c.args.high (e.number c.args.x)
    c.loop-index.index size rows c.args.ones.now c.loop-index.invariant all same (λ b inside. c.requires.ones b (omega (arith, inside, c.requires.same)))
