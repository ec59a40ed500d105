use Rattle.std.proofs.Common.{◌≡◌, ◌^◌, ◌<◌, length, map, take, sym, ◌∙◌, ap, arith}
use Rattle.std.proofs.lemmas.List.{take_all}
use Rattle.sc_definitions.proofs.LoopLaws.{entry-read}
use Rattle.sc_definitions.proofs.Lists.{read_has}
use Rattle.sc_table.specs.Polys.{table_of, variables_of}
use Rattle.sc_degree.specs.Lines.{line_at, lines_at}
use Rattle.sc_degree.proofs.LineLaws.{lines-none, lines-next}
use Rattle.sc_degree.proofs.table_product.product_at.Goals as goal

pub loop-index-init : goal.loop-index-init
loop-index-init g c =
    let e = g.EF.Field in
    record {
      so_far = lines-none e.ops g.met.EF.Field.is_field.ring (table_of e.number) c.args.tables.now c.args.low c.args.high (e.number c.args.x) (e.number c.ONE-product.result)
          (ap e.number c.ONE-product.ensures ∙ g.met.EF.Field.one_is);
    }

pub loop-index-preserved : goal.loop-index-preserved
unfolding line_at
loop-index-preserved g c =
    let e = g.EF.Field in
    let N = e.number in
    let table = c.as_slice-table.result.now in
    let t = c.index-tables-index.result in
    let low = c.args.low in
    let high = c.args.high in
    let size : length table ≡ 2 ^ variables_of t = c.as_slice-table.ensures.size in
    let inside : c.loop-index.index < length c.args.tables.now = omega (arith, c.loop-index-test.true) in
    let low_row : low < 2 ^ variables_of t = read_has (λ p. low < 2 ^ variables_of p) c.args.tables.now c.loop-index.index t c.requires.low inside c.index-tables-index.is in
    let high_row : high < 2 ^ variables_of t = read_has (λ p. high < 2 ^ variables_of p) c.args.tables.now c.loop-index.index t c.requires.high inside c.index-tables-index.is in
    let lo = sym (entry-read N table low c.index-table-low.result (omega (arith, size, low_row)) c.index-table-low.is) ∙ ap (λ f. f low) c.as_slice-table.ensures.numbers in
    let hi = sym (entry-read N table high c.index-table-high.result (omega (arith, size, high_row)) c.index-table-high.is) ∙ ap (λ f. f high) c.as_slice-table.ensures.numbers in
    let line : N c.add.result ≡ line_at e.ops (table_of N t low) (table_of N t high) (N c.args.x) = cc (c.add.ensures, c.mul.ensures, c.sub.ensures, lo, hi) in
    record {
      so_far = lines-next e.ops g.met.EF.Field.is_field.ring (table_of N) c.args.tables.now low high (N c.args.x) c.loop-index.index t
          (N c.loop-index.product) (N c.mul-product.result) (N c.add.result) inside c.index-tables-index.is c.loop-index.invariant.so_far line
          c.mul-product.ensures;
    }

pub returns : goal.returns
returns g c =
    let e = g.EF.Field in
    let tables = c.args.tables.now in
    let whole : take c.loop-index.index tables ≡ tables = take_all c.loop-index.index tables (omega (arith, c.loop-index-test.false, c.loop-index.auto.index-end)) in
    c.loop-index.invariant.so_far ∙ ap (λ ts. lines_at e.ops (map (table_of e.number) ts) c.args.low c.args.high (e.number c.args.x)) whole
