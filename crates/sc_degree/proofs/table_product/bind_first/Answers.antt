use Rattle.std.proofs.Common.{◌<◌, sym, subst, arith}
use Rattle.sc_table.specs.Polys.{variables_of}
use Rattle.sc_degree.proofs.FixedTables.{fixed-none, fixed-more}
use Rattle.sc_degree.proofs.table_product.bind_first.Goals as goal

pub loop-table-init : goal.loop-table-init
loop-table-init g c = fixed-none g.EF.Field.ops g.EF.Field.number (g.EF.Field.number c.args.r) c.args.tables.now

pub fix_prefix_var_mut-requires : goal.fix_prefix_var_mut-requires
fix_prefix_var_mut-requires g c =
    let i = c.loop-table.table-index in
    let d = c.table-item.result in
    subst (λ t. 0 < variables_of t) (sym (c.loop-table.invariant.left i d (omega arith))) (c.requires i d (omega (arith, c.loop-table-test.true)))

pub loop-table-preserved : goal.loop-table-preserved
loop-table-preserved g c =
    let e = g.EF.Field in
    let did = c.fix_prefix_var_mut.ensures in
    fixed-more e.ops e.number (e.number c.args.r) c.loop-table.table-index c.args.tables.now c.loop-table.tables c.fix_prefix_var_mut.new.self c.table-item.result
    (omega (arith, c.loop-table-test.true, c.loop-table.auto.tables)) c.loop-table.invariant (record { fewer = did.fewer; rows = did.bound; values = did.value })

pub returns : goal.returns
returns g c = λ k d inside. c.loop-table.invariant.fixed k d (omega (arith, inside, c.loop-table-test.false))
