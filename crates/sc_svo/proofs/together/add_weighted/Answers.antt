use Rattle.std.proofs.Common.{◌≡◌, suc, ◌-◌, ◌<◌, length, get_or, sym, subst, arith}
use Rattle.sc_definitions.specs.Tables.{entries}
use Rattle.sc_definitions.specs.Grids.{grid_of}
use Rattle.sc_table.specs.Strategy.{order_of}
use Rattle.sc_partials.specs.Partials.{opened}
use Rattle.sc_partials.specs.Sums.{IsSumSized, AddsGrid}
use Rattle.sc_svo.proofs.ClaimLaws.{added-none, added-more, added-all}
use Rattle.sc_svo.proofs.TogetherLaws.{some_list}
use Rattle.sc_svo.proofs.together.add_weighted.Goals as goal

pub add_rests-requires-clause-sized : goal.add_rests-requires-clause-sized
add_rests-requires-clause-sized g c =
    let low : c.loop-j.j < length c.args.sums.now = omega (arith, c.loop-j-test.true, c.loop-j.auto.sums) in
    let zs = some_list c.args.variables in
    subst (IsSumSized c.loop-j.j) (sym ((c.loop-j.invariant zs.0 zs.1).kept c.loop-j.j c.index-sums-j.result (omega arith) low))
    (c.requires.sized c.loop-j.j c.index-sums-j.result low)

pub loop-j-init : goal.loop-j-init
loop-j-init g c = λ zs size.
    added-none g.EF.Field.number g.EF.Field.ops
    (opened (order_of c.args.order) (entries (λ (x : g.row.F.Denot). g.EF.Algebra.embedding (g.F.Field.number x)) c.args.table.now) zs)
    (entries g.EF.Field.number c.args.weights.now) c.args.sums.now

pub loop-j-preserved : goal.loop-j-preserved
loop-j-preserved g c = λ zs size.
    let e = g.EF.Field in
    let j = c.loop-j.j in
    let order = order_of c.args.order in
    let f = entries (λ (x : g.row.F.Denot). g.EF.Algebra.embedding (g.F.Field.number x)) c.args.table.now in
    let w = entries e.number c.args.weights.now in
    let low : j < length c.args.sums.now = omega (arith, c.loop-j-test.true, c.loop-j.auto.sums) in
    let after : c.args.variables - j - 1 ≡ length zs - suc j = omega (arith, size, low, c.requires.within) in
    let before = get_or c.loop-j.sums j c.index-sums-j.result in
    added-more e.number e.ops (opened order f zs) w c.args.sums.now j c.loop-j.sums c.index-sums-j.result c.add_rests.new.sums low (c.loop-j.invariant zs size)
    (subst (λ m. AddsGrid e.number e.ops j (grid_of order e.ops f w j m) before c.add_rests.new.sums) after c.in_ok-add_rests.ensures)

pub returns : goal.returns
returns g c = λ zs size.
    added-all g.EF.Field.number g.EF.Field.ops
    (opened (order_of c.args.order) (entries (λ (x : g.row.F.Denot). g.EF.Algebra.embedding (g.F.Field.number x)) c.args.table.now) zs)
    (entries g.EF.Field.number c.args.weights.now) c.args.sums.now c.loop-j.j c.loop-j.sums (omega (arith, c.loop-j-test.false)) (c.loop-j.invariant zs size)
