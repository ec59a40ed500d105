use Rattle.std.proofs.Common.{◌≡◌, suc, ◌<◌, length, map, get_or, ◌∙◌, ap, sym, subst, arith}
use Rattle.sc_definitions.specs.Ring.{times}
use Rattle.sc_definitions.specs.Tables.{entries, equality_weight}
use Rattle.sc_definitions.specs.Partials.{partial}
use Rattle.sc_table.specs.Strategy.{order_of}
use Rattle.sc_partials.specs.Partials.{opened}
use Rattle.sc_partials.specs.Sums.{IsSumSized}
use Rattle.sc_partials.proofs.PartialTables.{count-rounds, round-table, entries-of_numbers, length-numbers}
use Rattle.sc_svo.specs.Points.{order_in, near_in, far_in, point_in}
use Rattle.sc_svo.proofs.ClaimLaws.{round-gained, sums-value, added-none, added-more, added-all}
use Rattle.sc_svo.proofs.claims.add_equality.Goals as goal

pub bounds-rounds-j : goal.bounds-rounds-j
bounds-rounds-j g c =
    let p = c.args.point.now in
    let f = entries (λ (x : g.row.F.Denot). g.EF.Algebra.embedding (g.F.Field.number x)) c.args.table.now in
    let many = count-rounds (order_in p) g.EF.Field.ops g.EF.Field.number f (point_in p) (length (near_in p)) (c.in_ok-value.value, c.in_ok-value.partials) c.in_ok-value.ensures in
    omega (arith, ap length c.rounds.ensures, many, c.requires.near, c.loop-j-test.true)

pub add_round-requires-clause-partial : goal.add_round-requires-clause-partial
add_round-requires-clause-partial g c =
    let p = c.args.point.now in
    let e = g.EF.Field in
    let j = c.loop-j.j in
    let f = entries (λ (x : g.row.F.Denot). g.EF.Algebra.embedding (g.F.Field.number x)) c.args.table.now in
    let low : j < length (near_in p) = omega (arith, c.requires.near, c.loop-j-test.true) in
    let table = round-table (order_in p) e.ops e.number f (point_in p) (length (near_in p)) (c.in_ok-value.value, c.in_ok-value.partials) c.in_ok-value.ensures
    j c.index-rounds-j.result low (c.index-rounds-j.is ∙ ap (λ xs. get_or xs j c.index-rounds-j.result) c.rounds.ensures) in
    length-numbers e.number c.table-partial.result.now (suc j) (partial (order_in p) e.ops f (point_in p) (suc j)) (c.table-partial.ensures ∙ table)

pub add_round-requires-clause-sized : goal.add_round-requires-clause-sized
add_round-requires-clause-sized g c =
    let low : c.loop-j.j < length c.args.sums.now = c.loop-j-test.true in
    subst (IsSumSized c.loop-j.j) (sym (c.loop-j.invariant.kept c.loop-j.j c.index-sums-j.result (omega arith) low))
    (c.requires.sized c.loop-j.j c.index-sums-j.result low)

pub loop-j-init : goal.loop-j-init
loop-j-init g c =
    let e = g.EF.Field in
    let p = c.args.point.now in
    added-none e.number e.ops (opened (order_in p) (entries (λ (x : g.row.F.Denot). g.EF.Algebra.embedding (g.F.Field.number x)) c.args.table.now) (point_in p))
    (λ b. times e.ops (e.number c.args.coefficient) (equality_weight e.ops (point_in p) b)) c.args.sums.now

pub loop-j-preserved : goal.loop-j-preserved
loop-j-preserved g c =
    let p = c.args.point.now in
    let e = g.EF.Field in
    let j = c.loop-j.j in
    let order = order_in p in
    let x = e.number c.args.coefficient in
    let f = entries (λ (x : g.row.F.Denot). g.EF.Algebra.embedding (g.F.Field.number x)) c.args.table.now in
    let low : j < length (near_in p) = omega (arith, c.requires.near, c.loop-j-test.true) in
    let table = round-table order e.ops e.number f (point_in p) (length (near_in p)) (c.in_ok-value.value, c.in_ok-value.partials) c.in_ok-value.ensures
    j c.index-rounds-j.result low (c.index-rounds-j.is ∙ ap (λ xs. get_or xs j c.index-rounds-j.result) c.rounds.ensures) in
    let near : map e.number c.as_slice-near.result.now ≡ near_in p = ap (map e.number) c.as_slice-near.ensures ∙ c.z_svo.ensures in
    let before = get_or c.loop-j.sums j c.index-sums-j.result in
    let gains = round-gained e.number e.ops g.met.EF.Field.is_field.ring order f (near_in p) (far_in p) x j before c.add_round.new.sums low
    (order_of c.var_order-order.result) (map e.number c.as_slice-near.result.now) (entries e.number c.table-partial.result.now) c.var_order-order.ensures near
    (λ b below. entries-of_numbers e.number c.table-partial.result.now (suc j) (partial order e.ops f (point_in p) (suc j)) b (c.table-partial.ensures ∙ table) below)
    c.in_ok-add_round.ensures in
    added-more e.number e.ops (opened order f (point_in p)) (λ b. times e.ops x (equality_weight e.ops (point_in p) b)) c.args.sums.now j c.loop-j.sums c.index-sums-j.result c.add_round.new.sums
    c.loop-j-test.true c.loop-j.invariant gains

pub returns-clause-adds : goal.returns-clause-adds
returns-clause-adds g c =
    let e = g.EF.Field in
    let p = c.args.point.now in
    added-all e.number e.ops (opened (order_in p) (entries (λ (x : g.row.F.Denot). g.EF.Algebra.embedding (g.F.Field.number x)) c.args.table.now) (point_in p))
    (λ b. times e.ops (e.number c.args.coefficient) (equality_weight e.ops (point_in p) b)) c.args.sums.now c.loop-j.j c.loop-j.sums (omega (arith, c.loop-j-test.false)) c.loop-j.invariant

pub returns-clause-value : goal.returns-clause-value
returns-clause-value g c =
    let p = c.args.point.now in
    sums-value g.EF.Field.ops g.met.EF.Field.is_field.ring g.EF.Field.number (order_in p)
    (entries (λ (x : g.row.F.Denot). g.EF.Algebra.embedding (g.F.Field.number x)) c.args.table.now) (point_in p) (length (near_in p)) (c.in_ok-value.value, c.in_ok-value.partials)
    c.in_ok-value.ensures
