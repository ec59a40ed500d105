use Rattle.std.proofs.Common.{ℕ, suc, map}
use Rattle.std.proofs.lemmas.Result.{on_ok_weaker}
use Rattle.sc_definitions.specs.Ring.{times}
use Rattle.sc_definitions.specs.Grids.{grid_of}
use Rattle.sc_definitions.specs.Parts.{Part, Done, Carry, Omega, part_weight, beside}
use Rattle.sc_definitions.specs.Partials.{kept_of}
use Rattle.sc_table.specs.Strategy.{order_of}
use Rattle.sc_partials.specs.NextPartials.{rows_by}
use Rattle.sc_svo.proofs.ClaimLaws.{poly-length, beside-has, part-added, parts-added}
use Rattle.sc_svo.proofs.claims.add_next_round.Goals as goal

pub add_products-requires-clause-table : goal.add_products-requires-clause-table
add_products-requires-clause-table g c = poly-length g.EF.Field.number c.done.result.now c.args.tables.now.done (suc c.args.before) c.done.ensures c.requires.tables.done

pub add_products-requires-2-clause-table : goal.add_products-requires-2-clause-table
add_products-requires-2-clause-table g c = poly-length g.EF.Field.number c.carry.result.now c.args.tables.now.carry (suc c.args.before) c.carry.ensures c.requires.tables.carry

pub add_products-requires-3-clause-table : goal.add_products-requires-3-clause-table
add_products-requires-3-clause-table g c = poly-length g.EF.Field.number c.omega.result.now c.args.tables.now.omega (suc c.args.before) c.omega.ensures c.requires.tables.omega

pub add_products-requires-clause-weights : goal.add_products-requires-clause-weights
add_products-requires-clause-weights g c =
    let e = g.EF.Field in
    let has = beside-has e.number e.ops (order_of c.args.order) (e.number c.args.coefficient) c.args.before c.args.near.now c.kept_of-kept.result.now c.in_ok-equal.equal
    c.in_ok-weights.weights c.kept_of-kept.ensures.size c.kept_of-kept.ensures.kept c.in_ok-equal.ensures.variables c.in_ok-equal.ensures.table c.in_ok-weights.ensures in
    poly-length e.number c.done-2.result.now c.in_ok-weights.weights.done (suc c.args.before) c.done-2.ensures has.done.variables

pub add_products-requires-2-clause-weights : goal.add_products-requires-2-clause-weights
add_products-requires-2-clause-weights g c =
    let e = g.EF.Field in
    let has = beside-has e.number e.ops (order_of c.args.order) (e.number c.args.coefficient) c.args.before c.args.near.now c.kept_of-kept.result.now c.in_ok-equal.equal
    c.in_ok-weights.weights c.kept_of-kept.ensures.size c.kept_of-kept.ensures.kept c.in_ok-equal.ensures.variables c.in_ok-equal.ensures.table c.in_ok-weights.ensures in
    poly-length e.number c.carry-2.result.now c.in_ok-weights.weights.carry (suc c.args.before) c.carry-2.ensures has.carry.variables

pub add_products-requires-3-clause-weights : goal.add_products-requires-3-clause-weights
add_products-requires-3-clause-weights g c =
    let e = g.EF.Field in
    let has = beside-has e.number e.ops (order_of c.args.order) (e.number c.args.coefficient) c.args.before c.args.near.now c.kept_of-kept.result.now c.in_ok-equal.equal
    c.in_ok-weights.weights c.kept_of-kept.ensures.size c.kept_of-kept.ensures.kept c.in_ok-equal.ensures.variables c.in_ok-equal.ensures.table c.in_ok-weights.ensures in
    poly-length e.number c.omega-2.result.now c.in_ok-weights.weights.omega (suc c.args.before) c.omega-2.ensures has.omega.variables

pub returns : goal.returns
returns g c =
    let e = g.EF.Field in
    let has = beside-has e.number e.ops (order_of c.args.order) (e.number c.args.coefficient) c.args.before c.args.near.now c.kept_of-kept.result.now c.in_ok-equal.equal
    c.in_ok-weights.weights c.kept_of-kept.ensures.size c.kept_of-kept.ensures.kept c.in_ok-equal.ensures.variables c.in_ok-equal.ensures.table c.in_ok-weights.ensures in
    let j = c.args.before in
    let order = order_of c.args.order in
    let w : Part → ℕ → ℕ = λ part b. times e.ops (e.number c.args.coefficient) (part_weight e.ops (beside order part) (kept_of order (suc j) (map e.number c.args.near.now)) b) in
    let t = c.args.tables.now in
    let v = c.in_ok-weights.weights in
    let first = part-added e.number e.ops order j (w Done) c.done.result.now c.done-2.result.now t.done v.done c.args.sums.now c.add_products.new.sums
    c.done.ensures c.requires.tables.done c.done-2.ensures has.done c.in_ok-add_products.ensures.added in
    let second = part-added e.number e.ops order j (w Carry) c.carry.result.now c.carry-2.result.now t.carry v.carry c.add_products.new.sums c.add_products-2.new.sums
    c.carry.ensures c.requires.tables.carry c.carry-2.ensures has.carry c.in_ok-add_products-2.ensures.added in
    on_ok_weaker c.add_products-3.result
    (λ third. parts-added e.number e.ops g.met.EF.Field.is_field.ring j (λ part. grid_of order e.ops (rows_by e.number t part) (w part) j 0) c.args.sums.now
    c.add_products.new.sums c.add_products-2.new.sums c.add_products-3.new.sums first second
    (part-added e.number e.ops order j (w Omega) c.omega.result.now c.omega-2.result.now t.omega v.omega c.add_products-2.new.sums c.add_products-3.new.sums
    c.omega.ensures c.requires.tables.omega c.omega-2.ensures has.omega third))
    c.add_products-3.ensures.added
