use Rattle.std.proofs.Common.{map, ◌∙◌}
use Rattle.std.proofs.lemmas.Result.{on_ok_weaker, IfOk-weaker}
use Rattle.sc_definitions.specs.Tables.{entries, equality_weight}
use Rattle.sc_definitions.specs.Statements.{successor_weight}
use Rattle.sc_table.specs.Strategy.{order_of}
use Rattle.sc_svo.specs.Points.{order_in, point_in}
use Rattle.sc_svo.proofs.ClaimLaws.{kind-equality, kind-successor, claim-added, value-true, value-inner}
use Rattle.sc_svo.proofs.claims.add_claim.Goals as goal

pub returns-then-claim-clause-adds : goal.returns-then-claim-clause-adds
returns-then-claim-clause-adds g c =
    let e = g.EF.Field in
    let claim = c.args.claim.now in
    let p = c.in_ok-point.point in
    let f = entries (λ (x : g.row.F.Denot). g.EF.Algebra.embedding (g.F.Field.number x)) c.args.table.now in
    on_ok_weaker c.add_successor.result
    (claim-added e.ops g.met.EF.Field.is_field.ring e.number f (successor_weight e.ops) claim (point_in p) c.in_ok-point.ensures.point (λ b low. kind-successor e.ops g.met.EF.Field.is_field.ring claim.successor (map e.number claim.point) b c.if-claim.true low) (order_of c.args.order) (order_in p) c.args.sums.now
    c.add_successor.new.sums c.in_ok-point.ensures.order c.requires.within)
    c.add_successor.ensures.adds

pub returns-then-claim-clause-value : goal.returns-then-claim-clause-value
returns-then-claim-clause-value g c =
    let e = g.EF.Field in
    let claim = c.args.claim.now in
    let p = c.in_ok-point.point in
    let f = entries (λ (x : g.row.F.Denot). g.EF.Algebra.embedding (g.F.Field.number x)) c.args.table.now in
    IfOk-weaker c.add_successor.result _ _
    (λ v is. value-true e.ops g.met.EF.Field.is_field.ring e.number f (successor_weight e.ops) claim (point_in p) c.in_ok-point.ensures.point (λ b low. kind-successor e.ops g.met.EF.Field.is_field.ring claim.successor (map e.number claim.point) b c.if-claim.true low) (e.number v) (is))
    c.add_successor.ensures.value

pub returns-clause-adds : goal.returns-clause-adds
returns-clause-adds g c =
    let e = g.EF.Field in
    let claim = c.args.claim.now in
    let p = c.in_ok-point.point in
    let f = entries (λ (x : g.row.F.Denot). g.EF.Algebra.embedding (g.F.Field.number x)) c.args.table.now in
    on_ok_weaker c.add_equality.result
    (claim-added e.ops g.met.EF.Field.is_field.ring e.number f (equality_weight e.ops) claim (point_in p) c.in_ok-point.ensures.point (λ b low. kind-equality e.ops g.met.EF.Field.is_field.ring claim.successor (map e.number claim.point) b c.if-claim.false) (order_of c.args.order) (order_in p) c.args.sums.now
    c.add_equality.new.sums c.in_ok-point.ensures.order c.requires.within)
    c.add_equality.ensures.adds

pub returns-clause-value : goal.returns-clause-value
returns-clause-value g c =
    let e = g.EF.Field in
    let claim = c.args.claim.now in
    let p = c.in_ok-point.point in
    let f = entries (λ (x : g.row.F.Denot). g.EF.Algebra.embedding (g.F.Field.number x)) c.args.table.now in
    IfOk-weaker c.add_equality.result _ _
    (λ v is. value-true e.ops g.met.EF.Field.is_field.ring e.number f (equality_weight e.ops) claim (point_in p) c.in_ok-point.ensures.point (λ b low. kind-equality e.ops g.met.EF.Field.is_field.ring claim.successor (map e.number claim.point) b c.if-claim.false) (e.number v) (is ∙ value-inner e.ops g.met.EF.Field.is_field.ring f (point_in p)))
    c.add_equality.ensures.value
