use Rattle.std.proofs.Common.{◌<◌, get_or, ◌++◌, length, map, take, take_all, append-nil, sym, subst, arith}
use Rattle.std.proofs.lemmas.List.{get_or_default}
use Rattle.sc_definitions.specs.Statements.{claims}
use Rattle.sc_svo.specs.Claims.{kind_by}
use Rattle.sc_layout.specs.Scaled.{AreScaled}
use Rattle.sc_layout.proofs.SumLaws.{values-more}
use Rattle.sc_layout.proofs.scaled.ScaledClaims.push_all.Goals as goal

pub loop-place-init : goal.loop-place-init
loop-place-init g c a ss vs size before =
    subst (λ l. AreScaled g.EF.Field.ops g.EF.Field.number a l c.args.self.now) (sym (append-nil ss)) before

pub loop-place-preserved : goal.loop-place-preserved
loop-place-preserved g c a ss vs size before =
    let e = g.EF.Field in
    let i = c.loop-place._place in
    let kind = kind_by c.args.successor (map e.number c.args.point.now) in
    let v = get_or vs i 0 in
    let low : i < length vs = omega (arith, size, c.loop-place-test.true) in
    subst (λ l. AreScaled e.ops e.number a l c.push.new.self)
    (sym (values-more (claims kind) vs ss i v low (get_or_default vs i 0 v low)))
    (c.in_ok-push.ensures a (ss ++ map (claims kind) (take i vs)) v (c.loop-place.invariant a ss vs size before))

pub returns : goal.returns
returns g c a ss vs size before =
    let e = g.EF.Field in
    let kind = kind_by c.args.successor (map e.number c.args.point.now) in
    subst (λ l. AreScaled e.ops e.number a (ss ++ map (claims kind) l) c.loop-place.self)
    (take_all c.loop-place._place vs (omega (arith, size, c.loop-place-test.false))) (c.loop-place.invariant a ss vs size before)
