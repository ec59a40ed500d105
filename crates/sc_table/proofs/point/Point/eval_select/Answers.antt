use Rattle.std.proofs.Common.{◌≡◌, ◌<◌, ◌∙◌, ap, subst}
use Rattle.sc_definitions.specs.Ring.{plus, times, minus}
use Rattle.sc_table.proofs.SelectLaws.{IsSelected, selected-none, selected-more, selected-all}
use Rattle.sc_table.proofs.point.Point.eval_select.Goals as goal

pub loop-x_i-init : goal.loop-x_i-init
loop-x_i-init g c =
    let f = g.EF.Field in
    let met = g.met.EF.Field in
    let z = g.EF.Algebra.embedding (g.F.Field.number c.args.var) in
    let rest_is : c.into_iter-x_i-iterator.result.iter.rest.now ≡ c.args.x.now = cc in
    record {
      can_next = tt;
      ends = tt;
      selected = selected-none f.number f.ops met.is_field.ring z c.args.x.now _ _ _ rest_is
          (subst (λ k. k < f.ops.size) c.embed-power.ensures (met.number_below c.embed-power.result)) (ap f.number c.ONE-value.ensures ∙ met.one_is) c.embed-power.ensures;
    }

pub loop-x_i-preserved : goal.loop-x_i-preserved
loop-x_i-preserved g c =
    let f = g.EF.Field in
    let met = g.met.EF.Field in
    let l = c.loop-x_i in
    let z = g.EF.Algebra.embedding (g.F.Field.number c.args.var) in
    let one : f.number c.ONE.result ≡ 1 = ap f.number c.ONE.ensures ∙ met.one_is in
    let one' : f.number c.ONE-in-loop-x_i.result ≡ 1 = ap f.number c.ONE-in-loop-x_i.ensures ∙ met.one_is in
    let so_far = subst (λ rest. IsSelected f.number f.ops z c.args.x.now rest (f.number l.value) (f.number l.power)) c.in-Some.ensures.steps l.invariant.selected in
    let factor : f.number c.add-factor.result ≡ plus f.ops 1 (times f.ops (f.number c.in-Some.x_i.now) (minus f.ops (f.number l.power) 1)) =
    cc (c.add-factor.ensures, c.mul.ensures, c.sub.ensures, one, one') in
    record {
      can_next = tt;
      ends = tt;
      selected = selected-more f.number f.ops met.is_field.ring z c.args.x.now c.next.new.self.iter.rest.now c.in-Some.x_i.now _ _ _ _ so_far
          (c.mul-value.ensures ∙ ap (λ k. times f.ops k (f.number l.value)) factor) c.square-power.ensures;
    }

pub returns : goal.returns
returns g c =
    let f = g.EF.Field in
    selected-all f.number f.ops g.met.EF.Field.is_field.ring (g.EF.Algebra.embedding (g.F.Field.number c.args.var)) c.args.x.now c.loop-x_i.x_i-iterator.iter.rest.now _ _
    c.in-None.ensures.steps.0 c.loop-x_i.invariant.selected
