use Rattle.std.proofs.Common.{◌≡◌, ◌%◌, ◌/◌, sym, ◌∙◌, ap, arith}
use Rattle.sc_definitions.specs.Ring.{times, power}
use Rattle.sc_definitions.proofs.RingLaws.{element-small, times-one, times_comm}
use Rattle.sc_definitions.proofs.Power.{element-power, power-zero, square_even, square_odd}
use Rattle.sc_field.proofs.field.Field.exp_u64.Goals as goal
use Rattle.sc_field.proofs.field.Field.exp_u64.Goals.{then-left-eq1, else-left-eq1}

pub returns : goal.returns
returns g c =
    let f = g.Self.Field in
    let met = g.met.Self.Field in
    let ring = met.is_field.ring in
    let r = f.number c.loop-left.result in
    let done : c.loop-left.left ≡ 0 = omega arith in
    sym (element-small f.ops ring r (met.number_below c.loop-left.result))
    ∙ sym (times-one f.ops ring r)
    ∙ ap (times f.ops r) (sym (power-zero f.ops ring (f.number c.loop-left.base)) ∙ ap (power f.ops (f.number c.loop-left.base)) (sym done))
    ∙ c.loop-left.invariant

pub loop-left-init : goal.loop-left-init
loop-left-init g c =
    let f = g.Self.Field in
    let met = g.met.Self.Field in
    let ring = met.is_field.ring in
    let p = power f.ops (f.number c.args.self) c.args.exponent in
    ap (λ n. times f.ops n p) (ap f.number c.ONE-result.ensures ∙ met.one_is)
    ∙ times_comm f.ops ring 1 p ∙ times-one f.ops ring p ∙ element-power f.ops ring (f.number c.args.self) c.args.exponent

pub loop-left-preserved : goal.loop-left-preserved
loop-left-preserved g c =
    let f = g.Self.Field in
    let ring = g.met.Self.Field.is_field.ring in
    let b = f.number c.loop-left.base in
    let n = c.loop-left.left in
    ap (λ k. times f.ops (f.number c.if-left-eq1.result) (power f.ops k (n / 2))) c.square-base.ensures
    ∙ elim c.if-left-eq1.branch [
      | then-left-eq1 w ↦
          ap (λ k. times f.ops k (power f.ops (times f.ops b b) (n / 2))) (ap f.number w.result-is ∙ w.mul-result.ensures)
          ∙ square_odd f.ops ring (f.number c.loop-left.result) b n w.if-left-eq1.true
          ∙ c.loop-left.invariant
      | else-left-eq1 w ↦
          let even : n % 2 ≡ 0 = omega (arith, w.if-left-eq1.false) in
          ap (λ k. times f.ops k (power f.ops (times f.ops b b) (n / 2))) (ap f.number w.result-is)
          ∙ square_even f.ops ring (f.number c.loop-left.result) b n even
          ∙ c.loop-left.invariant
    ]
