use Rattle.std.proofs.Common.{◌≡◌, sym, ◌∙◌, ap, arith}
use Rattle.sc_definitions.specs.Ring.{plus, times, minus}
use Rattle.sc_weights.proofs.CoefficientReads.{equality-none, equality-more}
use Rattle.sc_weights.proofs.coefficients.+equality_at.Goals as goal

pub returns-in_default : goal.returns-in_default
returns-in_default g t c =
    let e = g.EF.Field in
    ap e.number c.ONE.ensures ∙ g.met.EF.Field.one_is
    ∙ sym (equality-none e.ops g.met.EF.Field.is_field.ring e.number e.number c.args.z.now c.args.x.now c.requires (omega (arith, c.in_default.len_below)))

pub returns : goal.returns
returns g t c =
    let e = g.EF.Field in
    let N = e.number in
    let one : N c.ONE-2.result ≡ 1 = ap N c.ONE-2.ensures ∙ g.met.EF.Field.one_is in
    let factor : N c.add-factor.result ≡ plus e.ops (minus e.ops 1 (N c.first-item.result)) (times e.ops (N c.first-item.result) (N c.index-x-0.result)) =
    cc (c.add-factor.ensures, c.sub.ensures, c.mul.ensures, one) in
    c.mul-2.ensures ∙ ap (λ k. times e.ops k (N c.equality_at.result)) factor
    ∙ equality-more e.ops g.met.EF.Field.is_field.ring N N c.args.z.now c.args.x.now c.requires (omega (arith, c.in-len1-up.len_at_least)) c.first-item.result c.index-x-0.result
    c.first-item.is c.index-x-0.is (N c.equality_at.result) c.equality_at.ensures
