use Rattle.std.proofs.Common.{◌≡◌, ◌<◌, sym, ◌∙◌, ap, subst, arith}
use Rattle.sc_definitions.specs.Ring.{plus, times}
use Rattle.sc_weights.proofs.CoefficientReads.{powers-none, power-first, powers-more, power-next}
use Rattle.sc_weights.proofs.coefficients.+powers_at.Goals as goal

pub returns-in_default-clause-value : goal.returns-in_default-clause-value
returns-in_default-clause-value g t c =
    let e = g.EF.Field in
    ap e.number c.ONE.ensures ∙ g.met.EF.Field.one_is
    ∙ sym (powers-none e.ops g.met.EF.Field.is_field.ring e.number (g.EF.Algebra.embedding (g.F.Field.number c.args.var)) c.args.x.now (omega (arith, c.in_default.len_below)))

pub returns-in_default-clause-next : goal.returns-in_default-clause-next
returns-in_default-clause-next g t c =
    let e = g.EF.Field in
    let z = g.EF.Algebra.embedding (g.F.Field.number c.args.var) in
    c.embed.ensures
    ∙ sym (power-first e.ops g.met.EF.Field.is_field.ring e.number z c.args.x.now (omega (arith, c.in_default.len_below))
    (subst (λ k. k < e.ops.size) c.embed.ensures (g.met.EF.Field.number_below c.embed.result)))

pub returns-clause-value : goal.returns-clause-value
returns-clause-value g t c =
    let e = g.EF.Field in
    let N = e.number in
    let z = g.EF.Algebra.embedding (g.F.Field.number c.args.var) in
    let one : N c.ONE-2.result ≡ 1 = ap N c.ONE-2.ensures ∙ g.met.EF.Field.one_is in
    let factor : N c.add-factor.result ≡ plus e.ops 1 (times e.ops (N c.powers_at-value.result.1) (N c.first-item.result)) =
    cc (c.add-factor.ensures, c.mul.ensures, one) in
    c.mul-2.ensures ∙ ap (λ k. times e.ops k (N c.powers_at-value.result.0)) factor
    ∙ powers-more e.ops g.met.EF.Field.is_field.ring N z c.args.x.now (omega (arith, c.in-len1-up.len_at_least)) c.first-item.result c.first-item.is _ _
    c.powers_at-value.ensures.value c.powers_at-value.ensures.next

pub returns-clause-next : goal.returns-clause-next
returns-clause-next g t c =
    let e = g.EF.Field in
    let N = e.number in
    let z = g.EF.Algebra.embedding (g.F.Field.number c.args.var) in
    c.square.ensures
    ∙ power-next e.ops g.met.EF.Field.is_field.ring N z c.args.x.now (omega (arith, c.in-len1-up.len_at_least)) c.first-item.result c.first-item.is _ c.powers_at-value.ensures.next
