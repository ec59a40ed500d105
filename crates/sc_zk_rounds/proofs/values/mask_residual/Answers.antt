use Rattle.std.proofs.Common.{map, ap, sym, ◌∙◌, arith}
use Rattle.sc_definitions.specs.Polynomials.{poly_at}
use Rattle.sc_zk_definitions.proofs.MaskedLaws.{masks_at-none}
use Rattle.sc_zk_rounds.proofs.ValueLaws.{residual-push}
use Rattle.sc_commitments.specs.Matrices.{lists_in}
use Rattle.sc_zk_rounds.proofs.values.mask_residual.Goals as goal

pub loop-i-init : goal.loop-i-init
loop-i-init g c =
    let f = g.EF.Field in
    ap f.number c.ZERO-sum.ensures ∙ g.met.EF.Field.zero_is
    ∙ sym (masks_at-none f.ops g.met.EF.Field.is_field.ring (lists_in f.number c.args.masks.now))

-- one mask more
pub loop-i-preserved : goal.loop-i-preserved
loop-i-preserved g c =
    let f = g.EF.Field in
    let s = c.index-masks-i.result in
    let x = c.index-gammas-i.result in
    residual-push f.ops g.met.EF.Field.is_field.ring f.number c.args.masks.now c.args.gammas.now c.loop-i.i s x _ _ _
    (omega (arith, c.requires, c.loop-i-test.true)) c.loop-i-test.true c.index-masks-i.is c.index-gammas-i.is c.loop-i.invariant c.add-sum.ensures
    (c.poly_at.ensures ∙ ap (λ cs. poly_at f.ops (map f.number cs) (f.number x)) c.deref.ensures.value)
