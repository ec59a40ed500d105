use Rattle.std.proofs.Common.{refl, map, ◌++◌, [], ◌∷◌, subst}
use Rattle.sc_definitions.specs.Statements.{claims}
use Rattle.sc_svo.specs.declared.claims.SvoClaim.{SvoClaim}
use Rattle.sc_svo.specs.Claims.{kind_by}
use Rattle.sc_layout.specs.declared.scaled.ScaledClaims.{ScaledClaims}
use Rattle.sc_layout.specs.Scaled.{AreScaled}
use Rattle.sc_layout.proofs.ScaledLaws.{scaled-more}
use Rattle.sc_layout.proofs.scaled.ScaledClaims.push.Goals as goal

pub returns : goal.returns
returns g c a ss v before =
    let e = g.EF.Field in
    let k : SvoClaim g.row.EF.Denot = record { point = c.in_ok-copy.field-0; successor = c.args.successor; coefficient = c.args.self.now.power } in
    let after : ScaledClaims g.row.EF.Denot = record { claims = c.push.new.self; challenge = c.args.self.now.challenge; power = c.mul-self.result } in
    subst (λ p. AreScaled e.ops e.number a (ss ++ claims (kind_by c.args.successor (map e.number p)) v ∷ []) after) c.in_ok-copy.ensures
    (scaled-more e.ops g.met.EF.Field.is_field.ring e.number a ss v k c.args.self.now after c.in_ok-push.ensures.items refl c.mul-self.ensures refl before)
