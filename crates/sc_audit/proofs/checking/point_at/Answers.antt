use Rattle.std.proofs.Common.{refl}
use Rattle.sc_constraints.proofs.ConstraintPoints.{reversed_part}
use Rattle.sc_audit.proofs.checking.point_at.Goals as goal

pub returns-in-Suffix : goal.returns-in-Suffix
returns-in-Suffix g c = rw c.in-Suffix.is (reversed_part g.EF.Field.number c.reversed.result c.args.challenges.now _ c.reversed.ensures refl)
