use Rattle.std.proofs.Common.{sym, ◌∙◌}
use Rattle.sc_field.proofs.PowersLaws.{power-plus}
use Rattle.sc_constraints.proofs.constraint.Constraint.challenge_powers.Goals as goal

pub returns-clause-start : goal.returns-clause-start
returns-clause-start g c =
    let f = g.EF.Field in
    cc (c.shifted_powers.ensures.start, c.mul.ensures, c.first_coefficient.ensures, c.exp_u64-skipped.ensures)
    ∙ sym (power-plus f.ops g.met.EF.Field.is_field.ring (f.number c.args.self.now.challenge) c.args.self.now.initial_power c.args.shift)
