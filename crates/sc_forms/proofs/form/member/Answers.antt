use Rattle.std.proofs.Common.{rules}
use Rattle.sc_forms.proofs.form.member.Goals as goal

-- a member that is absent is read as such
pub returns-in-None-clause-ok : goal.returns-in-None-clause-ok
returns-in-None-clause-ok g c = search rules

pub returns-in-None-clause-absent : goal.returns-in-None-clause-absent
returns-in-None-clause-absent g c = search rules
