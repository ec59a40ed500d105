use Rattle.std.proofs.Common.{rules}
use Rattle.sumcheck_run.proofs.program.read_input.Goals as goal

-- at most one byte past the limit is read
pub returns-clause-read : goal.returns-clause-read
returns-clause-read g c = search rules

pub returns-clause-sparing : goal.returns-clause-sparing
returns-clause-sparing g c = record { given_few = c.read_all.ensures.given; dry_once = c.read_all.ensures.dry }
