use Rattle.sc_merge_definitions.proofs.OpeningLaws.{claims-sum, certified-openings, holds-openings}
use Rattle.sc_merge_definitions.proofs.laws.openings_laws.Goals as goal

pub returns-clause-sums : goal.returns-clause-sums
returns-clause-sums c = claims-sum

pub returns-clause-certified : goal.returns-clause-certified
returns-clause-certified c = certified-openings

pub returns-clause-built : goal.returns-clause-built
returns-clause-built c = holds-openings
