use Rattle.sc_merge_definitions.proofs.MatrixLaws.{entries-sum, certified-matmul, holds-matmul}
use Rattle.sc_merge_definitions.proofs.laws.matmul_laws.Goals as goal

pub returns-clause-sums : goal.returns-clause-sums
returns-clause-sums c = entries-sum

pub returns-clause-certified : goal.returns-clause-certified
returns-clause-certified c = certified-matmul

pub returns-clause-built : goal.returns-clause-built
returns-clause-built c = holds-matmul
