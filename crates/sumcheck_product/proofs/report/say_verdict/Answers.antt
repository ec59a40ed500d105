use Rattle.std.proofs.Common.{rules}
use Rattle.sumcheck_product.proofs.report.say_verdict.Goals as goal

-- a report that is refuted has its own status
pub returns-in_ok-push_refuted-in-Refuted : goal.returns-in_ok-push_refuted-in-Refuted
returns-in_ok-push_refuted-in-Refuted g c = search rules
