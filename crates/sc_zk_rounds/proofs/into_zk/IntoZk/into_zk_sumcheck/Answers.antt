use Rattle.std.proofs.Common.{rules, refl}
use Rattle.sc_commitments.proofs.CodeLaws.{masks-drawn-refused}
use Rattle.sc_zk_rounds.proofs.MaskedBatchLaws.{ends-before}
use Rattle.sc_zk_rounds.proofs.into_zk.IntoZk.into_zk_sumcheck.Goals as goal

-- no masks are drawn
pub returns-in_err-masks-clause-batch : goal.returns-in_err-masks-clause-batch
returns-in_err-masks-clause-batch g c = ends-before _ _ _ _ c.from_residual.result (search rules) refl c.requires.fresh.wire

-- all are drawn
pub returns-clause-refused : goal.returns-clause-refused
returns-clause-refused g c = masks-drawn-refused _ _ _ _ _ _ _ _ c.in_ok-masks.ensures.drawn
