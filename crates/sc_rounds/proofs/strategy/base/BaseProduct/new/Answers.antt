use Rattle.sc_definitions.specs.Tables.{entries, rows_of}
use Rattle.sc_rounds.proofs.strategy.base.BaseProduct.new.Goals as goal

pub invariant_of-result : goal.invariant_of-result
unfolding entries rows_of
invariant_of-result g c = record { same = c.requires.agree.rows; true_sum = c.requires.agree.sum_is; offered = c.requires.offered }
