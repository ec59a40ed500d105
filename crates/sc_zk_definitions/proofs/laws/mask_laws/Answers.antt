use Rattle.sc_zk_definitions.proofs.MaskLaws.{rounds_are_sums, totals_are_of_endpoints}
use Rattle.sc_zk_definitions.proofs.ToldLaws.{masks_are_told}
use Rattle.sc_zk_definitions.proofs.ExplainedLaws.{views_are_explained}
use Rattle.sc_zk_definitions.proofs.laws.mask_laws.Goals as goal

pub returns-clause-sums : goal.returns-clause-sums
returns-clause-sums c = rounds_are_sums

pub returns-clause-totals : goal.returns-clause-totals
returns-clause-totals c = totals_are_of_endpoints

pub returns-clause-told : goal.returns-clause-told
returns-clause-told c = masks_are_told

pub returns-clause-explained : goal.returns-clause-explained
returns-clause-explained c = views_are_explained
