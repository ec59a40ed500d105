use Rattle.sc_small_fields.proofs.PairLaws.{same_value}
use Rattle.sc_small_fields.proofs.f257x2.F257x2Field.ONE.Goals as goal

pub returns : goal.returns
returns c = same_value _ _ _ _
