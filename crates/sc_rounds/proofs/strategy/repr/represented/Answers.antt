use Rattle.std.proofs.Common.{◌∙◌, sym}
use Rattle.std.proofs.lemmas.Result.{IfOk-from_err}
use Rattle.sc_definitions.proofs.MappedRounds.{same_images, there_and_back}
use Rattle.sc_definitions.proofs.Lengths.{pow-same}
use Rattle.sc_rounds.proofs.RepresentedLaws.{same_length}
use Rattle.sc_rounds.proofs.strategy.repr.represented.Goals as goal

pub returns-clause-variables : goal.returns-clause-variables
returns-clause-variables g c =
    pow-same _ _ (sym c.new.ensures.size ∙ same_length g.R.Field.number (λ x. g.R.FromTable.from_number (g.EF.Field.number x)) _ _ c.in_ok-from_table.ensures
    ∙ c.into_evals.ensures.size)

pub returns-clause-images : goal.returns-clause-images
returns-clause-images g c =
    let to = g.R.FromTable.to_number in
    let represents = g.met.R.FromTable.represents in
    let r = g.R.Field.ops in let e = g.EF.Field.ops in
    let ring_r = g.met.R.Field.is_field.ring in let ring_e = g.met.EF.Field.is_field.ring in
    same_images r e ring_r ring_e to represents.back g.R.Field.number g.R.Field.number _ _ c.new.ensures.table
    ∙ there_and_back r e ring_r ring_e to represents.back g.EF.Field.number g.R.Field.number g.R.FromTable.from_number _ _
    (λ x. represents.back_forth _ (g.met.EF.Field.number_below x)) c.in_ok-from_table.ensures
    ∙ c.into_evals.ensures.numbers

-- the images are as many as the entries, a power of two
pub new-requires : goal.new-requires
new-requires g c =
    (_, same_length g.R.Field.number (λ x. g.R.FromTable.from_number (g.EF.Field.number x)) _ _ c.in_ok-from_table.ensures ∙ c.into_evals.ensures.size)

-- a refusal says nothing of a table
pub returns-in_err-from_table-clause-variables : goal.returns-in_err-from_table-clause-variables
returns-in_err-from_table-clause-variables g c = IfOk-from_err _ _ c.from_residual.ensures.0

pub returns-in_err-from_table-clause-images : goal.returns-in_err-from_table-clause-images
returns-in_err-from_table-clause-images g c = IfOk-from_err _ _ c.from_residual.ensures.0
