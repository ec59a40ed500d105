use Rattle.std.proofs.Common.{◌≡◌, ℕ, ◌^◌, length, sym, ◌∙◌, ap, arith}
use Rattle.sc_definitions.proofs.LoopLaws.{entry-read}
use Rattle.sc_definitions.specs.ProverViews.{ProverView}
use Rattle.sc_definitions.proofs.MappedRounds.{same_images}
use Rattle.sc_rounds.proofs.ShownLaws.{same_entries}
use Rattle.sc_jobs.proofs.BuiltReports.{one_entry}
use Rattle.sc_audit.proofs.strategies.last_values.Goals as goal

-- where no variable is left the first entry is the only one
pub returns-clause-weight : goal.returns-clause-weight
returns-clause-weight g c =
    let T : g.row.R.Denot → ℕ = λ x. g.R.FromTable.to_number (g.R.Field.number x) in
    let size : length c.as_slice.result.now ≡ 1 = c.as_slice.ensures.size ∙ ap (λ k. 2 ^ k) (c.in_ok-weights.ensures.variables ∙ c.requires) in
    let numbers = same_images g.R.Field.ops g.EF.Field.ops g.met.R.Field.is_field.ring g.met.EF.Field.is_field.ring g.R.FromTable.to_number g.met.R.FromTable.represents.back
    g.R.Field.number g.R.Field.number _ _ c.as_slice.ensures.numbers in
    sym (same_entries T c.in_ok-weights.field-0 _ c.as_slice.ensures.size numbers ∙ c.in_ok-weights.ensures.table)
    ∙ one_entry T c.as_slice.result.now _ size (entry-read T c.as_slice.result.now 0 c.index-as_slice-0.result (omega (arith, size)) c.index-as_slice-0.is ∙ sym c.into_transcript-weight.ensures)

-- the same of the evaluations, which the reading of the weights keeps
pub returns-clause-eval : goal.returns-clause-eval
returns-clause-eval g c =
    let T : g.row.R.Denot → ℕ = λ x. g.R.FromTable.to_number (g.R.Field.number x) in
    let kept = c.in_ok-weights.ensures.kept in
    let size : length c.as_slice-2.result.now ≡ 1 =
    c.as_slice-2.ensures.size ∙ ap (λ k. 2 ^ k) (c.in_ok-evals.ensures.variables ∙ ap (λ (s : ProverView). s.variables) kept ∙ c.requires) in
    let numbers = same_images g.R.Field.ops g.EF.Field.ops g.met.R.Field.is_field.ring g.met.EF.Field.is_field.ring g.R.FromTable.to_number g.met.R.FromTable.represents.back
    g.R.Field.number g.R.Field.number _ _ c.as_slice-2.ensures.numbers in
    sym (same_entries T c.in_ok-evals.field-0 _ c.as_slice-2.ensures.size numbers ∙ c.in_ok-evals.ensures.table ∙ ap (λ (s : ProverView). s.evals) kept)
    ∙ one_entry T c.as_slice-2.result.now _ size (entry-read T c.as_slice-2.result.now 0 c.index-as_slice-0-2.result (omega (arith, size)) c.index-as_slice-0-2.is ∙ sym c.into_transcript-eval.ensures)
