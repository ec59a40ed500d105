use Rattle.std.proofs.Common.{◌^◌, ◌<◌, ◌∙◌, ap, sym, subst}
use Rattle.sc_definitions.proofs.ProverStateLaws.{length-entries_of, rows-entries_of}
use Rattle.sc_partials.proofs.partials.EqPartials.zero.Goals as goal

pub returns-clause-size : goal.returns-clause-size
returns-clause-size g c = length-entries_of _ _ ∙ ap (λ n. 2 ^ n) c.in_ok-zero.ensures.variables

pub returns-clause-zeros : goal.returns-clause-zeros
returns-clause-zeros g c a low =
    rows-entries_of _ _ a (subst (λ n. a < 2 ^ n) (sym c.in_ok-zero.ensures.variables) low) ∙ c.in_ok-zero.ensures.table a
