use Rattle.std.proofs.Common.{◌≡◌, false, sym, ◌∙◌, arith, rules}
use Rattle.std.proofs.lemmas.List.Folds.{list_all-map, list_all_at}
use Rattle.sumcheck_tables.specs.Tables.{are_below}
use Rattle.sumcheck_tables.specs.Views.{numbers_in}
use Rattle.sumcheck_tables.proofs.numbers.rounds_below.Goals as goal

-- a round with another number is one of them
pub returns-then-not-round_below : goal.returns-then-not-round_below
returns-then-not-round_below c =
    let other : c.round_below.result ≡ false = search rules in
    sym (list_all-map (are_below c.args.size) numbers_in c.args.rounds.now
    ∙ list_all_at (λ r. are_below c.args.size (numbers_in r)) c.args.rounds.now c.loop-round.round-index _ (omega arith) (sym c.round_below.ensures ∙ other))
