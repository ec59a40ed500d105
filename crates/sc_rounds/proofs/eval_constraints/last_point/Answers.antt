use Rattle.std.proofs.Common.{◌-◌, ◌∙◌, ap, sym}
use Rattle.std.proofs.lemmas.List.{append-nil}
use Rattle.std.proofs.lemmas.Result.{IfOk-from_err}
use Rattle.sc_constraints.proofs.ConstraintPoints.{last_part, part_size, reversed_part, reversed_size, rest_within}
use Rattle.sc_rounds.proofs.eval_constraints.last_point.Goals as goal

pub returns-in-Suffix-clause-point : goal.returns-in-Suffix-clause-point
returns-in-Suffix-clause-point g c =
    let N = g.EF.Field.number in
    rw c.in-Suffix.is (reversed_part N c.reversed.result c.in_ok-last.last _ c.reversed.ensures
    (last_part N c.in_ok-last.field-0-0 c.in_ok-last.last c.args.challenge.now c.args.k c.requires
    (c.in_ok-last.ensures.front ∙ ap (λ n. n - c.args.k) c.num_variables.ensures) c.in_ok-last.ensures.joined))

pub returns-in-Suffix-clause-coordinates : goal.returns-in-Suffix-clause-coordinates
returns-in-Suffix-clause-coordinates g c =
    reversed_size c.reversed.result c.in_ok-last.last _ c.reversed.ensures
    (part_size _ _ _ _ c.requires (c.in_ok-last.ensures.front ∙ ap (λ n. n - c.args.k) c.num_variables.ensures) c.in_ok-last.ensures.joined)

-- the second part is the last challenges
pub returns-in-Prefix-clause-point : goal.returns-in-Prefix-clause-point
returns-in-Prefix-clause-point g c =
    rw c.in-Prefix.is (sym (append-nil _ ∙ last_part g.EF.Field.number c.in_ok-last.field-0-0 c.in_ok-last.last c.args.challenge.now c.args.k c.requires
    (c.in_ok-last.ensures.front ∙ ap (λ n. n - c.args.k) c.num_variables.ensures) c.in_ok-last.ensures.joined))

pub returns-in-Prefix-clause-coordinates : goal.returns-in-Prefix-clause-coordinates
returns-in-Prefix-clause-coordinates g c = part_size _ _ _ _ c.requires (c.in_ok-last.ensures.front ∙ ap (λ n. n - c.args.k) c.num_variables.ensures) c.in_ok-last.ensures.joined

pub split_at-requires : goal.split_at-requires
split_at-requires g c = rest_within _ _ _ c.num_variables.ensures

-- a refusal says nothing of a point
pub returns-in_err-last-clause-coordinates : goal.returns-in_err-last-clause-coordinates
returns-in_err-last-clause-coordinates g c = IfOk-from_err _ _ c.from_residual.ensures.0

pub returns-in_err-last-clause-point : goal.returns-in_err-last-clause-point
returns-in_err-last-clause-point g c = IfOk-from_err _ _ c.from_residual.ensures.0
