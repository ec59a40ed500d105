use Rattle.std.proofs.Common.{◌≡◌, ap, ◌∙◌, sym, subst}
use Rattle.std.proofs.lemmas.Result.{IfOk-from_err}
use Rattle.sc_definitions.specs.Tables.{inner_product}
use Rattle.sc_definitions.specs.Statements.{batched_weight, batched_claim}
use Rattle.sc_constraints.specs.Constraints.{constraint_arity, constraint_challenge, constraint_power, constraint_statements}
use Rattle.sc_rounds.specs.Products.{variables_in, evals_in, weights_in, sum_in}
use Rattle.sc_definitions.specs.ProverViews.{ProverView, sum_with, IsTrueClaim}
use Rattle.sc_rounds.proofs.HeldLaws.{none_held, settled_pair}
use Rattle.sc_rounds.proofs.TakenLaws.{sum_taken, claim_taken}
use Rattle.sc_rounds.proofs.ShownLaws.{sum_shown, true_of}
use Rattle.sc_rounds.proofs.strategy.SumcheckProver.constraint_is_true.Goals as goal

pub returns-clause-exact : goal.returns-clause-exact
returns-clause-exact g c =
    let o = g.EF.Field.ops in
    let ring = g.met.EF.Field.is_field.ring in
    let N = g.EF.Field.number in
    let old = c.settle.new.self in
    let same = settled_pair o N old.poly old.sum old.held _ c.settle.ensures.settled c.settle.ensures.kept in
    let true_sum : N old.sum ≡ sum_in o N old.poly = true_of N o old.poly old.sum (subst (IsTrueClaim o) (none_held o N old.poly old.sum old.held c.settle.ensures.settled) old.true_sum) in
    let n = variables_in old.poly in
    let f = evals_in N old.poly in
    let w = weights_in N old.poly in
    let pair = c.new_in-combined.result in
    let end = c.combine.new.self in
    let v = batched_weight o (constraint_challenge N c.args.c.now) (constraint_power c.args.c.now) (constraint_statements (λ x. g.EF.Algebra.embedding (g.F.Field.number x)) N c.args.c.now) in
    let claim = batched_claim o (constraint_challenge N c.args.c.now) (constraint_power c.args.c.now) (constraint_statements (λ x. g.EF.Algebra.embedding (g.F.Field.number x)) N c.args.c.now) in
    let arity : constraint_arity c.args.c.now ≡ n = sym c.num_variables.ensures ∙ c.if-num_variables.false ∙ c.num_variables-2.ensures in
    let size : variables_in pair ≡ n = c.new_in-combined.ensures.variables ∙ c.in_ok-evals.ensures.variables in
    let evals : evals_in N pair ≡ f = c.new_in-combined.ensures.evals ∙ c.in_ok-evals.ensures.table in
    let weights : weights_in N pair ≡ w = c.new_in-combined.ensures.weights ∙ c.in_ok-weights.ensures.table in
    let begun : N old.sum ≡ inner_product o (variables_in pair) (evals_in N pair) (weights_in N pair) =
    true_sum ∙ ap (λ k. inner_product o k f w) (sym size) ∙ ap (λ t. inner_product o (variables_in pair) t w) (sym evals) ∙ ap (inner_product o (variables_in pair) (evals_in N pair)) (sym weights) in
    let moved : inner_product o (variables_in end) (evals_in N end) (weights_in N end) ≡ inner_product o (variables_in pair) (evals_in N pair) (weights_in N end) =
    ap (λ k. inner_product o k (evals_in N end) (weights_in N end)) c.combine.ensures.variables ∙ ap (λ t. inner_product o (variables_in pair) t (weights_in N end)) c.combine.ensures.evals in
    let there : inner_product o (variables_in pair) (evals_in N pair) v ≡ inner_product o n f v = ap (λ k. inner_product o k (evals_in N pair) v) size ∙ ap (λ t. inner_product o n t v) evals in
    let added = c.combine.ensures.added in (
      λ told. record {
        arity = arity ∙ ap (λ (s : ProverView). s.variables) same;
        claim = ap (λ (s : ProverView). sum_with o s v) (sym same) ∙ sum_shown N o old.poly old.sum v ∙ sym there ∙ claim_taken o ring _ begun (c.sum_is_true.ensures.0 told ∙ moved) added;
      },
      λ true_one. c.sum_is_true.ensures.1 (sum_taken o ring _ begun (there ∙ sym (sum_shown N o old.poly old.sum v) ∙ ap (λ (s : ProverView). sum_with o s v) same ∙ true_one.claim) added ∙ sym moved),
    )

-- a refusal tells nothing of an answer
pub returns-in_err-evals-clause-exact : goal.returns-in_err-evals-clause-exact
returns-in_err-evals-clause-exact g c = IfOk-from_err c.from_residual.result _ c.from_residual.ensures.0

pub returns-in_err-weights-clause-exact : goal.returns-in_err-weights-clause-exact
returns-in_err-weights-clause-exact g c = IfOk-from_err c.from_residual-in_err-weights.result _ c.from_residual-in_err-weights.ensures.0

pub returns-in_err-combine-clause-exact : goal.returns-in_err-combine-clause-exact
returns-in_err-combine-clause-exact g c = IfOk-from_err c.from_residual-in_err-combine.result _ c.from_residual-in_err-combine.ensures.0
