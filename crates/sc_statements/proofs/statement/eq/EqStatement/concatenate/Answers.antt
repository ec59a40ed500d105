use Rattle.std.proofs.Common.{length, ◌≡◌, ◌++◌, ◌∙◌, ap, subst, sym, All}
use Rattle.std.proofs.lemmas.Result.{IfOk-from_err}
use Rattle.std.proofs.lemmas.List.{map-append}
use Rattle.sc_statements.specs.EqStatements.{point_kind}
use Rattle.sc_statements.specs.Lists.{evaluated, evaluated_all}
use Rattle.sc_statements.proofs.Evaluations.{all-kept}
use Rattle.sc_statements.proofs.statement.eq.EqStatement.concatenate.Goals as goal

-- the constraints of both fit the one number of variables, so they fit whether they were joined or not
pub invariant_of-self : goal.invariant_of-self
invariant_of-self g c =
    let n = c.args.self.now.num_variables in
    record {
      fits = all-kept (λ d. length d.weights ≡ n) _ c.args.self.now.constraints.items c.in_ok-copies.copies.items c.append.new.self.items c.args.self.now.fits
          (subst (All (λ d. length d.weights ≡ n)) (sym c.in_ok-copies.ensures) (subst (λ k. All (λ d. length d.weights ≡ k) c.args.other.now.constraints.items) c.requires c.args.other.now.fits))
          c.append.ensures.items;
    }

-- the statements of joined constraints are the statements of both
pub returns-clause-ok : goal.returns-clause-ok
returns-clause-ok g c =
    let number = g.EF.Field.number in
    let old = c.args.self.now.constraints.items in
    ap (λ l. evaluated_all (point_kind number) number l) (c.in_ok-append.ensures.items ∙ ap (λ l. old ++ l) c.in_ok-copies.ensures)
    ∙ map-append (evaluated (point_kind number) number) old c.args.other.now.constraints.items

-- a refusal tells nothing of an answer
pub returns-in_err-copies-clause-ok : goal.returns-in_err-copies-clause-ok
returns-in_err-copies-clause-ok g c = IfOk-from_err c.from_residual.result _ c.from_residual.ensures.0

pub returns-in_err-append-clause-ok : goal.returns-in_err-append-clause-ok
returns-in_err-append-clause-ok g c = IfOk-from_err c.from_residual-in_err-append.result _ c.from_residual-in_err-append.ensures.0
