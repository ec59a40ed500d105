use Rattle.std.proofs.Common.{length, ◌≡◌, ◌+◌, ◌∷◌, [], ◌∙◌, ap}
use Rattle.std.proofs.lemmas.List.{map-append}
use Rattle.std.proofs.lemmas.List.Elements.{All-nil, All-cons}
use Rattle.sc_statements.specs.NextStatements.{next_kind}
use Rattle.sc_statements.specs.Lists.{evaluated, evaluated_all}
use Rattle.sc_statements.proofs.Evaluations.{all-kept}
use Rattle.sc_statements.proofs.statement.next.NextStatement.add_evaluated_constraint.Goals as goal

-- the new selector and point fit by the requirement, and the others fitted before
pub invariant_of-self : goal.invariant_of-self
invariant_of-self g c =
    let n = c.args.self.now.num_variables in
    record {
      fits = all-kept (λ d. length d.weights.selector + length d.weights.point ≡ n) _ c.args.self.now.constraints.items _ c.push.new.self.items c.args.self.now.fits
          (All-cons (λ d. length d.weights.selector + length d.weights.point ≡ n)
          (record { weights = record { selector = c.args.selector; point = c.args.point; var_order = c.args.var_order }; eval = c.args.eval }) [] c.requires
          (All-nil (λ d. length d.weights.selector + length d.weights.point ≡ n))) c.push.ensures.items;
    }

-- the pushed constraint is the last statement
pub returns-clause-ok : goal.returns-clause-ok
returns-clause-ok g c =
    let number = g.EF.Field.number in
    ap (λ l. evaluated_all (next_kind number) number l) c.in_ok-push.ensures.items
    ∙ map-append (evaluated (next_kind number) number) c.args.self.now.constraints.items
    (record { weights = record { selector = c.args.selector; point = c.args.point; var_order = c.args.var_order }; eval = c.args.eval } ∷ [])
