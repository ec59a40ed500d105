use Rattle.std.proofs.Common.{◌≡◌, ℕ, ◌<◌, ◌+◌, ◌++◌, All, length, get_or, take, drop, map, ap, sym, subst, ◌∙◌, arith}
use Rattle.std.proofs.lemmas.List.{length-drop}
use Rattle.std.proofs.lemmas.List.Elements.{All-drop}
use Rattle.sc_definitions.specs.Statements.{claims, equality}
use Rattle.sc_statements.specs.EqStatements.{eq_statements}
use Rattle.sumcheck_tables.specs.Tables.{value_claims}
use Rattle.sumcheck_tables.proofs.ClaimLaws.{claims-more, points-left}
use Rattle.sumcheck_tables.proofs.asked.claims_of.Goals as goal

pub loop-value-preserved : goal.loop-value-preserved
loop-value-preserved g c =
    let N = g.F.Field.number in
    let n = c.args.variables in
    let vs = c.args.values.now in
    let i = c.loop-value.value-index in
    let rest = c.loop-value.rest.now in
    let below : ℕ → Type 0 = λ k. k < g.F.Field.ops.size in
    let low : i < length vs = omega arith in
    let point : map N c.new-point.result ≡ take n rest = ap (map N) c.new-point.ensures ∙ c.in_ok-elements.ensures ∙ c.split_at.ensures.front in
    let value : N c.element.result ≡ get_or vs i 0 = c.element.ensures ∙ c.from.ensures in
    record {
      shown = subst (λ r. eq_statements N c.add_evaluated_constraint.new.self ++ value_claims n r (drop (i + 1) vs) ≡ value_claims n c.args.points.now vs) (sym c.split_at.ensures.back)
          (claims-more n rest vs i 0 low _ _ _ c.loop-value.invariant.shown _ c.in_ok-add_evaluated_constraint.ensures.ok
          (ap (λ p. claims (equality p) (N c.element.result)) point ∙ ap (claims (equality (take n rest))) value));
      arity = c.in_ok-add_evaluated_constraint.ensures.arity ∙ c.loop-value.invariant.arity;
      long = ap length c.split_at.ensures.back ∙ length-drop n rest ∙ points-left n i (length vs) (length rest) low c.loop-value.invariant.long;
      below = subst (All below) (sym c.split_at.ensures.back) (All-drop below n rest c.loop-value.invariant.below);
    }
