use Rattle.std.proofs.Common.{◌≡◌, ℕ, ◌+◌, ◌*◌, All, length, vec_len, List, ◌∷◌, [], ◌++◌, map, sym, subst, ◌∙◌, ap, arith}
use Rattle.std.proofs.lemmas.Result.{IfOk-from_err}
use Rattle.std.proofs.lemmas.List.Elements.{All-push}
use Rattle.sc_definitions.specs.Statements.{powers, products}
use Rattle.sc_statements.specs.SelectStatements.{claims_of}
use Rattle.sc_statements.proofs.Selecting.{on-refusal, selects-point}
use Rattle.sc_statements.proofs.statement.select.SelectStatement.add_point_constraint.Goals as goal

-- no times anything is nothing
none-times : (m n : ℕ) → m ≡ 0 → m * n ≡ 0
none-times m n none = subst (λ k. k * n ≡ 0) (sym none) (omega arith)

-- one point and one value more are still as many
one-more : (scalars points values points' values' : ℕ) → scalars + points ≡ values → points' ≡ points + 1 → values' ≡ values + 1 → scalars + points' ≡ values'
one-more scalars points values points' values' before more longer = omega (arith, before, more, longer)

-- the statements end with the point and its value
pub returns-clause-ok : goal.returns-clause-ok
returns-clause-ok g c =
    let of : g.row.F.Denot → ℕ = λ x. g.EF.Algebra.embedding (g.F.Field.number x) in
    selects-point of g.EF.Field.number c.args.self.now c.args.point c.args.eval c.push_reserved.new.self.items c.push_reserved-2.new.self.items
    (c.push_reserved.ensures.items ∙ ap (λ l. l ++ c.args.point ∷ []) c.in_ok-reserve.ensures.items) (c.push_reserved-2.ensures.items ∙ ap (λ l. l ++ c.args.eval ∷ []) c.in_ok-reserve-2.ensures.items)

-- more memory leaves the points as they were
pub invariant_of-self : goal.invariant_of-self
invariant_of-self g c =
    let self = c.args.self.now in
    record {
      one_kind = ap (λ k. vec_len self.vars * k) c.reserve.ensures.len ∙ self.one_kind;
      aligned = ap (λ k. vec_len self.vars + k) c.reserve.ensures.len ∙ self.aligned;
      fits = subst (All (λ p. length p ≡ self.num_variables)) (sym c.reserve.ensures.items) self.fits;
    }

-- more memory leaves the points and the values as they were
pub invariant_of-self-in-Break-branch-2 : goal.invariant_of-self-in-Break-branch-2
invariant_of-self-in-Break-branch-2 g c =
    let self = c.args.self.now in
    record {
      one_kind = ap (λ k. vec_len self.vars * k) c.in_ok-reserve.ensures.len ∙ self.one_kind;
      aligned = ap (λ k. vec_len self.vars + k) c.in_ok-reserve.ensures.len ∙ self.aligned ∙ sym c.reserve-2.ensures.len;
      fits = subst (All (λ p. length p ≡ self.num_variables)) (sym c.in_ok-reserve.ensures.items) self.fits;
    }

-- with no scalar and one point more, there is one value more
pub invariant_of-self-2 : goal.invariant_of-self-2
invariant_of-self-2 g c =
    let self = c.args.self.now in
    let fit : List g.row.F.Denot → Type 0 = λ p. length p ≡ self.num_variables in
    let points : vec_len c.push_reserved.new.self ≡ vec_len self.points + 1 = c.push_reserved.ensures.len ∙ ap (λ k. k + 1) c.in_ok-reserve.ensures.len in
    let values : vec_len c.push_reserved-2.new.self ≡ vec_len self.evaluations + 1 = c.push_reserved-2.ensures.len ∙ ap (λ k. k + 1) c.in_ok-reserve-2.ensures.len in
    record {
      one_kind = none-times (vec_len self.vars) (vec_len c.push_reserved.new.self) (self.vars.ok.0 ∙ ap length c.requires.kind);
      aligned = one-more (vec_len self.vars) (vec_len self.points) (vec_len self.evaluations) _ _ self.aligned points values;
      fits = subst (All fit) (sym (c.push_reserved.ensures.items ∙ ap (λ l. l ++ c.args.point ∷ []) c.in_ok-reserve.ensures.items))
          (All-push fit self.points.items c.args.point self.fits c.requires.arity);
    }

-- a refusal leaves the statements as they were
pub returns-in_err-reserve-clause-ok : goal.returns-in_err-reserve-clause-ok
returns-in_err-reserve-clause-ok g c = IfOk-from_err c.from_residual.result _ c.from_residual.ensures.0

pub returns-in_err-reserve-clause-points : goal.returns-in_err-reserve-clause-points
returns-in_err-reserve-clause-points g c = IfOk-from_err c.from_residual.result _ c.from_residual.ensures.0

pub returns-in_err-reserve-clause-no_scalars : goal.returns-in_err-reserve-clause-no_scalars
returns-in_err-reserve-clause-no_scalars g c = c.requires.kind

pub returns-in_err-reserve-clause-refused : goal.returns-in_err-reserve-clause-refused
returns-in_err-reserve-clause-refused g c =
    let of : g.row.F.Denot → ℕ = λ x. g.EF.Algebra.embedding (g.F.Field.number x) in
    let number = g.EF.Field.number in
    let self = c.args.self.now in
    on-refusal c.from_residual.result _ (ap (λ l. claims_of (map (λ y. powers (of y)) self.vars.items ++ map (λ p. products (map of p)) l) (map number self.evaluations.items)) c.in_err-reserve.ensures.items)

pub returns-in_err-reserve-clause-refused_points : goal.returns-in_err-reserve-clause-refused_points
returns-in_err-reserve-clause-refused_points g c = on-refusal c.from_residual.result _ c.in_err-reserve.ensures.items

pub returns-in_err-reserve-2-clause-ok : goal.returns-in_err-reserve-2-clause-ok
returns-in_err-reserve-2-clause-ok g c = IfOk-from_err c.from_residual-in_err-reserve-2.result _ c.from_residual-in_err-reserve-2.ensures.0

pub returns-in_err-reserve-2-clause-points : goal.returns-in_err-reserve-2-clause-points
returns-in_err-reserve-2-clause-points g c = IfOk-from_err c.from_residual-in_err-reserve-2.result _ c.from_residual-in_err-reserve-2.ensures.0

pub returns-in_err-reserve-2-clause-no_scalars : goal.returns-in_err-reserve-2-clause-no_scalars
returns-in_err-reserve-2-clause-no_scalars g c = c.requires.kind

pub returns-in_err-reserve-2-clause-refused : goal.returns-in_err-reserve-2-clause-refused
returns-in_err-reserve-2-clause-refused g c =
    let of : g.row.F.Denot → ℕ = λ x. g.EF.Algebra.embedding (g.F.Field.number x) in
    let number = g.EF.Field.number in
    let self = c.args.self.now in
    on-refusal c.from_residual-in_err-reserve-2.result _ (ap (λ l. claims_of (map (λ y. powers (of y)) self.vars.items ++ map (λ p. products (map of p)) l) (map number c.reserve-2.new.self.items)) c.in_ok-reserve.ensures.items ∙ ap (λ l. claims_of (map (λ y. powers (of y)) self.vars.items ++ map (λ p. products (map of p)) self.points.items) (map number l)) c.in_err-reserve-2.ensures.items)

pub returns-in_err-reserve-2-clause-refused_points : goal.returns-in_err-reserve-2-clause-refused_points
returns-in_err-reserve-2-clause-refused_points g c = on-refusal c.from_residual-in_err-reserve-2.result _ c.in_ok-reserve.ensures.items
