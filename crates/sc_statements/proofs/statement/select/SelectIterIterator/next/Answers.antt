use Rattle.std.proofs.Common.{◌≡◌, ℕ, List, [], ◌∷◌, length, refl, arith, ap, ◌∙◌}
use Rattle.sc_statements.specs.SelectIterators.{scalar_statements}
use Rattle.sc_statements.proofs.Places.{shorter-left}
use Rattle.sc_statements.proofs.statement.select.SelectIterIterator.next.Goals as goal

-- no scalar is no statement, and no value is none either
no-scalars : {F EF : Type 0} (of : F → ℕ) (number : EF → ℕ) (vars : List F) (values : List EF) → length vars ≡ 0 → scalar_statements of number vars values ≡ []
no-scalars of number [] values none = refl
no-scalars of number (v ∷ vars) values none = absurd (omega (arith, none))

no-values : {F EF : Type 0} (of : F → ℕ) (number : EF → ℕ) (vars : List F) (values : List EF) → length values ≡ 0 → scalar_statements of number vars values ≡ []
no-values of number [] values none = refl
no-values of number (v ∷ vars) [] none = refl
no-values of number (v ∷ vars) (w ∷ values) none = absurd (omega (arith, none))

-- the first scalar and the first value are the first statement
pub returns-clause-steps : goal.returns-clause-steps
returns-clause-steps g c =
    let of : g.row.F.Denot → ℕ = λ x. g.EF.Algebra.embedding (g.F.Field.number x) in
    let number = g.EF.Field.number in
    ap (λ l. scalar_statements of number l c.args.self.now.evaluations.now) c.in_ok-var.ensures.cases.0
    ∙ ap (λ l. scalar_statements of number (c.in_ok-var.var.now ∷ c.in_ok-var.vars.now) l) c.in_ok-eval.ensures.cases.0

-- no scalar is left
pub returns-in_err-var-clause-steps : goal.returns-in_err-var-clause-steps
returns-in_err-var-clause-steps g c =
    let of : g.row.F.Denot → ℕ = λ x. g.EF.Algebra.embedding (g.F.Field.number x) in
    let none = no-scalars of g.EF.Field.number c.args.self.now.vars.now c.args.self.now.evaluations.now c.in_err-var.ensures.cases in
    rw c.from_residual.ensures (none, none)

-- no value is left
pub returns-in_err-eval-clause-steps : goal.returns-in_err-eval-clause-steps
returns-in_err-eval-clause-steps g c =
    let of : g.row.F.Denot → ℕ = λ x. g.EF.Algebra.embedding (g.F.Field.number x) in
    let none = no-values of g.EF.Field.number c.args.self.now.vars.now c.args.self.now.evaluations.now c.in_err-eval.ensures.cases in
    rw c.from_residual-in_err-eval.ensures (none, none)

-- a statement fewer is left
pub returns-clause-goes : goal.returns-clause-goes
returns-clause-goes g c = record { on = λ _. (tt, tt, shorter-left _ _ _ (returns-clause-steps g c)); keeps = tt; rests = λ _. tt }

-- nothing is left
pub returns-in_err-var-clause-goes : goal.returns-in_err-var-clause-goes
returns-in_err-var-clause-goes g c = rw c.from_residual.ensures (record { on = λ _. tt; keeps = tt; rests = λ _. tt })

pub returns-in_err-eval-clause-goes : goal.returns-in_err-eval-clause-goes
returns-in_err-eval-clause-goes g c = rw c.from_residual-in_err-eval.ensures (record { on = λ _. tt; keeps = tt; rests = λ _. tt })
