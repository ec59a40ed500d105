use Rattle.std.proofs.Common.{◌≡◌, [], true, false, map, sym, ◌∙◌, ap, arith}
use Rattle.sc_constraints.specs.Groups.{group_statements}
use Rattle.sc_statements.specs.SelectStatements.{select_statements}
use Rattle.sc_jobs.specs.Refusals.{first_unfit}
use Rattle.sc_jobs.proofs.UnfitLaws.{unfit-points, unfit-selects, unfit-none}
use Rattle.sc_jobs.proofs.fit.unfit_of_group.Goals as goal

pub returns-in-Eq : goal.returns-in-Eq
returns-in-Eq g c =
    let of = λ (x : g.row.F.Denot). g.EF.Algebra.embedding (g.F.Field.number x) in
    unfit-points g.EF.Field.number c.args.passed c.in-Eq.field-0.constraints.items
    ∙ ap (λ s. first_unfit c.args.passed (group_statements of g.EF.Field.number s)) (sym c.in-Eq.is)

-- there is none
pub returns-then-is_empty : goal.returns-then-is_empty
returns-then-is_empty g c =
    let of = λ (x : g.row.F.Denot). g.EF.Algebra.embedding (g.F.Field.number x) in
    sym (ap (λ s. first_unfit c.args.passed (group_statements of g.EF.Field.number s)) c.in-Select.is
    ∙ unfit-none c.args.passed _ (c.is_empty.ensures.0 c.if-is_empty.true))

-- the first is told
pub returns-else-is_empty : goal.returns-else-is_empty
returns-else-is_empty g c =
    let of = λ (x : g.row.F.Denot). g.EF.Algebra.embedding (g.F.Field.number x) in
    let s = c.in-Select.statement in
    let some : select_statements of g.EF.Field.number s ≡ [] → ⊥ = λ none. let clash : false ≡ true = sym c.if-is_empty.false ∙ c.is_empty.ensures.1 none in cc in
    unfit-selects c.args.passed of (map of) s.vars.items s.points.items (map g.EF.Field.number s.evaluations.items) (omega (arith, c.ranges.passed.fits)) some
    ∙ ap (λ s. first_unfit c.args.passed (group_statements of g.EF.Field.number s)) (sym c.in-Select.is)
