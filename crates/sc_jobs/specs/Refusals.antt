-- What is refused before a round is played, in the order in which it is tested.
use Rattle.std.specs.Prelude.{ℕ, suc, ◌-◌, ◌^◌, ◌==◌, ◌||◌, List, [], ◌∷◌, length, min, nat_lt, if◌then◌else◌, Option, Some, None, Result, Ok, Err}
use Rattle.sc_definitions.specs.declared.false_claim.FalseClaim.{FalseClaim as FalseStatement}
use Rattle.sc_definitions.specs.Statements.{Kind, equality, successor, powers, products, Statement, first_false_claim}
use Rattle.sc_definitions.specs.Tables.{Basis, evaluation, projective, Order, prefix, suffix}
use Rattle.sc_definitions.specs.Problem.{Problem}
use Rattle.sc_constraints.specs.FalseClaims.{capped}
use Rattle.sc_transcript.specs.Data.{witness_count}
use Rattle.sc_table.specs.declared.strategy.Strategy.{Strategy}
use Rattle.sc_table.specs.declared.strategy.Strategy.TheVariants.{Plain, Represented, SmallValue}
use Rattle.sc_svo.specs.Grids.{most_rounds}
use Rattle.sc_audit_errors.specs.declared.error.AuditError.{AuditError}
use Rattle.sc_audit_errors.specs.declared.error.AuditError.TheVariants.{JobShape, StrategyUnfit, FalseClaim, MissingSumcheckData, RoundCountMismatch, PowWitnessCountMismatch}
use Rattle.sc_audit_errors.specs.declared.error.FitFault.TheVariants.{Projective, Variables, Select, Selector}
use Rattle.sc_audit_errors.specs.declared.error.ShapeFault.TheVariants.{TableLength, Difficulty, Arity, ProjectiveSuffix}
use Rattle.sc_audit_errors.specs.Arities.{arity_of}
use Rattle.sc_jobs.specs.Cases.{Given, Task, build, check, Asked}

-- the first refusal, or else the later one
abbrev pub or_later : Option AuditError → Option AuditError → Option AuditError
or_later (Some e) later = Some e
or_later None later = later

-- ---- the shape

-- a basis that is not offered with the order
abbrev pub offer_refusal : Basis → Order → Option AuditError
offer_refusal evaluation order = None
offer_refusal projective prefix = None
offer_refusal projective suffix = Some (JobShape ProjectiveSuffix)

-- the difficulty is above the challenger's bound, or else the statements are on another number of variables than the table has, or else the basis is not
-- offered with the order
abbrev pub shape_by : Option ℕ → ℕ → ℕ → ℕ → ℕ → Basis → Order → Option AuditError
shape_by None max_bits rows bits variables basis order = Some (JobShape (TableLength rows))
shape_by (Some n) max_bits rows bits variables basis order =
    if nat_lt max_bits bits then Some (JobShape (Difficulty bits max_bits))
    else (if n == variables then offer_refusal basis order else Some (JobShape (Arity n variables)))

-- a table whose number of rows is no power of two up to that of the greatest number of variables, or else one of these
abbrev pub shape_refusal : Asked → Option AuditError
shape_refusal q =
    shape_by (arity_of q.case.rows) q.channel.rules.max_bits q.case.rows q.channel.bits q.case.problem.variables q.case.problem.basis q.case.problem.order

-- ---- the strategy

-- a statement's number stands still at the last number of its type
abbrev pub told_number : ℕ → ℕ
told_number i = min i (2 ^ 64 - 1)

-- no variable, or more than this bound
abbrev pub variables_refusal : ℕ → ℕ → Option AuditError
variables_refusal bound variables = if variables == 0 || nat_lt bound variables then Some (StrategyUnfit (Variables variables bound)) else None

-- statement number i, where small-value rounds take none of its kind: a select, or a successor with a selector
abbrev pub unfit : ℕ → Kind → Option AuditError
unfit i (equality zs) = None
unfit i (successor order [] zs) = None
unfit i (successor order (x ∷ selector) zs) = Some (StrategyUnfit (Selector (told_number i)))
unfit i (powers z) = Some (StrategyUnfit (Select (told_number i)))
unfit i (products zs) = Some (StrategyUnfit (Select (told_number i)))

-- the first of them, of statements that are numbered from i on
unfoldable pub first_unfit : ℕ → List Statement → Option AuditError
first_unfit i [] = None
first_unfit i (s ∷ ss) = or_later (unfit i s.kind) (first_unfit (suc i) ss)

-- what small-value rounds for so many of n variables do not take: their number, or else a statement
abbrev pub small_refusal : ℕ → List Statement → ℕ → Option AuditError
small_refusal n ss variables = or_later (variables_refusal (min n most_rounds) variables) (first_unfit 0 ss)

-- coefficients, which the plain strategy alone takes
abbrev pub basis_refusal : Basis → Option AuditError
basis_refusal evaluation = None
basis_refusal projective = Some (StrategyUnfit Projective)

-- what a strategy does not take of a problem
abbrev pub strategy_refusal : Problem → Strategy → Option AuditError
strategy_refusal p Plain = None
strategy_refusal p Represented = basis_refusal p.basis
strategy_refusal p (SmallValue variables) = or_later (basis_refusal p.basis) (small_refusal p.variables p.statements variables)

-- ---- what is done

abbrev pub false_refusal : Option FalseStatement → Option AuditError
false_refusal (Some s) = Some (FalseClaim s.statement s.claimed s.actual)
false_refusal None = None

-- no proof, where there are variables
abbrev pub missing_refusal : ℕ → Option AuditError
missing_refusal n = if n == 0 then None else Some (MissingSumcheckData n)

-- a proof without one round for each variable, or else with another number of witnesses than they have
abbrev pub count_refusal : ℕ → ℕ → Given → Option AuditError
count_refusal n bits g =
    if length g.messages == n
    then (if length g.witnesses == witness_count bits n then None else Some (PowWitnessCountMismatch (witness_count bits n) (length g.witnesses)))
    else Some (RoundCountMismatch n (length g.messages))

-- what a build's strategy does not take, or else its first false statement; a proof's absence, or its counts
abbrev pub refusal_for : Asked → Task → Option AuditError
refusal_for q (build strategy) =
    or_later (strategy_refusal q.case.problem strategy)
    (false_refusal (capped (first_false_claim q.ops q.case.problem.variables q.case.problem.table 0 q.case.problem.statements)))
refusal_for q (check None) = missing_refusal q.case.problem.variables
refusal_for q (check (Some given)) = count_refusal q.case.problem.variables q.channel.bits given

abbrev pub task_refusal : Asked → Option AuditError
task_refusal q = refusal_for q q.case.task

-- the first refusal before a round is played, if there is one
abbrev pub refusal_of : Asked → Option AuditError
refusal_of q = or_later (shape_refusal q) (task_refusal q)

-- the refusal that a result is, if it is one
abbrev pub refusal_in : {T : Type 0} → Result T AuditError → Option AuditError
refusal_in (Ok x) = None
refusal_in (Err e) = Some e
