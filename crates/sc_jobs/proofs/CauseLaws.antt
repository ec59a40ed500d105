-- What a refusal is caused by.
use Rattle.std.proofs.Common.{◌≡◌, ℕ, zero, suc, Bool, true, false, min, nat_lt, ◌==◌, ◌||◌, if◌then◌else◌, List, [], ◌∷◌, ◌++◌, take, Option, Some, None, Result, Ok, Err, IfErr, IsErrAnd, inl, refl, sym, ◌∙◌, ap, subst, append_assoc}
use Rattle.std.proofs.lemmas.List.{append-nil}
use Rattle.std.specs.List.{slice_get}
use Rattle.sc_definitions.specs.declared.events.Event.{Event}
use Rattle.sc_definitions.specs.Problem.{Problem}
use Rattle.sc_definitions.specs.Statements.{Kind, equality, successor, powers, products, Statement}
use Rattle.sc_definitions.specs.Tables.{Basis, evaluation, projective, Order}
use Rattle.sc_table.specs.declared.strategy.Strategy.{Strategy}
use Rattle.sc_table.specs.declared.strategy.Strategy.TheVariants.{Plain, Represented, SmallValue}
use Rattle.sc_definitions.specs.Events.{Rules, Extension}
use Rattle.sc_definitions.specs.Transcript.{Round, round_events, rounds_events}
use Rattle.sc_definitions.specs.Replays.{round_passes, AllPass, given_rounds}
use Rattle.sc_svo.specs.Grids.{most_rounds}
use Rattle.sc_jobs.specs.declared.report.Report.{Report}
use Rattle.sc_audit_errors.specs.declared.error.AuditError.{AuditError}
use Rattle.sc_audit_errors.specs.declared.error.AuditError.TheVariants.{StrategyUnfit, NoWitness, InvalidPowWitness, NoMemory}
use Rattle.sc_audit_errors.specs.declared.error.FitFault.TheVariants.{Variables}
use Rattle.sc_jobs.specs.Cases.{Task, build, check, Asked, start_of}
use Rattle.sc_audit_errors.specs.Arities.{arity_of}
use Rattle.sc_jobs.specs.Refusals.{shape_by, or_later, basis_refusal, small_refusal, variables_refusal, unfit, first_unfit, strategy_refusal, shape_refusal, task_refusal, refusal_of}
use Rattle.sc_jobs.specs.Audits.{WitnessFails, IsCaused, Answers, IsRefusedBy, PassesAll, IsValid, MayStopValid}

-- nothing is no error
pub no_error : (e : AuditError) → ◌≡◌ {A = Option AuditError} None (Some e) → ⊥
no_error e is = cc

-- ---- what is answered, by other names

pub answers_as : {F EF : Type 0} (base : F → ℕ) (number : EF → ℕ) (first first' : Option AuditError) (q q' : Asked) (r : Result (Report F EF) AuditError) (h : List Event) →
    first ≡ first' → q ≡ q' → Answers base number first q r h → Answers base number first' q' r h
answers_as base number first first' q q' r h ef eq p =
    subst (λ f. Answers base number f q' r h) ef (subst (λ t. Answers base number first t r h) eq p)

-- an error that is this one
pub caused_err : (first : Option AuditError) (q : Asked) (h : List Event) (e e' : AuditError) → e ≡ e' → IsCaused first q h e' → IsCaused first q h e
caused_err first q h e e' is p = subst (IsCaused first q h) (sym is) p

-- one that is passed on
pub answers_err : {F EF : Type 0} (base : F → ℕ) (number : EF → ℕ) (first : Option AuditError) (q : Asked) (r : Result (Report F EF) AuditError) (e : AuditError) (h : List Event) →
    IsErrAnd r (λ x. x ≡ e) → IsCaused first q h e → Answers base number first q r h
answers_err base number first q (Ok x) e h is p = elim is [ ]
answers_err base number first q (Err x) e h is p = subst (IsCaused first q h) (sym is) p

pub refused_err : (T : Type 0) (first : Option AuditError) (e e' : AuditError) → e ≡ e' → IsRefusedBy {T = T} first (Err e') → IsRefusedBy {T = T} first (Err e)
refused_err T first e e' is p = subst (λ t. IsRefusedBy {T = T} first (Err t)) (sym is) p

pub refused_by_name : {T : Type 0} (first first' : Option AuditError) (r : Result T AuditError) → first ≡ first' → IsRefusedBy first r → IsRefusedBy first' r
refused_by_name first first' r same p = subst (λ f. IsRefusedBy f r) same p

-- nothing is refused
pub unrefused : {T : Type 0} (first : Option AuditError) (r : Result T AuditError) → first ≡ None → IsRefusedBy first r
unrefused first r none = subst (λ f. IsRefusedBy f r) (sym none) tt

-- the refusal is answered
pub refused_as : (T : Type 0) (first : Option AuditError) (e : AuditError) → first ≡ Some e → IsRefusedBy {T = T} first (Err e)
refused_as T first e is = subst (λ f. IsRefusedBy {T = T} f (Err e)) (sym is) (inl refl)

-- ---- earlier refusals

-- nothing earlier refuses: the refusal is that of what is done
pub no_earlier : (q : Asked) → shape_refusal q ≡ None → task_refusal q ≡ refusal_of q
no_earlier q shape = sym (ap (λ t. or_later t (task_refusal q)) shape)

-- a shape by other names of the number of rows and of the greatest difficulty
pub shape_as : {rows rows' most most' : ℕ} (bits n : ℕ) (basis : Basis) (order : Order) (first : Option AuditError) → rows ≡ rows' → most ≡ most' →
    shape_by (arity_of rows) most rows bits n basis order ≡ first → shape_by (arity_of rows') most' rows' bits n basis order ≡ first
shape_as bits n basis order first er em is = rw (er, em) at is

-- ---- a strategy that does not fit

-- a refusal of a strategy, or none
abbrev IsUnfit : Option AuditError → Type 0
IsUnfit None = Unit {0}
IsUnfit (Some (StrategyUnfit fault)) = Unit {0}
IsUnfit (Some e) = ⊥

later_unfit : (a b : Option AuditError) → IsUnfit a → IsUnfit b → IsUnfit (or_later a b)
later_unfit None b p q = q
later_unfit (Some e) b p q = p

number_unfit : (bound variables : ℕ) (b : Bool) → IsUnfit (if b then Some (StrategyUnfit (Variables variables bound)) else None)
number_unfit bound variables true = tt
number_unfit bound variables false = tt

kind_unfit : (i : ℕ) (kind : Kind) → IsUnfit (unfit i kind)
kind_unfit i (equality zs) = tt
kind_unfit i (successor order [] zs) = tt
kind_unfit i (successor order (x ∷ selector) zs) = tt
kind_unfit i (powers z) = tt
kind_unfit i (products zs) = tt

first_is_unfit : (i : ℕ) (ss : List Statement) → IsUnfit (first_unfit i ss)
unfolding first_unfit
first_is_unfit i [] = tt
first_is_unfit i (s ∷ ss) = later_unfit (unfit i s.kind) (first_unfit (suc i) ss) (kind_unfit i s.kind) (first_is_unfit (suc i) ss)

basis_unfit : (basis : Basis) → IsUnfit (basis_refusal basis)
basis_unfit evaluation = tt
basis_unfit projective = tt

strategy_unfit : (p : Problem) (s : Strategy) → IsUnfit (strategy_refusal p s)
strategy_unfit p Plain = tt
strategy_unfit p Represented = basis_unfit p.basis
strategy_unfit p (SmallValue variables) =
    let bound = min p.variables most_rounds in
    later_unfit (basis_refusal p.basis) (small_refusal p.variables p.statements variables) (basis_unfit p.basis)
    (later_unfit (variables_refusal bound variables) (first_unfit 0 p.statements) (number_unfit bound variables (variables == 0 || nat_lt bound variables)) (first_is_unfit 0 p.statements))

caused_as : (first : Option AuditError) (q : Asked) (h : List Event) (e : AuditError) → IsUnfit (Some e) → first ≡ Some e → h ≡ q.history → IsCaused first q h e
caused_as first q h (StrategyUnfit fault) fits is kept = (is, kept)
caused_as first q h e fits is kept = absurd fits

-- what a strategy does not take is refused, and leaves the history
pub unfit_caused : (p : Problem) (s : Strategy) (rest : Option AuditError) (q : Asked) (h : List Event) (e : AuditError) → strategy_refusal p s ≡ Some e → h ≡ q.history →
    IsCaused (or_later (strategy_refusal p s) rest) q h e
unfit_caused p s rest q h e is kept =
    caused_as _ q h e (subst IsUnfit is (strategy_unfit p s)) (ap (λ r. or_later r rest) is) kept

-- ---- valid cases

-- a round of which each witness passes
passes_at : (R : Rules) (E : Extension) (bits : ℕ) (h : List Event) (rounds : List Round) (i : ℕ) (r : Round) → AllPass R E bits h rounds → slice_get rounds i ≡ Some r →
    round_passes R E bits (h ++ rounds_events E bits (take i rounds)) r ≡ true
passes_at R E bits h [] i r p is = cc
passes_at R E bits h (q ∷ rounds) zero r p is =
    let same : q ≡ r = cc in
    ap (λ t. round_passes R E bits t r) (append-nil h) ∙ ap (round_passes R E bits h) (sym same) ∙ p.0
passes_at R E bits h (q ∷ rounds) (suc i) r p is =
    ap (λ t. round_passes R E bits t r) (sym (append_assoc h (round_events E bits q) (rounds_events E bits (take i rounds))))
    ∙ passes_at R E bits (h ++ round_events E bits q) rounds i r p.1 is

-- no round fails where all pass
not_failing : (q : Asked) (i : ℕ) (h : List Event) (task : Task) → PassesAll q task → WitnessFails q task i h → ⊥
not_failing q i h (build strategy) all fails = fails
not_failing q i h (check None) all fails = fails
not_failing q i h (check (Some given)) all fails =
    let R = q.channel.rules in
    let E = q.channel.extension in
    let bits = q.channel.bits in
    let at = fails.at in
    let passes : round_passes R E bits at.last at.round ≡ true =
    ap (λ t. round_passes R E bits t at.round) at.replays.history ∙ passes_at R E bits (start_of q).history (given_rounds given.messages given.witnesses) i at.round all at.is in
    let clash : true ≡ false = sym passes ∙ at.test.fails in cc

-- what a valid case may meet
may_meet : (q : Asked) (h : List Event) (e : AuditError) → IsValid q → IsCaused (refusal_of q) q h e → MayStopValid e
may_meet q h (InvalidPowWitness i bits) valid found = absurd (not_failing q i h q.case.task valid.passes found.1)
may_meet q h (NoWitness i) valid found = tt
may_meet q h NoMemory valid found = tt
may_meet q h e valid found = absurd (no_error _ (sym valid.fits ∙ found.0))

pub valid_answered : {F EF : Type 0} (base : F → ℕ) (number : EF → ℕ) (q : Asked) (r : Result (Report F EF) AuditError) (h : List Event) →
    Answers base number (refusal_of q) q r h → IsValid q → IfErr r MayStopValid
valid_answered base number q (Ok r) h p valid = tt
valid_answered base number q (Err e) h p valid = may_meet q h e valid p
