-- Tests of claims.
use Rattle.std.proofs.Common.{◌≡◌, ℕ, zero, suc, ◌<◌, List, [], ◌∷◌, length, map, get_or, slice_index, Option, Some, None, Result, Ok, Err, IsErrAnd, inl, inr, sym, ◌∙◌, ap, refl, subst, arith}
use Rattle.sc_definitions.specs.declared.false_claim.FalseClaim.{FalseClaim as FalseStatement}
use Rattle.sc_definitions.specs.declared.events.Event.{Event}
use Rattle.sc_definitions.specs.Ring.{Ops}
use Rattle.sc_definitions.specs.Problem.{Problem}
use Rattle.sc_constraints.specs.FalseClaims.{capped}
use Rattle.sc_audit_errors.specs.declared.error.AuditError.{AuditError}
use Rattle.sc_audit_errors.specs.declared.error.AuditError.TheVariants.{FalseClaim, NoMemory}
use Rattle.sc_jobs.specs.Cases.{Asked}
use Rattle.sc_jobs.specs.Refusals.{false_refusal, refusal_in}
use Rattle.sc_jobs.specs.Figures.{false_claim_of}
use Rattle.sc_jobs.specs.Audits.{IsCaused, IsRefusedBy}
use Rattle.sc_jobs.specs.Taken.{RefusesClaim, TestsClaims}
use Rattle.sc_jobs.proofs.CauseLaws.{refused_as}

-- the number of an entry at a place
pub read_there : {X : Type 0} (number : X → ℕ) (xs : List X) (i : ℕ) (x : X) → i < length xs → x ≡ get_or xs i x → number x ≡ slice_index (map number xs) i
read_there number [] i x low is = absurd (omega (arith, low))
read_there number (y ∷ ys) zero x low is = ap number is
read_there number (y ∷ ys) (suc i) x low is = read_there number ys i x (omega (arith, low)) is

-- ---- what is refused

nothing_false : (found : Option FalseStatement) → ◌≡◌ {A = Option AuditError} None (false_refusal found) → found ≡ None
nothing_false None none = refl
nothing_false (Some s) none = cc

nothing_capped : (found : Option FalseStatement) → capped found ≡ None → found ≡ None
nothing_capped None none = refl
nothing_capped (Some s) none = cc

-- the first false statement is refused, if there is one
pub tests_by : {X : Type 0} (o : Ops) (p : Problem) (found : Option FalseStatement) (r : Result X AuditError) → found ≡ capped (false_claim_of o p) → refusal_in r ≡ false_refusal found →
    TestsClaims o p r
tests_by o p found (Ok x) is same = nothing_capped (false_claim_of o p) (sym is ∙ nothing_false found same)
tests_by o p found (Err NoMemory) is same = tt
tests_by o p found (Err e) is same = ap false_refusal (sym is) ∙ sym same

-- the same of an error that is passed on
pub tests_err : {X : Type 0} (o : Ops) (p : Problem) (found : Option FalseStatement) (r : Result X AuditError) (e : AuditError) → IsErrAnd r (λ x. x ≡ e) → found ≡ capped (false_claim_of o p) →
    Some e ≡ false_refusal found → TestsClaims o p r
tests_err o p found (Ok x) e which is same = elim which [ ]
tests_err {X = X} o p found (Err x) e which is same = tests_by {X = X} o p found (Err x) is (ap Some which ∙ same)

-- ---- what it is caused by

-- a refusal that is passed on
pub refused_passed : (T : Type 0) (first : Option AuditError) (r : Result T AuditError) (e : AuditError) → IsErrAnd r (λ x. x ≡ e) → IsRefusedBy {T = T} first (Err e) → IsRefusedBy first r
refused_passed T first (Ok x) e which p = elim which [ ]
refused_passed T first (Err x) e which p = subst (λ t. IsRefusedBy {T = T} first (Err t)) (sym which) p

-- the refusal of a false claim, or none
abbrev IsFalse : Option AuditError → Type 0
IsFalse None = Unit {0}
IsFalse (Some (FalseClaim statement claimed actual)) = Unit {0}
IsFalse (Some e) = ⊥

is_false : (found : Option FalseStatement) → IsFalse (false_refusal found)
is_false None = tt
is_false (Some s) = tt

module _ (o : Ops) (p : Problem) where
  false_is : (e : AuditError) → false_refusal (capped (false_claim_of o p)) ≡ Some e → IsFalse (Some e)
  false_is e is = subst IsFalse is (is_false (capped (false_claim_of o p)))

  -- the refusal of a test leaves the history
  pub claims_caused : (first : Option AuditError) (q : Asked) (h : List Event) (e : AuditError) → RefusesClaim o p e →
      first ≡ false_refusal (capped (false_claim_of o p)) → h ≡ q.history → IsCaused first q h e
  claims_caused first q h NoMemory tests same kept = inl kept
  claims_caused first q h (FalseClaim statement claimed actual) tests same kept = (same ∙ tests, kept)
  claims_caused first q h e tests same kept = absurd (false_is e tests)

  without_memory : (T : Type 0) (first : Option AuditError) → IsRefusedBy {T = T} first (Err NoMemory)
  without_memory T None = tt
  without_memory T (Some e) = inr refl

  -- and is the one that there is
  pub claims_refused : (T : Type 0) (first : Option AuditError) (e : AuditError) → RefusesClaim o p e →
      first ≡ false_refusal (capped (false_claim_of o p)) → IsRefusedBy {T = T} first (Err e)
  claims_refused T first NoMemory tests same = without_memory T first
  claims_refused T first (FalseClaim statement claimed actual) tests same = refused_as T first (FalseClaim statement claimed actual) (same ∙ tests)
  claims_refused T first e tests same = absurd (false_is e tests)
