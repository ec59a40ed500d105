-- The first lucky challenge, from what the code finds.
use Rattle.std.proofs.Common.{◌≡◌, ℕ, zero, suc, ◌+◌, ◌<◌, List, [], ◌∷◌, ◌++◌, length, map, take, get_or, All, if◌then◌else◌, Option, Some, None, true, sym, ap, subst, ◌∙◌, arith, eq-eqb, ne_eqb, refl}
use Rattle.std.proofs.lemmas.List.{map-append}
use Rattle.std.proofs.lemmas.Grind.{take_at_read}
use Rattle.std.specs.Option.{option_map}
use Rattle.sc_definitions.specs.declared.false_claim.FalseClaim.{FalseClaim}
use Rattle.sc_definitions.specs.Ring.{Ops, IsRing, element, minus}
use Rattle.sc_definitions.specs.Statements.{Statement, claimed_values, true_value, batched_claim, first_false_claim, IsTrueOf, AllTrueOf}
use Rattle.sc_definitions.specs.Polynomials.{poly_at, AllZero}
use Rattle.sc_definitions.specs.Roots.{root_count}
use Rattle.sc_definitions.specs.Problem.{Problem, claim_of, weights_of}
use Rattle.sc_definitions.specs.TwoTables.{tables_in}
use Rattle.sc_definitions.specs.Lucky.{Turn, after_zeros, excess, batch_polynomial, true_claim_of, course_of, first_turn, LuckyChallenge, in_batch, luck_in, luck_of}
use Rattle.sc_definitions.proofs.RingLaws.{element-zero, plus-opposite}
use Rattle.sc_definitions.proofs.RootLaws.{same-from_minus}
use Rattle.sc_definitions.proofs.StatementLaws.{element-batched_by_powers}
use Rattle.sc_definitions.proofs.BuildLaws.{first_false_claim-all}
use Rattle.sc_definitions.proofs.LuckyLaws.{batch-at, batch-some, element-true}
use Rattle.sc_statements.proofs.FalseSteps.{first_false-none}
use Rattle.sc_rounds.specs.declared.product_polynomial.ProductPolynomial.{ProductPolynomial}
use Rattle.sc_rounds.specs.Products.{variables_in, sum_in, evals_in, weights_in}
use Rattle.sc_rounds.specs.Turns.{IsPairOf}
use Rattle.sc_rounds.proofs.TurnPairs.{offered_as}
use Rattle.sc_definitions.proofs.FindLaws.{finds-begin}
use Rattle.sc_audit_errors.specs.Findings.{holds, named}
use Rattle.sc_jobs.specs.Figures.{finding_by, false_claim_of}

-- the sum over a pair is the true claim of its problem
pub pair-truth : {F EF : Type 0} (o : Ops) → IsRing o → (number : EF → ℕ) (p : Problem) (pair : ProductPolynomial F EF) (t : ℕ) →
    IsPairOf number (tables_in o p) p.variables pair → t ≡ sum_in o number pair → t ≡ true_claim_of o p [] p.variables
pair-truth o ring number p pair t is sum =
    (finds-begin o ring (tables_in o p) (offered_as is.basis is.order pair.offered) (variables_in pair) (evals_in number pair) (weights_in number pair) t t [] [] is.evals is.weights sum).walks.truth
    ∙ ap (true_claim_of o p []) (sym is.variables)

module _ (o : Ops) (p : Problem) (messages : List (List ℕ)) (rs : List ℕ) where
  -- the batching challenge
  pub luck-batch : claim_of o p ≡ true_claim_of o p [] p.variables → luck_of o p messages rs ≡ Some (in_batch (batch_polynomial o p) (root_count o (batch_polynomial o p)))
  unfolding luck_of
  luck-batch same =
      ap (λ b. if b then Some (in_batch (batch_polynomial o p) (root_count o (batch_polynomial o p)))
      else option_map (luck_in o) (first_turn (course_of o p) 0 (claim_of o p) messages [] rs)) (eq-eqb _ _ same)

  -- or that of a round
  pub luck-round : (claim_of o p ≡ true_claim_of o p [] p.variables → ⊥) → (t : Option Turn) → t ≡ first_turn (course_of o p) 0 (claim_of o p) messages [] rs →
      luck_of o p messages rs ≡ option_map (luck_in o) t
  unfolding luck_of
  luck-round other t is =
      ap (λ b. if b then Some (in_batch (batch_polynomial o p) (root_count o (batch_polynomial o p)))
      else option_map (luck_in o) (first_turn (course_of o p) 0 (claim_of o p) messages [] rs)) (ne_eqb _ _ other)
      ∙ ap (option_map (luck_in o)) (sym is)

by_none : (fault : Option FalseClaim) (luck : Option LuckyChallenge) → ((c : FalseClaim) → fault ≡ Some c → ⊥) → holds ≡ finding_by true fault luck
by_none None luck never = refl
by_none (Some c) luck never = absurd (never c refl)

by_some : (fault : Option FalseClaim) (luck : Option LuckyChallenge) → (fault ≡ None → ⊥) → named luck ≡ finding_by true fault luck
by_some None luck some = absurd (some refl)
by_some (Some c) luck some = refl

no_claim : (c : FalseClaim) → None ≡ Some c → ⊥
no_claim c is = cc

-- ---- by what each statement claims too much

module _ (o : Ops) (ring : IsRing o) where
  excess-zero : (n : ℕ) (f : ℕ → ℕ) (ss : List Statement) → AllTrueOf o n f ss → AllZero o (map (excess o n f) ss)
  unfolding excess IsTrueOf
  excess-zero n f [] all = tt
  excess-zero n f (s ∷ ss) all =
      let none : minus o s.claimed (true_value o n f s.kind) ≡ 0 = ap (minus o s.claimed) all.0 ∙ plus-opposite o ring s.claimed in
      (ap (element o) none ∙ element-zero o ring, excess-zero n f ss all.1)

  zeros-first : (n : ℕ) (xs : List ℕ) → AllZero o xs → AllZero o (after_zeros n xs)
  zeros-first zero xs zeros = zeros
  zeros-first (suc n) xs zeros = (element-zero o ring, zeros-first n xs zeros)

  -- where all statements are true, they claim nothing too much
  batch-none : (p : Problem) → AllTrueOf o p.variables p.table p.statements → AllZero o (batch_polynomial o p)
  unfolding batch_polynomial
  batch-none p all = zeros-first p.initial _ (excess-zero p.variables p.table p.statements all)

  -- the batched claim is an element
  claim-element : (p : Problem) → element o (claim_of o p) ≡ claim_of o p
  unfolding claim_of batched_claim
  claim-element p = element-batched_by_powers o ring p.batching p.initial (claimed_values p.statements)

  -- what they claim too much vanishes at the batching challenge just where the batched claim is the true one
  pub batch-right : (p : Problem) → poly_at o (batch_polynomial o p) p.batching ≡ 0 → claim_of o p ≡ true_claim_of o p [] p.variables
  batch-right p vanishes =
      sym (claim-element p)
      ∙ same-from_minus o ring (claim_of o p) (true_claim_of o p [] p.variables) (sym (batch-at o ring p) ∙ vanishes)
      ∙ element-true o ring p.basis p.order p.table (weights_of o p) [] p.variables

  pub batch-wrong : (p : Problem) → (poly_at o (batch_polynomial o p) p.batching ≡ 0 → ⊥) → claim_of o p ≡ true_claim_of o p [] p.variables → ⊥
  batch-wrong p some right = some (batch-at o ring p ∙ ap (minus o (claim_of o p)) (sym right) ∙ plus-opposite o ring (claim_of o p))

  -- what is found, by that polynomial
  pub finding-none : (p : Problem) (luck : Option LuckyChallenge) → All (λ c. c < o.size) (claimed_values p.statements) → AllZero o (batch_polynomial o p) →
      holds ≡ finding_by true (false_claim_of o p) luck
  finding-none p luck low zeros =
      by_none (false_claim_of o p) luck (λ c is. batch-some o ring p low (λ all. no_claim c (sym (first_false-none o p.variables p.table 0 p.statements all) ∙ is)) zeros)

  pub finding-some : (p : Problem) (luck : Option LuckyChallenge) → (AllZero o (batch_polynomial o p) → ⊥) → named luck ≡ finding_by true (false_claim_of o p) luck
  finding-some p luck some =
      by_some (false_claim_of o p) luck (λ is. some (batch-none p (first_false_claim-all o p.variables p.table 0 p.statements is)))

-- ---- coefficients, one after the other

module _ {X : Type 0} (o : Ops) (number : X → ℕ) where
  zeros-joined : (ns : List ℕ) (n : ℕ) → AllZero o ns → element o n ≡ 0 → AllZero o (ns ++ n ∷ [])
  zeros-joined [] n all none = (none, tt)
  zeros-joined (m ∷ ns) n all none = (all.0, zeros-joined ns n all.1 none)

  -- they are zero so far, and one more is
  pub zeros-more : (xs : List X) (i : ℕ) (x : X) → i < length xs → x ≡ get_or xs i x → AllZero o (map number (take i xs)) → element o (number x) ≡ 0 →
      AllZero o (map number (take (i + 1) xs))
  zeros-more xs i x low read so_far none =
      subst (λ ys. AllZero o (map number ys)) (sym ((take_at_read xs i x low).1 ∙ ap (λ t. take i xs ++ t ∷ []) (sym read)))
      (subst (AllZero o) (sym (map-append number (take i xs) (x ∷ []))) (zeros-joined (map number (take i xs)) (number x) so_far none))

  -- where all are zero, each one is
  pub zeros-at : (xs : List X) (i : ℕ) (d : X) → i < length xs → AllZero o (map number xs) → element o (number (get_or xs i d)) ≡ 0
  zeros-at [] i d low all = absurd (omega (arith, low))
  zeros-at (x ∷ xs) zero d low all = all.0
  zeros-at (x ∷ xs) (suc i) d low all = zeros-at xs i d (omega (arith, low)) all.1
