-- The first false statement of a group, found one after the other.
use Rattle.std.proofs.Common.{◌≡◌, ◌≢◌, ℕ, suc, ◌+◌, ◌<◌, ◌≤◌, ◌↔◌, Bool, true, false, not, IsTrue, is_some, Option, Some, None, List, [], ◌∷◌, length, drop, slice_index, sym, ◌∙◌, ap, subst, refl, add-one}
use Rattle.std.proofs.lemmas.Bool.{true≢false}
use Rattle.std.proofs.lemmas.List.{drop_all}
use Rattle.sc_definitions.specs.declared.false_claim.FalseClaim.{FalseClaim}
use Rattle.sc_definitions.specs.Ring.{Ops}
use Rattle.sc_definitions.specs.Statements.{Statement, claimed_values, true_values, true_value, IsTrueOf, AllTrueOf, first_false_claim}
use Rattle.sc_definitions.proofs.StatementLaws.{first_false_claim-true, first_false_claim-false, first_false_claim-none}
use Rattle.sc_definitions.proofs.BuildLaws.{first_false_claim-all}
use Rattle.sc_statements.proofs.Places.{at-place, left-at, read-at}

-- ---- what a comparison of elements says

pub other_from_ne : (b : Bool) (P : Type 0) → (b ≡ true) ↔ P → true ≡ not b → ¬ P
other_from_ne true P says e = absurd (true≢false e)
other_from_ne false P says e = λ p. absurd (true≢false (sym (says.1 p)))

pub same_from_ne : (b : Bool) (P : Type 0) → (b ≡ true) ↔ P → false ≡ not b → P
same_from_ne true P says e = says.0 refl
same_from_ne false P says e = absurd (true≢false (sym e))

-- ---- one statement

module _ (o : Ops) (n : ℕ) (f : ℕ → ℕ) (i : ℕ) (s : Statement) (rest all : List Statement) where
  -- a statement that is true is passed over
  pub first_false-next : true_value o n f s.kind ≡ s.claimed → all ≡ s ∷ rest → first_false_claim o n f i all ≡ first_false_claim o n f (suc i) rest
  first_false-next true_is split = ap (first_false_claim o n f i) split ∙ first_false_claim-true o n f i s rest true_is

  -- one that is false is the first
  pub first_false-found : true_value o n f s.kind ≢ s.claimed → all ≡ s ∷ rest →
      first_false_claim o n f i all ≡ Some (record { statement = i; claimed = s.claimed; actual = true_value o n f s.kind })
  first_false-found other split = ap (first_false_claim o n f i) split ∙ first_false_claim-false o n f i s rest other

-- no statement is left
pub first_false-end : (o : Ops) (n : ℕ) (f : ℕ → ℕ) (i : ℕ) (all : List Statement) → all ≡ [] → first_false_claim o n f i all ≡ None
first_false-end o n f i all none = ap (first_false_claim o n f i) none ∙ first_false_claim-none o n f i

-- ---- the loop over the statements of one group

module _ (o : Ops) (n : ℕ) (f : ℕ → ℕ) (ss : List Statement) (i : ℕ) (so_far : first_false_claim o n f 0 ss ≡ first_false_claim o n f i (drop i ss)) where
  -- the statement at a place is true
  pub search-next : i < length ss → (claimed actual : ℕ) → claimed ≡ slice_index (claimed_values ss) i → actual ≡ slice_index (true_values o n f ss) i → actual ≡ claimed →
      first_false_claim o n f 0 ss ≡ first_false_claim o n f (i + 1) (drop (i + 1) ss)
  search-next low claimed actual claimed_is actual_is same =
      let there = at-place ss i low in
      let s = there.0 in
      let truth : true_value o n f s.kind ≡ s.claimed =
      sym (actual_is ∙ read-at (λ t. true_value o n f t.kind) ss i s there.1) ∙ same ∙ claimed_is ∙ read-at (λ t. t.claimed) ss i s there.1 in
      so_far ∙ first_false-next o n f i s (drop (i + 1) ss) (drop i ss) truth (left-at ss i s there.1)
      ∙ ap (λ k. first_false_claim o n f k (drop (i + 1) ss)) (sym (add-one i))

  -- the statement at a place is false
  pub search-found : i < length ss → (claimed actual claimed_told actual_told : ℕ) → claimed ≡ slice_index (claimed_values ss) i → actual ≡ slice_index (true_values o n f ss) i → actual ≢ claimed →
      claimed_told ≡ claimed → actual_told ≡ actual → Some (record { statement = i; claimed = claimed_told; actual = actual_told }) ≡ first_false_claim o n f 0 ss
  search-found low claimed actual claimed_told actual_told claimed_is actual_is other first second =
      let there = at-place ss i low in
      let s = there.0 in
      let claims_it : claimed ≡ s.claimed = claimed_is ∙ read-at (λ t. t.claimed) ss i s there.1 in
      let truth : actual ≡ true_value o n f s.kind = actual_is ∙ read-at (λ t. true_value o n f t.kind) ss i s there.1 in
      ap (λ v. Some (record { statement = i; claimed = v; actual = actual_told })) (first ∙ claims_it)
      ∙ ap (λ v. Some (record { statement = i; claimed = s.claimed; actual = v })) (second ∙ truth)
      ∙ sym (first_false-found o n f i s (drop (i + 1) ss) (drop i ss) (λ e. other (truth ∙ e ∙ sym claims_it)) (left-at ss i s there.1))
      ∙ sym so_far

  -- no statement is left
  pub search-end : length ss ≤ i → None ≡ first_false_claim o n f 0 ss
  search-end past = sym (first_false-end o n f i (drop i ss) (drop_all i ss past)) ∙ sym so_far

-- ---- no false statement

-- where all are true, none is false
pub first_false-none : (o : Ops) (n : ℕ) (f : ℕ → ℕ) (i : ℕ) (ss : List Statement) → AllTrueOf o n f ss → first_false_claim o n f i ss ≡ None
unfolding IsTrueOf
first_false-none o n f i [] all = first_false_claim-none o n f i
first_false-none o n f i (s ∷ ss) all = first_false_claim-true o n f i s ss all.0 ∙ first_false-none o n f (suc i) ss all.1

-- nothing is there exactly where the test whether something is, is false
none_from_test : {X : Type 0} (r : Option X) (none : Bool) → is_some r ≡ not none → IsTrue none ↔ (r ≡ None)
none_from_test None true e = ((λ _. refl), (λ _. refl))
none_from_test None false e = absurd (true≢false (sym e))
none_from_test (Some x) true e = absurd (true≢false e)
none_from_test (Some x) false e = ((λ t. absurd (true≢false (sym t))), (λ n. cc))

-- that none is false, as a test
pub all-true : (o : Ops) (n : ℕ) (f : ℕ → ℕ) (ss : List Statement) {found : Option FalseClaim} {none : Bool} → found ≡ first_false_claim o n f 0 ss → is_some found ≡ not none →
    IsTrue none ↔ AllTrueOf o n f ss
all-true o n f ss {found} {none} is test =
    let says : IsTrue none ↔ (found ≡ None) = none_from_test found none test in
    ((λ t. first_false_claim-all o n f 0 ss (sym is ∙ says.0 t)), (λ all. says.1 (is ∙ first_false-none o n f 0 ss all)))

-- the same of a table that is equal
pub all-true_of : (o : Ops) (n : ℕ) {f f' : ℕ → ℕ} (ss : List Statement) {none : Bool} → f ≡ f' → IsTrue none ↔ AllTrueOf o n f ss → IsTrue none ↔ AllTrueOf o n f' ss
all-true_of o n ss {none} same says = let P : (ℕ → ℕ) → Type 0 = λ t. IsTrue none ↔ AllTrueOf o n t ss in subst P same says
