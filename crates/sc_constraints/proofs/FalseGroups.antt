-- The first false statement over several groups, and its number, capped.
use Rattle.std.proofs.Common.{◌≡◌, ℕ, suc, ◌+◌, ◌-◌, ◌^◌, min, if◌then◌else◌, ◌<◌, ◌≤◌, Bool, true, false, Option, Some, None, List, [], ◌∷◌, ◌++◌, length, All, get_or, take, drop, sym, ◌∙◌, ap, refl, arith}
use Rattle.std.specs.List.{flat_map}
use Rattle.std.specs.Option.{option_map}
use Rattle.std.proofs.lemmas.List.{length-append, drop_all}
use Rattle.sc_definitions.specs.declared.false_claim.FalseClaim.{FalseClaim}
use Rattle.sc_definitions.specs.Ring.{Ops}
use Rattle.sc_definitions.specs.Statements.{Statement, true_value, is_true_of, first_false_claim}
use Rattle.sc_constraints.specs.FalseClaims.{capped}
use Rattle.sc_statements.proofs.FalseSteps.{first_false-end}
use Rattle.sc_constraints.proofs.GroupSteps.{groups-more, groups-split, arity-of}

-- with a number that is p larger
abbrev pub moved : ℕ → FalseClaim → FalseClaim
moved p c = record { statement = p + c.statement; claimed = c.claimed; actual = c.actual }

module _ (o : Ops) (n : ℕ) (f : ℕ → ℕ) where
  behind-step : (i : ℕ) (ss rest : List Statement) (c : FalseClaim) (b : Bool) → (first_false_claim o n f (suc i) ss ≡ None → first_false_claim o n f (suc i) (ss ++ rest) ≡ first_false_claim o n f (suc i + length ss) rest) →
      (if b then first_false_claim o n f (suc i) ss else Some c) ≡ None → (if b then first_false_claim o n f (suc i) (ss ++ rest) else Some c) ≡ first_false_claim o n f (i + suc (length ss)) rest
  behind-step i ss rest c true others none =
      let more : suc i + length ss ≡ i + suc (length ss) = omega arith in
      others none ∙ ap (λ k. first_false_claim o n f k rest) more
  behind-step i ss rest c false others none = cc

  -- after statements that are true
  pub first_false-behind : (i : ℕ) (ss rest : List Statement) → first_false_claim o n f i ss ≡ None → first_false_claim o n f i (ss ++ rest) ≡ first_false_claim o n f (i + length ss) rest
  unfolding first_false_claim
  first_false-behind i [] rest none = let same : i ≡ i + 0 = omega arith in ap (λ k. first_false_claim o n f k rest) same
  first_false-behind i (s ∷ ss) rest none =
      behind-step i ss rest (record { statement = i; claimed = s.claimed; actual = true_value o n f s.kind }) (is_true_of o n f s) (first_false-behind (suc i) ss rest) none

  within-step : (i : ℕ) (ss rest : List Statement) (c d : FalseClaim) (b : Bool) → (first_false_claim o n f (suc i) ss ≡ Some d → first_false_claim o n f (suc i) (ss ++ rest) ≡ Some d) →
      (if b then first_false_claim o n f (suc i) ss else Some c) ≡ Some d → (if b then first_false_claim o n f (suc i) (ss ++ rest) else Some c) ≡ Some d
  within-step i ss rest c d true others some = others some
  within-step i ss rest c d false others some = some

  -- one that is found stays the first
  pub first_false-within : (i : ℕ) (ss rest : List Statement) (d : FalseClaim) → first_false_claim o n f i ss ≡ Some d → first_false_claim o n f i (ss ++ rest) ≡ Some d
  unfolding first_false_claim
  first_false-within i [] rest d some = cc
  first_false-within i (s ∷ ss) rest d some =
      within-step i ss rest (record { statement = i; claimed = s.claimed; actual = true_value o n f s.kind }) d (is_true_of o n f s) (first_false-within (suc i) ss rest d) some

  moved-step : (p i : ℕ) (ss : List Statement) (claimed actual : ℕ) (b : Bool) → first_false_claim o n f (suc (p + i)) ss ≡ option_map (moved p) (first_false_claim o n f (suc i) ss) →
      (if b then first_false_claim o n f (suc (p + i)) ss else Some (record { statement = p + i; claimed = claimed; actual = actual }))
      ≡ option_map (moved p) (if b then first_false_claim o n f (suc i) ss else Some (record { statement = i; claimed = claimed; actual = actual }))
  moved-step p i ss claimed actual true others = others
  moved-step p i ss claimed actual false others = refl

  -- numbers that begin p later
  pub first_false-moved : (p i : ℕ) (ss : List Statement) → first_false_claim o n f (p + i) ss ≡ option_map (moved p) (first_false_claim o n f i ss)
  unfolding first_false_claim
  first_false-moved p i [] = refl
  first_false-moved p i (s ∷ ss) =
      let next : p + suc i ≡ suc (p + i) = omega arith in
      moved-step p i ss s.claimed (true_value o n f s.kind) (is_true_of o n f s)
      (ap (λ k. first_false_claim o n f k ss) (sym next) ∙ first_false-moved p (suc i) ss)

  below-step : (i : ℕ) (ss : List Statement) (c d : FalseClaim) (b : Bool) → c.statement ≡ i → (first_false_claim o n f (suc i) ss ≡ Some d → d.statement < suc i + length ss) →
      (if b then first_false_claim o n f (suc i) ss else Some c) ≡ Some d → d.statement < i + suc (length ss)
  below-step i ss c d true first others some = omega (arith, others some)
  below-step i ss c d false first others some = let same : c ≡ d = cc in omega (arith, ap (λ x. x.statement) same, first)

  pub first_false-below : (i : ℕ) (ss : List Statement) (d : FalseClaim) → first_false_claim o n f i ss ≡ Some d → d.statement < i + length ss
  unfolding first_false_claim
  first_false-below i [] d some = cc
  first_false-below i (s ∷ ss) d some =
      below-step i ss (record { statement = i; claimed = s.claimed; actual = true_value o n f s.kind }) d (is_true_of o n f s) refl (first_false-below (suc i) ss d) some

-- ---- its number, capped

capped-small : (r : Option FalseClaim) → ((d : FalseClaim) → r ≡ Some d → d.statement < 2 ^ 64) → capped r ≡ r
capped-small None few = refl
capped-small (Some d) few =
    let small : min d.statement (2 ^ 64 - 1) ≡ d.statement = omega (arith, few d refl) in
    ap (λ k. Some (record { statement = k; claimed = d.claimed; actual = d.actual })) small

capped-moved : (p number : ℕ) (c : FalseClaim) (r : Option FalseClaim) → number ≡ min (p + c.statement) (2 ^ 64 - 1) → r ≡ Some (moved p c) →
    Some (record { statement = number; claimed = c.claimed; actual = c.actual }) ≡ capped r
capped-moved p number c r number_is is =
    ap (λ k. Some (record { statement = k; claimed = c.claimed; actual = c.actual })) number_is ∙ ap capped (sym is)

-- the number of one of so few statements is exact
pub capped-exact : (o : Ops) (n : ℕ) (f : ℕ → ℕ) (ss : List Statement) → length ss < 2 ^ 64 → capped (first_false_claim o n f 0 ss) ≡ first_false_claim o n f 0 ss
capped-exact o n f ss few = capped-small (first_false_claim o n f 0 ss) (λ d some. omega (arith, few, first_false-below o n f 0 ss d some))

-- ---- the loop over the groups

none_from_default : {X : Type 0} (r : Option X) → ((x : X) → r ≡ Some x → ⊥) → r ≡ None
none_from_default None other = refl
none_from_default (Some x) other = absurd (other x refl)

-- so many statements are true and passed, as they are counted; the first false one is among those of the groups from i on
pub record IsSearched {G : Type 0} (statements_of : G → List Statement) (o : Ops) (n : ℕ) (f : ℕ → ℕ) (groups : List G) (i passed : ℕ) : Type 0 where
  pub counted : passed ≡ min (length (flat_map statements_of (take i groups))) (2 ^ 64 - 1)
  pub found : first_false_claim o n f 0 (flat_map statements_of groups) ≡ first_false_claim o n f (length (flat_map statements_of (take i groups))) (flat_map statements_of (drop i groups))

module _ {G : Type 0} (statements_of : G → List Statement) (arity : G → ℕ) (o : Ops) (n : ℕ) (f : ℕ → ℕ) (groups all : List G) (i passed : ℕ) where
  -- what is found in the group at a place, as if it were alone
  here : (x : G) (found : Option FalseClaim) → All (λ y. arity y ≡ n) all → groups ≡ all → i < length groups → x ≡ get_or groups i x → found ≡ first_false_claim o (arity x) f 0 (statements_of x) →
      (p : ℕ) → first_false_claim o n f p (statements_of x) ≡ option_map (moved p) found
  here x found fits same low at is p =
      let none : p ≡ p + 0 = omega arith in
      ap (λ k. first_false_claim o n f k (statements_of x)) none ∙ first_false-moved o n f p 0 (statements_of x)
      ∙ ap (λ m. option_map (moved p) (first_false_claim o m f 0 (statements_of x))) (sym (arity-of arity n groups all i x fits same low at))
      ∙ ap (option_map (moved p)) (sym is)

  -- the group at a place has none
  pub IsSearched-more : (x : G) (found : Option FalseClaim) (count passed' : ℕ) → IsSearched statements_of o n f groups i passed → All (λ y. arity y ≡ n) all → groups ≡ all → i < length groups → x ≡ get_or groups i x →
      found ≡ first_false_claim o (arity x) f 0 (statements_of x) → ((c : FalseClaim) → found ≡ Some c → ⊥) → count ≡ length (statements_of x) → passed' ≡ min (passed + count) (2 ^ 64 - 1) →
      IsSearched statements_of o n f groups (i + 1) passed'
  IsSearched-more x found count passed' so_far fits same low at is other count_is passed_is =
      let done = flat_map statements_of (take i groups) in
      let p = length done in
      let rest = flat_map statements_of (drop (i + 1) groups) in
      let size : length (flat_map statements_of (take (i + 1) groups)) ≡ p + length (statements_of x) =
      ap length (groups-more statements_of groups i x low at) ∙ length-append done (statements_of x) in
      let none : first_false_claim o n f p (statements_of x) ≡ None = here x found fits same low at is p ∙ ap (option_map (moved p)) (none_from_default found other) in
      record {
        counted = omega (arith, passed_is, count_is, so_far.counted, size);
        found = so_far.found ∙ ap (first_false_claim o n f p) (groups-split statements_of groups i x low at)
            ∙ first_false-behind o n f p (statements_of x) rest none ∙ ap (λ k. first_false_claim o n f k rest) (sym size);
      }

  -- the group at a place has the first
  pub capped-found : (x : G) (found : Option FalseClaim) (c : FalseClaim) (number : ℕ) → IsSearched statements_of o n f groups i passed → All (λ y. arity y ≡ n) all → groups ≡ all → i < length groups → x ≡ get_or groups i x →
      found ≡ first_false_claim o (arity x) f 0 (statements_of x) → found ≡ Some c → number ≡ min (passed + c.statement) (2 ^ 64 - 1) →
      Some (record { statement = number; claimed = c.claimed; actual = c.actual }) ≡ capped (first_false_claim o n f 0 (flat_map statements_of all))
  capped-found x found c number so_far fits same low at is some number_is =
      let p = length (flat_map statements_of (take i groups)) in
      let rest = flat_map statements_of (drop (i + 1) groups) in
      let first : first_false_claim o n f 0 (flat_map statements_of groups) ≡ Some (moved p c) =
      so_far.found ∙ ap (first_false_claim o n f p) (groups-split statements_of groups i x low at)
      ∙ first_false-within o n f p (statements_of x) rest (moved p c) (here x found fits same low at is p ∙ ap (option_map (moved p)) some) in
      let number_at : number ≡ min (p + c.statement) (2 ^ 64 - 1) = omega (arith, so_far.counted, number_is) in
      capped-moved p number c (first_false_claim o n f 0 (flat_map statements_of groups)) number_at first
      ∙ ap (λ l. capped (first_false_claim o n f 0 (flat_map statements_of l))) same

  -- no group is left
  pub capped-none : IsSearched statements_of o n f groups i passed → groups ≡ all → length groups ≤ i → None ≡ capped (first_false_claim o n f 0 (flat_map statements_of all))
  capped-none so_far same past =
      ap capped (sym (so_far.found ∙ first_false-end o n f _ _ (ap (flat_map statements_of) (drop_all i groups past))))
      ∙ ap (λ l. capped (first_false_claim o n f 0 (flat_map statements_of l))) same
