-- Lists that are sorted by the numbers of their elements.
use Rattle.std.proofs.Common.{◌≡◌, ℕ, ◌+◌, ◌<◌, ◌≤◌, ◌≢◌, ◌==◌, List, [], ◌∷◌, length, map, set, get_or, sym, subst, ap, ◌∙◌, refl, ⊎_elim, inl, inr, Result, Ok, Err, eq-eqb, arith}
use Rattle.std.specs.List.{list_any}
use Rattle.std.specs.List.Sorted.{IsSearchInRange, IsBinarySearchResult, IsNonDecreasing, IsNonDecreasingBy, IsPermutation}
use Rattle.std.specs.Ordering.{nat_cmp, ordering_index}
use Rattle.std.specs.Result.{is_ok}
use Rattle.std.proofs.lemmas.Cmp.{ranked}
use Rattle.std.proofs.lemmas.List.{get_or-map, length-map, map-set, get_or-set_same, get_or-set_other}
use Rattle.std.proofs.lemmas.List.Folds.{list_any_at, list_any_none}
use Rattle.std.proofs.lemmas.List.Sorted.{list_any-IsPermutation, IsPermutation-refl, IsPermutation-map, IsPermutation-trans}
use Rattle.std.proofs.lemmas.Bool.{ne_eqb, cases_lt, cases_eq}
use Rattle.std.proofs.lemmas.Bool.Decides.{nat_tests}
use Rattle.sc_definitions.specs.Scripted.{scripted_rules, tests_in}

-- the numbers ascend where the elements do by their numbers
pub ascends : {X : Type 0} (number : X → ℕ) (xs : List X) → IsNonDecreasingBy number xs → IsNonDecreasing (map number xs)
ascends number [] up i j d le low = absurd (omega arith)
ascends number (x ∷ xs) up i j d le low =
    let many : length (map number (x ∷ xs)) ≡ length (x ∷ xs) = length-map (x ∷ xs) number in
    let first = get_or-map number (x ∷ xs) i x d (omega arith) in
    let second = get_or-map number (x ∷ xs) j x d (omega arith) in
    omega (arith, first, second, up i j x le (omega arith))

-- a search by halving tells whether the number stands in the list
pub found : {X : Type 0} (number : X → ℕ) (xs : List X) (w : ℕ) (r : Result ℕ ℕ) → IsNonDecreasing (map number xs) → IsSearchInRange r (length xs) →
    IsBinarySearchResult (λ y. nat_cmp (number y) w) xs r → is_ok r ≡ list_any (λ n. n == w) (map number xs)
found number [] w (Ok i) up bound h = absurd (omega arith)
found number [] w (Err i) up bound h = refl
found number (x ∷ xs) w (Ok i) up bound h =
    let many : length (map number (x ∷ xs)) ≡ length (x ∷ xs) = length-map (x ∷ xs) number in
    sym (list_any_at (λ n. n == w) (map number (x ∷ xs)) i 0 (omega arith)
    (eq-eqb _ w (get_or-map number (x ∷ xs) i x 0 bound ∙ ranked _ w _ (sym (h x)))))
found number (x ∷ xs) w (Err i) up bound h =
    let all = x ∷ xs in
    let many : length (map number all) ≡ length all = length-map all number in
    let rises : IsNonDecreasingBy (λ y. ordering_index (nat_cmp (number y) w)) all = λ a b d le low.
    higher (number (get_or all a d)) (number (get_or all b d))
    (omega (arith, get_or-map number all a d 0 (omega arith), get_or-map number all b d 0 low, up a b 0 le (omega arith))) in
    let parted = h rises in
    let other : (k : ℕ) → k < length all → number (get_or all k x) ≡ w → ⊥ = λ k low same.
    ⊎_elim
    (λ before. absurd (omega (arith, ranked _ w _ (sym (parted.0 k x (omega arith) before)))))
    (λ behind. absurd (omega (arith, ranked _ w _ (sym (parted.1 k x behind low)))))
    (cases_lt k i) in
    sym (list_any_none (λ n. n == w) (map number all) (λ k d low.
    ne_eqb _ w (λ same. other k (omega arith) (sym (get_or-map number all k x d (omega arith)) ∙ same))))
  where
    higher : (a b : ℕ) → a ≤ b → ordering_index (nat_cmp a w) ≤ ordering_index (nat_cmp b w)
    higher a b le = grind (arith, nat_tests)

-- the numbers of several lists
abbrev pub numbers : {L X : Type 0} → (X → ℕ) → (L → List X) → List L → List (List ℕ)
numbers number items vs = map (λ v. map number (items v)) vs

-- the first n lists are sorted, and each has the elements that it had
pub record SortsFirst (n : ℕ) (old new : List (List ℕ)) : Type 0 where
  pub sorted : (k : ℕ) (d : List ℕ) → k < n → IsNonDecreasing (get_or new k d)
  pub moved : (k : ℕ) → IsPermutation (get_or old k []) (get_or new k [])

pub begins : (old : List (List ℕ)) → SortsFirst 0 old old
begins old = record { sorted = λ k d low. absurd (omega arith); moved = λ k. IsPermutation-refl (get_or old k []) }

-- list number n is sorted
pub goes_on : {L X : Type 0} (number : X → ℕ) (items : L → List X) (n : ℕ) (old : List (List ℕ)) (vs : List L) (v v' : L) → n < length vs →
    IsNonDecreasing (map number (items v')) → IsPermutation (items (get_or vs n v)) (items v') → SortsFirst n old (numbers number items vs) →
    SortsFirst (n + 1) old (numbers number items (set vs n v'))
goes_on {L = L} number items n old vs v v' low up moved so =
    let f = λ (u : L). map number (items u) in
    let now = map f vs in
    let many : length now ≡ length vs = length-map vs f in
    let new = set now n (f v') in
    let here : (d : List ℕ) → get_or new n d ≡ f v' = λ d. get_or-set_same now n (f v') d (omega arith) in
    let there : (k : ℕ) (d : List ℕ) → k ≢ n → get_or new k d ≡ get_or now k d = λ k d other. get_or-set_other now n k (f v') d other in
    let before : get_or now n [] ≡ f (get_or vs n v) = get_or-map f vs n v [] low in
    let at_n : IsPermutation (get_or old n []) (get_or new n []) = subst (IsPermutation (get_or old n [])) (sym (here []))
    (IsPermutation-trans _ _ _ (so.moved n) (subst (λ l. IsPermutation l (f v')) (sym before) (IsPermutation-map number _ _ moved))) in
    subst (λ lists. SortsFirst (n + 1) old lists) (sym (map-set f vs n v')) record {
      sorted = λ k d le. elim (cases_eq k n) [
        | inl e ↦ subst IsNonDecreasing (sym (ap (λ j. get_or new j d) e ∙ here d)) up
        | inr other ↦ subst IsNonDecreasing (sym (there k d other)) (so.sorted k d (omega arith))
      ];
      moved = λ k. elim (cases_eq k n) [
        | inl e ↦ subst (λ j. IsPermutation (get_or old j []) (get_or new j [])) (sym e) at_n
        | inr other ↦ subst (IsPermutation (get_or old k [])) (sym (there k [] other)) (so.moved k)
      ];
    }

-- what the challenger answers does not depend on the order within its lists
pub same_rules : (draws : List ℕ) (n : ℕ) (old new : List (List ℕ)) → SortsFirst n old new → scripted_rules draws new ≡ scripted_rules draws old
same_rules draws n old new so = λ i. record {
  draw = (scripted_rules draws old).draw;
  passes = λ h bits w. sym (list_any-IsPermutation (λ x. x == w) _ _ (so.moved (tests_in h))) i;
  max_bits = 16;
}
