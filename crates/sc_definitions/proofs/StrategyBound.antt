-- From a false claim on few lists of challenges are accepted, whatever the strategy.
use Rattle.std.proofs.Common.{◌≡◌, ◌≢◌, ℕ, zero, suc, ◌+◌, ◌*◌, ◌-◌, ◌/◌, ◌%◌, ◌^◌, ◌<◌, ◌≤◌, ◌==◌, Bool, true, false, List, [], ◌∷◌, ◌++◌, All, length, if◌then◌else◌, sym, ◌∙◌, ap, refl, subst, arith, ⊎_elim, eq-eqb, ne_eqb, append_assoc}
use Rattle.std.specs.Prelude.{bytes_eq}
use Rattle.std.proofs.lemmas.Bool.{cases_eq, cases_lt}
use Rattle.std.proofs.lemmas.List.{append-nil}
use Rattle.std.proofs.lemmas.List.Elements.{All-head, All-tail}
use Rattle.std.proofs.Math.Nat.{pow-suc, pow-succ', pow-zero, mod-eq_of_lt, mul-add-mod_self_right}
use Rattle.std.proofs.lemmas.Nat.{mul-le, div-mul-add, div-add-mod', mod_below}
use Rattle.sc_definitions.specs.Ring.{Ops, IsField, element, minus}
use Rattle.sc_definitions.specs.Tables.{IsOffered}
use Rattle.sc_definitions.specs.Rounds.{next_claim, claim_along}
use Rattle.sc_definitions.specs.Polynomials.{poly_at}
use Rattle.sc_definitions.specs.Roots.{count_below, root_count}
use Rattle.sc_definitions.specs.TwoTables.{TwoTables, true_claim_on, end_of}
use Rattle.sc_definitions.specs.Lucky.{round_excess}
use Rattle.sc_definitions.specs.Strategies.{StrategyEntry, strategy_message, messages_against, next_against, accepts, sum_of_counts, accepted, challenges_at, FewAccepted, CountsLists, HasNumber, ListsHaveNumbers}
use Rattle.sc_definitions.proofs.RingLaws.{size_pos, plus-opposite}
use Rattle.sc_definitions.proofs.RootCount.{root_count-few}
use Rattle.sc_definitions.proofs.BuildLaws.{true_claim-end}
use Rattle.sc_definitions.proofs.LuckyLaws.{claims-same, element-true, element-next, excess-at, excess-length}

-- ---- sums of whole numbers

-- it is bounded by the bounds of its places
count-most : (n k : ℕ) (f : ℕ → ℕ) → ((x : ℕ) → x < n → f x ≤ k) → sum_of_counts n f ≤ n * k
unfolding sum_of_counts
count-most zero k f h = omega arith
count-most (suc n) k f h =
    let before : sum_of_counts n f ≤ n * k = count-most n k f (λ x low. h x (omega arith)) in
    let here : f n ≤ k = h n (omega arith) in
    omega arith

-- ---- the lists that let a claim through, by the challenges that are still to come

module _ (o : Ops) (t : TwoTables) (s : List StrategyEntry) where
  -- no more lists than there are
  accepted-most : (m : ℕ) (rs : List ℕ) (claim : ℕ) → accepted o t s m rs claim ≤ o.size ^ m
  unfolding accepted
  accepted-most zero rs claim =
      subst (λ b. (if claim == end_of o t rs then 1 else 0) ≤ b) (sym (pow-zero o.size))
      (⊎_elim
      (λ yes. subst (λ b. (if b then 1 else 0) ≤ 1) (sym (eq-eqb claim (end_of o t rs) yes)) (omega arith))
      (λ no. subst (λ b. (if b then 1 else 0) ≤ 1) (sym (ne_eqb claim (end_of o t rs) no)) (omega arith))
      (cases_eq claim (end_of o t rs)))
  accepted-most (suc m) rs claim =
      subst (λ b. sum_of_counts o.size (λ x. accepted o t s m (rs ++ x ∷ []) (next_against o t s rs claim x)) ≤ b) (sym (pow-succ' o.size m))
      (count-most o.size (o.size ^ m) (λ x. accepted o t s m (rs ++ x ∷ []) (next_against o t s rs claim x)) (λ x _. accepted-most m (rs ++ x ∷ []) (next_against o t s rs claim x)))

  -- two values are sent
  answer-pair : (hs : List StrategyEntry) (rs : List ℕ) → (c : ℕ) × (q : ℕ) × (strategy_message hs rs ≡ c ∷ q ∷ [])
  unfolding strategy_message
  answer-pair [] rs = (0, 0, refl)
  answer-pair (h ∷ hs) rs = held (bytes_eq h.drawn rs) (answer-pair hs rs) where
    held : (b : Bool) → ((c : ℕ) × (q : ℕ) × (strategy_message hs rs ≡ c ∷ q ∷ [])) → (c : ℕ) × (q : ℕ) × ((if b then h.first ∷ h.second ∷ [] else strategy_message hs rs) ≡ c ∷ q ∷ [])
    held true rest = (h.first, h.second, refl)
    held false rest = rest

-- sums over the elements, where a count is small but for the roots of a polynomial
count-roots_apart : (o : Ops) (n k l t : ℕ) (cs : List ℕ) (f : ℕ → ℕ) →
    ((x : ℕ) → f x * t ≤ k) → ((x : ℕ) → (poly_at o cs x ≡ 0 → ⊥) → f x * t ≤ l) →
    sum_of_counts n f * t ≤ count_below n (λ x. poly_at o cs x == 0) * k + n * l
unfolding sum_of_counts count_below
count-roots_apart o zero k l t cs f most few = omega arith
count-roots_apart o (suc n) k l t cs f most few =
    let before : sum_of_counts n f * t ≤ count_below n (λ x. poly_at o cs x == 0) * k + n * l = count-roots_apart o n k l t cs f most few in
    let B = count_below n (λ x. poly_at o cs x == 0) in
    let C = sum_of_counts n f in
    let y = f n in
    ⊎_elim
    (λ yes. let here : y * t ≤ k = most n in
    subst (λ b. (C + y) * t ≤ ((if b then 1 else 0) + B) * k + suc n * l) (sym (eq-eqb (poly_at o cs n) 0 yes)) (omega arith))
    (λ no. let here : y * t ≤ l = few n no in
    subst (λ b. (C + y) * t ≤ ((if b then 1 else 0) + B) * k + suc n * l) (sym (ne_eqb (poly_at o cs n) 0 no)) (omega arith))
    (cases_eq (poly_at o cs n) 0)

module _ (o : Ops) (field : IsField o) (t : TwoTables) (offered : IsOffered t.basis t.order) (s : List StrategyEntry) where
  -- a claim that is false at the end is let through by nothing
  not_at_end : (rs : List ℕ) (claim : ℕ) → element o claim ≢ true_claim_on o t rs 0 → accepted o t s 0 rs claim ≡ 0
  unfolding accepted end_of
  not_at_end rs claim wrong =
      ap (λ b. if b then 1 else 0) (ne_eqb claim (end_of o t rs) (λ same.
      wrong (ap (element o) (same ∙ sym (true_claim-end o field.ring t.basis t.order offered t.table t.weights rs))
      ∙ element-true o field.ring t.basis t.order t.table t.weights rs 0)))

  -- what a pair sends less the true polynomial has at most two roots where the claim is false
  few_roots : (claim c q : ℕ) (rs : List ℕ) (m : ℕ) → element o claim ≢ true_claim_on o t rs (suc m) → root_count o (round_excess o t claim (c ∷ q ∷ []) rs m) ≤ 2
  unfolding round_excess
  few_roots claim c q rs m wrong =
      let few = root_count-few o field (round_excess o t claim (c ∷ q ∷ []) rs m) (λ zeros.
      wrong (claims-same o field.ring t.basis t.order offered t.table t.weights claim c q rs m zeros
      ∙ element-true o field.ring t.basis t.order t.table t.weights rs (suc m))) in
      omega (arith, few, excess-length o field.ring t claim c q rs m)

  -- and where it does not vanish the next claim is false
  next-differs : (claim c q : ℕ) (rs : List ℕ) (m x : ℕ) → (poly_at o (round_excess o t claim (c ∷ q ∷ []) rs m) x ≡ 0 → ⊥) →
      element o (next_claim t.basis o claim (c ∷ q ∷ []) x) ≢ true_claim_on o t (rs ++ x ∷ []) m
  next-differs claim c q rs m x not_root same =
      let next = next_claim t.basis o claim (c ∷ q ∷ []) x in
      not_root (excess-at o field.ring t offered claim c q rs m x
      ∙ ap (minus o next) (sym same ∙ element-next o field.ring t.basis claim (c ∷ q ∷ []) x) ∙ plus-opposite o field.ring next)

  few_step : (m : ℕ) (rs : List ℕ) (claim : ℕ) → element o claim ≢ true_claim_on o t rs (suc m) →
      ((x : ℕ) → element o (next_against o t s rs claim x) ≢ true_claim_on o t (rs ++ x ∷ []) m →
      accepted o t s m (rs ++ x ∷ []) (next_against o t s rs claim x) * o.size ≤ 2 * m * o.size ^ m) →
      accepted o t s (suc m) rs claim * o.size ≤ 2 * suc m * o.size ^ suc m
  unfolding accepted root_count
  few_step m rs claim wrong before =
      let n = o.size in
      let P = n ^ m in
      let pair = answer-pair o t s s rs in
      let c = pair.0 in let q = pair.1 in
      let cs = round_excess o t claim (c ∷ q ∷ []) rs m in
      let R = count_below n (λ x. poly_at o cs x == 0) in
      let F : ℕ → ℕ = λ x. accepted o t s m (rs ++ x ∷ []) (next_against o t s rs claim x) in
      let apart : sum_of_counts n F * n ≤ R * (P * n) + n * (2 * m * P) =
      count-roots_apart o n (P * n) (2 * m * P) n cs F
      (λ x. mul-le (F x) n P n (accepted-most o t s m (rs ++ x ∷ []) (next_against o t s rs claim x)) (omega arith))
      (λ x not_root. before x (λ same. next-differs claim c q rs m x not_root
      (ap (λ message. element o (next_claim t.basis o claim message x)) (sym pair.2) ∙ same))) in
      let few : R ≤ 2 = few_roots claim c q rs m wrong in
      let fewer : R * (P * n) ≤ 2 * (P * n) = mul-le R (P * n) 2 (P * n) few (omega arith) in
      subst (λ b. sum_of_counts n F * n ≤ 2 * suc m * b) (sym (pow-suc n m)) (omega arith)

  -- the bound, times the size
  few_by_size : (m : ℕ) (rs : List ℕ) (claim : ℕ) → element o claim ≢ true_claim_on o t rs m → accepted o t s m rs claim * o.size ≤ 2 * m * o.size ^ m
  few_by_size zero rs claim wrong = subst (λ a. a * o.size ≤ 2 * 0 * o.size ^ 0) (sym (not_at_end rs claim wrong)) (omega arith)
  few_by_size (suc m) rs claim wrong = few_step m rs claim wrong (λ x differs. few_by_size m (rs ++ x ∷ []) (next_against o t s rs claim x) differs)

  few_by_lists : (m claim : ℕ) → element o claim ≢ true_claim_on o t [] (suc m) → accepted o t s (suc m) [] claim ≤ 2 * suc m * o.size ^ m
  few_by_lists m claim wrong =
      let q = o.size in
      let a = accepted o t s (suc m) [] claim in
      let split : a * q ≤ 2 * suc m * (q ^ m * q) = subst (λ b. a * q ≤ 2 * suc m * b) (pow-suc q m) (few_by_size (suc m) [] claim wrong) in
      ⊎_elim
      (λ more. let least : suc (2 * suc m * q ^ m) * q ≤ a * q = mul-le (suc (2 * suc m * q ^ m)) q a q more (omega arith) in
      let some : 0 < q = size_pos o field.ring in absurd (omega arith))
      (λ done. done)
      (cases_lt (2 * suc m * q ^ m) a)

-- ---- the count is that of lists

count-split : (a b : ℕ) (test : ℕ → Bool) → count_below (a + b) test ≡ count_below a test + count_below b (λ k. test (a + k))
unfolding count_below
count-split a zero test =
    let e : a + 0 ≡ a = omega arith in
    let f : count_below a test ≡ count_below a test + 0 = omega arith in
    ap (λ n. count_below n test) e ∙ f
count-split a (suc b) test =
    let e : a + suc b ≡ suc (a + b) = omega arith in
    let h : ℕ = if test (a + b) then 1 else 0 in
    let x = count_below a test in
    let y = count_below b (λ k. test (a + k)) in
    let turn : h + (x + y) ≡ x + (h + y) = omega arith in
    ap (λ n. count_below n test) e ∙ ap (λ n. h + n) (count-split a b test) ∙ turn

none_below : (test : ℕ → Bool) → count_below 0 test ≡ 0
unfolding count_below
none_below test = refl

count-blocks : (n m : ℕ) (test : ℕ → Bool) → count_below (n * m) test ≡ sum_of_counts n (λ x. count_below m (λ k. test (x * m + k)))
unfolding sum_of_counts
count-blocks zero m test = let e : 0 * m ≡ 0 = omega arith in ap (λ k. count_below k test) e ∙ none_below test
count-blocks (suc n) m test =
    let e : suc n * m ≡ n * m + m = omega arith in
    ap (λ k. count_below k test) e ∙ count-split (n * m) m test ∙ ap (λ c. c + count_below m (λ k. test (n * m + k))) (count-blocks n m test)

counts-same : (n : ℕ) (f g : ℕ → ℕ) → ((x : ℕ) → x < n → f x ≡ g x) → sum_of_counts n f ≡ sum_of_counts n g
unfolding sum_of_counts
counts-same zero f g h = refl
counts-same (suc n) f g h =
    ap (λ c. c + f n) (counts-same n f g (λ x low. h x (omega arith))) ∙ ap (λ y. sum_of_counts n g + y) (h n (omega arith))

count-same : (n : ℕ) (test other : ℕ → Bool) → ((x : ℕ) → x < n → test x ≡ other x) → count_below n test ≡ count_below n other
unfolding count_below
count-same zero test other h = refl
count-same (suc n) test other h =
    ap (λ t. (if t then 1 else 0) + count_below n test) (h n (omega arith))
    ∙ ap (λ c. (if other n then 1 else 0) + c) (count-same n test other (λ x low. h x (omega arith)))

first_challenge : (q m x k : ℕ) → k < q ^ m → challenges_at q (suc m) (x * q ^ m + k) ≡ x ∷ challenges_at q m k
unfolding challenges_at
first_challenge q m x k low =
    let b = q ^ m in
    let high : (x * b + k) / b ≡ x = div-mul-add x b k low in
    let rest : (x * b + k) % b ≡ k = mul-add-mod_self_right x b k ∙ mod-eq_of_lt low in
    ap (λ d. d ∷ challenges_at q m ((x * b + k) % b)) high ∙ ap (λ r. x ∷ challenges_at q m r) rest

module _ (o : Ops) (t : TwoTables) (s : List StrategyEntry) where
  -- the claim that a list of further challenges leaves
  left_by : List ℕ → ℕ → List ℕ → ℕ
  left_by before claim rs = claim_along (next_claim t.basis o) claim (messages_against s before rs) rs

  accepted-lists : (m : ℕ) (rs : List ℕ) (claim : ℕ) →
      accepted o t s m rs claim ≡ count_below (o.size ^ m) (λ k. left_by rs claim (challenges_at o.size m k) == end_of o t (rs ++ challenges_at o.size m k))
  unfolding accepted left_by claim_along challenges_at count_below
  accepted-lists zero rs claim =
      let test : ℕ → Bool = λ k. claim == end_of o t (rs ++ []) in
      let one : (if test 0 then 1 else 0) ≡ (if test 0 then 1 else 0) + 0 = omega arith in
      ap (λ l. if claim == end_of o t l then 1 else 0) (sym (append-nil rs)) ∙ one ∙ ap (λ n. count_below n test) (sym (pow-zero o.size))
  accepted-lists (suc m) rs claim =
      let q = o.size in
      let test : ℕ → Bool = λ k. left_by rs claim (challenges_at q (suc m) k) == end_of o t (rs ++ challenges_at q (suc m) k) in
      counts-same q _ _ (λ x _.
      accepted-lists m (rs ++ x ∷ []) (next_claim t.basis o claim (strategy_message s rs) x)
      ∙ count-same (q ^ m) _ _ (λ k low.
      ap (λ l. left_by (rs ++ x ∷ []) (next_claim t.basis o claim (strategy_message s rs) x) (challenges_at q m k) == end_of o t l) (append_assoc rs (x ∷ []) (challenges_at q m k))
      ∙ sym (ap (λ l. left_by rs claim l == end_of o t (rs ++ l)) (first_challenge q m x k low))))
      ∙ sym (count-blocks q (q ^ m) test)
      ∙ ap (λ n. count_below n test) (sym (pow-succ' q m))

-- the count is that of the lists which are accepted
pub counts_lists : (o : Ops) → CountsLists o
unfolding accepts left_by
counts_lists o t n s claim = accepted-lists o t s n [] claim

-- few of them are accepted from a false claim on
pub few_accepted : (o : Ops) → IsField o → FewAccepted o
few_accepted o field t n s claim offered some wrong =
    let m = n - 1 in
    let more : suc m ≡ n = omega (arith, some) in
    subst (λ k. accepted o t s k [] claim ≤ 2 * k * o.size ^ m) more
    (few_by_lists o field t offered s m claim (subst (λ k. element o claim ≢ true_claim_on o t [] k) (sym more) wrong))

-- ---- each list has one number

power-pos : (q m : ℕ) → 0 < q → 0 < q ^ m
power-pos q zero some = subst (λ b. 0 < b) (sym (pow-zero q)) (omega arith)
power-pos q (suc m) some = subst (λ b. 0 < b) (sym (pow-succ' q m)) (mul-le 1 1 q (q ^ m) some (power-pos q m some))

digits-apart : (q m x k : ℕ) (xs : List ℕ) → challenges_at q (suc m) k ≡ x ∷ xs → (k / q ^ m ≡ x) × (challenges_at q m (k % q ^ m) ≡ xs)
unfolding challenges_at
digits-apart q m x k xs e = (cc, cc)

number-of : (q n : ℕ) (rs : List ℕ) → 0 < q → length rs ≡ n → All (λ r. r < q) rs → HasNumber q n rs
unfolding challenges_at
number-of q zero [] some long low = record {
  number = 0;
  low = subst (λ b. 0 < b) (sym (pow-zero q)) (omega arith);
  is = refl;
  only = λ k below _. (let one : k < 1 = subst (λ b. k < b) (pow-zero q) below in omega arith);
}
number-of q zero (x ∷ xs) some long low = absurd (omega (arith, long))
number-of q (suc m) [] some long low = absurd (omega (arith, long))
number-of q (suc m) (x ∷ xs) some long low =
    let W : ℕ → Type 0 = λ r. r < q in
    let b = q ^ m in
    let rest = number-of q m xs some (omega (arith, long)) (All-tail W x xs low) in
    let first : x < q = All-head W x xs low in
    let pos : 0 < b = power-pos q m some in
    record {
      number = x * b + rest.number;
      low = subst (λ n. x * b + rest.number < n) (sym (pow-succ' q m))
          (let least : suc x * b ≤ q * b = mul-le (suc x) b q b first (omega arith) in omega (arith, rest.low));
      is = first_challenge q m x rest.number rest.low ∙ ap (λ l. x ∷ l) rest.is;
      only = λ k below is.
          let apart = digits-apart q m x k xs is in
          let last : k % b ≡ rest.number = rest.only (k % b) (mod_below k b pos) apart.1 in
          sym (div-add-mod' k b) ∙ ap (λ h. h * b + k % b) apart.0 ∙ ap (λ l. x * b + l) last;
    }

pub lists_have_numbers : (o : Ops) → IsField o → ListsHaveNumbers o
lists_have_numbers o field n rs long low = number-of o.size n rs (size_pos o field.ring) long low
