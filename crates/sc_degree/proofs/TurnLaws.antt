-- The loop that finds the round which turned the claim of a product of tables.
use Rattle.std.proofs.Common.{◌≡◌, ℕ, zero, suc, ◌+◌, ◌-◌, ◌<◌, ◌≤◌, List, [], ◌∷◌, ◌++◌, length, take, drop, map, get_or, Some, None, sym, ◌∙◌, ap, refl, subst, arith, append_assoc, length-append}
use Rattle.std.proofs.lemmas.List.{length-map, length-drop, append-nil, take-append-drop, take_all, drop_all, drop-map}
use Rattle.std.proofs.lemmas.List.FromFn.{length-map-range_with_len}
use Rattle.sc_definitions.specs.Ring.{Ops, IsRing, IsField, element, plus, opposite, minus}
use Rattle.sc_definitions.specs.Polynomials.{poly_minus, AllZero}
use Rattle.sc_definitions.specs.Interpolation.{node_values, sent_through, next_through}
use Rattle.sc_definitions.specs.Products.{values_product, product_claim, product_round, honest_values}
use Rattle.sc_definitions.specs.Lucky.{product_excess, product_course, first_turn}
use Rattle.sc_definitions.proofs.RingLaws.{element-plus}
use Rattle.sc_definitions.proofs.RootLaws.{same-from_minus}
use Rattle.sc_definitions.proofs.InterpolationLaws.{length-through, agree_everywhere, next-honest, honest_next}
use Rattle.sc_definitions.proofs.ProductLaws.{product_round-length, product_claim-split, product_claim-end}
use Rattle.sc_definitions.proofs.TurnLaws.{turn-here, turn-later}
use Rattle.sc_degree.specs.Provers.{Prover, IsFolded}
use Rattle.sc_degree.specs.Products.{prover_of}
use Rattle.sc_degree.proofs.CoefficientLaws.{drop-next}
use Rattle.sc_degree.proofs.PlayLaws.{folded-more}

-- ---- challenges that are folded in

-- one more is taken
pub take-next : {X : Type 0} (number : X → ℕ) (xs : List X) (i : ℕ) (x : X) → i < length xs → x ≡ get_or xs i x →
    take (i + 1) (map number xs) ≡ take i (map number xs) ++ number x ∷ []
take-next number [] i x low is = absurd (omega (arith, low))
take-next number (y ∷ xs) zero x low is = ap (λ z. number z ∷ []) (sym is)
take-next number (y ∷ xs) (suc i) x low is =
    let next : suc i + 1 ≡ suc (i + 1) = omega arith in
    ap (λ k. take k (map number (y ∷ xs))) next ∙ ap (λ l. number y ∷ l) (take-next number xs i x (omega (arith, low)) is)

folded-append : (rs qs : List ℕ) (p s t : Prover) → IsFolded rs p s → IsFolded qs s t → IsFolded (rs ++ qs) p t
folded-append rs qs p s t many more = record {
  degree = more.degree ∙ many.degree;
  variables = omega (arith, many.variables, more.variables, length-append rs qs);
  polynomial = λ xs low.
      more.polynomial xs low ∙ many.polynomial (qs ++ xs) (omega (arith, low, more.variables, length-append qs xs)) ∙ ap p.polynomial (sym (append_assoc rs qs xs));
  claim = λ xs low.
      more.claim xs low ∙ many.claim (qs ++ xs) (omega (arith, low, more.variables, length-append qs xs)) ∙ ap p.claim (sym (append_assoc rs qs xs));
}

-- first some of them, and then the others
pub folded-rest : {X : Type 0} (number : X → ℕ) (xs ys : List X) (i : ℕ) (p s t : Prover) → ys ≡ drop i xs → IsFolded (take i (map number xs)) p s → IsFolded (map number ys) s t →
    IsFolded (map number xs) p t
folded-rest number xs ys i p s t rest many more =
    subst (λ rs. IsFolded rs p t) (take-append-drop i (map number xs))
    (folded-append (take i (map number xs)) (drop i (map number xs)) p s t many (subst (λ rs. IsFolded rs s t) (ap (map number) rest ∙ sym (drop-map number i xs)) more))

-- all of them, by a loop
pub folded-whole : (rs : List ℕ) (i : ℕ) (p s : Prover) → length rs ≤ i → IsFolded (take i rs) p s → IsFolded rs p s
folded-whole rs i p s all folded = subst (λ qs. IsFolded qs p s) (take_all i rs all) folded

-- one more of them
pub folded-next : {X : Type 0} (number : X → ℕ) (xs : List X) (i : ℕ) (x : X) (p s t : Prover) → i < length xs → x ≡ get_or xs i x →
    IsFolded (take i (map number xs)) p s → IsFolded (number x ∷ []) s t → IsFolded (take (i + 1) (map number xs)) p t
folded-next number xs i x p s t low is many one =
    subst (λ rs. IsFolded rs p t) (sym (take-next number xs i x low is)) (folded-more (take i (map number xs)) (number x) p s t many one)

module _ (o : Ops) (ring : IsRing o) (fs gs : List (ℕ → ℕ)) (n m : ℕ) (rs : List ℕ) (folded : IsFolded rs (prover_of o fs n) (prover_of o gs m)) (whole : length rs ≡ n) where
  -- with all of them folded in no variable is left
  pub none-left : m ≡ 0
  none-left = omega (arith, folded.variables, whole)

  -- and what is left of the sum is the product of the tables' values there
  pub value-left : product_claim o gs [] 0 ≡ values_product o fs rs
  value-left =
      let all : 0 ≡ m - 0 = omega (arith, none-left) in
      let none : n - length rs ≡ 0 = omega (arith, whole) in
      ap (product_claim o gs []) all ∙ folded.claim [] (omega arith)
      ∙ ap (λ t. product_claim o fs t (n - length t)) (append-nil rs)
      ∙ ap (product_claim o fs rs) none ∙ product_claim-end o ring fs rs

-- ---- what a round sends less the true polynomial

length-node_values : (o : Ops) (d : ℕ) (cs : List ℕ) → length (node_values o d cs) ≡ d
unfolding node_values
length-node_values o zero cs = refl
length-node_values o (suc d) cs = ap suc (length-map-range_with_len _ 2 d)

module _ (o : Ops) (field : IsField o) where
  -- values send one coefficient more
  length-sent : (claim : ℕ) (values : List ℕ) → 0 < length values → length (sent_through o claim values) ≡ length values + 1
  unfolding sent_through
  length-sent claim [] some = absurd (omega (arith, some))
  length-sent claim (v ∷ vs) some = length-through o field.ring v (minus o claim v ∷ vs) ∙ omega arith

  pub sent-length : {X : Type 0} (number : X → ℕ) (claim : ℕ) (values xs : List X) → 0 < length values → map number xs ≡ sent_through o claim (map number values) →
      length xs ≡ length values + 1
  sent-length number claim values xs some is =
      let size : length (map number values) ≡ length values = length-map values number in
      sym (length-map xs number) ∙ ap length is ∙ length-sent claim (map number values) (omega (arith, size, some)) ∙ ap (λ k. k + 1) size

  -- polynomials that differ by zero may be taken away in place of each other
  minus-same : (cs ds es : List ℕ) → length ds ≡ length es → AllZero o (poly_minus o ds es) → poly_minus o cs ds ≡ poly_minus o cs es
  unfolding poly_minus opposite element
  minus-same [] ds es same none = refl
  minus-same (c ∷ cs) [] [] same none = refl
  minus-same (c ∷ cs) [] (e ∷ es) same none = absurd (omega (arith, same))
  minus-same (c ∷ cs) (d ∷ ds) [] same none = absurd (omega (arith, same))
  minus-same (c ∷ cs) (d ∷ ds) (e ∷ es) same none =
      let apart : minus o d e ≡ 0 = sym (element-plus o field.ring d (opposite o e)) ∙ none.0 in
      let first : element o d ≡ element o e = same-from_minus o field.ring d e apart in
      ap (λ x. plus o c (o.raw_opposite x) ∷ poly_minus o cs ds) first
      ∙ ap (λ l. minus o c e ∷ l) (minus-same cs ds es (omega (arith, same)) none.1)

  -- what honest values send under the true claim is the round's polynomial
  honest-sent : (fs : List (ℕ → ℕ)) (rs : List ℕ) (m : ℕ) → 1 ≤ length fs → length fs < o.size →
      AllZero o (poly_minus o (sent_through o (product_claim o fs rs (suc m)) (honest_values o fs rs m)) (product_round o fs rs m))
  unfolding honest_values next_through
  honest-sent [] rs m some few = absurd (omega (arith, some))
  honest-sent (f ∷ fs) rs m some few =
      let d = length fs in
      let cs = product_round o (f ∷ fs) rs m in
      let claim = product_claim o (f ∷ fs) rs (suc m) in
      let values = node_values o (suc d) cs in
      let wide : length values ≡ suc d = length-node_values o (suc d) cs in
      let long : length cs ≡ suc (suc d) = product_round-length o field.ring (f ∷ fs) rs m in
      let as_long : length (sent_through o claim values) ≡ suc (suc d) = length-sent claim values (omega (arith, wide)) ∙ omega (arith, wide) in
      agree_everywhere o field (suc (suc d)) (sent_through o claim values) cs as_long long (omega (arith, few))
      (λ x low. next-honest o field d claim x cs long few (product_claim-split o field.ring (f ∷ fs) rs m))

  -- so what values send less what those do is their excess
  excess-is : (fs : List (ℕ → ℕ)) (claim : ℕ) (values rs : List ℕ) (m truth : ℕ) (honest : List ℕ) → 1 ≤ length fs → length fs < o.size →
      truth ≡ product_claim o fs rs (suc m) → honest ≡ honest_values o fs rs m →
      poly_minus o (sent_through o claim values) (sent_through o truth honest) ≡ product_excess o fs claim values rs m
  unfolding product_excess honest_values
  excess-is fs claim values rs m truth honest some few true_is honest_is =
      let sent = sent_through o claim values in
      let T = product_claim o fs rs (suc m) in
      let cs = product_round o fs rs m in
      let H = node_values o (length fs) cs in
      let wide : length H ≡ length fs = length-node_values o (length fs) cs in
      let same : length (sent_through o T H) ≡ length cs =
      length-sent T H (omega (arith, wide, some)) ∙ omega (arith, wide, product_round-length o field.ring fs rs m) in
      ap (λ t. poly_minus o sent (sent_through o t honest)) true_is
      ∙ ap (λ h. poly_minus o sent (sent_through o T h)) honest_is
      ∙ minus-same sent (sent_through o T H) cs same (honest-sent fs rs m some few)

-- ---- the loop

-- Behind the first i rounds on the tables fs of n variables: those are now the tables gs of m variables, and the first turn is the first one from round i on.
pub record Finds (o : Ops) (fs : List (ℕ → ℕ)) (n : ℕ) (gs : List (ℕ → ℕ)) (m first claim truth i : ℕ) (ms : List (List ℕ)) (rs : List ℕ) : Type 0 where
  pub folded : IsFolded (take i rs) (prover_of o fs n) (prover_of o gs m)
  pub is_true : truth ≡ product_claim o fs (take i rs) m
  pub rest : first_turn (product_course o fs) 0 first ms [] rs ≡ first_turn (product_course o fs) i claim (drop i ms) (take i rs) (drop i rs)

-- no round is left
pub finds-none : (o : Ops) {fs : List (ℕ → ℕ)} {n : ℕ} {gs : List (ℕ → ℕ)} {m first claim truth : ℕ} (i : ℕ) (ms : List (List ℕ)) {rs : List ℕ} →
    Finds o fs n gs m first claim truth i ms rs → length ms ≤ i → first_turn (product_course o fs) 0 first ms [] rs ≡ None
unfolding first_turn
finds-none o {fs} {claim} i ms {rs} found all =
    found.rest ∙ ap (λ d. first_turn (product_course o fs) i claim d (take i rs) (drop i rs)) (drop_all i ms all)

module _ (o : Ops) (field : IsField o) (fs gs : List (ℕ → ℕ)) (n m : ℕ) (some : 1 ≤ length fs) (few : length fs < o.size)
    {X Y : Type 0} (number : X → ℕ) (sends : Y → List ℕ) (ms : List Y) (rs : List X) (i first claim truth : ℕ)
    (found : Finds o fs n gs (suc m) first claim truth i (map sends ms) (map number rs)) (y : Y) (x : X) (in_messages : i < length ms) (in_challenges : i < length rs)
    (y_is : y ≡ get_or ms i y) (x_is : x ≡ get_or rs i x) (left : length ms ≡ suc m + i) (next next_truth : ℕ) (next_is : next ≡ next_through o claim (sends y) (number x))
    (honest : List ℕ) (honest_is : honest ≡ node_values o (length gs) (product_round o gs [] m)) (truth_is : next_truth ≡ next_through o truth honest (number x)) where
  abbrev before : List ℕ
  before = take i (map number rs)

  abbrev late : List (List ℕ)
  late = drop (i + 1) (map sends ms)

  behind : length late ≡ m
  behind = length-drop (i + 1) (map sends ms) ∙ omega (arith, length-map ms sends, left)

  here : first_turn (product_course o fs) 0 first (map sends ms) [] (map number rs)
      ≡ first_turn (product_course o fs) i claim (sends y ∷ late) before (number x ∷ drop (i + 1) (map number rs))
  here =
      found.rest
      ∙ ap (λ d. first_turn (product_course o fs) i claim d before (drop i (map number rs))) (drop-next sends ms i y in_messages y_is)
      ∙ ap (λ d. first_turn (product_course o fs) i claim (sends y ∷ late) before d) (drop-next number rs i x in_challenges x_is)

  -- the tables as they are now send what the first ones send after these challenges
  sent-here : honest ≡ honest_values o fs before m
  unfolding honest_values
  sent-here =
      let now : m ≡ suc m - 1 = omega arith in
      let one_less : n - suc (length before) ≡ m = omega (arith, found.folded.variables) in
      honest_is
      ∙ ap (λ d. node_values o d (product_round o gs [] m)) found.folded.degree
      ∙ ap (node_values o (length fs))
      (ap (product_round o gs []) now ∙ found.folded.polynomial [] (omega arith)
      ∙ ap (λ t. product_round o fs t (n - suc (length t))) (append-nil before) ∙ ap (product_round o fs before) one_less)

  -- the true claim after the round
  after : next_truth ≡ product_claim o fs (before ++ number x ∷ []) m
  after =
      truth_is
      ∙ ap (λ h. next_through o truth h (number x)) sent-here
      ∙ ap (λ t. next_through o t (honest_values o fs before m) (number x)) found.is_true
      ∙ honest_next o field fs before m (number x) some few

  pub finds-more : (next ≡ next_truth → ⊥) → (hs : List (ℕ → ℕ)) → IsFolded (number x ∷ []) (prover_of o gs (suc m)) (prover_of o hs m) →
      Finds o fs n hs m first next next_truth (i + 1) (map sends ms) (map number rs)
  finds-more differ hs one =
      let course = product_course o fs in
      let last = drop (i + 1) (map number rs) in
      let taken = take-next number rs i x in_challenges x_is in
      let next_round : suc i ≡ i + 1 = omega arith in
      record {
        folded = folded-next number rs i x (prover_of o fs n) (prover_of o gs (suc m)) (prover_of o hs m) in_challenges x_is found.folded one;
        is_true = after ∙ ap (λ t. product_claim o fs t m) (sym taken);
        rest = here
            ∙ turn-later course i claim (sends y) late before (number x) last
            (λ e. differ (next_is ∙ e ∙ ap (product_claim o fs (before ++ number x ∷ [])) behind ∙ sym after))
            ∙ ap (λ c. first_turn course (suc i) c late (before ++ number x ∷ []) last) (sym next_is)
            ∙ ap (λ t. first_turn course (suc i) next late t last) (sym taken)
            ∙ ap (λ k. first_turn course k next late (take (i + 1) (map number rs)) last) next_round;
      }

  pub finds-here : next ≡ next_truth → (cs : List ℕ) → cs ≡ poly_minus o (sent_through o claim (sends y)) (sent_through o truth honest) →
      first_turn (product_course o fs) 0 first (map sends ms) [] (map number rs) ≡ Some (record { round = i; polynomial = cs })
  finds-here same cs are =
      let course = product_course o fs in
      let polynomial : product_excess o fs claim (sends y) before (length late) ≡ cs =
      ap (product_excess o fs claim (sends y) before) behind
      ∙ sym (excess-is o field fs claim (sends y) before m truth honest some few found.is_true sent-here) ∙ sym are in
      here
      ∙ turn-here course i claim (sends y) late before (number x) (drop (i + 1) (map number rs))
      (sym next_is ∙ same ∙ after ∙ ap (product_claim o fs (before ++ number x ∷ [])) (sym behind))
      ∙ ap (λ p. Some (record { round = i; polynomial = p })) polynomial
