-- The loop that finds the round which turned a claim.
use Rattle.std.proofs.Common.{◌≡◌, ℕ, zero, suc, ◌+◌, ◌^◌, ◌<◌, ◌≤◌, List, [], ◌∷◌, ◌++◌, length, take, drop, map, get_or, Some, None, sym, ◌∙◌, ap, refl, subst, arith}
use Rattle.std.proofs.lemmas.List.{length-map}
use Rattle.sc_definitions.specs.Ring.{Ops, IsRing}
use Rattle.sc_definitions.specs.Tables.{IsOffered, inner_product, folded_in}
use Rattle.sc_definitions.specs.Rounds.{honest_message, sent_polynomial, next_claim}
use Rattle.sc_definitions.specs.Messages.{message_of}
use Rattle.sc_definitions.specs.Polynomials.{poly_minus}
use Rattle.sc_definitions.specs.TwoTables.{TwoTables, true_claim_on}
use Rattle.sc_definitions.specs.Lucky.{course_on, first_turn, round_excess}
use Rattle.sc_definitions.proofs.SameTables.{Agree, inner_product-same}
use Rattle.sc_definitions.proofs.TurnLaws.{Walks, turn-here, turn-later, walks-begin, walks-message, walks-on, honest-sends}

-- ---- lists by an index

-- what stands from an index on
pub drop-next : {X Y : Type 0} (of : X → Y) (xs : List X) (i : ℕ) (x : X) → i < length xs → x ≡ get_or xs i x → drop i (map of xs) ≡ of x ∷ drop (i + 1) (map of xs)
drop-next of [] i x low is = absurd (omega (arith, low))
drop-next of (y ∷ xs) zero x low is = ap (λ z. of z ∷ map of xs) (sym is)
drop-next of (y ∷ xs) (suc i) x low is =
    let next : suc (i + 1) ≡ suc i + 1 = omega arith in
    drop-next of xs i x (omega (arith, low)) is ∙ ap (λ k. of x ∷ drop k (map of (y ∷ xs))) next

pub drop-none : {Y : Type 0} (xs : List Y) (i : ℕ) → length xs ≤ i → drop i xs ≡ []
drop-none [] zero low = refl
drop-none [] (suc i) low = refl
drop-none (x ∷ xs) zero low = absurd (omega (arith, low))
drop-none (x ∷ xs) (suc i) low = drop-none xs i (omega (arith, low))

pub take-next : {X : Type 0} (of : X → ℕ) (xs : List X) (i : ℕ) (x : X) → i < length xs → x ≡ get_or xs i x → take (i + 1) (map of xs) ≡ take i (map of xs) ++ of x ∷ []
take-next of [] i x low is = absurd (omega (arith, low))
take-next of (y ∷ xs) zero x low is = ap (λ z. of z ∷ []) (sym is)
take-next of (y ∷ xs) (suc i) x low is =
    let next : suc i + 1 ≡ suc (i + 1) = omega arith in
    ap (λ k. take k (map of (y ∷ xs))) next ∙ ap (λ l. of y ∷ l) (take-next of xs i x (omega (arith, low)) is)

length-drop : {Y : Type 0} (ys : List Y) (i n : ℕ) → length ys ≡ n + i → length (drop i ys) ≡ n
length-drop ys zero n is = is ∙ omega arith
length-drop [] (suc i) n is = absurd (omega (arith, is))
length-drop (y ∷ ys) (suc i) n is = length-drop ys i n (omega (arith, is))

-- ---- the loop

-- After the first i rounds, with m variables left: the tables are bound there, and the first turn is the first one from round i on.
pub record Finds (o : Ops) (p : TwoTables) (m : ℕ) (f w : ℕ → ℕ) (first claim truth i : ℕ) (ms : List (List ℕ)) (rs : List ℕ) : Type 0 where
  pub walks : Walks o p (take i rs) m f w truth
  pub rest : first_turn (course_on o p) 0 first ms [] rs ≡ first_turn (course_on o p) i claim (drop i ms) (take i rs) (drop i rs)

module _ (o : Ops) (ring : IsRing o) (p : TwoTables) (offered : IsOffered p.basis p.order) where
  pub finds-begin : (n : ℕ) (f w : ℕ → ℕ) (claim truth : ℕ) (ms : List (List ℕ)) (rs : List ℕ) → Agree n f p.table → Agree n w p.weights →
      truth ≡ inner_product o n f w → Finds o p n f w claim claim truth 0 ms rs
  finds-begin n f w claim truth ms rs evals weights is = record {
    walks = walks-begin o ring p offered n f w truth evals weights (is ∙ inner_product-same o n f p.table w p.weights evals weights);
    rest = refl;
  }

  module _ {X Y : Type 0} (number : X → ℕ) (sends : Y → List ℕ) (ms : List Y) (rs : List X) (i m : ℕ) (f w : ℕ → ℕ) (first claim truth : ℕ)
      (found : Finds o p (suc m) f w first claim truth i (map sends ms) (map number rs)) (y : Y) (x : X) (in_messages : i < length ms) (in_challenges : i < length rs)
      (y_is : y ≡ get_or ms i y) (x_is : x ≡ get_or rs i x) (left : length ms ≡ suc m + i) (next next_truth : ℕ)
      (next_is : next ≡ next_claim p.basis o claim (sends y) (number x)) (a l : ℕ) (honest : a ∷ l ∷ [] ≡ message_of p.basis p.order o (2 ^ m) f w)
      (truth_is : next_truth ≡ next_claim p.basis o truth (a ∷ l ∷ []) (number x)) where
    abbrev before : List ℕ
    before = take i (map number rs)

    behind : length (drop (i + 1) (map sends ms)) ≡ m
    behind = length-drop (map sends ms) (i + 1) m (length-map ms sends ∙ left ∙ omega arith)

    here : first_turn (course_on o p) 0 first (map sends ms) [] (map number rs)
        ≡ first_turn (course_on o p) i claim (sends y ∷ drop (i + 1) (map sends ms)) before (number x ∷ drop (i + 1) (map number rs))
    here =
        found.rest
        ∙ ap (λ d. first_turn (course_on o p) i claim d before (drop i (map number rs))) (drop-next sends ms i y in_messages y_is)
        ∙ ap (λ d. first_turn (course_on o p) i claim (sends y ∷ drop (i + 1) (map sends ms)) before d) (drop-next number rs i x in_challenges x_is)

    -- the true claim after the round
    after : next_truth ≡ true_claim_on o p (before ++ number x ∷ []) m
    after =
        let on = walks-on o ring p offered before m f w truth found.walks (number x) (folded_in p.basis p.order o m (number x) f) (folded_in p.basis p.order o m (number x) w) next_truth
        (λ b low. refl) (λ b low. refl)
        (truth_is ∙ ap (λ v. next_claim p.basis o truth v (number x)) honest) in
        on.truth

    pub finds-more : (next ≡ next_truth → ⊥) → (g v : ℕ → ℕ) → Agree m g (folded_in p.basis p.order o m (number x) f) → Agree m v (folded_in p.basis p.order o m (number x) w) →
        Finds o p m g v first next next_truth (i + 1) (map sends ms) (map number rs)
    finds-more differ g v evals weights =
        let one : suc i ≡ i + 1 = omega arith in
        let taken = take-next number rs i x in_challenges x_is in
        let course = course_on o p in
        record {
          walks = subst (λ t. Walks o p t m g v next_truth) (sym taken)
              (walks-on o ring p offered before m f w truth found.walks (number x) g v next_truth
              evals weights (truth_is ∙ ap (λ u. next_claim p.basis o truth u (number x)) honest));
          rest = here
              ∙ turn-later course i claim (sends y) (drop (i + 1) (map sends ms)) before (number x) (drop (i + 1) (map number rs))
              (λ e. differ (next_is ∙ e ∙ ap (true_claim_on o p (before ++ number x ∷ [])) behind ∙ sym after))
              ∙ ap (λ c. first_turn course (suc i) c (drop (i + 1) (map sends ms)) (before ++ number x ∷ []) (drop (i + 1) (map number rs))) (sym next_is)
              ∙ ap (λ t. first_turn course (suc i) next (drop (i + 1) (map sends ms)) t (drop (i + 1) (map number rs))) (sym taken)
              ∙ ap (λ k. first_turn course k next (drop (i + 1) (map sends ms)) (take (i + 1) (map number rs)) (drop (i + 1) (map number rs))) one;
        }

    pub finds-here : next ≡ next_truth → (c q : ℕ) → sends y ≡ c ∷ q ∷ [] → (cs : List ℕ) →
        cs ≡ poly_minus o (sent_polynomial p.basis o claim (c ∷ q ∷ [])) (sent_polynomial p.basis o truth (a ∷ l ∷ [])) →
        first_turn (course_on o p) 0 first (map sends ms) [] (map number rs) ≡ Some (record { round = i; polynomial = cs })
    unfolding round_excess
    finds-here same c q sent cs are =
        let course = course_on o p in
        let late = drop (i + 1) (map sends ms) in
        let W = p.weights in
        let pair : a ∷ l ∷ [] ≡ honest_message p.basis p.order o p.table W before m = honest ∙ walks-message o ring p offered before m f w truth found.walks in
        let due = honest-sends o ring p.table W before m truth a l p.basis p.order offered found.walks.truth pair in
        let polynomial : round_excess o p claim (sends y) before (length late) ≡ cs =
        ap (λ s. round_excess o p claim s before (length late)) sent ∙ ap (round_excess o p claim (c ∷ q ∷ []) before) behind
        ∙ sym (are ∙ ap (poly_minus o (sent_polynomial p.basis o claim (c ∷ q ∷ []))) due) in
        here
        ∙ turn-here course i claim (sends y) late before (number x) (drop (i + 1) (map number rs))
        (sym next_is ∙ same ∙ after ∙ ap (true_claim_on o p (before ++ number x ∷ [])) (sym behind))
        ∙ ap (λ cs. Some (record { round = i; polynomial = cs })) polynomial

  -- no round is left
  pub finds-none : (f w : ℕ → ℕ) (m first claim truth i : ℕ) (ms : List (List ℕ)) (rs : List ℕ) → Finds o p m f w first claim truth i ms rs → length ms ≤ i →
      first_turn (course_on o p) 0 first ms [] rs ≡ None
  unfolding first_turn
  finds-none f w m first claim truth i ms rs found all =
      found.rest ∙ ap (λ d. first_turn (course_on o p) i claim d (take i rs) (drop i rs)) (drop-none ms i all)
