-- The first round after which a claim is the true one, of any prover's rounds.
use Rattle.std.proofs.Common.{◌≡◌, ◌≢◌, ℕ, zero, suc, ◌+◌, ◌-◌, ◌<◌, ◌≤◌, ◌==◌, List, [], ◌∷◌, ◌++◌, length, if◌then◌else◌, Some, None, sym, ◌∙◌, ap, refl, arith, append_assoc, length-append, eq-eqb, ne_eqb}
use Rattle.std.proofs.lemmas.List.FromFn.{length-map-range_with_len}
use Rattle.sc_definitions.specs.Ring.{Ops, IsField, element, plus, minus, opposite}
use Rattle.sc_definitions.specs.Polynomials.{poly_at, poly_minus, AllZero}
use Rattle.sc_definitions.specs.Interpolation.{node_values, sent_through, next_through}
use Rattle.sc_definitions.specs.Lucky.{Course, Turn, first_turn}
use Rattle.sc_definitions.proofs.RingLaws.{element-plus, opposite-element}
use Rattle.sc_definitions.proofs.RootLaws.{same-from_minus}
use Rattle.sc_definitions.proofs.InterpolationLaws.{agree_everywhere, next-honest}
use Rattle.sc_soundness.proofs.ThroughLaws.{through-width}
use Rattle.sc_degree.specs.Provers.{Prover, IsTied, IsFolded}
use Rattle.sc_circuit_definitions.specs.LayerRounds.{LayerTables, layer_claim, layer_round, layer_excess, layer_course}
use Rattle.sc_circuit.specs.Provers.{layer_prover}
use Rattle.sc_circuit.specs.Turns.{course_by}

-- folded challenges stand before the others
pub folded-turn : (o : Ops) (qs : List ℕ) (p s : Prover) → IsFolded qs p s → (i claim : ℕ) (ms : List (List ℕ)) (before rs : List ℕ) →
    length before + length ms ≤ s.variables → first_turn (course_by o s) i claim ms before rs ≡ first_turn (course_by o p) i claim ms (qs ++ before) rs
unfolding first_turn
folded-turn o qs p s folded i claim [] before rs fits = refl
folded-turn o qs p s folded i claim (m ∷ ms) before [] fits = refl
folded-turn o qs p s folded i claim (m ∷ ms) before (r ∷ rs) fits =
    let one : length (before ++ r ∷ []) ≡ length before + 1 = length-append before (r ∷ []) in
    let next = next_through o claim m r in
    let place : qs ++ (before ++ r ∷ []) ≡ (qs ++ before) ++ r ∷ [] = sym (append_assoc qs before (r ∷ [])) in
    let later = first_turn (course_by o s) (suc i) next ms (before ++ r ∷ []) rs in
    ap (λ n. if next == n then Some (record { round = i; polynomial = poly_minus o (sent_through o claim m) (s.polynomial before) }) else later)
    (folded.claim (before ++ r ∷ []) (omega (arith, one, fits)) ∙ ap p.claim place)
    ∙ ap (λ l. if next == p.claim ((qs ++ before) ++ r ∷ []) then Some (record { round = i; polynomial = poly_minus o (sent_through o claim m) l }) else later)
    (folded.polynomial before (omega (arith, fits)))
    ∙ ap (λ t. if next == p.claim ((qs ++ before) ++ r ∷ []) then Some (record { round = i; polynomial = poly_minus o (sent_through o claim m) (p.polynomial (qs ++ before)) }) else t)
    (folded-turn o qs p s folded (suc i) next ms (before ++ r ∷ []) rs (omega (arith, one, fits))
    ∙ ap (λ l. first_turn (course_by o p) (suc i) next ms l rs) place)

-- there is no round
pub turn-none : (k : Course) (i claim : ℕ) (ms : List (List ℕ)) (before rs : List ℕ) → ms ≡ [] → first_turn k i claim ms before rs ≡ None
unfolding first_turn
turn-none k i claim ms before rs none = ap (λ l. first_turn k i claim l before rs) none

module _ (o : Ops) (p : Prover) (i claim x : ℕ) (values : List ℕ) (messages : List (List ℕ)) (rs : List ℕ) where
  -- the claim turns true in the first round
  pub turn-here : (polynomial : List ℕ) → next_through o claim values x ≡ p.claim (x ∷ []) → polynomial ≡ poly_minus o (sent_through o claim values) (p.polynomial []) →
      Some (record { round = i; polynomial = polynomial }) ≡ first_turn (course_by o p) i claim (values ∷ messages) [] (x ∷ rs)
  unfolding first_turn
  turn-here polynomial same is =
      let next = next_through o claim values x in
      let later = first_turn (course_by o p) (suc i) next messages (x ∷ []) rs in
      let due = poly_minus o (sent_through o claim values) (p.polynomial []) in
      let turn : List ℕ → Turn = λ l. record { round = i; polynomial = l } in
      ap (λ l. Some (turn l)) is ∙ sym (ap (λ b. if b then Some (turn due) else later) (eq-eqb next (p.claim (x ∷ [])) same))

  -- it does not
  pub turn-later : next_through o claim values x ≢ p.claim (x ∷ []) →
      first_turn (course_by o p) i claim (values ∷ messages) [] (x ∷ rs) ≡ first_turn (course_by o p) (i + 1) (next_through o claim values x) messages (x ∷ []) rs
  unfolding first_turn
  turn-later other =
      let one : suc i ≡ i + 1 = omega arith in
      let next = next_through o claim values x in
      let due : Turn = record { round = i; polynomial = poly_minus o (sent_through o claim values) (p.polynomial []) } in
      ap (λ b. if b then Some due else first_turn (course_by o p) (suc i) next messages (x ∷ []) rs) (ne_eqb next (p.claim (x ∷ [])) other)
      ∙ ap (λ n. first_turn (course_by o p) n next messages (x ∷ []) rs) one

-- as many values as the degree
pub values-width : (o : Ops) (n : ℕ) (cs : List ℕ) → length (node_values o n cs) ≡ n
unfolding node_values
values-width o zero cs = refl
values-width o (suc n) cs = ap suc (length-map-range_with_len _ 2 n)

module _ (o : Ops) (field : IsField o) where
  minus-same : (a c d : ℕ) → element o (minus o c d) ≡ 0 → minus o a c ≡ minus o a d
  minus-same a c d none =
      let same : element o c ≡ element o d = same-from_minus o field.ring c d (sym (element-plus o field.ring c (opposite o d)) ∙ none) in
      ap (plus o a) (sym (opposite-element o field.ring c) ∙ ap (opposite o) same ∙ opposite-element o field.ring d)

  minus-alike : (bs cs ds : List ℕ) → length cs ≡ length ds → AllZero o (poly_minus o cs ds) → poly_minus o bs cs ≡ poly_minus o bs ds
  unfolding poly_minus
  minus-alike [] cs ds e z = refl
  minus-alike (b ∷ bs) [] [] e z = refl
  minus-alike (b ∷ bs) [] (d ∷ ds) e z = absurd (omega (arith, e))
  minus-alike (b ∷ bs) (c ∷ cs) [] e z = absurd (omega (arith, e))
  minus-alike (b ∷ bs) (c ∷ cs) (d ∷ ds) e z =
      ap (λ n. n ∷ poly_minus o bs cs) (minus-same b c d z.0) ∙ ap (λ l. minus o b d ∷ l) (minus-alike bs cs ds (omega (arith, e)) z.1)

  module _ (p : Prover) (tied : IsTied o p) (d : ℕ) (degree : p.degree ≡ suc d) (few : suc d < o.size) (some : 0 < p.variables) (truth : ℕ) (is : truth ≡ p.claim []) where
    honest-at : (x : ℕ) → next_through o truth (node_values o (suc d) (p.polynomial [])) x ≡ poly_at o (p.polynomial []) x
    honest-at x = next-honest o field d truth x (p.polynomial []) (tied.coefficients [] some ∙ ap suc degree) few (is ∙ sym (tied.sum [] some))

    -- the honest values lead to the true claim
    pub true-next : (x : ℕ) → next_through o truth (node_values o (suc d) (p.polynomial [])) x ≡ p.claim (x ∷ [])
    true-next x = honest-at x ∙ tied.next [] x some

    -- and send the true polynomial
    pub true-sent : (bs : List ℕ) → poly_minus o bs (sent_through o truth (node_values o (suc d) (p.polynomial []))) ≡ poly_minus o bs (p.polynomial [])
    unfolding next_through
    true-sent bs =
        let vs = node_values o (suc d) (p.polynomial []) in
        let sent = sent_through o truth vs in
        let long : length (p.polynomial []) ≡ suc (suc d) = tied.coefficients [] some ∙ ap suc degree in
        let wide : length sent ≡ suc (suc d) = through-width o field (suc d) (omega arith) few truth vs (values-width o (suc d) (p.polynomial [])) in
        minus-alike bs sent (p.polynomial []) (wide ∙ sym long) (agree_everywhere o field (suc (suc d)) sent (p.polynomial []) wide long (omega (arith, few)) (λ x low. honest-at x))

-- of a layer's prover it is that of the layer's course, where the messages are as many as variables are left
pub layer-turn : (o : Ops) (t : LayerTables) (i claim : ℕ) (ms : List (List ℕ)) (before rs : List ℕ) → length before + length ms ≡ t.variables + t.variables →
    first_turn (course_by o (layer_prover o t [])) i claim ms before rs ≡ first_turn (layer_course o t) i claim ms before rs
unfolding first_turn layer_excess
layer-turn o t i claim [] before rs whole = refl
layer-turn o t i claim (m ∷ ms) before [] whole = refl
layer-turn o t i claim (m ∷ ms) before (r ∷ rs) whole =
    let k = t.variables + t.variables in
    let one : length (before ++ r ∷ []) ≡ length before + 1 = length-append before (r ∷ []) in
    let after_it : k - length (before ++ r ∷ []) ≡ length ms = omega (arith, one, whole) in
    let here : k - suc (length before) ≡ length ms = omega (arith, whole) in
    let next = next_through o claim m r in
    let later = first_turn (course_by o (layer_prover o t [])) (suc i) next ms (before ++ r ∷ []) rs in
    let turn : List ℕ → Turn = λ l. record { round = i; polynomial = poly_minus o (sent_through o claim m) l } in
    ap (λ n. if next == layer_claim o t (before ++ r ∷ []) n then Some (turn (layer_round o t before (k - suc (length before)))) else later) after_it
    ∙ ap (λ n. if next == layer_claim o t (before ++ r ∷ []) (length ms) then Some (turn (layer_round o t before n)) else later) here
    ∙ ap (λ l. if next == layer_claim o t (before ++ r ∷ []) (length ms) then Some (turn (layer_round o t before (length ms))) else l)
    (layer-turn o t (suc i) next ms (before ++ r ∷ []) rs (omega (arith, one, whole)))
