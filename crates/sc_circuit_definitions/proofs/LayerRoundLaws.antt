-- A layer's rounds: the polynomial at a challenge is the true claim after it, and the sum of its values at 0 and at 1 is the true claim before it.
use Rattle.std.proofs.Common.{◌≡◌, ℕ, zero, suc, ◌+◌, ◌-◌, ◌%◌, ◌^◌, ◌<◌, ◌≤◌, Bool, true, false, not, nat_lt, List, [], ◌∷◌, ◌++◌, length, take, drop, if◌then◌else◌, sym, ◌∙◌, ap, refl, arith, append_assoc, length-append, lt-ltb, le-ltb, ⊎_elim}
use Rattle.std.proofs.lemmas.Bool.{cases_lt}
use Rattle.std.proofs.lemmas.Nat.{pow_pos}
use Rattle.std.proofs.lemmas.List.{append-nil}
use Rattle.std.proofs.Math.Nat.{mod-eq_of_lt, add-mod_left}
use Rattle.sc_definitions.specs.Ring.{Ops, IsRing, IsField, element, plus, times, minus}
use Rattle.sc_definitions.specs.Tables.{sum_below, value, digits, bound}
use Rattle.sc_definitions.specs.Polynomials.{poly_at, poly_plus, poly_scaled, poly_times, poly_sum}
use Rattle.sc_definitions.specs.Interpolation.{sent_through, next_through}
use Rattle.sc_definitions.proofs.RingLaws.{element-plus, plus-zero, plus_comm}
use Rattle.sc_definitions.proofs.Sums.{sum-same, sum-split, element-sum}
use Rattle.sc_definitions.proofs.TableLaws.{two_halves, value-bound}
use Rattle.sc_definitions.proofs.ValueLaws.{element-value}
use Rattle.sc_definitions.proofs.ProductLaws.{first-line}
use Rattle.sc_definitions.proofs.PolyLaws.{poly_at-plus, poly_at-times, poly_at-sum, length-sum}
use Rattle.sc_definitions.proofs.InterpolationLaws.{next-honest}
use Rattle.sc_definitions.proofs.Identity.{atom, nought, ◌⊕◌, ◌⊗◌, ◌⊖◌, Agree, identity}
use Rattle.sc_soundness.specs.Courses.{AreSumcheckRounds, IsSound, KeepsTrue}
use Rattle.sc_soundness.proofs.CourseLaws.{rounds-sound}
use Rattle.sc_soundness.proofs.ThroughLaws.{through-width, through-both}
use Rattle.sc_circuit_definitions.specs.LayerRounds.{LayerTables, layer_sum, left_at, right_at, layer_at, layer_claim, part_line, layer_line, layer_round, honest_layer, layer_excess, layer_course, LayerRoundsAre}

-- the digits of a row of either half
pub digits-low : (n b : ℕ) → b < 2 ^ n → digits (suc n) b ≡ 0 ∷ digits n b
unfolding digits
digits-low n b low =
    ap (λ t. (if t then 0 else 1) ∷ digits n (b % 2 ^ n)) (lt-ltb b (2 ^ n) low) ∙ ap (λ k. 0 ∷ digits n k) (mod-eq_of_lt low)

pub digits-high : (n b : ℕ) → b < 2 ^ n → digits (suc n) (2 ^ n + b) ≡ 1 ∷ digits n b
unfolding digits
digits-high n b low =
    ap (λ t. (if t then 0 else 1) ∷ digits n ((2 ^ n + b) % 2 ^ n)) (le-ltb (2 ^ n + b) (2 ^ n) (omega arith))
    ∙ ap (λ k. 1 ∷ digits n k) (add-mod_left (2 ^ n) b ∙ mod-eq_of_lt low)

-- the first k of a point whose round's variable is among them, or past them
take-among : (k : ℕ) (rs : List ℕ) (x : ℕ) (zs : List ℕ) → length rs < k → take k (rs ++ x ∷ zs) ≡ rs ++ x ∷ take (k - (length rs + 1)) zs
take-among zero rs x zs h = absurd (omega arith)
take-among (suc k) [] x zs h = let e : k ≡ suc k - (0 + 1) = omega arith in ap (λ n. x ∷ take n zs) e
take-among (suc k) (r ∷ rs) x zs h =
    let e : k - (length rs + 1) ≡ suc k - (suc (length rs) + 1) = omega arith in
    ap (λ l. r ∷ l) (take-among k rs x zs (omega arith)) ∙ ap (λ n. r ∷ (rs ++ x ∷ take n zs)) e

take-past : (k : ℕ) (rs : List ℕ) (zs : List ℕ) → k ≤ length rs → take k (rs ++ zs) ≡ take k rs
take-past zero rs zs h = refl
take-past (suc k) [] zs h = absurd (omega arith)
take-past (suc k) (r ∷ rs) zs h = ap (λ l. r ∷ l) (take-past k rs zs (omega arith))

drop-past : (k : ℕ) (rs : List ℕ) (zs : List ℕ) → k ≤ length rs → drop k (rs ++ zs) ≡ drop k rs ++ zs
drop-past zero rs zs h = refl
drop-past (suc k) [] zs h = absurd (omega arith)
drop-past (suc k) (r ∷ rs) zs h = drop-past k rs zs (omega arith)

drop-among : (k : ℕ) (rs : List ℕ) (x : ℕ) (zs : List ℕ) → length rs < k → drop k (rs ++ x ∷ zs) ≡ drop (k - (length rs + 1)) zs
drop-among zero rs x zs h = absurd (omega arith)
drop-among (suc k) [] x zs h = let e : k ≡ suc k - (0 + 1) = omega arith in ap (λ n. drop n zs) e
drop-among (suc k) (r ∷ rs) x zs h =
    let e : k - (length rs + 1) ≡ suc k - (suc (length rs) + 1) = omega arith in
    drop-among k rs x zs (omega arith) ∙ ap (λ n. drop n zs) e

module _ (o : Ops) (ring : IsRing o) where
  -- a value is a line in any one coordinate
  bound-first : (f : ℕ → ℕ) (r : ℕ) (rs : List ℕ) (z : ℕ) (zs : List ℕ) →
      value o f (r ∷ rs ++ z ∷ zs) ≡ value o (bound o (2 ^ (length rs + suc (length zs))) r f) (rs ++ z ∷ zs)
  bound-first f r rs z zs =
      value-bound o ring f r (rs ++ z ∷ zs) ∙ ap (λ n. value o (bound o (2 ^ n) r f) (rs ++ z ∷ zs)) (length-append rs (z ∷ zs))

  placed-line : (f : ℕ → ℕ) (rs : List ℕ) (x : ℕ) (zs : List ℕ) →
      value o f (rs ++ x ∷ zs) ≡ plus o (value o f (rs ++ 0 ∷ zs)) (times o (minus o (value o f (rs ++ 1 ∷ zs)) (value o f (rs ++ 0 ∷ zs))) x)
  placed-line f [] x zs = first-line o ring f x zs
  placed-line f (r ∷ rs) x zs =
      let g : ℕ → ℕ = bound o (2 ^ (length rs + suc (length zs))) r f in
      bound-first f r rs x zs
      ∙ placed-line g rs x zs
      ∙ ap (λ v. plus o v (times o (minus o (value o g (rs ++ 1 ∷ zs)) v) x)) (sym (bound-first f r rs 0 zs))
      ∙ ap (λ v. plus o (value o f (r ∷ rs ++ 0 ∷ zs)) (times o (minus o v (value o f (r ∷ rs ++ 0 ∷ zs))) x)) (sym (bound-first f r rs 1 zs))

  one-line : (f : ℕ → ℕ) (rs : List ℕ) (x : ℕ) (zs : List ℕ) →
      poly_at o (value o f (rs ++ 0 ∷ zs) ∷ minus o (value o f (rs ++ 1 ∷ zs)) (value o f (rs ++ 0 ∷ zs)) ∷ []) x ≡ value o f (rs ++ x ∷ zs)
  unfolding poly_at Agree
  one-line f rs x zs =
      let A = atom 0 in let C = atom 1 in let X = atom 2 in
      identity o ring (value o f (rs ++ 0 ∷ zs) ∷ value o f (rs ++ 1 ∷ zs) ∷ x ∷ [])
      (A ⊕ X ⊗ ((C ⊖ A) ⊕ X ⊗ nought)) (A ⊕ (C ⊖ A) ⊗ X) tt tt refl
      ∙ sym (placed-line f rs x zs)

  -- a polynomial of one coefficient
  constant-at : (v x : ℕ) → element o v ≡ v → poly_at o (v ∷ []) x ≡ v
  unfolding poly_at Agree
  constant-at v x e = identity o ring (v ∷ x ∷ []) (atom 0 ⊕ atom 1 ⊗ nought) (atom 0 ⊕ nought) tt tt refl ∙ plus-zero o ring v ∙ e

  -- a part that holds the round's variable, and one that does not
  part-moving : (f : ℕ → ℕ) (part : List ℕ → List ℕ) (rs front back : List ℕ) (m b : ℕ) →
      ((x : ℕ) → part (rs ++ x ∷ digits m b) ≡ front ++ x ∷ back) → (x : ℕ) →
      poly_at o (part_line o f part true rs m b) x ≡ value o f (part (rs ++ x ∷ digits m b))
  unfolding part_line
  part-moving f part rs front back m b is x =
      ap (λ p. poly_at o (value o f p ∷ minus o (value o f (part (rs ++ 1 ∷ digits m b))) (value o f p) ∷ []) x) (is 0)
      ∙ ap (λ p. poly_at o (value o f (front ++ 0 ∷ back) ∷ minus o (value o f p) (value o f (front ++ 0 ∷ back)) ∷ []) x) (is 1)
      ∙ one-line f front x back
      ∙ ap (value o f) (sym (is x))

  part-still : (f : ℕ → ℕ) (part : List ℕ → List ℕ) (rs rest : List ℕ) (m b : ℕ) →
      ((x : ℕ) → part (rs ++ x ∷ digits m b) ≡ rest) → (x : ℕ) →
      poly_at o (part_line o f part false rs m b) x ≡ value o f (part (rs ++ x ∷ digits m b))
  unfolding part_line
  part-still f part rs rest m b is x =
      constant-at (value o f (part (rs ++ 0 ∷ digits m b))) x (element-value o ring f (part (rs ++ 0 ∷ digits m b))) ∙ ap (value o f) (is 0 ∙ sym (is x))

  first-at : (k : ℕ) (v : ℕ → ℕ) (rs : List ℕ) (m b x : ℕ) →
      poly_at o (part_line o v (take k) (nat_lt (length rs) k) rs m b) x ≡ value o v (take k (rs ++ x ∷ digits m b))
  first-at k v rs m b x = ⊎_elim
      (λ among. ap (λ t. poly_at o (part_line o v (take k) t rs m b) x) (lt-ltb (length rs) k among)
      ∙ part-moving v (take k) rs rs (take (k - (length rs + 1)) (digits m b)) m b (λ z. take-among k rs z (digits m b) among) x)
      (λ past. ap (λ t. poly_at o (part_line o v (take k) t rs m b) x) (le-ltb (length rs) k past)
      ∙ part-still v (take k) rs (take k rs) m b (λ z. take-past k rs (z ∷ digits m b) past) x)
      (cases_lt (length rs) k)

  second-at : (k : ℕ) (v : ℕ → ℕ) (rs : List ℕ) (m b x : ℕ) →
      poly_at o (part_line o v (drop k) (not (nat_lt (length rs) k)) rs m b) x ≡ value o v (drop k (rs ++ x ∷ digits m b))
  second-at k v rs m b x = ⊎_elim
      (λ among. ap (λ t. poly_at o (part_line o v (drop k) (not t) rs m b) x) (lt-ltb (length rs) k among)
      ∙ part-still v (drop k) rs (drop (k - (length rs + 1)) (digits m b)) m b (λ z. drop-among k rs z (digits m b) among) x)
      (λ past. ap (λ t. poly_at o (part_line o v (drop k) (not t) rs m b) x) (le-ltb (length rs) k past)
      ∙ part-moving v (drop k) rs (drop k rs) (digits m b) m b (λ z. drop-past k rs (z ∷ digits m b) past) x)
      (cases_lt (length rs) k)

  module _ (t : LayerTables) where
    line-at : (rs : List ℕ) (m b x : ℕ) → poly_at o (layer_line o t (nat_lt (length rs) t.variables) rs m b) x ≡ layer_at o t (rs ++ x ∷ digits m b)
    unfolding layer_line layer_at layer_sum
    line-at rs m b x =
        let zs = rs ++ x ∷ digits m b in
        let left = part_line o t.below (take t.variables) (nat_lt (length rs) t.variables) rs m b in
        let right = part_line o t.below (drop t.variables) (not (nat_lt (length rs) t.variables)) rs m b in
        let S = part_line o t.sums (λ ys. ys) true rs m b in
        let P = part_line o t.products (λ ys. ys) true rs m b in
        let u = left_at o t zs in let w = right_at o t zs in
        let l : poly_at o left x ≡ u = first-at t.variables t.below rs m b x in
        let r : poly_at o right x ≡ w = second-at t.variables t.below rs m b x in
        poly_at-plus o ring (poly_times o S (poly_plus o left right)) (poly_times o P (poly_times o left right)) x
        ∙ ap (λ n. plus o n (poly_at o (poly_times o P (poly_times o left right)) x))
        (poly_at-times o ring S (poly_plus o left right) x
        ∙ ap (λ n. times o n (poly_at o (poly_plus o left right) x)) (part-moving t.sums (λ ys. ys) rs rs (digits m b) m b (λ z. refl) x)
        ∙ ap (times o (value o t.sums zs)) (poly_at-plus o ring left right x ∙ ap (λ n. plus o n (poly_at o right x)) l ∙ ap (plus o u) r))
        ∙ ap (plus o (times o (value o t.sums zs) (plus o u w)))
        (poly_at-times o ring P (poly_times o left right) x
        ∙ ap (λ n. times o n (poly_at o (poly_times o left right) x)) (part-moving t.products (λ ys. ys) rs rs (digits m b) m b (λ z. refl) x)
        ∙ ap (times o (value o t.products zs)) (poly_at-times o ring left right x ∙ ap (λ n. times o n (poly_at o right x)) l ∙ ap (times o u) r))

    pub round-at : (rs : List ℕ) (m x : ℕ) → poly_at o (layer_round o t rs m) x ≡ layer_claim o t (rs ++ x ∷ []) m
    unfolding layer_round layer_claim
    round-at rs m x =
        poly_at-sum o ring (2 ^ m) (layer_line o t (nat_lt (length rs) t.variables) rs m) x
        ∙ sum-same o (2 ^ m) _ _ (λ b _. line-at rs m b x ∙ ap (layer_at o t) (sym (append_assoc rs (x ∷ []) (digits m b))))

    pub claim-split : (rs : List ℕ) (m : ℕ) → layer_claim o t rs (suc m) ≡ plus o (poly_at o (layer_round o t rs m) 0) (poly_at o (layer_round o t rs m) 1)
    unfolding layer_claim
    claim-split rs m =
        let g : ℕ → ℕ = λ b. layer_at o t (rs ++ digits (suc m) b) in
        let one : (z : ℕ) (ds : List ℕ) → layer_at o t (rs ++ z ∷ ds) ≡ layer_at o t ((rs ++ z ∷ []) ++ ds) = λ z ds. ap (layer_at o t) (sym (append_assoc rs (z ∷ []) ds)) in
        ap (λ n. sum_below o n g) (two_halves m)
        ∙ sum-split o ring (2 ^ m) (2 ^ m) g
        ∙ ap (λ s. plus o s (sum_below o (2 ^ m) (λ j. g (2 ^ m + j))))
        (sum-same o (2 ^ m) _ _ (λ b low. ap (λ ds. layer_at o t (rs ++ ds)) (digits-low m b low) ∙ one 0 (digits m b)) ∙ sym (round-at rs m 0))
        ∙ ap (plus o (poly_at o (layer_round o t rs m) 0))
        (sum-same o (2 ^ m) _ _ (λ b low. ap (λ ds. layer_at o t (rs ++ ds)) (digits-high m b low) ∙ one 1 (digits m b)) ∙ sym (round-at rs m 1))

    line-length : (first : Bool) (rs : List ℕ) (m b : ℕ) → length (layer_line o t first rs m b) ≡ 3
    unfolding layer_line part_line poly_plus poly_times poly_scaled
    line-length true rs m b = refl
    line-length false rs m b = refl

    pub round-length : (rs : List ℕ) (m : ℕ) → length (layer_round o t rs m) ≡ 3
    unfolding layer_round
    round-length rs m =
        let first = nat_lt (length rs) t.variables in
        let pos : suc (2 ^ m - 1) ≡ 2 ^ m = omega (arith, pow_pos m) in
        ap (λ n. length (poly_sum o n (layer_line o t first rs m))) (sym pos)
        ∙ length-sum o ring (2 ^ m - 1) 3 (layer_line o t first rs m) (line-length first rs m)

    -- with no variable left the true claim is what the rounds sum at the challenges
    pub claim-end : (rs : List ℕ) → layer_claim o t rs 0 ≡ layer_at o t rs
    unfolding layer_claim sum_below digits layer_at layer_sum
    claim-end rs =
        let v = layer_at o t (rs ++ []) in
        plus_comm o ring 0 v ∙ plus-zero o ring v ∙ element-plus o ring _ _ ∙ ap (layer_at o t) (append-nil rs)

module _ (o : Ops) (field : IsField o) where
  module _ (t : LayerTables) where
    pub layer-rounds : AreSumcheckRounds o (layer_course o t) 2 3
    unfolding next_through layer_excess layer_claim
    layer-rounds = record {
      sent = sent_through o;
      polynomial = layer_round o t;
      next_is = λ claim message r. refl;
      excess_is = λ claim message rs m. refl;
      sent_width = through-width o field 2 (omega arith) (omega (arith, field.at_least));
      true_width = round-length o field.ring t;
      sent_sum = through-both o field 2 (omega arith) (omega (arith, field.at_least));
      true_sum = claim-split o field.ring t;
      true_at = round-at o field.ring t;
      true_element = λ rs m. element-sum o field.ring (2 ^ m) _;
    }

    pub layer-sound : IsSound o (layer_course o t) 2 3
    layer-sound = rounds-sound o field (layer_course o t) 2 3 layer-rounds

    pub layer-keeps : KeepsTrue (layer_course o t) (honest_layer o t)
    unfolding honest_layer
    layer-keeps = record {
      next = λ rs m r.
          next-honest o field 1 (layer_claim o t rs (suc m)) r (layer_round o t rs m) (round-length o field.ring t rs m) (omega (arith, field.at_least)) (claim-split o field.ring t rs m)
          ∙ round-at o field.ring t rs m r;
    }

    pub layer_rounds-are : LayerRoundsAre o t
    layer_rounds-are = record { rounds = layer-rounds; honest = layer-keeps; last = claim-end o field.ring t }
