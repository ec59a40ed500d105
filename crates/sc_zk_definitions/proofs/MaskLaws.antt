-- Masked rounds: their closed form, the total of the masks, and the replay.
use Rattle.std.proofs.Common.{◌≡◌, ℕ, zero, suc, ◌+◌, ◌^◌, ◌%◌, ◌<◌, List, [], ◌∷◌, ◌++◌, length, map, if◌then◌else◌, sym, ◌∙◌, ap, refl, arith, lt-ltb, le-ltb}
use Rattle.std.proofs.Math.Nat.{mod-eq_of_lt, add-mod_left}
use Rattle.sc_definitions.specs.Ring.{Ops, IsRing, plus, times, minus, power}
use Rattle.sc_definitions.specs.Tables.{evaluation, sum_below, digits}
use Rattle.sc_definitions.specs.Polynomials.{poly_at, poly_plus, poly_scaled}
use Rattle.sc_definitions.specs.Rounds.{sent_pair, sent_polynomial, next_claim, claim_along}
use Rattle.sc_zk_definitions.specs.Masks.{masks_at, masks_total, Piece, pair_of, masked_round_at, two_power, sum_of, endpoint, total_of, masked_round, masked_rounds, wire_of, unwired, next_target, first_target, target_after, plain_after, RoundsAreSums, TotalsAreOfEndpoints}
use Rattle.sc_definitions.proofs.PolyLaws.{poly_at-plus, poly_at-scaled}
use Rattle.sc_definitions.proofs.Sums.{sum-same, sum-split, sum-plus}
use Rattle.sc_definitions.proofs.TableLaws.{two_halves}
use Rattle.sc_definitions.proofs.Identity.{Form, atom, nought, unit, ◌⊕◌, ◌⊗◌, ◌⊖◌, Agree, identity}

pub digits-low : (n b : ℕ) → b < 2 ^ n → digits (suc n) b ≡ 0 ∷ digits n b
unfolding digits
digits-low n b low =
    ap (λ t. (if t then 0 else 1) ∷ digits n (b % 2 ^ n)) (lt-ltb b (2 ^ n) low) ∙ ap (λ k. 0 ∷ digits n k) (mod-eq_of_lt low)

pub digits-high : (n b : ℕ) → b < 2 ^ n → digits (suc n) (2 ^ n + b) ≡ 1 ∷ digits n b
unfolding digits
digits-high n b low =
    ap (λ t. (if t then 0 else 1) ∷ digits n ((2 ^ n + b) % 2 ^ n)) (le-ltb (2 ^ n + b) (2 ^ n) (omega arith))
    ∙ ap (λ k. 1 ∷ digits n k) (add-mod_left (2 ^ n) b ∙ mod-eq_of_lt low)

module _ (o : Ops) (ring : IsRing o) where
  -- the sum of a polynomial's coefficients is its value at 1
  sum-at_one : (cs : List ℕ) → sum_of o cs ≡ poly_at o cs 1
  unfolding sum_of poly_at Agree
  sum-at_one [] = refl
  sum-at_one (c ∷ cs) =
      ap (plus o c) (sum-at_one cs)
      ∙ identity o ring (c ∷ poly_at o cs 1 ∷ []) (atom 0 ⊕ atom 1) (atom 0 ⊕ unit ⊗ atom 1) tt tt refl

  -- an endpoint is the sum of the values at 0 and at 1
  pub endpoint-values : (s : List ℕ) → endpoint o s ≡ plus o (poly_at o s 0) (poly_at o s 1)
  unfolding endpoint poly_at Agree
  endpoint-values [] = identity o ring [] nought (nought ⊕ nought) tt tt refl
  endpoint-values (c ∷ cs) =
      let C = atom 0 in let P = atom 1 in let Q = atom 2 in
      ap (plus o c) (sum-at_one (c ∷ cs))
      ∙ identity o ring (c ∷ poly_at o cs 0 ∷ poly_at o cs 1 ∷ [])
      (C ⊕ (C ⊕ unit ⊗ Q)) ((C ⊕ nought ⊗ P) ⊕ (C ⊕ unit ⊗ Q)) tt tt refl

  -- the sum of one number over all rows
  sum-constant : (n c : ℕ) → sum_below o (2 ^ n) (λ b. c) ≡ times o (two_power o n) c
  unfolding sum_below power Agree
  sum-constant zero c = identity o ring (c ∷ []) (nought ⊕ atom 0) (unit ⊗ atom 0) tt tt refl
  sum-constant (suc n) c =
      let P = atom 0 in let C = atom 1 in
      ap (λ k. sum_below o k (λ b. c)) (two_halves n)
      ∙ sum-split o ring (2 ^ n) (2 ^ n) (λ b. c)
      ∙ ap (λ s. plus o s s) (sum-constant n c)
      ∙ identity o ring (two_power o n ∷ c ∷ []) (P ⊗ C ⊕ P ⊗ C) (((unit ⊕ unit) ⊗ P) ⊗ C) tt tt refl

  -- there are as many endpoints as masks
  pub length-ends : (ss : List (List ℕ)) → length (map (endpoint o) ss) ≡ length ss
  length-ends [] = refl
  length-ends (s ∷ ss) = ap suc (length-ends ss)

  -- twice the total of masks with these endpoints
  total-twice : (es : List ℕ) → plus o (total_of o es) (total_of o es) ≡ times o (two_power o (length es)) (sum_of o es)
  unfolding total_of sum_of power Agree
  total-twice [] = identity o ring [] (nought ⊕ nought) (unit ⊗ nought) tt tt refl
  total-twice (e ∷ es) =
      let P = atom 0 in let E = atom 1 in
      identity o ring (two_power o (length es) ∷ plus o e (sum_of o es) ∷ []) (P ⊗ E ⊕ P ⊗ E) (((unit ⊕ unit) ⊗ P) ⊗ E) tt tt refl

  -- the total of the masks by their endpoints
  pub total-endpoints : (ss : List (List ℕ)) → masks_total o ss ≡ total_of o (map (endpoint o) ss)
  unfolding masks_total masks_at total_of sum_of sum_below Agree
  total-endpoints [] = identity o ring [] (nought ⊕ nought) nought tt tt refl
  total-endpoints (s ∷ ss) =
      let n = length ss in
      let ends = map (endpoint o) ss in
      let k = two_power o (length ends) in
      let g : ℕ → ℕ = λ b. masks_at o (s ∷ ss) (digits (suc n) b) in
      let rest : ℕ → ℕ = λ b. masks_at o ss (digits n b) in
      let half : (z : ℕ) → sum_below o (2 ^ n) (λ b. plus o (poly_at o s z) (rest b)) ≡ plus o (times o k (poly_at o s z)) (total_of o ends) =
      λ z. sym (sum-plus o ring (2 ^ n) (λ b. poly_at o s z) rest)
      ∙ ap (λ c. plus o c (sum_below o (2 ^ n) rest)) (sum-constant n (poly_at o s z) ∙ ap (λ j. times o (two_power o j) (poly_at o s z)) (sym (length-ends ss)))
      ∙ ap (plus o (times o k (poly_at o s z))) (total-endpoints ss) in
      let P = atom 0 in let A = atom 1 in let B = atom 2 in let T = atom 3 in let E = atom 1 in let F = atom 2 in
      ap (λ c. sum_below o c g) (two_halves n)
      ∙ sum-split o ring (2 ^ n) (2 ^ n) g
      ∙ ap (λ c. plus o c (sum_below o (2 ^ n) (λ b. g (2 ^ n + b)))) (sum-same o (2 ^ n) _ _ (λ b low. ap (masks_at o (s ∷ ss)) (digits-low n b low)) ∙ half 0)
      ∙ ap (plus o (plus o (times o k (poly_at o s 0)) (total_of o ends))) (sum-same o (2 ^ n) _ _ (λ b low. ap (masks_at o (s ∷ ss)) (digits-high n b low)) ∙ half 1)
      ∙ identity o ring (k ∷ poly_at o s 0 ∷ poly_at o s 1 ∷ total_of o ends ∷ [])
      ((P ⊗ A ⊕ T) ⊕ (P ⊗ B ⊕ T)) (P ⊗ (A ⊕ B) ⊕ (T ⊕ T)) tt tt refl
      ∙ ap (plus o (times o k (plus o (poly_at o s 0) (poly_at o s 1)))) (total-twice ends)
      ∙ ap (λ e. plus o (times o k e) (times o k (sum_of o ends))) (sym (endpoint-values s))
      ∙ identity o ring (k ∷ endpoint o s ∷ sum_of o ends ∷ []) (P ⊗ E ⊕ P ⊗ F) (P ⊗ (E ⊕ F)) tt tt refl

  -- earlier masks, one mask and later ones
  masks_at-apart : (es : List (List ℕ)) (gs : List ℕ) (s : List ℕ) (x : ℕ) (later : List (List ℕ)) (bits : List ℕ) → length es ≡ length gs →
      masks_at o (es ++ s ∷ later) (gs ++ x ∷ bits) ≡ plus o (masks_at o es gs) (plus o (poly_at o s x) (masks_at o later bits))
  unfolding masks_at Agree
  masks_at-apart [] [] s x later bits e =
      identity o ring (poly_at o s x ∷ masks_at o later bits ∷ []) (atom 0 ⊕ atom 1) (nought ⊕ (atom 0 ⊕ atom 1)) tt tt refl
  masks_at-apart [] (g ∷ gs) s x later bits e = absurd (omega arith)
  masks_at-apart (f ∷ es) [] s x later bits e = absurd (omega arith)
  masks_at-apart (f ∷ es) (g ∷ gs) s x later bits e =
      let A = atom 0 in let B = atom 1 in let C = atom 2 in
      ap (plus o (poly_at o f g)) (masks_at-apart es gs s x later bits (omega arith))
      ∙ identity o ring (poly_at o f g ∷ masks_at o es gs ∷ plus o (poly_at o s x) (masks_at o later bits) ∷ [])
      (A ⊕ (B ⊕ C)) ((A ⊕ B) ⊕ C) tt tt refl

  -- the value of the closed form
  pub masked_round-value : (eps done : ℕ) (s : List ℕ) (ends : List ℕ) (p : Piece) (x : ℕ) →
      poly_at o (masked_round o eps done s ends p) x
      ≡ plus o (plus o (times o (two_power o (length ends)) (poly_at o s x)) (plus o (times o (two_power o (length ends)) done) (total_of o ends)))
      (times o eps (plus o p.constant (times o p.leading (times o x x))))
  unfolding masked_round poly_at Agree
  masked_round-value eps done s ends p x =
      let k = two_power o (length ends) in
      let c = plus o (times o k done) (total_of o ends) in
      let S = atom 0 in let C = atom 1 in let E = atom 2 in let A = atom 3 in let L = atom 4 in let X = atom 5 in
      poly_at-plus o ring (poly_plus o (poly_scaled o k s) (c ∷ [])) (times o eps p.constant ∷ 0 ∷ times o eps p.leading ∷ []) x
      ∙ ap (λ v. plus o v (poly_at o (times o eps p.constant ∷ 0 ∷ times o eps p.leading ∷ []) x))
      (poly_at-plus o ring (poly_scaled o k s) (c ∷ []) x ∙ ap (λ v. plus o v (poly_at o (c ∷ []) x)) (poly_at-scaled o ring k s x))
      ∙ identity o ring (times o k (poly_at o s x) ∷ c ∷ eps ∷ p.constant ∷ p.leading ∷ x ∷ [])
      ((S ⊕ (C ⊕ X ⊗ nought)) ⊕ (E ⊗ A ⊕ X ⊗ (nought ⊕ X ⊗ (E ⊗ L ⊕ X ⊗ nought))))
      ((S ⊕ C) ⊕ E ⊗ (A ⊕ L ⊗ (X ⊗ X))) tt tt refl

  -- the closed form of a masked round is its sum over the bits
  pub masked_round-sum : (eps : ℕ) (es : List (List ℕ)) (gs : List ℕ) (s : List ℕ) (later : List (List ℕ)) (p : Piece) (x : ℕ) → length es ≡ length gs →
      masked_round_at o eps (es ++ s ∷ later) gs (length later) p x ≡ poly_at o (masked_round o eps (masks_at o es gs) s (map (endpoint o) later) p) x
  unfolding masked_round_at masks_total Agree
  masked_round-sum eps es gs s later p x e =
      let m = length later in
      let ends = map (endpoint o) later in
      let k = two_power o (length ends) in
      let D = masks_at o es gs in
      let v = poly_at o s x in
      let same : (c : ℕ) → times o (two_power o m) c ≡ times o k c = λ c. ap (λ j. times o (two_power o j) c) (sym (length-ends later)) in
      let plain = times o eps (plus o p.constant (times o p.leading (times o x x))) in
      let A = atom 0 in let B = atom 1 in let T = atom 2 in
      ap (λ n. plus o n plain)
      (sum-same o (2 ^ m) _ _ (λ b _. masks_at-apart es gs s x later (digits m b) e)
      ∙ sym (sum-plus o ring (2 ^ m) (λ b. D) (λ b. plus o v (masks_at o later (digits m b))))
      ∙ ap (λ n. plus o n (sum_below o (2 ^ m) (λ b. plus o v (masks_at o later (digits m b))))) (sum-constant m D ∙ same D)
      ∙ ap (plus o (times o k D))
      (sym (sum-plus o ring (2 ^ m) (λ b. v) (λ b. masks_at o later (digits m b)))
      ∙ ap (λ n. plus o n (sum_below o (2 ^ m) (λ b. masks_at o later (digits m b)))) (sum-constant m v ∙ same v)
      ∙ ap (plus o (times o k v)) (total-endpoints later))
      ∙ identity o ring (times o k D ∷ times o k v ∷ total_of o ends ∷ []) (A ⊕ (B ⊕ T)) (B ⊕ (A ⊕ T)) tt tt refl)
      ∙ sym (masked_round-value eps D s ends p x)

  -- the polynomial that a wire makes: the one whose wire it is, put right in its linear coefficient
  unwired-value : (t c d : ℕ) (cs : List ℕ) (x : ℕ) →
      poly_at o (unwired o t (wire_of (c ∷ d ∷ cs))) x
      ≡ plus o (poly_at o (c ∷ d ∷ cs) x) (times o (minus o t (plus o (poly_at o (c ∷ d ∷ cs) 0) (poly_at o (c ∷ d ∷ cs) 1))) x)
  unfolding unwired wire_of poly_at Agree
  unwired-value t c d cs x =
      let T = atom 0 in let C = atom 1 in let D = atom 2 in let X = atom 3 in let P = atom 4 in let Q = atom 5 in let R = atom 6 in
      ap (λ s. plus o c (times o x (plus o (minus o (minus o t (plus o c c)) s) (times o x (poly_at o cs x))))) (sum-at_one cs)
      ∙ identity o ring (t ∷ c ∷ d ∷ x ∷ poly_at o cs x ∷ poly_at o cs 1 ∷ poly_at o cs 0 ∷ [])
      (C ⊕ X ⊗ (((T ⊖ (C ⊕ C)) ⊖ Q) ⊕ X ⊗ P))
      ((C ⊕ X ⊗ (D ⊕ X ⊗ P)) ⊕ (T ⊖ ((C ⊕ nought ⊗ (D ⊕ nought ⊗ R)) ⊕ (C ⊕ unit ⊗ (D ⊕ unit ⊗ Q)))) ⊗ X)
      tt tt refl

  -- the same where the linear coefficient comes from the second of two sums
  unwired-plus : (t : ℕ) (l : List ℕ) (a b : ℕ) (ds : List ℕ) (x : ℕ) →
      let h = poly_plus o l (a ∷ b ∷ ds) in
      poly_at o (unwired o t (wire_of h)) x ≡ plus o (poly_at o h x) (times o (minus o t (plus o (poly_at o h 0) (poly_at o h 1))) x)
  unfolding poly_plus
  unwired-plus t [] a b ds x = unwired-value t a b ds x
  unwired-plus t (c ∷ []) a b ds x = unwired-value t (plus o c a) b ds x
  unwired-plus t (c ∷ d ∷ cs) a b ds x = unwired-value t (plus o c a) (plus o d b) (poly_plus o cs ds) x

  -- the claim that a plain round leaves
  pub sent-value : (claim : ℕ) (p : Piece) (g : ℕ) → next_claim evaluation o claim (pair_of p) g
      ≡ plus o (plus o p.constant (times o (minus o (minus o (minus o claim p.constant) p.constant) p.leading) g)) (times o p.leading (times o g g))
  unfolding next_claim sent_polynomial sent_pair poly_at Agree
  sent-value claim p g =
      let K = atom 0 in let C = atom 1 in let L = atom 2 in let X = atom 3 in
      identity o ring (claim ∷ p.constant ∷ p.leading ∷ g ∷ [])
      (C ⊕ X ⊗ ((((K ⊖ C) ⊖ C) ⊖ L) ⊕ X ⊗ (L ⊕ X ⊗ nought))) ((C ⊕ (((K ⊖ C) ⊖ C) ⊖ L) ⊗ X) ⊕ L ⊗ (X ⊗ X)) tt tt refl

  -- the target before a round: eps times the plain claim, and the masks that are done and those
  -- with the endpoints es, which are to come
  target : ℕ → ℕ → ℕ → List ℕ → ℕ
  target eps claim done es = plus o (times o eps claim) (plus o (times o (two_power o (length es)) done) (total_of o es))

  target-next : (eps claim done : ℕ) (s : List ℕ) (es : List ℕ) (g : ℕ) (p : Piece) →
      poly_at o (unwired o (target eps claim done (endpoint o s ∷ es)) (wire_of (masked_round o eps done s es p))) g
      ≡ target eps (next_claim evaluation o claim (pair_of p) g) (plus o done (poly_at o s g)) es
  unfolding target masked_round total_of sum_of power Agree
  target-next eps claim done s es g p =
      let k = two_power o (length es) in
      let T = total_of o es in
      let h = masked_round o eps done s es p in
      let t = target eps claim done (endpoint o s ∷ es) in
      let plain : ℕ → ℕ = λ x. times o eps (plus o p.constant (times o p.leading (times o x x))) in
      let v : ℕ → ℕ = λ x. plus o (plus o (times o k (poly_at o s x)) (plus o (times o k done) T)) (plain x) in
      let E = atom 0 in let K = atom 1 in let P = atom 2 in let D = atom 3 in let A = atom 4 in let B = atom 5 in let G = atom 6 in
      let Z = atom 7 in let C = atom 8 in let L = atom 9 in let X = atom 10 in
      let V : Form → Form → Form = λ y x. (P ⊗ y ⊕ (P ⊗ D ⊕ Z)) ⊕ E ⊗ (C ⊕ L ⊗ (x ⊗ x)) in
      let split : t ≡ plus o (times o eps claim) (plus o (times o (times o (plus o 1 1) k) done) (plus o (times o k (plus o (poly_at o s 0) (poly_at o s 1))) (plus o T T))) =
      ap (λ n. plus o (times o eps claim) (plus o (times o (times o (plus o 1 1) k) done) n))
      (identity o ring (k ∷ endpoint o s ∷ sum_of o es ∷ []) (atom 0 ⊗ (atom 1 ⊕ atom 2)) (atom 0 ⊗ atom 1 ⊕ atom 0 ⊗ atom 2) tt tt refl
      ∙ ap (λ n. plus o (times o k n) (times o k (sum_of o es))) (endpoint-values s)
      ∙ ap (plus o (times o k (plus o (poly_at o s 0) (poly_at o s 1)))) (sym (total-twice es))) in
      unwired-plus t (poly_plus o (poly_scaled o k s) (plus o (times o k done) T ∷ [])) (times o eps p.constant) 0 (times o eps p.leading ∷ []) g
      ∙ ap (λ n. plus o n (times o (minus o t (plus o (poly_at o h 0) (poly_at o h 1))) g)) (masked_round-value eps done s es p g)
      ∙ ap (λ n. plus o (v g) (times o (minus o t (plus o n (poly_at o h 1))) g)) (masked_round-value eps done s es p 0)
      ∙ ap (λ n. plus o (v g) (times o (minus o t (plus o (v 0) n)) g)) (masked_round-value eps done s es p 1)
      ∙ ap (λ n. plus o (v g) (times o (minus o n (plus o (v 0) (v 1))) g)) split
      ∙ identity o ring (eps ∷ claim ∷ k ∷ done ∷ poly_at o s 0 ∷ poly_at o s 1 ∷ poly_at o s g ∷ T ∷ p.constant ∷ p.leading ∷ g ∷ [])
      (V G X ⊕ ((E ⊗ K ⊕ (((unit ⊕ unit) ⊗ P) ⊗ D ⊕ (P ⊗ (A ⊕ B) ⊕ (Z ⊕ Z)))) ⊖ (V A nought ⊕ V B unit)) ⊗ X)
      (E ⊗ ((C ⊕ (((K ⊖ C) ⊖ C) ⊖ L) ⊗ X) ⊕ L ⊗ (X ⊗ X)) ⊕ (P ⊗ (D ⊕ G) ⊕ Z))
      tt tt refl
      ∙ ap (λ n. plus o (times o eps n) (plus o (times o k (plus o done (poly_at o s g))) T)) (sym (sent-value claim p g))

  target-after : (eps claim done : ℕ) (ss : List (List ℕ)) (gs : List ℕ) (ps : List Piece) → length ss ≡ length gs → length ss ≡ length ps →
      target_after o (target eps claim done (map (endpoint o) ss)) (map wire_of (masked_rounds o eps done ss gs ps)) gs
      ≡ plus o (times o eps (plain_after o claim ps gs)) (plus o done (masks_at o ss gs))
  unfolding target next_target claim_along masked_rounds masks_at total_of power Agree
  target-after eps claim done [] [] [] e e' =
      identity o ring (eps ∷ claim ∷ done ∷ []) (atom 0 ⊗ atom 1 ⊕ (unit ⊗ atom 2 ⊕ nought)) (atom 0 ⊗ atom 1 ⊕ (atom 2 ⊕ nought)) tt tt refl
  target-after eps claim done [] (g ∷ gs) ps e e' = absurd (omega arith)
  target-after eps claim done [] [] (p ∷ ps) e e' = absurd (omega arith)
  target-after eps claim done (s ∷ ss) [] ps e e' = absurd (omega arith)
  target-after eps claim done (s ∷ ss) (g ∷ gs) [] e e' = absurd (omega arith)
  target-after eps claim done (s ∷ ss) (g ∷ gs) (p ∷ ps) e e' =
      let more = plus o done (poly_at o s g) in
      let next = next_claim evaluation o claim (pair_of p) g in
      let A = atom 0 in let B = atom 1 in let C = atom 2 in let D = atom 3 in
      ap (λ t. target_after o t (map wire_of (masked_rounds o eps more ss gs ps)) gs) (target-next eps claim done s (map (endpoint o) ss) g p)
      ∙ target-after eps next more ss gs ps (omega arith) (omega arith)
      ∙ identity o ring (times o eps (plain_after o next ps gs) ∷ done ∷ poly_at o s g ∷ masks_at o ss gs ∷ [])
      (A ⊕ ((B ⊕ C) ⊕ D)) (A ⊕ (B ⊕ (C ⊕ D))) tt tt refl

  -- an honest masked run ends in eps times the plain residual and the masks at the challenges
  pub honest_residual : (eps claim : ℕ) (ss : List (List ℕ)) (gs : List ℕ) (ps : List Piece) → length ss ≡ length gs → length ss ≡ length ps →
      target_after o (first_target o eps claim (masks_total o ss)) (map wire_of (masked_rounds o eps 0 ss gs ps)) gs
      ≡ plus o (times o eps (plain_after o claim ps gs)) (masks_at o ss gs)
  unfolding target Agree
  honest_residual eps claim ss gs ps e e' =
      let ends = map (endpoint o) ss in
      let A = atom 0 in let P = atom 1 in let T = atom 2 in
      ap (λ m. target_after o (plus o (times o eps claim) m) (map wire_of (masked_rounds o eps 0 ss gs ps)) gs) (total-endpoints ss)
      ∙ ap (λ t. target_after o t (map wire_of (masked_rounds o eps 0 ss gs ps)) gs)
      (identity o ring (times o eps claim ∷ two_power o (length ends) ∷ total_of o ends ∷ []) (A ⊕ T) (A ⊕ (P ⊗ nought ⊕ T)) tt tt refl)
      ∙ target-after eps claim 0 ss gs ps e e'
      ∙ identity o ring (times o eps (plain_after o claim ps gs) ∷ masks_at o ss gs ∷ []) (atom 0 ⊕ (nought ⊕ atom 1)) (atom 0 ⊕ atom 1) tt tt refl

-- both closed forms, as contracts say them
pub rounds_are_sums : (o : Ops) → IsRing o → RoundsAreSums o
rounds_are_sums o ring eps earlier later gs s p x e = sym (masked_round-sum o ring eps earlier gs s later p x e)

pub totals_are_of_endpoints : (o : Ops) → IsRing o → TotalsAreOfEndpoints o
totals_are_of_endpoints o ring ss = total-endpoints o ring ss
