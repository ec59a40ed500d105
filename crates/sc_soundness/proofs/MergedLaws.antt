-- Rounds over several tables are those of a sumcheck, and honest ones keep the claim true; what they are on tables as they stand, with challenges bound.
use Rattle.std.proofs.Common.{◌≡◌, ℕ, suc, ◌^◌, List, [], ◌∷◌, ◌++◌, length, map, sym, ◌∙◌, ap, refl, arith}
use Rattle.std.proofs.lemmas.List.{append-nil}
use Rattle.sc_definitions.specs.Ring.{Ops, IsRing, IsField, element, plus, times, minus}
use Rattle.sc_definitions.specs.Tables.{evaluation, prefix, value, inner_product, folded_in, folded_by}
use Rattle.sc_definitions.specs.Messages.{message_first, message_leading}
use Rattle.sc_definitions.specs.Polynomials.{poly_at}
use Rattle.sc_definitions.specs.Rounds.{true_claim, slow_leading, round_polynomial, honest_message, sent_pair, sent_polynomial, next_claim}
use Rattle.sc_definitions.proofs.RingLaws.{element-plus, element-zero}
use Rattle.sc_definitions.proofs.Identity.{atom, nought, unit, ◌⊕◌, ◌⊗◌, ◌⊖◌, Agree, identity, same_element}
use Rattle.sc_definitions.proofs.PolyLaws.{poly_at-plus, length-plus}
use Rattle.sc_definitions.proofs.PlacedLaws.{folded_by-append}
use Rattle.sc_definitions.proofs.RoundLaws.{true_claim-next, true_claim-inner, round_polynomial-values, honest_message-message}
use Rattle.sc_definitions.proofs.BuildLaws.{true_claim-end}
use Rattle.sc_definitions.proofs.LuckyLaws.{element-true}
use Rattle.sc_soundness.specs.Courses.{AreSumcheckRounds, IsSound, KeepsTrue}
use Rattle.sc_soundness.specs.Merged.{WeightedTable, merged_claim, merged_leading, merged_round, honest_merged, merged_value, merged_excess, merged_course, MergedRoundsAre, bound_table, merged_message_first, merged_message_leading, merged_message, merged_inner}
use Rattle.sc_soundness.proofs.CourseLaws.{rounds-sound}

module _ (o : Ops) (ring : IsRing o) where
  -- ---- what a pair sends

  length-sent : (claim : ℕ) (message : List ℕ) → length message ≡ 2 → length (sent_polynomial evaluation o claim message) ≡ 3
  unfolding sent_polynomial sent_pair
  length-sent claim [] two = absurd (omega (arith, two))
  length-sent claim (c ∷ []) two = absurd (omega (arith, two))
  length-sent claim (c ∷ (q ∷ [])) two = refl
  length-sent claim (c ∷ (q ∷ (x ∷ xs))) two = absurd (omega (arith, two))

  sent-both : (claim : ℕ) (message : List ℕ) → length message ≡ 2 →
      plus o (poly_at o (sent_polynomial evaluation o claim message) 0) (poly_at o (sent_polynomial evaluation o claim message) 1) ≡ element o claim
  unfolding sent_polynomial sent_pair poly_at Agree
  sent-both claim [] two = absurd (omega (arith, two))
  sent-both claim (c ∷ []) two = absurd (omega (arith, two))
  sent-both claim (c ∷ (q ∷ [])) two =
      let K = atom 0 in let C = atom 1 in let Q = atom 2 in
      let linear = ((K ⊖ C) ⊖ C) ⊖ Q in
      let a = plus o c (times o 0 (plus o (minus o (minus o (minus o claim c) c) q) (times o 0 (plus o q (times o 0 0))))) in
      let b = plus o c (times o 1 (plus o (minus o (minus o (minus o claim c) c) q) (times o 1 (plus o q (times o 1 0))))) in
      sym (element-plus o ring a b)
      ∙ same_element o ring (claim ∷ c ∷ q ∷ [])
      ((C ⊕ nought ⊗ (linear ⊕ nought ⊗ (Q ⊕ nought ⊗ nought))) ⊕ (C ⊕ unit ⊗ (linear ⊕ unit ⊗ (Q ⊕ unit ⊗ nought)))) K refl
  sent-both claim (c ∷ (q ∷ (x ∷ xs))) two = absurd (omega (arith, two))

  -- ---- one table

  pair-both : (f w : ℕ → ℕ) (rs : List ℕ) (m : ℕ) →
      true_claim evaluation prefix o f w rs (suc m)
      ≡ plus o (poly_at o (round_polynomial evaluation prefix o f w rs m) 0) (poly_at o (round_polynomial evaluation prefix o f w rs m) 1)
  unfolding next_claim honest_message sent_polynomial sent_pair poly_at Agree
  pair-both f w rs m =
      let t = true_claim evaluation prefix o f w rs (suc m) in
      let a = true_claim evaluation prefix o f w (rs ++ 0 ∷ []) m in
      let b = true_claim evaluation prefix o f w (rs ++ 1 ∷ []) m in
      let l = slow_leading evaluation prefix o f w rs m in
      let sum : element o t ≡ element o (plus o a b) =
      same_element o ring (t ∷ a ∷ l ∷ []) (atom 0) (atom 1 ⊕ (atom 1 ⊕ unit ⊗ ((((atom 0 ⊖ atom 1) ⊖ atom 1) ⊖ atom 2) ⊕ unit ⊗ (atom 2 ⊕ unit ⊗ nought)))) refl
      ∙ ap (λ x. element o (plus o a x)) (sym (true_claim-next o ring evaluation prefix tt f w rs 1 m)) in
      sym (element-true o ring evaluation prefix f w rs (suc m)) ∙ sum ∙ element-plus o ring a b
      ∙ ap (λ x. plus o x b) (round_polynomial-values o ring evaluation prefix tt f w rs m 0)
      ∙ ap (plus o (poly_at o (round_polynomial evaluation prefix o f w rs m) 0)) (round_polynomial-values o ring evaluation prefix tt f w rs m 1)

  -- with no variable left the true claim is the product of the values
  pub pair-end : (f w : ℕ → ℕ) (rs : List ℕ) → true_claim evaluation prefix o f w rs 0 ≡ times o (value o f rs) (value o w rs)
  pair-end f w rs = true_claim-end o ring evaluation prefix tt f w rs ∙ ap (λ l. times o (value o f l) (value o w l)) (append-nil rs)

  -- ---- several tables

  pub merged-at : (ps : List WeightedTable) (rs : List ℕ) (m x : ℕ) → poly_at o (merged_round o ps rs m) x ≡ merged_claim o ps (rs ++ x ∷ []) m
  unfolding merged_round merged_claim poly_at Agree
  merged-at [] rs m x = identity o ring (x ∷ []) (nought ⊕ atom 0 ⊗ (nought ⊕ atom 0 ⊗ (nought ⊕ atom 0 ⊗ nought))) nought tt tt refl
  merged-at (p ∷ ps) rs m x =
      let T = round_polynomial evaluation prefix o p.table p.weights rs m in
      poly_at-plus o ring T (merged_round o ps rs m) x
      ∙ ap (λ t. plus o t (poly_at o (merged_round o ps rs m) x)) (sym (round_polynomial-values o ring evaluation prefix tt p.table p.weights rs m x))
      ∙ ap (plus o (true_claim evaluation prefix o p.table p.weights (rs ++ x ∷ []) m)) (merged-at ps rs m x)

  merged-both : (ps : List WeightedTable) (rs : List ℕ) (m : ℕ) →
      merged_claim o ps rs (suc m) ≡ plus o (merged_claim o ps (rs ++ 0 ∷ []) m) (merged_claim o ps (rs ++ 1 ∷ []) m)
  unfolding merged_claim Agree
  merged-both [] rs m = identity o ring [] nought (nought ⊕ nought) tt tt refl
  merged-both (p ∷ ps) rs m =
      let a = true_claim evaluation prefix o p.table p.weights (rs ++ 0 ∷ []) m in
      let b = true_claim evaluation prefix o p.table p.weights (rs ++ 1 ∷ []) m in
      let A = merged_claim o ps (rs ++ 0 ∷ []) m in
      let B = merged_claim o ps (rs ++ 1 ∷ []) m in
      ap (λ t. plus o t (merged_claim o ps rs (suc m)))
      (pair-both p.table p.weights rs m
      ∙ ap (λ x. plus o x (poly_at o (round_polynomial evaluation prefix o p.table p.weights rs m) 1)) (sym (round_polynomial-values o ring evaluation prefix tt p.table p.weights rs m 0))
      ∙ ap (plus o a) (sym (round_polynomial-values o ring evaluation prefix tt p.table p.weights rs m 1)))
      ∙ ap (plus o (plus o a b)) (merged-both ps rs m)
      ∙ identity o ring (a ∷ b ∷ A ∷ B ∷ []) ((atom 0 ⊕ atom 1) ⊕ (atom 2 ⊕ atom 3)) ((atom 0 ⊕ atom 2) ⊕ (atom 1 ⊕ atom 3)) tt tt refl

  length-merged : (ps : List WeightedTable) (rs : List ℕ) (m : ℕ) → length (merged_round o ps rs m) ≡ 3
  unfolding merged_round round_polynomial
  length-merged [] rs m = refl
  length-merged (p ∷ ps) rs m =
      let three = length-merged ps rs m in
      length-plus o ring (round_polynomial evaluation prefix o p.table p.weights rs m) (merged_round o ps rs m) (omega (arith, three)) ∙ three

  pub element-merged : (ps : List WeightedTable) (rs : List ℕ) (m : ℕ) → element o (merged_claim o ps rs m) ≡ merged_claim o ps rs m
  unfolding merged_claim
  element-merged [] rs m = element-zero o ring
  element-merged (p ∷ ps) rs m = element-plus o ring _ _

  pub merged-rounds : (ps : List WeightedTable) → AreSumcheckRounds o (merged_course o ps) 2 3
  unfolding next_claim merged_excess
  merged-rounds ps = record {
    sent = sent_polynomial evaluation o;
    polynomial = merged_round o ps;
    next_is = λ claim message r. refl;
    excess_is = λ claim message rs m. refl;
    sent_width = length-sent;
    true_width = length-merged ps;
    sent_sum = sent-both;
    true_sum = λ rs m. merged-both ps rs m
        ∙ ap (λ t. plus o t (merged_claim o ps (rs ++ 1 ∷ []) m)) (sym (merged-at ps rs m 0))
        ∙ ap (plus o (poly_at o (merged_round o ps rs m) 0)) (sym (merged-at ps rs m 1));
    true_at = merged-at ps;
    true_element = element-merged ps;
  }

  -- what is sent under a sum of claims by a sum of pairs is the sum of what each sends
  merged-next : (ps : List WeightedTable) (rs : List ℕ) (m r : ℕ) →
      next_claim evaluation o (merged_claim o ps rs (suc m)) (honest_merged o ps rs m) r ≡ merged_claim o ps (rs ++ r ∷ []) m
  unfolding merged_claim merged_leading honest_merged next_claim sent_polynomial sent_pair honest_message poly_at Agree
  merged-next [] rs m r =
      let X = atom 0 in
      identity o ring (r ∷ []) (nought ⊕ X ⊗ ((((nought ⊖ nought) ⊖ nought) ⊖ nought) ⊕ X ⊗ (nought ⊕ X ⊗ nought))) nought tt tt refl
  merged-next (p ∷ ps) rs m r =
      let t = true_claim evaluation prefix o p.table p.weights rs (suc m) in
      let c = true_claim evaluation prefix o p.table p.weights (rs ++ 0 ∷ []) m in
      let q = slow_leading evaluation prefix o p.table p.weights rs m in
      let T = merged_claim o ps rs (suc m) in
      let C = merged_claim o ps (rs ++ 0 ∷ []) m in
      let Q = merged_leading o ps rs m in
      let A = atom 0 in let B = atom 1 in let D = atom 2 in let E = atom 3 in let F = atom 4 in let G = atom 5 in let X = atom 6 in
      identity o ring (t ∷ c ∷ q ∷ T ∷ C ∷ Q ∷ r ∷ [])
      ((B ⊕ F) ⊕ X ⊗ (((((A ⊕ E) ⊖ (B ⊕ F)) ⊖ (B ⊕ F)) ⊖ (D ⊕ G)) ⊕ X ⊗ ((D ⊕ G) ⊕ X ⊗ nought)))
      ((B ⊕ X ⊗ ((((A ⊖ B) ⊖ B) ⊖ D) ⊕ X ⊗ (D ⊕ X ⊗ nought))) ⊕ (F ⊕ X ⊗ ((((E ⊖ F) ⊖ F) ⊖ G) ⊕ X ⊗ (G ⊕ X ⊗ nought))))
      tt tt refl
      ∙ ap (λ u. plus o u (plus o C (times o r (plus o (minus o (minus o (minus o T C) C) Q) (times o r (plus o Q (times o r 0)))))))
      (sym (true_claim-next o ring evaluation prefix tt p.table p.weights rs r m))
      ∙ ap (plus o (true_claim evaluation prefix o p.table p.weights (rs ++ r ∷ []) m)) (merged-next ps rs m r)

  pub merged-keeps : (ps : List WeightedTable) → KeepsTrue (merged_course o ps) (honest_merged o ps)
  merged-keeps ps = record { next = merged-next ps }

  pub merged-end : (ps : List WeightedTable) (rs : List ℕ) → merged_claim o ps rs 0 ≡ merged_value o ps rs
  unfolding merged_claim merged_value
  merged-end [] rs = refl
  merged-end (p ∷ ps) rs = ap (λ t. plus o t (merged_claim o ps rs 0)) (pair-end p.table p.weights rs) ∙ ap (plus o (times o (value o p.table rs) (value o p.weights rs))) (merged-end ps rs)

  -- ---- tables as they stand, with challenges bound

  pub merged-message : (ps : List WeightedTable) (rs : List ℕ) (m : ℕ) → honest_merged o ps rs m ≡ merged_message o (2 ^ m) (map (bound_table o rs (suc m)) ps)
  unfolding honest_merged merged_claim merged_leading merged_message_first merged_message_leading honest_message
  merged-message [] rs m = refl
  merged-message (p ∷ ps) rs m =
      let F = folded_by evaluation prefix o rs (suc m) p.table in
      let W = folded_by evaluation prefix o rs (suc m) p.weights in
      let a = true_claim evaluation prefix o p.table p.weights (rs ++ 0 ∷ []) m in
      let l = slow_leading evaluation prefix o p.table p.weights rs m in
      let pair = honest_message-message o ring evaluation prefix tt p.table p.weights rs m in
      let first : a ≡ message_first evaluation prefix o (2 ^ m) F W = cc in
      let last : l ≡ message_leading evaluation prefix o (2 ^ m) F W = cc in
      let rest = merged-message ps rs m in
      let firsts : merged_claim o ps (rs ++ 0 ∷ []) m ≡ merged_message_first o (2 ^ m) (map (bound_table o rs (suc m)) ps) = cc in
      let lasts : merged_leading o ps rs m ≡ merged_message_leading o (2 ^ m) (map (bound_table o rs (suc m)) ps) = cc in
      ap (λ x. plus o x (merged_claim o ps (rs ++ 0 ∷ []) m) ∷ plus o l (merged_leading o ps rs m) ∷ []) first
      ∙ ap (λ x. plus o (message_first evaluation prefix o (2 ^ m) F W) x ∷ plus o l (merged_leading o ps rs m) ∷ []) firsts
      ∙ ap (λ x. plus o (message_first evaluation prefix o (2 ^ m) F W) (merged_message_first o (2 ^ m) (map (bound_table o rs (suc m)) ps)) ∷ plus o x (merged_leading o ps rs m) ∷ []) last
      ∙ ap (λ x. plus o (message_first evaluation prefix o (2 ^ m) F W) (merged_message_first o (2 ^ m) (map (bound_table o rs (suc m)) ps))
      ∷ plus o (message_leading evaluation prefix o (2 ^ m) F W) x ∷ []) lasts

  pub merged-inner : (ps : List WeightedTable) (rs : List ℕ) (m : ℕ) → merged_claim o ps rs m ≡ merged_inner o m (map (bound_table o rs m) ps)
  unfolding merged_claim merged_inner
  merged-inner [] rs m = refl
  merged-inner (p ∷ ps) rs m =
      ap (λ x. plus o x (merged_claim o ps rs m)) (true_claim-inner o ring evaluation prefix p.table p.weights rs m)
      ∙ ap (plus o (inner_product o m (folded_by evaluation prefix o rs m p.table) (folded_by evaluation prefix o rs m p.weights))) (merged-inner ps rs m)

  -- one challenge more binds each table as it stands
  pub bound-more : (p : WeightedTable) (rs : List ℕ) (r m : ℕ) →
      bound_table o (rs ++ r ∷ []) m p
      ≡ record {
        table = folded_in evaluation prefix o m r (folded_by evaluation prefix o rs (suc m) p.table);
        weights = folded_in evaluation prefix o m r (folded_by evaluation prefix o rs (suc m) p.weights);
      }
  bound-more p rs r m =
      ap (λ f. record { table = f; weights = folded_by evaluation prefix o (rs ++ r ∷ []) m p.weights }) (folded_by-append evaluation prefix o rs r m p.table)
      ∙ ap (λ w. record { table = folded_in evaluation prefix o m r (folded_by evaluation prefix o rs (suc m) p.table); weights = w }) (folded_by-append evaluation prefix o rs r m p.weights)

module _ (o : Ops) (ring : IsRing o) where
  pub merged_rounds-are : (ps : List WeightedTable) → MergedRoundsAre o ps
  merged_rounds-are ps = record {
    rounds = merged-rounds o ring ps;
    honest = merged-keeps o ring ps;
    last = merged-end o ring ps;
    sum = merged-inner o ring ps;
    message = merged-message o ring ps;
  }

pub merged-sound : (o : Ops) → IsField o → (ps : List WeightedTable) → IsSound o (merged_course o ps) 2 3
merged-sound o field ps = rounds-sound o field (merged_course o ps) 2 3 (merged-rounds o field.ring ps)
