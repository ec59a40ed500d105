-- The merged claim of true values is the sum over all tables; and what its rounds and openings show is certified.
use Rattle.std.proofs.Common.{◌≡◌, ℕ, zero, suc, ◌+◌, ◌^◌, ◌<◌, ◌&&◌, Bool, true, false, List, [], ◌∷◌, ◌++◌, All, length, map, if◌then◌else◌, Some, None, sym, ◌∙◌, ap, refl, subst, arith, append_assoc, ⊎_elim, eq-eqb, ne_eqb, eqb-true}
use Rattle.std.specs.Prelude.{nat_eq, replicate}
use Rattle.std.specs.Cmp.Lexicographic.{pointwise, same_text}
use Rattle.std.specs.List.{slice_get}
use Rattle.sc_definitions.specs.declared.events.Event.TheVariants.{Draw}
use Rattle.sc_definitions.specs.Events.{words}
use Rattle.sc_definitions.specs.Seeds.{quadratic_seed}
use Rattle.std.proofs.lemmas.Bool.{cases_eq}
use Rattle.sc_definitions.specs.declared.false_claim.FalseClaim.{FalseClaim}
use Rattle.sc_definitions.specs.Ring.{Ops, IsRing, element, plus, times, opposite, minus, power}
use Rattle.sc_definitions.specs.Tables.{evaluation, prefix, inner_product, value, folded_by}
use Rattle.sc_definitions.specs.Polynomials.{poly_at, poly_minus, AllZero}
use Rattle.sc_definitions.specs.Rounds.{next_claim, claim_along}
use Rattle.sc_definitions.specs.Statements.{weight_of, true_value, IsTrueOf, is_true_of, batched_by_powers, claimed_values}
use Rattle.sc_definitions.specs.Transcript.{messages_of, sent, rounds_events}
use Rattle.sc_definitions.specs.Lucky.{excess, LuckyChallenge, in_batch, in_round}
use Rattle.sc_definitions.proofs.RingLaws.{element-small, element-plus, element-zero, plus_comm, plus-zero, times-zero}
use Rattle.sc_definitions.proofs.Sums.{sum-same, element-sum}
use Rattle.sc_definitions.proofs.TableLaws.{inner_product-sum}
use Rattle.sc_definitions.proofs.BuildLaws.{sum-zeros}
use Rattle.sc_definitions.proofs.RootLaws.{same-from_minus}
use Rattle.sc_definitions.proofs.RoundLaws.{true_claim-inner}
use Rattle.sc_definitions.proofs.StatementLaws.{element-batched_by_powers}
use Rattle.sc_definitions.proofs.BuiltLaws.{length-messages, length-challenges}
use Rattle.sc_definitions.proofs.Identity.{atom, nought, ◌⊕◌, ◌⊗◌, Agree, identity}
use Rattle.sc_audit_errors.specs.Findings.{holds}
use Rattle.sc_soundness.specs.Stages.{stage_residual, true_stage_residual, stage_luck, IsCertifiedIn, IsStage}
use Rattle.sc_soundness.specs.Merged.{WeightedTable, merged_claim, honest_merged, merged_value, merged_course}
use Rattle.sc_soundness.proofs.CourseLaws.{honest-end_true, minus-same}
use Rattle.sc_soundness.proofs.MergedLaws.{merged-sound, merged-keeps, merged-end}
use Rattle.sc_soundness.proofs.PowerLaws.{excess-powers}
use Rattle.sc_merge_definitions.specs.QuadraticPlays.{seeded_history}
use Rattle.sc_merge_definitions.specs.Openings.{TableClaim, statements_of, table_at, OpeningsCase, IsOpeningsCase, true_claim_value, claim_excess, IsTrueClaim, AllClaimsTrue, first_false_table_claim, merging_challenge, after_merging, merging_claim, weight_on, merging_weights, weighted_from, weighted_tables, SentOpenings, openings_challenges, after_openings, openings_events, values_at, weight_values_at, products_sum, openings_stage, openings_match, openings_figures, AreBuiltOpenings, IsOpeningsCertified, CertifiesOpenings}
use Rattle.sc_merge_definitions.proofs.FindingLaws.{named-certified, one-named, holds_where}

-- ---- lists

both-true : (a b : Bool) → (a && b) ≡ true → (a ≡ true) × (b ≡ true)
both-true true true e = (refl, refl)
both-true true false e = cc
both-true false b e = cc

list-same : (xs : List ℕ) → pointwise nat_eq xs xs ≡ true
list-same [] = refl
list-same (x ∷ xs) = ap (λ b. b && pointwise nat_eq xs xs) (eq-eqb x x refl) ∙ list-same xs

module _ (o : Ops) (ring : IsRing o) where
  -- the sum of the products of the values is that of the pairs'
  products-merged : (ps : List WeightedTable) (zs : List ℕ) → products_sum o (values_at o ps zs) (weight_values_at o ps zs) ≡ merged_value o ps zs
  unfolding products_sum merged_value
  products-merged [] zs = refl
  products-merged (p ∷ ps) zs = ap (plus o (times o (value o p.table zs) (value o p.weights zs))) (products-merged ps zs)

  -- ---- sums over the tables

  module _ (n c : ℕ) where
    -- the tables' sums with their weights, where the first claim has the power p
    inner_from : ℕ → List TableClaim → ℕ → List (ℕ → ℕ) → ℕ
    inner_from p claims j [] = 0
    inner_from p claims j (f ∷ fs) = plus o (inner_product o n f (λ b. batched_by_powers o c p (map (weight_on o j b) claims))) (inner_from p claims (suc j) fs)

    -- those of one claim
    one_from : TableClaim → ℕ → List (ℕ → ℕ) → ℕ
    one_from claim j [] = 0
    one_from claim j (f ∷ fs) = plus o (inner_product o n f (λ b. weight_on o j b claim)) (one_from claim (suc j) fs)

    merged-inner : (claims : List TableClaim) (j : ℕ) (fs : List (ℕ → ℕ)) → merged_claim o (weighted_from o c claims j fs) [] n ≡ inner_from 0 claims j fs
    unfolding merged_claim inner_from merging_weights folded_by
    merged-inner claims j [] = refl
    merged-inner claims j (f ∷ fs) =
        ap (λ t. plus o t (merged_claim o (weighted_from o c claims (suc j) fs) [] n)) (true_claim-inner o ring evaluation prefix f (merging_weights o c claims j) [] n)
        ∙ ap (plus o (inner_product o n f (merging_weights o c claims j))) (merged-inner claims (suc j) fs)

    none-from : (p j : ℕ) (fs : List (ℕ → ℕ)) → inner_from p [] j fs ≡ 0
    unfolding inner_from batched_by_powers inner_product Agree
    none-from p j [] = refl
    none-from p j (f ∷ fs) =
        ap (λ t. plus o t (inner_from p [] (suc j) fs)) (sum-same o (2 ^ n) _ _ (λ b _. times-zero o ring (f b)) ∙ sum-zeros o ring (2 ^ n))
        ∙ ap (plus o 0) (none-from p (suc j) fs)
        ∙ identity o ring [] (nought ⊕ nought) nought tt tt refl

    first-from : (p : ℕ) (claim : TableClaim) (claims : List TableClaim) (j : ℕ) (fs : List (ℕ → ℕ)) →
        inner_from p (claim ∷ claims) j fs ≡ plus o (times o (power o c p) (one_from claim j fs)) (inner_from (suc p) claims j fs)
    unfolding inner_from one_from batched_by_powers Agree
    first-from p claim claims j [] = identity o ring (power o c p ∷ []) nought (atom 0 ⊗ nought ⊕ nought) tt tt refl
    first-from p claim claims j (f ∷ fs) =
        let I = inner_product o n f (λ b. weight_on o j b claim) in
        let R = inner_product o n f (λ b. batched_by_powers o c (suc p) (map (weight_on o j b) claims)) in
        ap (λ t. plus o t (inner_from p (claim ∷ claims) (suc j) fs))
        (inner_product-sum o ring n (power o c p) f (λ b. weight_on o j b claim) (λ b. batched_by_powers o c (suc p) (map (weight_on o j b) claims)))
        ∙ ap (plus o (plus o (times o (power o c p) I) R)) (first-from p claim claims (suc j) fs)
        ∙ identity o ring (power o c p ∷ I ∷ R ∷ one_from claim (suc j) fs ∷ inner_from (suc p) claims (suc j) fs ∷ [])
        ((atom 0 ⊗ atom 1 ⊕ atom 2) ⊕ (atom 0 ⊗ atom 3 ⊕ atom 4)) (atom 0 ⊗ (atom 1 ⊕ atom 3) ⊕ (atom 2 ⊕ atom 4)) tt tt refl

    -- a claim adds nothing on another table
    elsewhere : (claim : TableClaim) (j : ℕ) (f : ℕ → ℕ) → (claim.table ≡ j → ⊥) → inner_product o n f (λ b. weight_on o j b claim) ≡ 0
    unfolding inner_product weight_on
    elsewhere claim j f other =
        sum-same o (2 ^ n) _ _ (λ b _. ap (λ t. times o (f b) (if t then weight_of o claim.statement.kind b else 0)) (ne_eqb _ _ other) ∙ times-zero o ring (f b))
        ∙ sum-zeros o ring (2 ^ n)

    none-before : (claim : TableClaim) (j : ℕ) (fs : List (ℕ → ℕ)) → claim.table < j → one_from claim j fs ≡ 0
    unfolding one_from Agree
    none-before claim j [] low = refl
    none-before claim j (f ∷ fs) low =
        ap (λ t. plus o t (one_from claim (suc j) fs)) (elsewhere claim j f (λ e. absurd (omega (arith, e, low))))
        ∙ ap (plus o 0) (none-before claim (suc j) fs (omega (arith, low)))
        ∙ identity o ring [] (nought ⊕ nought) nought tt tt refl

    on-table : (claim : TableClaim) (j i : ℕ) (fs : List (ℕ → ℕ)) → claim.table ≡ j + i → i < length fs →
        one_from claim j fs ≡ true_value o n (table_at fs i) claim.statement.kind
    unfolding one_from true_value inner_product weight_on
    on-table claim j i [] is low = absurd (omega (arith, low))
    on-table claim j zero (f ∷ fs) is low =
        let here : claim.table ≡ j = omega (arith, is) in
        let truth = inner_product o n f (weight_of o claim.statement.kind) in
        ap (λ t. plus o t (one_from claim (suc j) fs))
        (sum-same o (2 ^ n) _ _ (λ b _. ap (λ t. times o (f b) (if t then weight_of o claim.statement.kind b else 0)) (eq-eqb _ _ here)))
        ∙ ap (plus o truth) (none-before claim (suc j) fs (omega (arith, here)))
        ∙ plus-zero o ring truth ∙ element-sum o ring (2 ^ n) _
    on-table claim j (suc i) (f ∷ fs) is low =
        let truth = true_value o n (table_at fs i) claim.statement.kind in
        ap (λ t. plus o t (one_from claim (suc j) fs)) (elsewhere claim j f (λ e. absurd (omega (arith, e, is))))
        ∙ ap (plus o 0) (on-table claim (suc j) i fs (omega (arith, is)) (omega (arith, low)))
        ∙ plus_comm o ring 0 truth ∙ plus-zero o ring truth ∙ element-sum o ring (2 ^ n) _

module _ (q : OpeningsCase) (is : IsOpeningsCase q) where
  -- ---- the merged claim of true values

  true-from : (p : ℕ) (claims : List TableClaim) → All (λ c. c.table < length q.tables) claims →
      inner_from q.ops is.field.ring q.variables (merging_challenge q) p claims 0 q.tables ≡ batched_by_powers q.ops (merging_challenge q) p (map (true_claim_value q) claims)
  unfolding batched_by_powers
  true-from p [] named = none-from q.ops is.field.ring q.variables (merging_challenge q) p 0 q.tables
  true-from p (c ∷ claims) named =
      let gamma = merging_challenge q in
      let low : c.table < length q.tables = named 0 c (omega arith) in
      first-from q.ops is.field.ring q.variables gamma p c claims 0 q.tables
      ∙ ap (λ t. plus q.ops (times q.ops (power q.ops gamma p) t) (inner_from q.ops is.field.ring q.variables gamma (suc p) claims 0 q.tables))
      (on-table q.ops is.field.ring q.variables gamma c 0 c.table q.tables (omega arith) low)
      ∙ ap (plus q.ops (times q.ops (power q.ops gamma p) (true_claim_value q c))) (true-from (suc p) claims (λ k d less. named (suc k) d (omega (arith, less))))

  pub claims-sum : batched_by_powers q.ops (merging_challenge q) 0 (map (true_claim_value q) q.claims) ≡ merged_claim q.ops (weighted_tables q) [] q.variables
  claims-sum =
      sym (merged-inner q.ops is.field.ring q.variables (merging_challenge q) q.claims 0 q.tables ∙ true-from 0 q.claims is.named)

  -- ---- excesses

  excesses-are : (claims : List TableClaim) → map (claim_excess q) claims ≡ poly_minus q.ops (claimed_values (statements_of claims)) (map (true_claim_value q) claims)
  unfolding excess poly_minus
  excesses-are [] = refl
  excesses-are (c ∷ claims) = ap (λ l. claim_excess q c ∷ l) (excesses-are claims)

  claimed-count : (claims : List TableClaim) → length (claimed_values (statements_of claims)) ≡ length (map (true_claim_value q) claims)
  claimed-count [] = refl
  claimed-count (c ∷ claims) = ap suc (claimed-count claims)

  -- a claim exceeds its true value nowhere just where it is true
  no_excess : (c : TableClaim) → c.statement.claimed < q.ops.size → element q.ops (claim_excess q c) ≡ 0 → IsTrueClaim q c
  unfolding excess IsTrueOf true_value inner_product
  no_excess c low none =
      let v = true_claim_value q c in
      let whole : element q.ops v ≡ v = element-sum q.ops is.field.ring (2 ^ q.variables) _ in
      let same = same-from_minus q.ops is.field.ring c.statement.claimed v (sym (element-plus q.ops is.field.ring c.statement.claimed (opposite q.ops v)) ∙ none) in
      sym whole ∙ sym same ∙ element-small q.ops is.field.ring c.statement.claimed low

  zero_excess : (c : TableClaim) → IsTrueClaim q c → claim_excess q c ≡ 0
  unfolding excess IsTrueOf
  zero_excess c right = minus-same q.ops is.field.ring c.statement.claimed (true_claim_value q c) (sym right)

  none-exceeds : (claims : List TableClaim) → All (λ c. c < q.ops.size) (claimed_values (statements_of claims)) → AllZero q.ops (map (claim_excess q) claims) → AllClaimsTrue q claims
  none-exceeds [] low zeros = tt
  none-exceeds (c ∷ claims) low zeros = (no_excess c (low 0 0 (omega arith)) zeros.0, none-exceeds claims (λ k d less. low (suc k) d (omega (arith, less))) zeros.1)

  none-false : (i : ℕ) (claims : List TableClaim) → AllClaimsTrue q claims → first_false_table_claim q i claims ≡ None
  unfolding first_false_table_claim is_true_of IsTrueOf
  none-false i [] all = refl
  none-false i (c ∷ claims) all =
      ap (λ b. if b then first_false_table_claim q (suc i) claims else Some (record { statement = i; claimed = c.statement.claimed; actual = true_claim_value q c })) (eq-eqb _ _ all.0)
      ∙ none-false (suc i) claims all.1

  pub all-true : (i : ℕ) (claims : List TableClaim) → first_false_table_claim q i claims ≡ None → AllClaimsTrue q claims
  unfolding first_false_table_claim is_true_of IsTrueOf
  all-true i [] none = tt
  all-true i (c ∷ claims) none =
      let rest = first_false_table_claim q (suc i) claims in
      let here : FalseClaim = record { statement = i; claimed = c.statement.claimed; actual = true_claim_value q c } in
      ⊎_elim
      (λ same. (same, all-true (suc i) claims (sym (ap (λ b. if b then rest else Some here) (eq-eqb _ _ same)) ∙ none)))
      (λ other. let bad : Some here ≡ None = sym (ap (λ b. if b then rest else Some here) (ne_eqb _ _ other)) ∙ none in cc)
      (cases_eq (true_claim_value q c) c.statement.claimed)

  zero-where : (claims : List TableClaim) (i : ℕ) (c : TableClaim) → slice_get claims i ≡ Some c → IsTrueClaim q c → slice_get (map (claim_excess q) claims) i ≡ Some 0
  zero-where [] i c e right = cc
  zero-where (d ∷ claims) zero c e right = let same : d ≡ c = cc in ap (λ x. Some (claim_excess q x)) same ∙ ap (λ x. Some x) (zero_excess c right)
  zero-where (d ∷ claims) (suc i) c e right = zero-where claims i c e right

  true-where : (claims : List TableClaim) → All (λ c. c < q.ops.size) (claimed_values (statements_of claims)) → (i : ℕ) (c : TableClaim) → slice_get claims i ≡ Some c →
      slice_get (map (claim_excess q) claims) i ≡ Some 0 → IsTrueClaim q c
  true-where [] low i c e none = cc
  true-where (d ∷ claims) low zero c e none =
      let same : d ≡ c = cc in
      let at : claim_excess q d ≡ 0 = cc in
      subst (IsTrueClaim q) same (no_excess d (low 0 0 (omega arith)) (ap (element q.ops) at ∙ element-zero q.ops is.field.ring))
  true-where (d ∷ claims) low (suc i) c e none = true-where claims (λ k n less. low (suc k) n (omega (arith, less))) i c e none

  -- ---- the stage

  module _ (came : SentOpenings) (count : length came.rounds ≡ q.variables) (wide : All (λ values. length values ≡ 2) (messages_of came.rounds)) where
    rs : List ℕ
    rs = openings_challenges q came.rounds

    residual : ℕ
    residual = claim_along (next_claim evaluation q.ops) (merging_claim q) (messages_of came.rounds) (openings_challenges q came.rounds)

    is-stage : IsStage q.ops (openings_stage q came.rounds)
    is-stage = record {
      sound = merged-sound q.ops is.field (weighted_tables q);
      pairs = wide;
      count = length-messages came.rounds ∙ sym (length-challenges _ _ _ _ came.rounds);
      small = element-batched_by_powers q.ops is.field.ring (merging_challenge q) 0 (claimed_values (statements_of q.claims));
      true_is = ap (merged_claim q.ops (weighted_tables q) []) (sym (length-messages came.rounds ∙ count));
      at = ap (λ p. poly_at q.ops p (merging_challenge q)) (excesses-are q.claims)
          ∙ excess-powers q.ops is.field.ring (merging_challenge q) (claimed_values (statements_of q.claims)) (map (true_claim_value q) q.claims) (claimed-count q.claims)
          ∙ ap (minus q.ops (merging_claim q)) claims-sum;
    }

    matches : Bool
    matches =
        openings_match q (claim_along (next_claim evaluation q.ops) (merging_claim q) (messages_of came.rounds) (openings_challenges q came.rounds)) came.openings
        (openings_challenges q came.rounds)

    right-is : matches ≡ true → stage_residual (openings_stage q came.rounds) ≡ true_stage_residual (openings_stage q came.rounds)
    unfolding matches openings_match
    right-is matched =
        let zs = openings_challenges q came.rounds in
        let ps = weighted_tables q in
        let both = both-true _ _ matched in
        let openings : came.openings ≡ values_at q.ops ps zs = same_text came.openings (values_at q.ops ps zs) (sym both.1) in
        eqb-true _ _ both.0 ∙ ap (λ l. products_sum q.ops l (weight_values_at q.ops ps zs)) openings ∙ products-merged q.ops is.field.ring ps zs
        ∙ sym (merged-end q.ops is.field.ring ps zs)

    some-is : (first_false_table_claim q 0 q.claims ≡ None → ⊥) → AllZero q.ops (openings_stage q came.rounds).excess → ⊥
    some-is wrong zeros = wrong (none-false 0 q.claims (none-exceeds q.claims is.below zeros))

    certified-by : (l : LuckyChallenge) → IsCertifiedIn q.ops (openings_stage q came.rounds) l → IsOpeningsCertified q (openings_figures q came) l
    unfolding openings_figures
    certified-by (in_batch polynomial roots) c = record {
      certificate = c.0;
      are = c.1;
      zero_where_true = λ i d e right. ap (λ p. slice_get p i) c.1 ∙ zero-where q.claims i d e right;
      true_where_zero = λ i d e none. true-where q.claims is.below i d e (sym (ap (λ (p : List ℕ). slice_get p i) c.1) ∙ none);
    }
    certified-by (in_round round polynomial roots) c = c

    pub certified-openings : CertifiesOpenings q (openings_figures q came)
    unfolding openings_figures matches
    certified-openings = record {
      named = λ l e. certified-by l (named-certified q.ops is.field (openings_stage q came.rounds) is-stage matches (first_false_table_claim q 0 q.claims) right-is some-is l e);
      no_other = λ right wrong.
          one-named q.ops is.field (openings_stage q came.rounds) is-stage matches (first_false_table_claim q 0 q.claims) right-is some-is right
          (λ none. wrong (all-true 0 q.claims none));
    }

  -- ---- what is built

  true-values : (claims : List TableClaim) → AllClaimsTrue q claims → map (true_claim_value q) claims ≡ claimed_values (statements_of claims)
  unfolding IsTrueOf
  true-values [] all = refl
  true-values (c ∷ claims) all = ap (λ v. v ∷ map (true_claim_value q) claims) all.0 ∙ ap (λ l. c.statement.claimed ∷ l) (true-values claims all.1)

  pub holds-openings : (came : SentOpenings) → AreBuiltOpenings q came → AllClaimsTrue q q.claims → (openings_figures q came).finding ≡ holds
  unfolding openings_figures openings_match
  holds-openings came built all =
      let zs = openings_challenges q came.rounds in
      let ps = weighted_tables q in
      let gamma = merging_challenge q in
      let residual = claim_along (next_claim evaluation q.ops) (merging_claim q) (messages_of came.rounds) zs in
      let claim : merging_claim q ≡ merged_claim q.ops ps [] q.variables = ap (batched_by_powers q.ops gamma 0) (sym (true-values q.claims all)) ∙ claims-sum in
      let ends : residual ≡ products_sum q.ops came.openings (weight_values_at q.ops ps zs) =
      ap (λ c. claim_along (next_claim evaluation q.ops) c (messages_of came.rounds) zs) claim
      ∙ honest-end_true (merged_course q.ops ps) (honest_merged q.ops ps) (merged-keeps q.ops is.field.ring ps)
      q.channel (seeded_history q.channel (after_merging q) q.variables) [] q.variables came.rounds built.count built.built
      ∙ merged-end q.ops is.field.ring ps zs ∙ sym (products-merged q.ops is.field.ring ps zs)
      ∙ ap (λ l. products_sum q.ops l (weight_values_at q.ops ps zs)) (sym built.openings) in
      let same : pointwise nat_eq came.openings (values_at q.ops ps zs) ≡ true =
      ap (λ l. pointwise nat_eq l (values_at q.ops ps zs)) built.openings ∙ list-same (values_at q.ops ps zs) in
      holds_where _ (first_false_table_claim q 0 q.claims) (stage_luck q.ops (openings_stage q came.rounds))
      (ap (λ b. b && pointwise nat_eq came.openings (values_at q.ops ps zs)) (eq-eqb _ _ ends) ∙ same)
      (none-false 0 q.claims all)

-- ---- the transcript

pub history-openings : (q : OpeningsCase) (came : SentOpenings) → after_openings q came ≡ q.history ++ openings_events q came
history-openings q came =
    let E = q.channel.extension in
    let A = sent E (claimed_values (statements_of q.claims)) in
    let B = replicate E.degree Draw in
    let C = words (quadratic_seed E.degree evaluation q.channel.bits q.variables) in
    let D = rounds_events E q.channel.bits came.rounds in
    let O = sent E came.openings in
    ap (λ l. l ++ C ++ D ++ O) (append_assoc q.history A B) ∙ ap (λ l. l ++ D ++ O) (append_assoc q.history (A ++ B) C)
    ∙ ap (λ l. l ++ O) (append_assoc q.history (A ++ B ++ C) D) ∙ append_assoc q.history (A ++ B ++ C ++ D) O
