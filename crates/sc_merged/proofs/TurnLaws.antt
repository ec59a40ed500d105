-- The loop that finds the round which turned a claim on tables with weights.
use Rattle.std.proofs.Common.{◌≡◌, ◌≢◌, ℕ, suc, ◌+◌, ◌^◌, ◌<◌, ◌≤◌, List, [], ◌∷◌, ◌++◌, All, length, take, drop, map, get_or, Some, None, sym, ◌∙◌, ap, refl, subst, arith, length-append, if◌then◌else◌}
use Rattle.std.specs.Prelude.{◌==◌}
use Rattle.std.proofs.lemmas.List.{length-map, length-drop, drop_all}
use Rattle.std.proofs.lemmas.List.Elements.{All-map}
use Rattle.sc_definitions.specs.Ring.{Ops, IsRing, IsField, element, plus, minus}
use Rattle.sc_definitions.specs.Tables.{evaluation, prefix}
use Rattle.sc_definitions.specs.Rounds.{true_claim, slow_leading, round_polynomial, honest_message, sent_pair, sent_polynomial, next_claim, claim_along}
use Rattle.sc_definitions.specs.Polynomials.{poly_plus, poly_minus}
use Rattle.sc_definitions.specs.Lucky.{Turn, first_turn, IsTurn}
use Rattle.sc_definitions.proofs.RingLaws.{element-small}
use Rattle.sc_definitions.proofs.Identity.{atom, nought, ◌⊕◌, ◌⊖◌, Agree, identity}
use Rattle.sc_definitions.proofs.FindLaws.{drop-next, take-next}
use Rattle.sc_definitions.proofs.LuckyLaws.{first-certified, turns}
use Rattle.sc_definitions.proofs.TurnLaws.{turn-here, turn-later, honest-sends}
use Rattle.sc_soundness.specs.Merged.{WeightedTable, merged_claim, merged_leading, merged_round, honest_merged, merged_value, merged_excess, merged_course, merged_message, merged_inner, bound_table}
use Rattle.sc_soundness.proofs.CourseLaws.{sound-certifies, all_send}
use Rattle.sc_soundness.proofs.MergedLaws.{merged-keeps, merged-end, merged-sound}
use Rattle.sc_merged.specs.SameRows.{HaveSameRows}
use Rattle.sc_merged.proofs.SameRowsLaws.{rows-self, bound-nothing, bound-next, claim-stands, honest-stands, claim-same, honest-same}

module _ (o : Ops) (ring : IsRing o) where
  -- the true polynomial is what the honest message sends under the true claim
  pub merged-sent : (ps : List WeightedTable) (rs : List ℕ) (m : ℕ) →
      sent_polynomial evaluation o (merged_claim o ps rs (suc m)) (honest_merged o ps rs m) ≡ merged_round o ps rs m
  unfolding merged_claim merged_leading honest_merged merged_round sent_polynomial sent_pair honest_message poly_plus Agree
  merged-sent [] rs m = ap (λ v. 0 ∷ v ∷ 0 ∷ []) (identity o ring [] (((nought ⊖ nought) ⊖ nought) ⊖ nought) nought tt tt refl)
  merged-sent (p ∷ ps) rs m =
      let t = true_claim evaluation prefix o p.table p.weights rs (suc m) in
      let c = true_claim evaluation prefix o p.table p.weights (rs ++ 0 ∷ []) m in
      let q = slow_leading evaluation prefix o p.table p.weights rs m in
      let T = merged_claim o ps rs (suc m) in
      let C = merged_claim o ps (rs ++ 0 ∷ []) m in
      let Q = merged_leading o ps rs m in
      let A = atom 0 in let B = atom 1 in let D = atom 2 in let E = atom 3 in let F = atom 4 in let G = atom 5 in
      ap (λ v. plus o c C ∷ v ∷ plus o q Q ∷ [])
      (identity o ring (t ∷ c ∷ q ∷ T ∷ C ∷ Q ∷ []) ((((A ⊕ E) ⊖ (B ⊕ F)) ⊖ (B ⊕ F)) ⊖ (D ⊕ G)) ((((A ⊖ B) ⊖ B) ⊖ D) ⊕ (((E ⊖ F) ⊖ F) ⊖ G)) tt tt refl)
      ∙ ap (λ l. poly_plus o l (C ∷ minus o (minus o (minus o T C) C) Q ∷ Q ∷ []))
      (honest-sends o ring p.table p.weights rs m t c q evaluation prefix tt refl refl)
      ∙ ap (poly_plus o (round_polynomial evaluation prefix o p.table p.weights rs m)) (merged-sent ps rs m)

  -- tables that are the same have the same rounds
  pub round-same : (ps qs : List WeightedTable) (n : ℕ) (rs : List ℕ) (m : ℕ) → HaveSameRows n ps qs → length rs + suc m ≡ n → merged_round o ps rs m ≡ merged_round o qs rs m
  round-same ps qs n rs m same whole =
      sym (merged-sent ps rs m)
      ∙ ap (λ c. sent_polynomial evaluation o c (honest_merged o ps rs m)) (claim-same o ring ps qs n rs (suc m) same whole)
      ∙ ap (sent_polynomial evaluation o (merged_claim o qs rs (suc m))) (honest-same o ring ps qs n rs m same whole)
      ∙ merged-sent qs rs m

-- ---- the loop

-- Behind the first i rounds on the tables ps: they are now the tables qs of m variables, and the first turn is the first one from round i on.
pub record Finds (o : Ops) (ps qs : List WeightedTable) (m first claim truth i : ℕ) (ms : List (List ℕ)) (rs : List ℕ) : Type 0 where
  pub bound : HaveSameRows m qs (map (bound_table o (take i rs) m) ps)
  pub is_true : truth ≡ merged_claim o ps (take i rs) m
  pub rest : first_turn (merged_course o ps) 0 first ms [] rs ≡ first_turn (merged_course o ps) i claim (drop i ms) (take i rs) (drop i rs)

pub finds-begin : (o : Ops) → IsRing o → (ps : List WeightedTable) (n claim truth : ℕ) (ms : List (List ℕ)) (rs : List ℕ) → truth ≡ merged_inner o n ps →
    Finds o ps ps n claim claim truth 0 ms rs
finds-begin o ring ps n claim truth ms rs is =
    let here : HaveSameRows n ps (map (bound_table o [] n) ps) = subst (HaveSameRows n ps) (sym (bound-nothing o n ps)) (rows-self n ps) in
    record { bound = here; is_true = is ∙ claim-stands o ring ps ps [] n here; rest = refl }

-- no round is left
pub finds-none : (o : Ops) {ps qs : List WeightedTable} {m first claim truth : ℕ} (i : ℕ) (ms : List (List ℕ)) {rs : List ℕ} → Finds o ps qs m first claim truth i ms rs →
    length ms ≤ i → first_turn (merged_course o ps) 0 first ms [] rs ≡ None
unfolding first_turn
finds-none o {ps} {claim} i ms {rs} found all =
    found.rest ∙ ap (λ d. first_turn (merged_course o ps) i claim d (take i rs) (drop i rs)) (drop_all i ms all)

module _ (o : Ops) (ring : IsRing o) (ps qs : List WeightedTable) (m : ℕ) {X Y : Type 0} (number : X → ℕ) (sends : Y → List ℕ) (ms : List Y) (rs : List X)
    (i first claim truth : ℕ) (found : Finds o ps qs (suc m) first claim truth i (map sends ms) (map number rs)) (y : Y) (x : X)
    (in_messages : i < length ms) (in_challenges : i < length rs) (y_is : y ≡ get_or ms i y) (x_is : x ≡ get_or rs i x) (left : length ms ≡ suc m + i)
    (next next_truth : ℕ) (next_is : next ≡ next_claim evaluation o claim (sends y) (number x)) (honest : List ℕ) (honest_is : honest ≡ merged_message o (2 ^ m) qs)
    (truth_is : next_truth ≡ next_claim evaluation o truth honest (number x)) where
  abbrev before : List ℕ
  before = take i (map number rs)

  abbrev late : List (List ℕ)
  late = drop (i + 1) (map sends ms)

  behind : length late ≡ m
  behind = length-drop (i + 1) (map sends ms) ∙ omega (arith, length-map ms sends, left)

  here : first_turn (merged_course o ps) 0 first (map sends ms) [] (map number rs)
      ≡ first_turn (merged_course o ps) i claim (sends y ∷ late) before (number x ∷ drop (i + 1) (map number rs))
  here =
      found.rest
      ∙ ap (λ d. first_turn (merged_course o ps) i claim d before (drop i (map number rs))) (drop-next sends ms i y in_messages y_is)
      ∙ ap (λ d. first_turn (merged_course o ps) i claim (sends y ∷ late) before d) (drop-next number rs i x in_challenges x_is)

  -- the tables as they are now send what an honest prover of the first ones sends
  sent-here : honest ≡ honest_merged o ps before m
  sent-here = honest_is ∙ honest-stands o ring ps qs before m found.bound

  -- the true claim after the round
  after : next_truth ≡ merged_claim o ps (before ++ number x ∷ []) m
  after =
      truth_is
      ∙ ap (λ h. next_claim evaluation o truth h (number x)) sent-here
      ∙ ap (λ t. next_claim evaluation o t (honest_merged o ps before m) (number x)) found.is_true
      ∙ (merged-keeps o ring ps).next before m (number x)

  pub finds-more : (next ≡ next_truth → ⊥) → (us : List WeightedTable) → HaveSameRows m us (map (bound_table o (number x ∷ []) m) qs) →
      Finds o ps us m first next next_truth (i + 1) (map sends ms) (map number rs)
  finds-more differ us one =
      let course = merged_course o ps in
      let last = drop (i + 1) (map number rs) in
      let taken = take-next number rs i x in_challenges x_is in
      let next_round : suc i ≡ i + 1 = omega arith in
      record {
        bound = subst (λ t. HaveSameRows m us (map (bound_table o t m) ps)) (sym taken) (bound-next o before (number x) m ps qs us found.bound one);
        is_true = after ∙ ap (λ t. merged_claim o ps t m) (sym taken);
        rest = here
            ∙ turn-later course i claim (sends y) late before (number x) last
            (λ e. differ (next_is ∙ e ∙ ap (merged_claim o ps (before ++ number x ∷ [])) behind ∙ sym after))
            ∙ ap (λ c. first_turn course (suc i) c late (before ++ number x ∷ []) last) (sym next_is)
            ∙ ap (λ t. first_turn course (suc i) next late t last) (sym taken)
            ∙ ap (λ k. first_turn course k next late (take (i + 1) (map number rs)) last) next_round;
      }

  pub finds-here : next ≡ next_truth → (cs : List ℕ) → cs ≡ poly_minus o (sent_polynomial evaluation o claim (sends y)) (sent_polynomial evaluation o truth honest) →
      first_turn (merged_course o ps) 0 first (map sends ms) [] (map number rs) ≡ Some (record { round = i; polynomial = cs })
  unfolding merged_excess
  finds-here same cs are =
      let course = merged_course o ps in
      let sent = sent_polynomial evaluation o claim (sends y) in
      let polynomial : merged_excess o ps claim (sends y) before (length late) ≡ cs =
      ap (merged_excess o ps claim (sends y) before) behind
      ∙ ap (poly_minus o sent) (sym (merged-sent o ring ps before m))
      ∙ ap (λ t. poly_minus o sent (sent_polynomial evaluation o t (honest_merged o ps before m))) (sym found.is_true)
      ∙ ap (λ h. poly_minus o sent (sent_polynomial evaluation o truth h)) (sym sent-here) ∙ sym are in
      here
      ∙ turn-here course i claim (sends y) late before (number x) (drop (i + 1) (map number rs))
      (sym next_is ∙ same ∙ after ∙ ap (merged_claim o ps (before ++ number x ∷ [])) (sym behind))
      ∙ ap (λ p. Some (record { round = i; polynomial = p })) polynomial

-- ---- what is found is certified

module _ (o : Ops) (field : IsField o) (ps : List WeightedTable) (n : ℕ) {Y : Type 0} (sends : Y → List ℕ) (two : (y : Y) → length (sends y) ≡ 2) (claim : ℕ) (ms : List Y) (rs : List ℕ)
    (low : claim < o.size) (count : length ms ≡ n) (wrong : claim ≢ merged_inner o n ps) where
  wide : All (λ values. length values ≡ 2) (map sends ms)
  wide = All-map (λ (values : List ℕ). length values ≡ 2) sends ms (λ k d less. two _)

  false-first : element o claim ≢ merged_claim o ps [] (length (map sends ms))
  false-first = λ e.
      let here : HaveSameRows n ps (map (bound_table o [] n) ps) = subst (HaveSameRows n ps) (sym (bound-nothing o n ps)) (rows-self n ps) in
      wrong (sym (element-small o field.ring claim low) ∙ e ∙ ap (merged_claim o ps []) (length-map ms sends ∙ count) ∙ sym (claim-stands o field.ring ps ps [] n here))

  pub certified-turn : (t : Turn) → Some t ≡ first_turn (merged_course o ps) 0 claim (map sends ms) [] rs → IsTurn o 3 0 rs t
  certified-turn t is =
      first-certified o (merged_course o ps) (λ message. length message ≡ 2) 3 (sound-certifies o (merged_course o ps) 2 3 (merged-sound o field ps)) 0 claim (map sends ms) [] rs t
      (all_send 2 (map sends ms) wide) false-first (sym is)

  pub some-turn : length rs ≡ n → claim_along (next_claim evaluation o) claim (map sends ms) rs ≡ merged_value o ps rs →
      None ≡ first_turn (merged_course o ps) 0 claim (map sends ms) [] rs → ⊥
  some-turn drawn right none =
      let found = turns o (merged_course o ps) (λ message. length message ≡ 2) 3 (sound-certifies o (merged_course o ps) 2 3 (merged-sound o field ps)) 0 claim (map sends ms) [] rs
      (length-map ms sends ∙ count ∙ sym drawn) (all_send 2 (map sends ms) wide) false-first (right ∙ sym (merged-end o field.ring ps rs)) in
      let bad : None ≡ Some found.0 = none ∙ found.1 in cc

-- ---- tables that are the same turn a claim alike

pub turn-same : (o : Ops) → IsRing o → (ps qs : List WeightedTable) (n i claim : ℕ) (ms : List (List ℕ)) (before rs : List ℕ) → HaveSameRows n ps qs → length before + length ms ≡ n →
    first_turn (merged_course o ps) i claim ms before rs ≡ first_turn (merged_course o qs) i claim ms before rs
unfolding first_turn merged_excess
turn-same o ring ps qs n i claim [] before rs same whole = refl
turn-same o ring ps qs n i claim (m ∷ ms) before [] same whole = refl
turn-same o ring ps qs n i claim (m ∷ ms) before (r ∷ rs) same whole =
    let next = next_claim evaluation o claim m r in
    let k = length ms in
    let more : length (before ++ r ∷ []) + k ≡ n = omega (arith, length-append before (r ∷ []), whole) in
    let sent = sent_polynomial evaluation o claim m in
    let rest = first_turn (merged_course o ps) (suc i) next ms (before ++ r ∷ []) rs in
    ap (λ v. if next == v then Some (record { round = i; polynomial = poly_minus o sent (merged_round o ps before k) }) else rest)
    (claim-same o ring ps qs n (before ++ r ∷ []) k same more)
    ∙ ap (λ v. if next == merged_claim o qs (before ++ r ∷ []) k then Some (record { round = i; polynomial = poly_minus o sent v }) else rest)
    (round-same o ring ps qs n before k same (omega (arith, whole)))
    ∙ ap (λ v. if next == merged_claim o qs (before ++ r ∷ []) k then Some (record { round = i; polynomial = poly_minus o sent (merged_round o qs before k) }) else v)
    (turn-same o ring ps qs n (suc i) next ms (before ++ r ∷ []) rs same more)
