-- A play on which all layers agree although an output is false names a lucky challenge, certified; and one that is built on true outputs shows that they hold.
use Rattle.std.proofs.Common.{◌≡◌, ◌⊎◌, inl, inr, ℕ, zero, suc, ◌+◌, ◌^◌, ◌<◌, ◌==◌, Bool, true, false, List, [], ◌∷◌, ◌++◌, All, length, map, take, drop, if◌then◌else◌, Option, Some, None, sym, ◌∙◌, ap, refl, subst, arith, ⊎_elim, eq-eqb, eqb-true, length-drop, length-take-le, append_assoc}
use Rattle.std.specs.List.{slice_get}
use Rattle.std.specs.Prelude.{replicate}
use Rattle.std.proofs.lemmas.List.{length-map, append-nil}
use Rattle.sc_definitions.specs.declared.events.Event.TheVariants.{Draw}
use Rattle.sc_definitions.specs.Events.{words}
use Rattle.std.proofs.lemmas.List.Elements.{All-map}
use Rattle.std.proofs.lemmas.Option.{same_Some}
use Rattle.sc_definitions.specs.Ring.{element, plus, times, opposite, minus}
use Rattle.sc_definitions.specs.Tables.{rows_of, value}
use Rattle.sc_definitions.specs.Polynomials.{poly_at, AllZero}
use Rattle.sc_definitions.specs.Rounds.{claim_along}
use Rattle.sc_definitions.specs.Statements.{batched_by_powers}
use Rattle.sc_definitions.specs.Interpolation.{next_through}
use Rattle.sc_definitions.specs.Transcript.{messages_of, challenges, sent, rounds_events}
use Rattle.sc_definitions.specs.Lucky.{LuckyChallenge, in_batch, in_round}
use Rattle.sc_definitions.proofs.RingLaws.{element-plus, plus_below, times_below, size_pos, plus-element_left, plus-element_right, times-element_left, times-element_right}
use Rattle.sc_definitions.proofs.Sums.{element-sum}
use Rattle.sc_definitions.proofs.PolyLaws.{length-minus}
use Rattle.sc_definitions.proofs.StatementLaws.{element-batched_by_powers}
use Rattle.sc_definitions.proofs.RootLaws.{same-from_minus}
use Rattle.sc_definitions.proofs.BuiltLaws.{length-messages, length-challenges}
use Rattle.sc_definitions.proofs.Identity.{atom, nought, ◌⊕◌, ◌⊗◌, ◌⊖◌, Agree, identity}
use Rattle.sc_soundness.specs.Stages.{Stage, stage_residual, true_stage_residual, StageLuck, stages_luck, IsCertifiedIn, IsCertifiedAmong, IsStage, AreLinked}
use Rattle.sc_soundness.specs.Differences.{Difference, first_difference}
use Rattle.sc_soundness.proofs.CourseLaws.{no_rounds-sound, honest-end_true}
use Rattle.sc_soundness.proofs.StageLaws.{stages-sound}
use Rattle.sc_soundness.proofs.PowerLaws.{excess-powers}
use Rattle.sc_soundness.proofs.ImageLaws.{difference-none, same-lists, images-apart, rows-below, rows-image}
use Rattle.sc_circuit_definitions.specs.declared.gate.Gate.{Gate}
use Rattle.sc_circuit_definitions.specs.Circuits.{gate_value, top_values, layer_variables, IsWidth, top_width, PlacesBelow, IsCircuit, weighted_sum}
use Rattle.sc_circuit_definitions.specs.LayerRounds.{layer_sum, left_at, right_at, layer_at, layer_claim, honest_layer, layer_course}
use Rattle.sc_circuit_definitions.specs.CircuitPlays.{CircuitCase, IsCircuitCase, images_of, LayerStart, SentLayer, output_challenge, first_start, layer_prelude, rounds_over, before_rounds, play_of, merge_of, next_start, plays_from, end_from, merges_from, events_from, circuit_events, AreShaped, IsBuiltLayer, AreBuiltLayers}
use Rattle.sc_circuit_definitions.specs.CircuitFindings.{agrees, inputs_agree, first_disagreement, layer_stage, inputs_stage, circuit_stages, holds, refuted, lucky, named, finding_by, false_output, circuit_figures, drawn_for, coefficients_for, IsCircuitCertified, CertifiesCircuit}
use Rattle.sc_circuit_definitions.proofs.LayerRoundLaws.{claim-end, layer-sound, layer-keeps}
use Rattle.sc_circuit_definitions.proofs.LayerTruthLaws.{layer-truth, powers-weighted, merged-weighted}

-- ---- helpers

if_none : {E : Type 0} (b : Bool) (rest : Option E) (e : E) → (if b then rest else Some e) ≡ None → (b ≡ true) × (rest ≡ None)
if_none true rest e is = (refl, is)
if_none false rest e is = cc

-- ---- values

module _ (q : CircuitCase) (is : IsCircuitCase q) where
  pub values-length : (ls : List (List Gate)) → length (top_values q.base ls q.inputs) ≡ top_width ls (length q.inputs)
  values-length [] = refl
  values-length (gates ∷ ls) = length-map gates (gate_value q.base (rows_of (top_values q.base ls q.inputs)))

  images-length : (ls : List (List Gate)) → length (images_of q ls) ≡ top_width ls (length q.inputs)
  images-length ls = length-map (top_values q.base ls q.inputs) q.embedding ∙ values-length ls

  gate-below : (v : ℕ → ℕ) (g : Gate) → gate_value q.base v g < q.base.size
  unfolding gate_value
  gate-below v g =
      elim g.product as (λ t. (if t then times q.base (v g.left) (v g.right) else plus q.base (v g.left) (v g.right)) < q.base.size) [
        | true ↦ times_below q.base is.base_field.ring (v g.left) (v g.right)
        | false ↦ plus_below q.base is.base_field.ring (v g.left) (v g.right)
      ]

  pub values-below : (ls : List (List Gate)) → All (λ v. v < q.base.size) (top_values q.base ls q.inputs)
  values-below [] = is.inputs_below
  values-below (gates ∷ ls) = All-map (λ v. v < q.base.size) (gate_value q.base (rows_of (top_values q.base ls q.inputs))) gates (λ k d low. gate-below _ _)

  gate-image : (ls : List (List Gate)) (g : Gate) →
      q.embedding (gate_value q.base (rows_of (top_values q.base ls q.inputs)) g) ≡ gate_value q.ops (rows_of (images_of q ls)) g
  unfolding gate_value
  gate-image ls g =
      let V = top_values q.base ls q.inputs in
      let v = rows_of V in
      let low : (b : ℕ) → v b < q.base.size = rows-below q.base.size (size_pos q.base is.base_field.ring) V (values-below ls) in
      let at : (b : ℕ) → rows_of (images_of q ls) b ≡ q.embedding (v b) = rows-image q.embedding is.embeds.zero_kept V in
      elim g.product as (λ t. q.embedding (if t then times q.base (v g.left) (v g.right) else plus q.base (v g.left) (v g.right))
      ≡ (if t then times q.ops (rows_of (images_of q ls) g.left) (rows_of (images_of q ls) g.right) else plus q.ops (rows_of (images_of q ls) g.left) (rows_of (images_of q ls) g.right))) [
        | true ↦ is.embeds.times_kept (v g.left) (v g.right) (low g.left) (low g.right)
            ∙ ap (λ x. times q.ops x (q.embedding (v g.right))) (sym (at g.left)) ∙ ap (times q.ops (rows_of (images_of q ls) g.left)) (sym (at g.right))
        | false ↦ is.embeds.plus_kept (v g.left) (v g.right) (low g.left) (low g.right)
            ∙ ap (λ x. plus q.ops x (q.embedding (v g.right))) (sym (at g.left)) ∙ ap (plus q.ops (rows_of (images_of q ls) g.left)) (sym (at g.right))
      ]

  -- the images of a layer's values are the values of its gates over the images below
  gates-images : (gates : List Gate) (ls : List (List Gate)) →
      map q.embedding (map (gate_value q.base (rows_of (top_values q.base ls q.inputs))) gates) ≡ map (gate_value q.ops (rows_of (images_of q ls))) gates
  gates-images [] ls = refl
  gates-images (g ∷ gates) ls =
      ap (λ x. x ∷ map q.embedding (map (gate_value q.base (rows_of (top_values q.base ls q.inputs))) gates)) (gate-image ls g)
      ∙ ap (λ xs. gate_value q.ops (rows_of (images_of q ls)) g ∷ xs) (gates-images gates ls)

  element-weighted : (w : ℕ → ℕ) (values : List ℕ) → element q.ops (weighted_sum q.ops w values) ≡ weighted_sum q.ops w values
  unfolding weighted_sum
  element-weighted w values = element-sum q.ops is.field.ring (length values) _

  -- ---- widths

  width-top : (ls : List (List Gate)) → IsCircuit ls (length q.inputs) → IsWidth (top_width ls (length q.inputs))
  width-top [] fits = fits
  width-top (gates ∷ ls) fits = fits.0

  -- ---- a layer

  -- where a layer begins, its claim is an element, and exceeds the true one by the value of the polynomial
  record IsStart (ls : List (List Gate)) (at : LayerStart) : Type 0 where
    small : element q.ops at.claim ≡ at.claim
    exceeds : poly_at q.ops at.excess at.drawn ≡ minus q.ops at.claim (weighted_sum q.ops at.weights (images_of q ls))

  module _ (gates : List Gate) (ls : List (List Gate)) (fits : IsCircuit (gates ∷ ls) (length q.inputs)) (at : LayerStart) (c : SentLayer) where
    truth-is : weighted_sum q.ops at.weights (images_of q (gates ∷ ls)) ≡ layer_claim q.ops (play_of q gates ls at c).tables [] (rounds_over q ls)
    truth-is =
        let width = width-top ls fits.2 in
        ap (weighted_sum q.ops at.weights) (gates-images gates ls)
        ∙ sym (layer-truth q.ops is.field.ring (layer_variables (top_width ls (length q.inputs))) gates at.weights (rows_of (images_of q ls))
        (subst (λ n. PlacesBelow n gates) width.power fits.1))

    rounds-count : length c.rounds ≡ rounds_over q ls → length (messages_of c.rounds) ≡ rounds_over q ls
    rounds-count count = length-messages c.rounds ∙ count

    drawn-count : length c.rounds ≡ rounds_over q ls → length (play_of q gates ls at c).challenges ≡ rounds_over q ls
    drawn-count count = length-challenges _ _ _ _ c.rounds ∙ count

    is-stage : IsStart (gates ∷ ls) at → length c.rounds ≡ rounds_over q ls → All (λ values. length values ≡ 2) (messages_of c.rounds) →
        IsStage q.ops (layer_stage q.ops (play_of q gates ls at c))
    is-stage start count wide = record {
      sound = layer-sound q.ops is.field (play_of q gates ls at c).tables;
      pairs = wide;
      count = rounds-count count ∙ sym (drawn-count count);
      small = start.small;
      true_is = truth-is ∙ ap (layer_claim q.ops (play_of q gates ls at c).tables []) (sym (rounds-count count));
      at = start.exceeds;
    }

    -- the claim of the layer below, where the two values are the true ones
    below-truth : length c.rounds ≡ rounds_over q ls →
        let p = play_of q gates ls at c in
        weighted_sum q.ops (next_start q ls p).weights (images_of q ls)
        ≡ plus q.ops (left_at q.ops p.tables p.challenges) (times q.ops (merge_of q ls p) (right_at q.ops p.tables p.challenges))
    below-truth count =
        let p = play_of q gates ls at c in
        let k = layer_variables (top_width ls (length q.inputs)) in
        let width = width-top ls fits.2 in
        let many : length p.challenges ≡ k + k = drawn-count count in
        let first : length (take k p.challenges) ≡ k = length-take-le k p.challenges (omega (arith, many)) in
        let second : length (drop k p.challenges) ≡ k = length-drop k p.challenges ∙ omega (arith, many) in
        merged-weighted q.ops is.field.ring (merge_of q ls p) (take k p.challenges) (drop k p.challenges) (images_of q ls)
        (images-length ls ∙ width.power ∙ ap (λ n. 2 ^ n) (sym first)) (first ∙ sym second)

    next-is : length c.rounds ≡ rounds_over q ls → IsStart ls (next_start q ls (play_of q gates ls at c))
    unfolding poly_at Agree
    next-is count =
        let p = play_of q gates ls at c in
        let m = merge_of q ls p in
        let u = left_at q.ops p.tables p.challenges in
        let v = right_at q.ops p.tables p.challenges in
        record {
          small = element-plus q.ops is.field.ring _ _;
          exceeds = identity q.ops is.field.ring (c.left ∷ c.right ∷ u ∷ v ∷ m ∷ [])
              ((atom 0 ⊖ atom 2) ⊕ atom 4 ⊗ ((atom 1 ⊖ atom 3) ⊕ atom 4 ⊗ nought)) ((atom 0 ⊕ atom 4 ⊗ atom 1) ⊖ (atom 2 ⊕ atom 4 ⊗ atom 3)) tt tt refl
              ∙ ap (minus q.ops (plus q.ops c.left (times q.ops m c.right))) (sym (below-truth count));
        }

    -- where a layer agrees and its two values are the true ones, its rounds leave the true claim
    same_value : (x y : ℕ) → element q.ops (minus q.ops x y) ≡ 0 → element q.ops x ≡ element q.ops y
    same_value x y zero_is = same-from_minus q.ops is.field.ring x y (sym (element-plus q.ops is.field.ring x (opposite q.ops y)) ∙ zero_is)

    ends-true : agrees q.ops (play_of q gates ls at c) ≡ true → AllZero q.ops (next_start q ls (play_of q gates ls at c)).excess →
        stage_residual (layer_stage q.ops (play_of q gates ls at c)) ≡ true_stage_residual (layer_stage q.ops (play_of q gates ls at c))
    unfolding agrees layer_sum layer_at
    ends-true agreed zeros =
        let p = play_of q gates ls at c in
        let t = p.tables in
        let rs = p.challenges in
        let ring = is.field.ring in
        let u = left_at q.ops t rs in
        let v = right_at q.ops t rs in
        let S = value q.ops t.sums rs in
        let P = value q.ops t.products rs in
        let l_is : element q.ops c.left ≡ element q.ops u = same_value c.left u zeros.0 in
        let r_is : element q.ops c.right ≡ element q.ops v = same_value c.right v zeros.1.0 in
        let both : (f : ℕ → ℕ → ℕ) → ((x y : ℕ) → f (element q.ops x) y ≡ f x y) → ((x y : ℕ) → f x (element q.ops y) ≡ f x y) → f c.left c.right ≡ f u v =
        λ f first second. sym (first c.left c.right) ∙ ap (λ x. f x c.right) l_is ∙ first u c.right ∙ sym (second u c.right) ∙ ap (f u) r_is ∙ second u v in
        eqb-true _ _ agreed
        ∙ ap (λ x. plus q.ops (times q.ops S x) (times q.ops P (times q.ops c.left c.right))) (both (plus q.ops) (plus-element_left q.ops ring) (plus-element_right q.ops ring))
        ∙ ap (λ x. plus q.ops (times q.ops S (plus q.ops u v)) (times q.ops P x)) (both (times q.ops) (times-element_left q.ops ring) (times-element_right q.ops ring))
        ∙ sym (claim-end q.ops ring t rs)

    -- a layer that is built under its true claim agrees
    agrees-built : at.claim ≡ weighted_sum q.ops at.weights (images_of q (gates ∷ ls)) → IsBuiltLayer q ls (play_of q gates ls at c) →
        agrees q.ops (play_of q gates ls at c) ≡ true
    unfolding agrees layer_at
    agrees-built right built =
        let p = play_of q gates ls at c in
        let rs = p.challenges in
        eq-eqb _ _ (
        ap (λ n. claim_along (next_through q.ops) n (messages_of c.rounds) rs) (right ∙ truth-is)
        ∙ honest-end_true (layer_course q.ops p.tables) (honest_layer q.ops p.tables) (layer-keeps q.ops is.field p.tables)
        q.channel (before_rounds q ls at) [] (rounds_over q ls) c.rounds built.count built.built
        ∙ claim-end q.ops is.field.ring p.tables rs
        ∙ ap (λ x. layer_sum q.ops p.tables rs x (right_at q.ops p.tables rs)) (sym built.left)
        ∙ ap (layer_sum q.ops p.tables rs c.left) (sym built.right))

  -- ---- all layers

  stages-from : (ls : List (List Gate)) (came : List SentLayer) (at : LayerStart) → List Stage
  stages-from ls came at = circuit_stages q (plays_from q ls came at) (end_from q ls came at)

  -- the stages from a start on: the first of them, and the others, which are linked
  record AreStages (stages : List Stage) (at : LayerStart) : Type 0 where
    first : Stage
    others : List Stage
    are : stages ≡ first ∷ others
    stage : IsStage q.ops first
    excess : first.excess ≡ at.excess
    linked : AreLinked q.ops first others

  chain : (i : ℕ) (ls : List (List Gate)) (came : List SentLayer) (at : LayerStart) → IsCircuit ls (length q.inputs) → AreShaped q ls came → IsStart ls at →
      first_disagreement q.ops i (plays_from q ls came at) (inputs_agree q (end_from q ls came at)) ≡ None → AreStages (stages-from ls came at) at
  unfolding first_disagreement claim_along stages-from
  chain i [] [] at fits shaped start agreed =
      let truth = weighted_sum q.ops at.weights (images_of q []) in
      let right = if_none (at.claim == truth) None i agreed in
      record {
        first = inputs_stage q at;
        others = [];
        are = refl;
        stage = record {
          sound = no_rounds-sound q.ops is.field truth 2 3;
          pairs = λ k d low. absurd (omega (arith, low));
          count = refl;
          small = start.small;
          true_is = sym (element-weighted at.weights (images_of q []));
          at = start.exceeds;
        };
        excess = refl;
        linked = eqb-true _ _ right.0 ∙ sym (element-weighted at.weights (images_of q []));
      }
  chain i [] (c ∷ came) at fits shaped start agreed = absurd shaped
  chain i (gates ∷ ls) [] at fits shaped start agreed = absurd shaped
  chain i (gates ∷ ls) (c ∷ came) at fits shaped start agreed =
      let p = play_of q gates ls at c in
      let next = next_start q ls p in
      let rest = first_disagreement q.ops (suc i) (plays_from q ls came next) (inputs_agree q (end_from q ls came next)) in
      let here = if_none (agrees q.ops p) rest i agreed in
      let later = chain (suc i) ls came next fits.2 shaped.2 (next-is gates ls fits at c shaped.0) here.1 in
      record {
        first = layer_stage q.ops p;
        others = later.first ∷ later.others;
        are = ap (λ l. layer_stage q.ops p ∷ l) later.are;
        stage = is-stage gates ls fits at c start shaped.0 shaped.1;
        excess = refl;
        linked = (later.stage, λ wrong zeros. wrong (ends-true gates ls fits at c here.0 (subst (AllZero q.ops) later.excess zeros)), later.linked);
      }

  first-is : IsStart q.layers (first_start q)
  first-is =
      let gamma = output_challenge q in
      let long : length (map q.embedding q.outputs) ≡ length (images_of q q.layers) = length-map q.outputs q.embedding ∙ is.outputs_count ∙ sym (images-length q.layers) in
      record {
        small = element-batched_by_powers q.ops is.field.ring gamma 0 (map q.embedding q.outputs);
        exceeds = excess-powers q.ops is.field.ring gamma (map q.embedding q.outputs) (images_of q q.layers) long
            ∙ ap (minus q.ops (batched_by_powers q.ops gamma 0 (map q.embedding q.outputs))) (sym (powers-weighted q.ops is.field.ring gamma (images_of q q.layers)));
      }

  -- where all layers agree although an output is false, a challenge was lucky
  luck-found : (came : List SentLayer) → AreShaped q q.layers came → (q.outputs ≡ top_values q.base q.layers q.inputs → ⊥) →
      first_disagreement q.ops 0 (plays_from q q.layers came (first_start q)) (inputs_agree q (end_from q q.layers came (first_start q))) ≡ None →
      (l : StageLuck) × (stages_luck q.ops 0 (stages-from q.layers came (first_start q)) ≡ Some l) × IsCertifiedAmong q.ops 0 (stages-from q.layers came (first_start q)) l
  luck-found came shaped wrong agreed =
      let all = chain 0 q.layers came (first_start q) is.circuit shaped first-is agreed in
      let some : AllZero q.ops all.first.excess → ⊥ =
      λ zeros. wrong (images-apart q.base q.ops is.base_field is.field q.embedding is.embeds q.outputs (top_values q.base q.layers q.inputs)
      (is.outputs_count ∙ sym (values-length q.layers)) is.outputs_below (values-below q.layers) (subst (AllZero q.ops) all.excess zeros)) in
      let found = stages-sound q.ops is.field 0 all.first all.others all.stage some all.linked in (
        found.0,
        ap (stages_luck q.ops 0) all.are ∙ found.1,
        subst (λ stages. IsCertifiedAmong q.ops 0 stages found.0) (sym all.are) found.2,
      )

  -- ---- layers that are built

  agreed-built : (i : ℕ) (ls : List (List Gate)) (came : List SentLayer) (at : LayerStart) → IsCircuit ls (length q.inputs) →
      at.claim ≡ weighted_sum q.ops at.weights (images_of q ls) → AreBuiltLayers q ls came at →
      first_disagreement q.ops i (plays_from q ls came at) (inputs_agree q (end_from q ls came at)) ≡ None
  unfolding first_disagreement
  agreed-built i [] [] at fits right built = ap (λ b. if b then None else Some i) (eq-eqb _ _ right)
  agreed-built i [] (c ∷ came) at fits right built = absurd built
  agreed-built i (gates ∷ ls) [] at fits right built = absurd built
  agreed-built i (gates ∷ ls) (c ∷ came) at fits right built =
      let p = play_of q gates ls at c in
      let next = next_start q ls p in
      let rest = first_disagreement q.ops (suc i) (plays_from q ls came next) (inputs_agree q (end_from q ls came next)) in
      let true_next : next.claim ≡ weighted_sum q.ops next.weights (images_of q ls) =
      ap (λ x. plus q.ops x (times q.ops (merge_of q ls p) c.right)) built.0.left
      ∙ ap (λ x. plus q.ops (left_at q.ops p.tables p.challenges) (times q.ops (merge_of q ls p) x)) built.0.right
      ∙ sym (below-truth gates ls fits at c built.0.count) in
      ap (λ b. if b then rest else Some i) (agrees-built gates ls fits at c right built.0)
      ∙ agreed-built (suc i) ls came next fits.2 true_next built.1

  pub holds-built : (came : List SentLayer) → q.outputs ≡ top_values q.base q.layers q.inputs → AreBuiltLayers q q.layers came (first_start q) →
      (circuit_figures q came).finding ≡ holds
  unfolding circuit_figures
  holds-built came right built =
      let gamma = output_challenge q in
      let start = first_start q in
      let plays = plays_from q q.layers came start in
      let end = end_from q q.layers came start in
      let luck = stages_luck q.ops 0 (circuit_stages q plays end) in
      let true_claim : start.claim ≡ weighted_sum q.ops start.weights (images_of q q.layers) =
      ap (λ xs. batched_by_powers q.ops gamma 0 (map q.embedding xs)) right ∙ sym (powers-weighted q.ops is.field.ring gamma (images_of q q.layers)) in
      ap (λ d. finding_by d (false_output q) luck) (agreed-built 0 q.layers came start is.circuit true_claim built)
      ∙ ap (λ d. finding_by None d luck) (ap (λ xs. first_difference 0 xs (top_values q.base q.layers q.inputs)) right ∙ difference-none 0 (top_values q.base q.layers q.inputs))

-- ---- where a stage stands

-- the challenge that is drawn for the claim at a place, from a start on, and how many coefficients its polynomial has
abbrev drawn_at : LayerStart → List ℕ → ℕ → Option ℕ
drawn_at at merges zero = Some at.drawn
drawn_at at merges (suc i) = slice_get merges i

abbrev length_at : LayerStart → ℕ → ℕ
length_at at zero = length at.excess
length_at at (suc i) = 2

drawn-later : (at next : LayerStart) (merges : List ℕ) (place : ℕ) → drawn_at next merges place ≡ drawn_at at (next.drawn ∷ merges) (suc place)
drawn-later at next merges zero = refl
drawn-later at next merges (suc i) = refl

length-later : (at next : LayerStart) (place : ℕ) → length next.excess ≡ 2 → length_at next place ≡ length_at at (suc place)
length-later at next zero two = two
length-later at next (suc i) two = refl

module _ (q : CircuitCase) where
  challenge_lists : List (List Gate) → List SentLayer → LayerStart → List (List ℕ)
  challenge_lists ls came at = map (λ p. p.challenges) (plays_from q ls came at)

  record IsLocated (ls : List (List Gate)) (came : List SentLayer) (at : LayerStart) (place : ℕ) (s : Stage) : Type 0 where
    drawn : drawn_at at (merges_from q ls came at) place ≡ Some s.drawn
    coefficients : length s.excess ≡ length_at at place
    challenges : (s.challenges ≡ []) ⊎ (slice_get (challenge_lists ls came at) place ≡ Some s.challenges)

  here_is : (ls : List (List Gate)) (came : List SentLayer) (at : LayerStart) (t s : Stage) → Some t ≡ Some s → t.drawn ≡ at.drawn → t.excess ≡ at.excess →
      ((t.challenges ≡ []) ⊎ (slice_get (challenge_lists ls came at) 0 ≡ Some t.challenges)) → IsLocated ls came at 0 s
  here_is ls came at t s e drawn excess challenges =
      subst (IsLocated ls came at 0) (same_Some t s e) (record { drawn = ap (λ x. Some x) (sym drawn); coefficients = ap length excess; challenges = challenges })

  located : (ls : List (List Gate)) (came : List SentLayer) (at : LayerStart) (place : ℕ) (s : Stage) → AreShaped q ls came →
      slice_get (circuit_stages q (plays_from q ls came at) (end_from q ls came at)) place ≡ Some s → IsLocated ls came at place s
  unfolding challenge_lists
  located [] [] at zero s shaped e = here_is [] [] at (inputs_stage q at) s e refl refl (inl refl)
  located [] [] at (suc place) s shaped e = cc
  located [] (c ∷ came) at place s shaped e = absurd shaped
  located (gates ∷ ls) [] at place s shaped e = absurd shaped
  located (gates ∷ ls) (c ∷ came) at zero s shaped e =
      here_is (gates ∷ ls) (c ∷ came) at (layer_stage q.ops (play_of q gates ls at c)) s e refl refl (inr refl)
  located (gates ∷ ls) (c ∷ came) at (suc place) s shaped e =
      let next = next_start q ls (play_of q gates ls at c) in
      let later = located ls came next place s shaped.2 e in
      record {
        drawn = sym (drawn-later at next (merges_from q ls came next) place) ∙ later.drawn;
        coefficients = later.coefficients ∙ length-later at next place refl;
        challenges = later.challenges;
      }

-- ---- what certifies the first lucky challenge

finds_none : (d : Option ℕ) (fault : Option Difference) (luck : Option StageLuck) → ((i : ℕ) → finding_by d fault luck ≡ refuted i → ⊥) → d ≡ None
finds_none None fault luck never = refl
finds_none (Some i) fault luck never = absurd (never i refl)

lucky_by : (d : Option ℕ) (fault : Option Difference) (luck : Option StageLuck) (l : StageLuck) → finding_by d fault luck ≡ lucky l →
    (d ≡ None) × (fault ≡ None → ⊥) × (luck ≡ Some l)
lucky_by (Some i) fault luck l e = cc
lucky_by None None luck l e = cc
lucky_by None (Some d) None l e = cc
lucky_by None (Some d) (Some k) l e = let same : k ≡ l = cc in (refl, (λ none. cc), ap (λ x. Some x) same)

named_by : (fault : Option Difference) (luck : Option StageLuck) (l : StageLuck) → (fault ≡ None → ⊥) → luck ≡ Some l → finding_by None fault luck ≡ lucky l
named_by None luck l some e = absurd (some refl)
named_by (Some d) luck l some e = ap named e

module _ (q : CircuitCase) (is : IsCircuitCase q) where
  excess-length : length (first_start q).excess ≡ length q.outputs
  excess-length =
      let long : length (map q.embedding q.outputs) ≡ length (images_of q q.layers) = length-map q.outputs q.embedding ∙ is.outputs_count ∙ sym (images-length q is q.layers) in
      length-minus q.ops is.field.ring (map q.embedding q.outputs) (images_of q q.layers) long ∙ sym long ∙ length-map q.outputs q.embedding

  drawn-first : (merges : List ℕ) (place : ℕ) → drawn_at (first_start q) merges place ≡ drawn_for q merges place
  drawn-first merges zero = refl
  drawn-first merges (suc i) = refl

  length-first : (place : ℕ) → length_at (first_start q) place ≡ coefficients_for q place
  length-first zero = excess-length
  length-first (suc i) = refl

  certified_luck : (came : List SentLayer) (place : ℕ) (s : Stage) (l : LuckyChallenge) → IsLocated q q.layers came (first_start q) place s → IsCertifiedIn q.ops s l →
      IsCircuitCertified q (circuit_figures q came) place l
  unfolding circuit_figures challenge_lists
  certified_luck came place s (in_batch polynomial roots) at certified = record {
    challenge = s.drawn;
    drawn = sym (drawn-first (merges_from q q.layers came (first_start q)) place) ∙ at.drawn;
    certificate = certified.0;
    coefficients = ap length certified.1 ∙ at.coefficients ∙ length-first place;
  }
  certified_luck came place s (in_round round polynomial roots) at certified =
      ⊎_elim
      (λ none. let bad = certified.drawn in let gone : slice_get [] round ≡ Some certified.challenge = ap (λ (l : List ℕ). slice_get l round) (sym none) ∙ bad in cc)
      (λ some. record { challenges = s.challenges; are = some; luck = certified })
      at.challenges

  pub certified-circuit : (came : List SentLayer) → AreShaped q q.layers came → CertifiesCircuit q (circuit_figures q came)
  unfolding circuit_figures stages-from
  certified-circuit came shaped =
      let V = top_values q.base q.layers q.inputs in
      let start = first_start q in
      let plays = plays_from q q.layers came start in
      let end = end_from q q.layers came start in
      let d = first_disagreement q.ops 0 plays (inputs_agree q end) in
      let fault = false_output q in
      let luck = stages_luck q.ops 0 (circuit_stages q plays end) in
      let long : length q.outputs ≡ length V = is.outputs_count ∙ sym (values-length q is q.layers) in
      record {
        named = λ l e.
            let by = lucky_by d fault luck l e in
            let wrong : q.outputs ≡ V → ⊥ = λ right. by.1 (ap (λ xs. first_difference 0 xs V) right ∙ difference-none 0 V) in
            let found = luck-found q is came shaped wrong by.0 in
            let same : found.0 ≡ l = same_Some _ _ (sym found.1 ∙ by.2) in
            let of = found.2 in
            let number : of.place ≡ found.0.stage = sym (of.number ∙ omega arith) in
            subst (λ (m : StageLuck). IsCircuitCertified q (circuit_figures q came) m.stage m.luck) same
            (subst (λ n. IsCircuitCertified q (circuit_figures q came) n found.0.luck) number
            (certified_luck came of.place of.stage found.0.luck (located q q.layers came start of.place of.stage shaped of.is) of.certified));
        no_other = λ agreed wrong.
            let none = finds_none d fault luck agreed in
            let found = luck-found q is came shaped wrong none in (
              found.0,
              ap (λ x. finding_by x fault luck) none
                  ∙ named_by fault luck found.0 (λ nothing. wrong (same-lists 0 q.outputs V long nothing)) found.1,
            );
      }

-- ---- the transcript

module _ (q : CircuitCase) where
  end-history : (ls : List (List Gate)) (came : List SentLayer) (at : LayerStart) → (end_from q ls came at).history ≡ at.history ++ events_from q ls came at
  end-history [] came at = sym (append-nil at.history)
  end-history (gates ∷ ls) [] at = sym (append-nil at.history)
  end-history (gates ∷ ls) (c ∷ came) at =
      let p = play_of q gates ls at c in
      let next = next_start q ls p in
      let E = q.channel.extension in
      let A = layer_prelude E q.channel.bits (rounds_over q ls) at.claim in
      let B = rounds_events E q.channel.bits c.rounds in
      let C = sent E (c.left ∷ c.right ∷ []) in
      let D = replicate E.degree Draw in
      let rest = events_from q ls came next in
      end-history ls came next
      ∙ ap (λ l. l ++ rest) (ap (λ l. l ++ C ++ D) (append_assoc at.history A B) ∙ ap (λ l. l ++ D) (append_assoc at.history (A ++ B) C) ∙ append_assoc at.history (A ++ B ++ C) D)
      ∙ append_assoc at.history (A ++ B ++ C ++ D) rest

  -- the history at the end is the old one with the transcript after it
  pub history-circuit : (came : List SentLayer) → (end_from q q.layers came (first_start q)).history ≡ q.history ++ circuit_events q came
  history-circuit came =
      let W = words q.outputs in
      let R = replicate q.channel.extension.degree Draw in
      let rest = events_from q q.layers came (first_start q) in
      end-history q.layers came (first_start q) ∙ ap (λ l. l ++ rest) (append_assoc q.history W R) ∙ append_assoc q.history (W ++ R) rest
