-- What layers that were replayed say of the outputs.
use Rattle.std.proofs.Common.{◌≡◌, ℕ, suc, ◌+◌, ◌-◌, ◌<◌, Bool, true, false, List, [], ◌∷◌, length, map, take, drop, get_or, if◌then◌else◌, Option, Some, None, refl, ap, sym, ◌∙◌, subst, arith}
use Rattle.std.specs.Prelude.{Result, Ok, Err}
use Rattle.std.specs.Result.{result_err, is_ok}
use Rattle.std.proofs.lemmas.List.{length-map}
use Rattle.sc_definitions.specs.Ring.{Ops, IsField, IsRingMap}
use Rattle.sc_challenger.specs.Parties.{Party}
use Rattle.std.proofs.lemmas.List.Elements.{All-map}
use Rattle.sc_soundness.specs.Differences.{Difference}
use Rattle.sc_soundness.specs.Stages.{StageLuck, stages_luck}
use Rattle.sc_circuit_definitions.specs.declared.gate.Gate.{Gate}
use Rattle.sc_circuit_definitions.specs.Circuits.{top_values, all_values, IsWidth, top_width, IsCircuit, weighted_sum}
use Rattle.sc_circuit_definitions.specs.CircuitPlays.{CircuitCase, IsCircuitCase, images_of, first_start, LayerStart, SentLayer, LayerPlay, plays_from, end_from, merges_from, next_start, play_of}
use Rattle.sc_circuit_definitions.specs.CircuitFindings.{CircuitFinding, holds, named, agrees, first_disagreement, inputs_agree, circuit_stages, finding_by, false_output, CircuitFigures, circuit_figures}
use Rattle.sc_circuit.specs.declared.asked.Asked.{Asked}
use Rattle.sc_circuit.specs.declared.error.CircuitError.{CircuitError}
use Rattle.sc_circuit.specs.Refusals.{told_output}
use Rattle.sc_circuit.specs.Options.{or_first, disagreement_at}
use Rattle.sc_circuit.specs.Views.{layers_in, inputs_in}
use Rattle.sc_circuit.specs.CircuitJobs.{Fields, case_by}
use Rattle.sc_circuit.specs.BuiltLayers.{lower_values, HasWidths}
use Rattle.sc_circuit.proofs.ShapeLaws.{circuit-fits}
use Rattle.sc_circuit.proofs.EvaluationLaws.{top-length}
use Rattle.sc_circuit.proofs.LayersLaws.{first-of}
use Rattle.sc_circuit.proofs.BuildsLaws.{first-same, rest-same}

-- ---- the case

inputs-width : (layers : List (List Gate)) (n : ℕ) → IsCircuit layers n → IsWidth n
inputs-width [] n fits = fits
inputs-width (gates ∷ layers) n fits = inputs-width layers n fits.2

pub asked-fits : {F : Type 0} (a : Asked F) → IsCircuit (layers_in a.circuit.now) (inputs_in a.circuit.now)
asked-fits a = circuit-fits (layers_in a.circuit.now) (inputs_in a.circuit.now) a.circuit.now.fits

pub inputs-fit : {F : Type 0} (a : Asked F) → IsWidth (length a.inputs.now)
inputs-fit a = subst IsWidth (sym a.inputs_fit) (inputs-width (layers_in a.circuit.now) (inputs_in a.circuit.now) (asked-fits a))

pub asked-case : {F : Type 0} (number : F → ℕ) (fs : Fields) → IsField fs.base → IsField fs.ops → IsRingMap fs.base fs.ops fs.embedding → ((x : F) → number x < fs.base.size) →
    (a : Asked F) (party : Party) → IsCircuitCase (case_by fs number a party)
asked-case number fs base field embeds below a party =
    let many : length (map number a.inputs.now) ≡ inputs_in a.circuit.now = length-map a.inputs.now number ∙ a.inputs_fit in
    record {
      base_field = base;
      field = field;
      embeds = embeds;
      circuit = subst (IsCircuit (layers_in a.circuit.now)) (sym many) (asked-fits a);
      inputs_below = All-map (λ x. x < fs.base.size) number a.inputs.now (λ k d low. below _);
      outputs_below = All-map (λ x. x < fs.base.size) number a.outputs.now (λ k d low. below _);
      outputs_count = length-map a.outputs.now number ∙ a.outputs_fit ∙ ap (top_width (layers_in a.circuit.now)) (sym many);
    }

-- ---- values

all-split : (o : Ops) (layers : List (List Gate)) (inputs : List ℕ) → all_values o layers inputs ≡ top_values o layers inputs ∷ lower_values o layers inputs
all-split o [] inputs = refl
all-split o (gates ∷ layers) inputs = ap (λ xs. top_values o (gates ∷ layers) inputs ∷ xs) (all-split o layers inputs)

module _ {X : Type 0} (o : Ops) (view : X → List ℕ) (rows : List X) (layers : List (List Gate)) (inputs : List ℕ) (row : X)
    (are : map view rows ≡ all_values o layers inputs) (is : row ≡ get_or rows 0 row) where
  rows-split : rows ≡ row ∷ take (length rows - 1) (drop 1 rows)
  rows-split =
      let many = ap length are ∙ ap length (all-split o layers inputs) in
      first-of rows row (omega (arith, length-map rows view, many)) is

  pub top-row : view row ≡ top_values o layers inputs
  top-row = first-same (view row) (top_values o layers inputs) _ _ (sym (ap (map view) rows-split) ∙ are ∙ all-split o layers inputs)

  pub lower-rows : map view (take (length rows - 1) (drop 1 rows)) ≡ lower_values o layers inputs
  lower-rows = rest-same (view row) (top_values o layers inputs) _ _ (sym (ap (map view) rows-split) ∙ are ∙ all-split o layers inputs)

pub widths-are : {X : Type 0} (o : Ops) (number : X → ℕ) (rows : List (List X)) (layers : List (List Gate)) (inputs : List ℕ) →
    map (λ r. map number r) rows ≡ lower_values o layers inputs → HasWidths layers (length inputs) (map (λ r. length r) rows)
widths-are o number rows [] inputs are = tt
widths-are o number [] (gates ∷ layers) inputs are = cc
widths-are o number (row ∷ rows) (gates ∷ layers) inputs are = (
  sym (length-map row number) ∙ ap length (first-same (map number row) (top_values o layers inputs) _ _ are) ∙ top-length o layers inputs,
  widths-are o number rows layers inputs (rest-same (map number row) (top_values o layers inputs) _ _ are),
)

-- ---- agreement

or_first-if : (d : Option ℕ) (b : Bool) (i : ℕ) (later : Option ℕ) → (if b then or_first d later else Some i) ≡ or_first (if b then d else Some i) later
or_first-if d true i later = refl
or_first-if d false i later = refl

-- of the layers, and then of the inputs
pub with-inputs : (o : Ops) (i : ℕ) (plays : List LayerPlay) (b : Bool) →
    first_disagreement o i plays b ≡ or_first (first_disagreement o i plays true) (if b then None else Some (i + length plays))
unfolding first_disagreement
with-inputs o i [] b = let e : i ≡ i + 0 = omega arith in ap (λ n. if b then None else Some n) e
with-inputs o i (p ∷ ps) b =
    let e : suc i + length ps ≡ i + suc (length ps) = omega arith in
    let inputs : ℕ → Option ℕ = λ n. if b then None else Some n in
    ap (λ d. if agrees o p then d else Some i) (with-inputs o (suc i) ps b ∙ ap (λ n. or_first (first_disagreement o (suc i) ps true) (inputs n)) e)
    ∙ or_first-if (first_disagreement o (suc i) ps true) (agrees o p) i (inputs (i + suc (length ps)))

pub count-plays : (q : CircuitCase) (layers : List (List Gate)) (came : List SentLayer) (at : LayerStart) → length came ≡ length layers → length (plays_from q layers came at) ≡ length layers
count-plays q [] came at same = refl
count-plays q (gates ∷ layers) [] at same = absurd (omega (arith, same))
count-plays q (gates ∷ layers) (c ∷ came) at same = ap suc (count-plays q layers came (next_start q layers (play_of q gates layers at c)) (omega (arith, same)))

module _ (q : CircuitCase) (sent : List SentLayer) where
  abbrev plays : List LayerPlay
  plays = plays_from q q.layers sent (first_start q)

  abbrev end : LayerStart
  end = end_from q q.layers sent (first_start q)

  abbrev pub luck_of_all : Option StageLuck
  luck_of_all = stages_luck q.ops 0 (circuit_stages q plays end)

  pub finding-is : (d : Option ℕ) → first_disagreement q.ops 0 plays (inputs_agree q end) ≡ d → finding_by d (false_output q) luck_of_all ≡ (circuit_figures q sent).finding
  unfolding circuit_figures
  finding-is d is = ap (λ x. finding_by x (false_output q) luck_of_all) (sym is)

  -- the figures are these
  pub figures-are : (claim last : ℕ) (drawn : List (List ℕ)) (merges : List ℕ) (finding : CircuitFinding) → claim ≡ (first_start q).claim → drawn ≡ map (λ p. p.challenges) plays →
      merges ≡ merges_from q q.layers sent (first_start q) → last ≡ end.claim → finding ≡ (circuit_figures q sent).finding →
      ◌≡◌ {A = CircuitFigures} (record { claim = claim; came = sent; challenges = drawn; merges = merges; last = last; finding = finding }) (circuit_figures q sent)
  unfolding circuit_figures
  figures-are claim last drawn merges finding a b c d e = rw (a, b, c, d, e) refl

  -- the first disagreement, by the sum over the inputs
  pub disagreement-is : (told : Option ℕ) (depth last sum : ℕ) → length sent ≡ length q.layers → told ≡ first_disagreement q.ops 0 plays true → depth ≡ length q.layers → last ≡ end.claim →
      sum ≡ weighted_sum q.ops end.weights (images_of q []) → or_first told (disagreement_at depth last sum) ≡ first_disagreement q.ops 0 plays (inputs_agree q end)
  disagreement-is told depth last sum count told_is depth_is last_is sum_is =
      let place : depth ≡ 0 + length plays = omega (arith, depth_is, count-plays q q.layers sent (first_start q) count) in
      ap (λ d. or_first d (disagreement_at depth last sum)) told_is
      ∙ ap (λ n. or_first (first_disagreement q.ops 0 plays true) (disagreement_at n last sum)) place
      ∙ ap (λ n. or_first (first_disagreement q.ops 0 plays true) (disagreement_at (0 + length plays) n sum)) last_is
      ∙ ap (λ n. or_first (first_disagreement q.ops 0 plays true) (disagreement_at (0 + length plays) end.claim n)) sum_is
      ∙ sym (with-inputs q.ops 0 plays (inputs_agree q end))

-- ---- outputs

told-none : {T : Type 0} (d : Option Difference) (r : Result T CircuitError) → result_err r ≡ told_output d → is_ok r ≡ true → d ≡ None
told-none None r same ok = refl
told-none (Some d) (Ok x) same ok = cc
told-none (Some d) (Err e) same ok = cc

told-some : {T : Type 0} (d : Option Difference) (r : Result T CircuitError) → result_err r ≡ told_output d → is_ok r ≡ false → (x : Difference) × (d ≡ Some x)
told-some None (Ok x) same ok = cc
told-some None (Err e) same ok = cc
told-some (Some d) r same ok = (d, refl)

module _ (q : CircuitCase) (sent : List SentLayer) {T : Type 0} (r : Result T CircuitError) (same : result_err r ≡ told_output (false_output q)) where
  pub outputs-hold : is_ok r ≡ true → finding_by None (false_output q) (luck_of_all q sent) ≡ holds
  outputs-hold ok = ap (λ d. finding_by None d (luck_of_all q sent)) (told-none (false_output q) r same ok)

  pub outputs-false : is_ok r ≡ false → finding_by None (false_output q) (luck_of_all q sent) ≡ named (luck_of_all q sent)
  outputs-false ok =
      let some = told-some (false_output q) r same ok in
      ap (λ d. finding_by None d (luck_of_all q sent)) some.1
