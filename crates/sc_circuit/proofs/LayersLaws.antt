-- Layers that are replayed, one after the other.
use Rattle.std.proofs.Common.{◌≡◌, ℕ, suc, ◌+◌, ◌-◌, ◌≤◌, Bool, true, false, List, [], ◌∷◌, ◌++◌, length, map, take, drop, get_or, if◌then◌else◌, Option, Some, None, sym, ◌∙◌, ap, refl, arith, append_assoc}
use Rattle.std.specs.Prelude.{Result, Ok, Err}
use Rattle.std.proofs.Math.Seq.{take-append_seam}
use Rattle.std.proofs.lemmas.List.{append-nil, take-append-drop, take_all}
use Rattle.sc_definitions.specs.declared.events.Event.{Event}
use Rattle.sc_definitions.specs.Tables.{entries}
use Rattle.sc_circuit_definitions.specs.declared.gate.Gate.{Gate}
use Rattle.sc_circuit_definitions.specs.Circuits.{layer_variables, IsWidth, top_width, IsCircuit}
use Rattle.sc_circuit_definitions.specs.LayerRounds.{layer_sum}
use Rattle.sc_circuit_definitions.specs.CircuitPlays.{CircuitCase, LayerStart, play_of, next_start, plays_from, merges_from, events_from}
use Rattle.sc_circuit_definitions.specs.CircuitFindings.{agrees, first_disagreement}
use Rattle.sc_circuit.specs.declared.error.CircuitError.{CircuitError}
use Rattle.sc_circuit.specs.declared.error.CircuitError.TheVariants as errors
use Rattle.sc_circuit.specs.declared.reached.Reached.{Reached}
use Rattle.sc_circuit.specs.Options.{or_first}
use Rattle.sc_circuit.specs.Runs.{GivenLayer, sent_of, run_events}
use Rattle.sc_circuit.specs.Steps.{AreSame, LayerStep, TakesLayer, LeavesLayer}
use Rattle.sc_circuit.specs.Replays.{run_at, LayersTask, TakesLayers, LeavesLayers}
use Rattle.sc_circuit.proofs.StepLaws.{run-whole}

or_first-none : (d : Option ℕ) → d ≡ or_first d None
or_first-none (Some i) = refl
or_first-none None = refl

or_first-more : (d : Option ℕ) (i : ℕ) (b : Bool) (later : Option ℕ) → or_first (or_first d (if b then None else Some i)) later ≡ or_first d (if b then later else Some i)
or_first-more (Some j) i b later = refl
or_first-more None i true later = refl
or_first-more None i false later = refl

-- a part of the first of two lists is one of both
pub front-part : {A : Type 0} (n : ℕ) (xs ys : List A) → take n xs ≡ take (length (take n xs)) (xs ++ ys)
front-part n xs ys =
    sym (take-append_seam (take n xs) (drop n xs ++ ys))
    ∙ ap (take (length (take n xs))) (sym (append_assoc (take n xs) (drop n xs) ys) ∙ ap (λ l. l ++ ys) (take-append-drop n xs))

-- and so is the first one with a part of the second
pub back-part : {A : Type 0} (n : ℕ) (xs ys : List A) → xs ++ take n ys ≡ take (length (xs ++ take n ys)) (xs ++ ys)
back-part n xs ys =
    sym (take-append_seam (xs ++ take n ys) (drop n ys))
    ∙ ap (take (length (xs ++ take n ys))) (append_assoc xs (take n ys) (drop n ys) ∙ ap (λ l. xs ++ l) (take-append-drop n ys))

-- the first item of a list that has one, and the others
pub first-of : {A : Type 0} (xs : List A) (x : A) → 1 ≤ length xs → x ≡ get_or xs 0 x → xs ≡ x ∷ take (length xs - 1) (drop 1 xs)
first-of [] x some is = absurd (omega (arith, some))
first-of (y ∷ xs) x some is = ap (λ z. z ∷ xs) (sym is) ∙ ap (λ l. x ∷ l) (sym (take_all (length (y ∷ xs) - 1) xs (omega arith)))

pub width-top : (layers : List (List Gate)) (inputs : ℕ) → IsCircuit layers inputs → IsWidth (top_width layers inputs)
width-top [] inputs fits = fits
width-top (gates ∷ layers) inputs fits = fits.0

-- no layer
pub layers-none : {EF : Type 0} (number : EF → ℕ) (q : CircuitCase) (came : List GivenLayer) (at : LayerStart) (i : ℕ) (old : Reached EF) (h' : List Event) →
    number old.claim ≡ at.claim → length old.weights.items ≡ length q.inputs → AreSame (length q.inputs) (entries number old.weights.items) at.weights → h' ≡ at.history →
    TakesLayers number (record { case = q; layers = []; came = came; at = at; first = i }) old old h'
unfolding first_disagreement
layers-none number q came at i old h' claim count weights history = record {
  whole = tt;
  claim = claim;
  count = count;
  weights = weights;
  history = history;
  challenges = sym (append-nil _);
  merges = sym (append-nil _);
  disagreement = or_first-none old.disagreement;
}

module _ (q : CircuitCase) (gates : List Gate) (layers : List (List Gate)) (g : GivenLayer) (came : List GivenLayer) (at : LayerStart) (i : ℕ) where
  -- the replay of the first layer, and that of the others
  abbrev pub step : LayerStep
  step = record { run = run_at q layers at; gates = gates; variables = layer_variables (top_width layers (length q.inputs)); layer = i; came = g }

  abbrev pub task : LayersTask
  task = record { case = q; layers = gates ∷ layers; came = g ∷ came; at = at; first = i }

  abbrev pub rest : LayersTask
  rest = record { case = q; layers = layers; came = came; at = next_start q layers (play_of q gates layers at (sent_of g)); first = i + 1 }

  module _ {EF : Type 0} (number : EF → ℕ) where
    -- the first is refused
    pub layers-refused : (T S : Type 0) (old new : Reached EF) (e : CircuitError) (h' : List Event) →
        LeavesLayer {T = T} number step old new (Err e) h' → LeavesLayers {T = S} number task old new (Err e) h'
    layers-refused T S old new (errors.Layer j e) h' left = record { place = 0; layer_is = left.0 ∙ omega arith; cause = left.1; refuses = left.2 }
    layers-refused T S old new errors.NoMemory h' left = record {
      count = length (take left.count (run_events step.run (sent_of g)));
      history = left.history ∙ ap (λ l. at.history ++ l) (front-part left.count (run_events step.run (sent_of g)) (events_from q layers (map sent_of came) rest.at));
    }
    layers-refused T S old new (errors.Depth n) h' left = absurd left
    layers-refused T S old new (errors.Width j n) h' left = absurd left
    layers-refused T S old new (errors.Wire j n) h' left = absurd left
    layers-refused T S old new (errors.OutputCount j n) h' left = absurd left
    layers-refused T S old new (errors.Difficulty j n) h' left = absurd left
    layers-refused T S old new (errors.FalseOutput j x y) h' left = absurd left
    layers-refused T S old new (errors.LayerCount j n) h' left = absurd left
    layers-refused T S old new (errors.NoWitness j n) h' left = absurd left

    -- the first is replayed, and then the others are
    taken : (old mid new : Reached EF) (h1 h' : List Event) → AreSame (length gates) (entries number old.weights.items) at.weights →
        TakesLayer number step old mid h1 → TakesLayers number rest mid new h' → TakesLayers number task old new h'
    unfolding first_disagreement agrees layer_sum
    taken old mid new h1 h' weights first later =
        let p = play_of q gates layers at (sent_of g) in
        let more : i + 1 ≡ suc i = omega arith in
        let ps = plays_from q layers (map sent_of came) rest.at in
        record {
          whole = (first.whole, later.whole);
          claim = later.claim;
          count = later.count;
          weights = later.weights;
          history = later.history;
          challenges = later.challenges ∙ ap (λ l. l ++ map (λ p. p.challenges) ps) first.takes.challenges
              ∙ append_assoc (map (λ row. map number row) old.challenges.items) (p.challenges ∷ []) (map (λ p. p.challenges) ps);
          merges = later.merges ∙ ap (λ l. l ++ merges_from q layers (map sent_of came) rest.at) first.takes.merges
              ∙ append_assoc (map number old.merges.items) _ (merges_from q layers (map sent_of came) rest.at);
          disagreement = later.disagreement
              ∙ ap (λ d. or_first d (first_disagreement q.ops (i + 1) ps true)) (first.takes.disagreement at.weights weights)
              ∙ or_first-more old.disagreement i (agrees q.ops p) (first_disagreement q.ops (i + 1) ps true)
              ∙ ap (λ n. or_first old.disagreement (if agrees q.ops p then first_disagreement q.ops n ps true else Some i)) more;
        }

    pub layers-next : {T : Type 0} (old mid new : Reached EF) (r : Result T CircuitError) (h1 h' : List Event) → AreSame (length gates) (entries number old.weights.items) at.weights →
        TakesLayer number step old mid h1 → LeavesLayers number rest mid new r h' → LeavesLayers number task old new r h'
    layers-next old mid new (Ok x) h1 h' weights first later = taken old mid new h1 h' weights first later
    layers-next old mid new (Err (errors.Layer j e)) h1 h' weights first later = record {
      place = suc later.place;
      layer_is = later.layer_is ∙ omega arith;
      cause = later.cause;
      refuses = (first.whole, later.refuses);
    }
    layers-next old mid new (Err errors.NoMemory) h1 h' weights first later =
        let L = run_events step.run (sent_of g) in
        let E = events_from q layers (map sent_of came) rest.at in
        record {
          count = length (L ++ take later.count E);
          history = later.history ∙ ap (λ l. l ++ take later.count E) (run-whole step.run g) ∙ append_assoc at.history L (take later.count E)
              ∙ ap (λ l. at.history ++ l) (back-part later.count L E);
        }
    layers-next old mid new (Err (errors.Depth n)) h1 h' weights first later = absurd later
    layers-next old mid new (Err (errors.Width j n)) h1 h' weights first later = absurd later
    layers-next old mid new (Err (errors.Wire j n)) h1 h' weights first later = absurd later
    layers-next old mid new (Err (errors.OutputCount j n)) h1 h' weights first later = absurd later
    layers-next old mid new (Err (errors.Difficulty j n)) h1 h' weights first later = absurd later
    layers-next old mid new (Err (errors.FalseOutput j x y)) h1 h' weights first later = absurd later
    layers-next old mid new (Err (errors.LayerCount j n)) h1 h' weights first later = absurd later
    layers-next old mid new (Err (errors.NoWitness j n)) h1 h' weights first later = absurd later
