-- What the replay of a layer leaves for the layer below.
use Rattle.std.proofs.Common.{◌≡◌, ℕ, ◌<◌, List, [], ◌∷◌, ◌++◌, All, length, get_or, sym, ◌∙◌, ap, subst, append_assoc}
use Rattle.std.specs.Prelude.{replicate}
use Rattle.std.proofs.Math.Seq.{take-length}
use Rattle.sc_definitions.specs.declared.events.Event.{Event}
use Rattle.sc_definitions.specs.declared.events.Event.TheVariants.{Draw}
use Rattle.sc_definitions.specs.Transcript.{sent, rounds_events}
use Rattle.sc_definitions.proofs.BuiltLaws.{length-challenges}
use Rattle.sc_definitions.proofs.ReplayLaws.{length-given_rounds}
use Rattle.sc_circuit_definitions.specs.declared.gate.Gate.{Gate}
use Rattle.sc_circuit_definitions.specs.Circuits.{PlacesBelow}
use Rattle.sc_circuit_definitions.specs.CircuitPlays.{layer_prelude}
use Rattle.sc_circuit.specs.declared.reached.Reached.{Reached}
use Rattle.sc_circuit.specs.Runs.{GivenLayer, sent_of, LayerRun, run_begun, run_challenges, run_merge, run_events, run_end, EndsRun, BreaksRun}
use Rattle.sc_circuit.specs.Steps.{Played, TakesPlayed, LayerStep, TakesLayer}
use Rattle.sc_circuit.proofs.ShapeLaws.{places-at}

-- each gate names places below
pub lefts-below : (n m : ℕ) (gates : List Gate) → PlacesBelow n gates → n ≡ m → All (λ gate. gate.left < m) gates
lefts-below n m gates places same = λ i d inside. subst (λ k. (get_or gates i d).left < k) same (places-at n gates i d places inside).0

pub rights-below : (n m : ℕ) (gates : List Gate) → PlacesBelow n gates → n ≡ m → All (λ gate. gate.right < m) gates
rights-below n m gates places same = λ i d inside. subst (λ k. (get_or gates i d).right < k) same (places-at n gates i d places inside).1

-- as many challenges as rounds
pub run-count : (r : LayerRun) (g : GivenLayer) (rs : List ℕ) (rest merging : ℕ) (h' : List Event) → EndsRun r g rs rest merging h' → length rs ≡ r.rounds
run-count r g rs rest merging h' ends =
    ap length ends.drawn ∙ length-challenges r.channel.rules r.channel.extension r.channel.bits (run_begun r) (sent_of g).rounds
    ∙ length-given_rounds g.wire.messages g.wire.witnesses ∙ ends.whole.counted.as_rounds

-- what a layer appends, after where it began
pub run-whole : (r : LayerRun) (g : GivenLayer) → run_end r (sent_of g) ≡ r.history ++ run_events r (sent_of g)
run-whole r g =
    let E = r.channel.extension in
    let P = layer_prelude E r.channel.bits r.rounds r.claim in
    let R = rounds_events E r.channel.bits (sent_of g).rounds in
    let S = sent E (g.left ∷ g.right ∷ []) in
    let D = replicate E.degree Draw in
    ap (λ l. (l ++ S) ++ D) (append_assoc r.history P R) ∙ ap (λ l. l ++ D) (append_assoc r.history (P ++ R) S) ∙ append_assoc r.history ((P ++ R) ++ S) D

-- all of it is a part
pub breaks-end : (r : LayerRun) (g : GivenLayer) (h' : List Event) → h' ≡ run_end r (sent_of g) → BreaksRun r g h'
breaks-end r g h' is = record {
  count = length (run_events r (sent_of g));
  history = is ∙ run-whole r g ∙ ap (λ l. r.history ++ l) (sym (take-length (run_events r (sent_of g))));
}

-- what was reached goes on after a run
pub takes-run : {EF : Type 0} (number : EF → ℕ) (s : LayerStep) (rs : List ℕ) (rest merging : ℕ) (h' : List Event) (old new : Reached EF) →
    EndsRun s.run s.came rs rest merging h' →
    TakesPlayed s.run.ops number s.gates s.layer rest (record { variables = s.variables; challenges = rs; left = s.came.left; right = s.came.right; merge = merging }) old new →
    TakesLayer number s old new h'
takes-run number s rs rest merging h' old new ends takes =
    let rs' = run_challenges s.run (sent_of s.came) in
    let m' = run_merge s.run (sent_of s.came) in
    let played : List ℕ → ℕ → Played = λ l m. record { variables = s.variables; challenges = l; left = s.came.left; right = s.came.right; merge = m } in
    record {
      whole = ends.whole;
      history = ends.history;
      takes =
          subst (λ n. TakesPlayed s.run.ops number s.gates s.layer n (played rs' m') old new) ends.residual
          (subst (λ l. TakesPlayed s.run.ops number s.gates s.layer rest (played l m') old new) ends.drawn
          (subst (λ m. TakesPlayed s.run.ops number s.gates s.layer rest (played rs m) old new) ends.merge takes));
    }
