-- What an honest prover of a layer has built.
use Rattle.std.proofs.Common.{◌≡◌, ℕ, zero, suc, ◌+◌, ◌-◌, List, [], ◌∷◌, ◌++◌, length, take, drop, sym, ◌∙◌, ap, subst, arith, length-append}
use Rattle.std.specs.Prelude.{Err}
use Rattle.sc_definitions.specs.declared.events.Event.{Event}
use Rattle.sc_definitions.specs.Ring.{Ops}
use Rattle.sc_definitions.specs.Tables.{value}
use Rattle.sc_definitions.specs.Replays.{given_rounds}
use Rattle.sc_definitions.specs.Transcript.{Round, rounds_events, round_events, challenge, challenges}
use Rattle.sc_definitions.specs.Interpolation.{node_values}
use Rattle.sc_definitions.specs.Channels.{Channel, Wire, empty_wire, with_rounds, IsBuilt, NoWitnessFound}
use Rattle.sc_definitions.proofs.BuiltLaws.{length-challenges}
use Rattle.sc_transcript.proofs.GivenRounds.{given_played}
use Rattle.sc_degree.specs.declared.error.GenericDegreeError.{GenericDegreeError}
use Rattle.sc_degree.specs.declared.error.GenericDegreeError.TheVariants as errors
use Rattle.sc_degree.specs.Shapes.{generic_shape}
use Rattle.sc_degree.specs.Provers.{Prover, Play, play_of, begun, sent_after, EndsPlay, StopsAt, LeavesPlay}
use Rattle.sc_circuit_definitions.specs.LayerRounds.{LayerTables, layer_round, honest_layer}
use Rattle.sc_circuit.specs.Runs.{GivenLayer, sent_of, LayerRun, run_begun, run_challenges}
use Rattle.sc_circuit.specs.Provers.{layer_prover}
use Rattle.sc_circuit.specs.Builds.{IsBuiltRun, StopsRun, LeavesBuild}

-- what its prover sends is what an honest one does
built-honest : (o : Ops) (t : LayerTables) (c : Channel) (h : List Event) (rs : List ℕ) (n : ℕ) (rounds : List Round) → length rs + n ≡ t.variables + t.variables →
    IsBuilt (sent_after o (layer_prover o t [])) c h rs n rounds → IsBuilt (honest_layer o t) c h rs n rounds
unfolding honest_layer
built-honest o t c h rs n [] whole built = tt
built-honest o t c h rs zero (r ∷ rounds) whole built = built
built-honest o t c h rs (suc n) (r ∷ rounds) whole built =
    let next = challenge c.rules c.extension c.bits h r in
    let left : (t.variables + t.variables) - suc (length rs) ≡ n = omega (arith, whole) in (
      built.0 ∙ ap (λ m. node_values o 2 (layer_round o t rs m)) left,
      built.1,
      built-honest o t c (h ++ round_events c.extension c.bits r) (rs ++ next ∷ []) n rounds (omega (arith, length-append rs (next ∷ []), whole)) built.2,
    )

-- as many challenges as rounds
pub play-count : (q : Play) (before after : Prover) (came : Wire) (rs : List ℕ) (h' : List Event) → EndsPlay q before after came rs h' → length rs ≡ q.shape.num_rounds
play-count q before after came rs h' ends =
    ap length ends.plays.drawn ∙ length-challenges q.channel.rules q.channel.extension q.channel.bits (begun q) ends.rounds ∙ ends.count

module _ (r : LayerRun) (t : LayerTables) (rounds_is : r.rounds ≡ t.variables + t.variables) where
  -- the play that is asked for
  abbrev pub run_play : Play
  run_play = play_of r.ops r.channel (generic_shape r.rounds 2 r.channel.bits) r.claim r.history

  pub built-run : (after : Prover) (g : GivenLayer) (rs : List ℕ) (h' : List Event) → EndsPlay run_play (layer_prover r.ops t []) after g.wire rs h' →
      g.left ≡ value r.ops t.below (take t.variables rs) → g.right ≡ value r.ops t.below (drop t.variables rs) → IsBuiltRun r t g h'
  built-run after g rs h' ends left right =
      let full : (t.variables + t.variables) - 0 ≡ t.variables + t.variables = omega arith in
      let honest = built-honest r.ops t r.channel (run_begun r) [] (t.variables + t.variables) ends.rounds (omega arith)
      (subst (λ n. IsBuilt (sent_after r.ops (layer_prover r.ops t [])) r.channel (run_begun r) [] n ends.rounds) full ends.plays.built) in
      let sized = subst (λ n. IsBuilt (honest_layer r.ops t) r.channel (run_begun r) [] n ends.rounds) (sym rounds_is) honest in
      let given : given_rounds g.wire.messages g.wire.witnesses ≡ ends.rounds =
      ap (λ (w : Wire). given_rounds w.messages w.witnesses) ends.wire
      ∙ given_played (honest_layer r.ops t) r.channel (run_begun r) [] (t.variables + t.variables) ends.rounds honest in
      let drawn : rs ≡ run_challenges r (sent_of g) =
      ends.plays.drawn ∙ ap (challenges r.channel.rules r.channel.extension r.channel.bits (run_begun r)) (sym given) in
      record {
        built = subst (IsBuilt (honest_layer r.ops t) r.channel (run_begun r) [] r.rounds) (sym given) sized;
        count = ap length given ∙ ends.count;
        left = left ∙ ap (λ l. value r.ops t.below (take t.variables l)) drawn;
        right = right ∙ ap (λ l. value r.ops t.below (drop t.variables l)) drawn;
        wire = ap (λ (w : Wire). record { wire = w; left = g.left; right = g.right })
            (ends.wire ∙ ap (with_rounds r.channel.bits empty_wire) (sym given));
        history = ends.history ∙ ap (λ l. run_begun r ++ rounds_events r.channel.extension r.channel.bits l) (sym given);
      }

  stops-run : (after : Prover) (j : ℕ) (h' : List Event) → StopsAt run_play (layer_prover r.ops t []) after j h' → StopsRun r t j
  unfolding honest_layer
  stops-run after j h' stops =
      let left = r.rounds - suc j in
      let some : j + suc left ≡ r.rounds = omega (arith, stops.some) in
      let drawn = challenges r.channel.rules r.channel.extension r.channel.bits (run_begun r) stops.rounds in
      let many : length drawn ≡ j = length-challenges r.channel.rules r.channel.extension r.channel.bits (run_begun r) stops.rounds ∙ stops.count in
      let after_it : (t.variables + t.variables) - suc (length drawn) ≡ left = omega (arith, many, rounds_is) in
      let full : (t.variables + t.variables) - 0 ≡ t.variables + t.variables = omega arith in
      let honest = built-honest r.ops t r.channel (run_begun r) [] (t.variables + t.variables) stops.rounds (omega arith)
      (subst (λ n. IsBuilt (sent_after r.ops (layer_prover r.ops t [])) r.channel (run_begun r) [] n stops.rounds) full stops.plays.built) in
      record {
        rounds = stops.rounds;
        built = subst (λ n. IsBuilt (honest_layer r.ops t) r.channel (run_begun r) [] n stops.rounds) (sym rounds_is) honest;
        count = stops.count;
        low = stops.low;
        left = left;
        some = some;
        end = h';
        none = subst (λ vs. NoWitnessFound r.channel (run_begun r ++ rounds_events r.channel.extension r.channel.bits stops.rounds) vs h')
            (ap (λ l. node_values r.ops 2 (layer_round r.ops t l ((t.variables + t.variables) - suc (length l)))) stops.plays.drawn
            ∙ ap (λ m. node_values r.ops 2 (layer_round r.ops t drawn m)) after_it) stops.none;
      }

  pub refused-build : {F EF : Type 0} (base : F → ℕ) (number : EF → ℕ) (after : Prover) (e : GenericDegreeError) (h' : List Event) →
      LeavesPlay base number run_play (layer_prover r.ops t []) after (Err e) h' → LeavesBuild base number r t (Err e) h'
  refused-build base number after (errors.NoWitness j) h' left = stops-run after j h' left
  refused-build base number after errors.NoMemory h' left = tt
  refused-build base number after (errors.InvalidDegree d) h' left = left
  refused-build base number after (errors.RoundCountMismatch expected actual) h' left = left
  refused-build base number after (errors.PowWitnessCountMismatch expected actual) h' left = left
  refused-build base number after (errors.PolyEvalCountMismatch i expected actual) h' left = left
  refused-build base number after (errors.MissingPowWitness i) h' left = left
  refused-build base number after (errors.InvalidPowWitness i) h' left = left
