-- What the replay of a layer leaves of the history.
use Rattle.std.proofs.Common.{◌≡◌, inl, inr, ℕ, List, [], ◌∷◌, ◌++◌, length, take, drop, sym, ◌∙◌, ap, subst, append_assoc}
use Rattle.std.specs.Prelude.{replicate, Result, Ok, Err, IsErrAnd}
use Rattle.std.proofs.Math.Seq.{take-append_seam}
use Rattle.std.proofs.lemmas.List.{append-nil, take-append-drop}
use Rattle.std.proofs.lemmas.Grind.{flat_map-append}
use Rattle.std.proofs.Math.Seq.{take-length}
use Rattle.sc_definitions.specs.declared.events.Event.{Event}
use Rattle.sc_definitions.specs.declared.events.Event.TheVariants.{Draw}
use Rattle.sc_definitions.specs.Events.{Extension, words, extension_draw}
use Rattle.sc_definitions.specs.Transcript.{Round, sent, round_events, rounds_events}
use Rattle.sc_definitions.proofs.ReplayLaws.{sent-pair}
use Rattle.sc_definitions.specs.Channels.{verifier_state}
use Rattle.sc_transcript.specs.Walks.{IsWalked}
use Rattle.sc_transcript.specs.Replayed.{IsCounted}
use Rattle.sc_degree.specs.declared.error.GenericDegreeError.{GenericDegreeError}
use Rattle.sc_degree.specs.declared.error.GenericDegreeError.TheVariants as errors
use Rattle.sc_degree.specs.Proofs.{LeavesVerify}
use Rattle.sc_circuit_definitions.specs.CircuitPlays.{layer_prelude}
use Rattle.sc_circuit.specs.Runs.{GivenLayer, sent_of, LayerRun, run_begun, run_played, run_replay, EndsRun, BreaksRun, LeavesRun}

-- what is said of a refusal is said of its answer
pub err-is : {T E : Type 0} (P : Result T E → Type 0) (r : Result T E) (e : E) → IsErrAnd r (λ x. x ≡ e) → P (Err e) → P r
err-is P (Ok x) e is p = elim is [ ]
err-is P (Err x) e is p = subst (λ y. P (Err y)) (sym is) p

-- ---- the two values

pub values-sent : (E : Extension) (h h1 h2 : List Event) (left right : ℕ) → h1 ≡ h ++ words (E.parts left) → h2 ≡ h1 ++ words (E.parts right) →
    h2 ≡ h ++ sent E (left ∷ right ∷ [])
values-sent E h h1 h2 left right first second =
    second ∙ ap (λ k. k ++ words (E.parts right)) first ∙ append_assoc h (words (E.parts left)) (words (E.parts right))
    ∙ ap (λ k. h ++ k) (sym (sent-pair E left right))

-- ---- a part of what a layer appends

rounds-split : (E : Extension) (bits : ℕ) (rounds : List Round) (count : ℕ) →
    rounds_events E bits rounds ≡ rounds_events E bits (take count rounds) ++ rounds_events E bits (drop count rounds)
rounds-split E bits rounds count =
    ap (rounds_events E bits) (sym (take-append-drop count rounds)) ∙ flat_map-append (round_events E bits) (take count rounds) (drop count rounds)

front-of : (P A B S D : List Event) → take (length (P ++ A)) (((P ++ (A ++ B)) ++ S) ++ D) ≡ P ++ A
front-of P A B S D =
    ap (take (length (P ++ A)))
    (append_assoc (P ++ (A ++ B)) S D ∙ ap (λ l. l ++ (S ++ D)) (sym (append_assoc P A B)) ∙ append_assoc (P ++ A) B (S ++ D))
    ∙ take-append_seam (P ++ A) (B ++ (S ++ D))

module _ (r : LayerRun) (g : GivenLayer) where
  pub breaks-part : (h' : List Event) (count : ℕ) →
      h' ≡ run_begun r ++ rounds_events r.channel.extension r.channel.bits (take count (sent_of g).rounds) → BreaksRun r g h'
  breaks-part h' count is =
      let E = r.channel.extension in
      let bits = r.channel.bits in
      let rounds = (sent_of g).rounds in
      let P = layer_prelude E bits r.rounds r.claim in
      let A = rounds_events E bits (take count rounds) in
      let B = rounds_events E bits (drop count rounds) in
      let S = sent E (g.left ∷ g.right ∷ []) in
      let D = replicate E.degree Draw in
      record {
        count = length (P ++ A);
        history = is ∙ append_assoc r.history P A ∙ ap (λ l. r.history ++ l) (sym (front-of P A B S D))
            ∙ ap (λ l. r.history ++ take (length (P ++ A)) (((P ++ l) ++ S) ++ D)) (sym (rounds-split E bits rounds count));
      }

  pub breaks-none : (h' : List Event) → h' ≡ r.history → BreaksRun r g h'
  breaks-none h' is = record { count = 0; history = is ∙ sym (append-nil r.history) }

  pub breaks-whole : (h' : List Event) → h' ≡ run_played r (sent_of g) → BreaksRun r g h'
  breaks-whole h' is =
      let rounds = (sent_of g).rounds in
      breaks-part h' (length rounds) (is ∙ ap (λ rs. run_begun r ++ rounds_events r.channel.extension r.channel.bits rs) (sym (take-length rounds)))

  -- a refusal of the rounds
  pub refused-run : {EF : Type 0} (number : EF → ℕ) (e : GenericDegreeError) (h' : List Event) → LeavesVerify number (run_replay r g) r.history (Err e) h' → LeavesRun number r g (Err e) h'
  refused-run number (errors.InvalidDegree d) h' left = left
  refused-run number (errors.RoundCountMismatch expected actual) h' left = left
  refused-run number (errors.PowWitnessCountMismatch expected actual) h' left = left
  refused-run number (errors.PolyEvalCountMismatch i expected actual) h' left = left
  refused-run number (errors.MissingPowWitness i) h' left = left
  refused-run number (errors.InvalidPowWitness i) h' left = left
  refused-run number (errors.NoWitness i) h' left = left
  refused-run number errors.NoMemory h' left = elim left.1.1.1 [
    | inl same ↦ breaks-none h' same
    | inr walked ↦ breaks-part h' walked.count walked.walked.replays.history
  ]

  -- the rounds were replayed whole, and the challenge that merges the two values was drawn
  pub ends-run : (rs : List ℕ) (rest merging : ℕ) (h1 h2 : List Event) → IsCounted (run_replay r g) → IsWalked (run_replay r g).walk rs (verifier_state h1 rest) →
      merging ≡ extension_draw r.channel.rules r.channel.extension (h1 ++ sent r.channel.extension (g.left ∷ g.right ∷ [])) →
      h2 ≡ h1 ++ sent r.channel.extension (g.left ∷ g.right ∷ []) ++ replicate r.channel.extension.degree Draw → EndsRun r g rs rest merging h2
  ends-run rs rest merging h1 h2 counted walked merge history =
      let E = r.channel.extension in
      let S = sent E (g.left ∷ g.right ∷ []) in
      let played = walked.replays.history in
      record {
        whole = record { counted = counted; wide = walked.wide; passes = walked.replays.passes };
        drawn = walked.replays.drawn;
        residual = walked.replays.claim;
        merge = merge ∙ ap (λ h. extension_draw r.channel.rules E (h ++ S)) played;
        history = history ∙ ap (λ h. h ++ S ++ replicate E.degree Draw) played;
      }
