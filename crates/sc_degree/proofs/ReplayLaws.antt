-- What a replay leaves, by its result.
use Rattle.std.proofs.Common.{◌≡◌, ℕ, ◌<◌, List, length, map, get_or, ap, sym, subst, ◌∙◌, inr, Some, Result, Err, Vec, Global}
use Rattle.std.specs.List.{slice_get}
use Rattle.std.specs.Prelude.{vec_len}
use Rattle.std.proofs.lemmas.List.{length-map}
use Rattle.std.proofs.lemmas.Option.{slice_get-get_or}
use Rattle.sc_definitions.specs.declared.events.Event.{Event}
use Rattle.sc_definitions.specs.Transcript.{Round, round_of}
use Rattle.sc_definitions.specs.Channels.{verifier_state}
use Rattle.sc_definitions.proofs.ReplayLaws.{length-given_rounds, get_or-given_rounds}
use Rattle.sc_transcript.specs.declared.error.RoundError.{RoundError}
use Rattle.sc_transcript.specs.declared.error.RoundError.TheVariants as rounds
use Rattle.sc_transcript.specs.declared.rounds.BatchShape.{BatchShape}
use Rattle.sc_transcript.specs.Steps.{rounds_on}
use Rattle.sc_transcript.specs.Walks.{Walk, LeavesWalk}
use Rattle.sc_transcript.specs.Replayed.{Replay, AreCounted, IsCounted}
use Rattle.sc_transcript.proofs.WitnessReads.{message_at}
use Rattle.sc_degree.specs.declared.error.GenericDegreeError.{GenericDegreeError}
use Rattle.sc_degree.specs.declared.proof.GenericDegreeProof.{GenericDegreeProof}
use Rattle.sc_degree.specs.Causes.{generic_told}
use Rattle.sc_degree.specs.Proofs.{proof_wire, LeavesVerify}

-- ---- the rounds of a proof

-- round i, by what is read of the proof
pub round_came : {F EF : Type 0} (base : F → ℕ) (number : EF → ℕ) (p : GenericDegreeProof F EF) (i : ℕ) (row : Vec EF Global) (values : List EF) (w : ℕ) →
    i < length p.round_polys.items → row ≡ get_or p.round_polys.items i row → values ≡ row.items → w ≡ get_or (proof_wire base number p).witnesses i 0 →
    slice_get (rounds_on (proof_wire base number p)) i ≡ Some (round_of (map number values) w)
round_came base number p i row values w low is same witness =
    let sends = λ (v : Vec _ Global). map number v.items in
    let ms = (proof_wire base number p).messages in
    let ws = (proof_wire base number p).witnesses in
    let r : Round = round_of (map number values) w in
    let within : i < length ms = rw length-map low in
    slice_get-get_or _ i r (rw length-given_rounds within)
    ∙ ap Some (get_or-given_rounds ms ws i (map number row.items) r within (message_at sends p.round_polys.items i row low is)
    ∙ ap (round_of (map number row.items)) (sym witness) ∙ ap (λ v. round_of (map number v) w) (sym same))

-- how many rounds and witnesses a proof puts on the wire
pub came_counted : {F EF : Type 0} (base : F → ℕ) (number : EF → ℕ) (proof : GenericDegreeProof F EF) (shape : BatchShape) →
    AreCounted shape (vec_len proof.round_polys) (vec_len proof.pow_witnesses) →
    AreCounted shape (length (proof_wire base number proof).messages) (length (proof_wire base number proof).witnesses)
came_counted base number proof shape are = record {
  as_rounds = length-map _ _ ∙ sym proof.round_polys.ok.0 ∙ are.as_rounds;
  as_witnesses = length-map _ _ ∙ sym proof.pow_witnesses.ok.0 ∙ are.as_witnesses;
}

-- ---- by the result

module _ {X : Type 0} (number : X → ℕ) (p : Replay) (h : List Event) (some : 0 < p.shape.width) where
  -- a round is rejected
  pub walk_left : {w : Walk} (e : RoundError) (result : Result (List X × X) GenericDegreeError) (h' : List Event) (claim : ℕ) → w ≡ p.walk →
      p.walk.channel.bits ≡ p.shape.pow_bits → IsCounted p → result ≡ Err (generic_told e) → LeavesWalk w (Err (Some e)) (verifier_state h' claim) → LeavesVerify number p h result h'
  walk_left e result h' claim same bits counts is left = told e is (subst (λ (w : Walk). LeavesWalk w (Err (Some e)) (verifier_state h' claim)) same left) where
    told : (e : RoundError) → result ≡ Err (generic_told e) → LeavesWalk p.walk (Err (Some e)) (verifier_state h' claim) → LeavesVerify number p h result h'
    told rounds.NoMemory is left = rw is (some, (claim, (counts, inr left)))
    told (rounds.WrongWidth i expected actual) is left = rw is (some, (claim, (counts, left)))
    told (rounds.InvalidWitness i difficulty) is left = rw is (some, (claim, (counts, (sym bits, left.1))))
    told e is left = absurd left
