-- A play between its rounds, as the functions that play it see it.
use Rattle.std.specs.Prelude.{◌≡◌, ℕ, ◌+◌, ◌<◌, ◌≤◌, List, [], ◌∷◌, ◌++◌, length, map, All, vec_len, vec_capacity, Result, Ok, Err}
use Rattle.sc_definitions.specs.declared.events.Event.{Event}
use Rattle.sc_definitions.specs.Ring.{Ops}
use Rattle.sc_definitions.specs.Transcript.{Round, rounds_events, challenges}
use Rattle.sc_definitions.specs.Interpolation.{node_values}
use Rattle.sc_definitions.specs.Channels.{Channel, Wire, empty_wire, with_rounds, IsSent, IsBuilt}
use Rattle.sc_transcript.specs.Rounds.{witness_count}
use Rattle.sc_degree.specs.declared.error.GenericDegreeError.{GenericDegreeError}
use Rattle.sc_degree.specs.declared.transcript.GenericDegreeShape.{GenericDegreeShape}
use Rattle.sc_degree.specs.declared.played.Played.{Played}
use Rattle.sc_transcript.specs.Drivers.{Driver, IsRefused}
use Rattle.sc_degree.specs.Causes.{generic_cause}
use Rattle.sc_degree.specs.Proofs.{proof_wire}
use Rattle.sc_degree.specs.Provers.{Prover, IsFolded, sent_after}

-- Where a play stands: what plays, how many rounds were played, the history, what is on the wire, the claimed sum that is kept with it, and the challenges so
-- far.
pub record Progress : Type 0 where
  pub prover : Prover
  pub played : ℕ
  pub history : List Event
  pub wire : Wire
  pub claimed : ℕ
  pub drawn : List ℕ

-- where one stands that has this driver, with what it has played
abbrev pub playing : {F EF K : Type 0} → (F → ℕ) → (EF → ℕ) → Driver K → Prover → Played F EF → Progress
playing base number d prover played = record {
  prover = prover;
  played = d.played;
  history = d.history;
  wire = proof_wire base number played.proof;
  claimed = number played.proof.claimed_sum;
  drawn = map number played.challenges.items;
}

-- no round was played
pub record HasNoRound (s : Progress) : Type 0 where
  pub played : s.played ≡ 0
  pub wire : s.wire ≡ empty_wire
  pub drawn : s.drawn ≡ []

-- Of a batch of this shape so many rounds are played, and there is room for the others.
pub record IsFilled {F EF : Type 0} (shape : GenericDegreeShape) (count : ℕ) (p : Played F EF) : Type 0 where
  pub messages : vec_len p.proof.round_polys ≡ count
  pub messages_fit : shape.num_rounds ≤ vec_capacity p.proof.round_polys
  pub witnesses : vec_len p.proof.pow_witnesses ≡ witness_count shape.pow_bits count
  pub witnesses_fit : witness_count shape.pow_bits shape.num_rounds ≤ vec_capacity p.proof.pow_witnesses
  pub drawn : vec_len p.challenges ≡ count
  pub drawn_fit : shape.num_rounds ≤ vec_capacity p.challenges

-- What a driver plays its next rounds with: the prover's degree is the batch's, with its nodes below a size, a variable is left for each round that is, and
-- there is room for what they send.
pub record IsReady {F EF : Type 0} (size : ℕ) (d : Driver GenericDegreeShape) (prover : Prover) (played : Played F EF) : Type 0 where
  pub degree : d.shape.width ≡ prover.degree
  pub nodes : prover.degree < size
  pub variables : d.shape.num_rounds ≤ prover.variables + d.played
  pub filled : IsFilled d.kind d.played played

-- what the prover sends next
abbrev pub next_values : Ops → Prover → List ℕ
next_values o p = node_values o p.degree (p.polynomial [])

-- One round more was played, with what the prover sends, and put on the wire; its challenge is folded in.
pub record PlaysOne (o : Ops) (c : Channel) (before after : Progress) : Type 0 where
  pub round : Round
  pub r : ℕ
  pub values : round.values ≡ next_values o before.prover
  pub played : after.played ≡ before.played + 1
  pub sent : IsSent c before.history round r after.history
  pub folded : IsFolded (r ∷ []) before.prover after.prover
  pub wire : after.wire ≡ with_rounds c.bits before.wire (round ∷ [])
  pub claimed : after.claimed ≡ before.claimed
  pub drawn : after.drawn ≡ before.drawn ++ r ∷ []

-- what the next round leaves, by its result; a refused one leaves the prover as it was
abbrev pub LeavesRound : {X : Type 0} → Ops → Channel → Progress → Progress → Result X GenericDegreeError → Type 0
LeavesRound o c before after (Ok x) = PlaysOne o c before after
LeavesRound o c before after (Err e) =
    (after.prover ≡ before.prover) × IsRefused c before.played before.history (next_values o before.prover) after.history (generic_cause c.bits e)

-- Rounds were played of a prover that nothing was folded into.
pub record Progresses (o : Ops) (c : Channel) (start now : Progress) : Type 0 where
  pub rounds : List Round
  pub built : IsBuilt (sent_after o start.prover) c start.history [] start.prover.variables rounds
  pub are_drawn : now.drawn ≡ challenges c.rules c.extension c.bits start.history rounds
  pub folded : IsFolded now.drawn start.prover now.prover
  pub history : now.history ≡ start.history ++ rounds_events c.extension c.bits rounds
  pub wire : now.wire ≡ with_rounds c.bits empty_wire rounds
  pub claimed : now.claimed ≡ start.claimed

-- Some were, fewer than `total`, with witnesses that are numbers of elements, and the next one is refused.
pub record StopsAfter (o : Ops) (c : Channel) (total : ℕ) (start after : Progress) (e : GenericDegreeError) : Type 0 where
  pub last : Progress
  pub so_far : Progresses o c start last
  pub few : length last.drawn < total
  pub low : All (λ w. w < c.base_size) last.wire.witnesses
  pub kept : after.prover ≡ last.prover
  pub why : IsRefused c (length last.drawn) last.history (next_values o last.prover) after.history (generic_cause c.bits e)

-- what rounds leave, by the result: `total` of them were played, or the next one is refused
abbrev pub LeavesProgress : {X : Type 0} → Ops → Channel → ℕ → Progress → Progress → Result X GenericDegreeError → Type 0
LeavesProgress o c total start now (Ok x) = Progresses o c start now × (length now.drawn ≡ total)
LeavesProgress o c total start now (Err e) = StopsAfter o c total start now e
