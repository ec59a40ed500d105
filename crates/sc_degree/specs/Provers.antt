-- What plays rounds of any degree, and what it leaves.
use Rattle.std.specs.Prelude.{◌≡◌, ◌⊎◌, ℕ, suc, ◌+◌, ◌<◌, ◌≤◌, List, [], ◌∷◌, ◌++◌, length, take, map, All, Result, Ok, Err}
use Rattle.sc_definitions.specs.declared.events.Event.{Event}
use Rattle.sc_definitions.specs.Ring.{Ops, ◌+⟨◌⟩◌}
use Rattle.sc_definitions.specs.Transcript.{Round, rounds_events, challenges}
use Rattle.sc_definitions.specs.Polynomials.{poly_at}
use Rattle.sc_definitions.specs.Interpolation.{node_values}
use Rattle.sc_definitions.specs.Channels.{Channel, Wire, empty_wire, with_rounds, witnesses_of, NoWitnessFound, IsBuilt}
use Rattle.sc_degree.specs.declared.error.GenericDegreeError.{GenericDegreeError}
use Rattle.sc_degree.specs.declared.error.GenericDegreeError.TheVariants.{NoWitness, NoMemory}
use Rattle.sc_degree.specs.declared.proof.GenericDegreeProof.{GenericDegreeProof}
use Rattle.sc_degree.specs.declared.transcript.GenericDegreeShape.{GenericDegreeShape}
use Rattle.sc_degree.specs.Shapes.{prelude_of}
use Rattle.sc_degree.specs.Proofs.{proof_wire}

-- A prover: the degree of its rounds, how many variables are left, the round polynomial, by its coefficients, after each list of fewer challenges, and
-- the true claim after each list of at most as many; the polynomial and the claim after none are the current ones.
pub record Prover : Type 0 where
  pub degree : ℕ
  pub variables : ℕ
  pub polynomial : List ℕ → List ℕ
  pub claim : List ℕ → ℕ

-- Its claims are those of its polynomials. A polynomial has one coefficient more than the degree, its values at 0 and 1 are in sum the claim before the
-- round, and its value at a challenge is the claim after it.
pub record IsTied (o : Ops) (p : Prover) : Type 0 where
  pub coefficients : (rs : List ℕ) → length rs < p.variables → length (p.polynomial rs) ≡ suc p.degree
  pub sum : (rs : List ℕ) → length rs < p.variables → poly_at o (p.polynomial rs) 0 +⟨ o ⟩ poly_at o (p.polynomial rs) 1 ≡ p.claim rs
  pub next : (rs : List ℕ) (r : ℕ) → length rs < p.variables → poly_at o (p.polynomial rs) r ≡ p.claim (rs ++ r ∷ [])

-- the same prover with the challenges rs folded in
pub record IsFolded (rs : List ℕ) (before after : Prover) : Type 0 where
  pub degree : after.degree ≡ before.degree
  pub variables : before.variables ≡ length rs + after.variables
  pub polynomial : (qs : List ℕ) → length qs < after.variables → after.polynomial qs ≡ before.polynomial (rs ++ qs)
  pub claim : (qs : List ℕ) → length qs ≤ after.variables → after.claim qs ≡ before.claim (rs ++ qs)

-- the same prover with the first ones of these challenges folded in
pub record IsFoldedInPart (rs : List ℕ) (before after : Prover) : Type 0 where
  pub count : ℕ
  pub few : count ≤ length rs
  pub folded : IsFolded (take count rs) before after

-- what it sends after the challenges rs, with m variables after the round's: the values of its polynomial at the nodes of its degree
abbrev pub sent_after : Ops → Prover → List ℕ → ℕ → List ℕ
sent_after o p rs m = node_values o p.degree (p.polynomial rs)

-- A play that is asked for: the ring, the channel, the shape, the claimed sum, and the history before it.
pub record Play : Type 0 where
  pub ops : Ops
  pub channel : Channel
  pub shape : GenericDegreeShape
  pub claimed : ℕ
  pub history : List Event

-- the play of these, over a ring, a channel, a shape and a claimed sum, from a history on
abbrev pub play_of : Ops → Channel → GenericDegreeShape → ℕ → List Event → Play
play_of o c shape claimed h = record { ops = o; channel = c; shape = shape; claimed = claimed; history = h }

-- the history before its first round: after the seed and the claimed sum
abbrev pub begun : Play → List Event
begun q = q.history ++ prelude_of q.channel.extension q.shape q.claimed

-- Some rounds were built of a prover, which these challenges were then folded in: each sends its values at the nodes, with the first witness that passes.
pub record PlaysRounds (q : Play) (before after : Prover) (rounds : List Round) (rs : List ℕ) : Type 0 where
  pub built : IsBuilt (sent_after q.ops before) q.channel (begun q) [] before.variables rounds
  pub drawn : rs ≡ challenges q.channel.rules q.channel.extension q.channel.bits (begun q) rounds
  pub folded : IsFolded rs before after

-- the history after rounds of the play
abbrev pub history_after : Play → List Round → List Event
history_after q rounds = begun q ++ rounds_events q.channel.extension q.channel.bits rounds

-- All rounds were played, and put on the wire.
pub record EndsPlay (q : Play) (before after : Prover) (came : Wire) (rs : List ℕ) (h' : List Event) : Type 0 where
  pub rounds : List Round
  pub plays : PlaysRounds q before after rounds rs
  pub count : length rounds ≡ q.shape.num_rounds
  pub history : h' ≡ history_after q rounds
  pub wire : came ≡ with_rounds q.channel.bits empty_wire rounds

-- Some were, from the first on, and nothing of another one.
pub record BreaksPlay (q : Play) (before after : Prover) (h' : List Event) : Type 0 where
  pub rounds : List Round
  pub rs : List ℕ
  pub plays : PlaysRounds q before after rounds rs
  pub few : length rounds ≤ q.shape.num_rounds
  pub history : h' ≡ history_after q rounds

-- The rounds before round i were, with witnesses that are numbers of elements, and no witness was found for what that one sends.
pub record StopsAt (q : Play) (before after : Prover) (i : ℕ) (h' : List Event) : Type 0 where
  pub rounds : List Round
  pub rs : List ℕ
  pub plays : PlaysRounds q before after rounds rs
  pub count : length rounds ≡ i
  pub low : All (λ w. w < q.channel.base_size) (witnesses_of q.channel.bits rounds)
  pub some : i < q.shape.num_rounds
  pub none : NoWitnessFound q.channel (history_after q rounds) (node_values q.ops before.degree (before.polynomial rs)) h'

-- What a play leaves of the prover and of the history, by its result: the proof, of the claimed sum, and the challenges; or why there is none.
abbrev pub LeavesPlay : {F EF : Type 0} → (F → ℕ) → (EF → ℕ) → Play → Prover → Prover → Result (GenericDegreeProof F EF × List EF) GenericDegreeError → List Event → Type 0
LeavesPlay base number q before after (Ok x) h' =
    (number x.0.claimed_sum ≡ q.claimed) × EndsPlay q before after (proof_wire base number x.0) (map number x.1) h'
LeavesPlay base number q before after (Err (NoWitness i)) h' = StopsAt q before after i h'
LeavesPlay base number q before after (Err NoMemory) h' = ((after ≡ before) × (h' ≡ q.history)) ⊎ BreaksPlay q before after h'
LeavesPlay base number q before after (Err e) h' = ⊥
