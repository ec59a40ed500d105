-- Rounds move a prover state: what stays while a prover plays on two tables, and what each round moves.
use Rattle.std.specs.Prelude.{◌≡◌, ℕ, zero, suc, ◌+◌, ◌^◌, List, [], ◌∷◌, ◌++◌, length, map}
use Rattle.std.specs.List.{range_with_len}
use Rattle.sc_definitions.specs.declared.events.Event.{Event}
use Rattle.sc_definitions.specs.Ring.{Ops}
use Rattle.sc_definitions.specs.Tables.{Basis, Order, rows_of, value_in, placed, folded_in, folded_by}
use Rattle.sc_definitions.specs.Messages.{message_of}
use Rattle.sc_definitions.specs.Rounds.{honest_message, next_claim, claim_along}
use Rattle.sc_definitions.specs.Transcript.{Round, messages_of, rounds_events, challenges}
use Rattle.sc_definitions.specs.Channels.{Channel, IsSent, NoWitnessFound, Wire, with_rounds, VerifierState, IsBuilt}

-- What stays: the channel, the ring, what a table's entries are, and which variable a round binds.
pub record Setting : Type 0 where
  pub channel : Channel
  pub ops : Ops
  pub basis : Basis
  pub order : Order

-- What moves: the variables that are left, the entries of the two tables, the claim, the history, and what was put on the wire. A challenge that is held
-- is bound here already.
pub record ProverState : Type 0 where
  pub variables : ℕ
  pub evals : List ℕ
  pub weights : List ℕ
  pub claim : ℕ
  pub history : List Event
  pub wire : Wire

-- the entries of a table of m variables
abbrev pub entries_of : ℕ → (ℕ → ℕ) → List ℕ
entries_of m f = map f (range_with_len 0 (2 ^ m))

-- where its replay stands
abbrev pub verifier_state_of : ProverState → VerifierState
verifier_state_of t = record { history = t.history; claim = t.claim }

-- ---- one round

-- how many rows each part of a table has
abbrev pub half_rows : ℕ → ℕ
half_rows zero = 0
half_rows (suc m) = 2 ^ m

-- the message of its tables
abbrev pub message_in : Setting → ProverState → List ℕ
message_in s t = message_of s.basis s.order s.ops (half_rows t.variables) (rows_of t.evals) (rows_of t.weights)

-- what an honest round sends after the challenges rs, with m variables after it
abbrev pub honest_in : Setting → ProverState → List ℕ → ℕ → List ℕ
honest_in s t = honest_message s.basis s.order s.ops (rows_of t.evals) (rows_of t.weights)

-- A round with the challenge r: the message of the tables is sent with the first witness and put on the wire, both tables are bound at r, and the claim
-- is the sent polynomial's value there.
pub record IsRound (s : Setting) (before after : ProverState) (r : ℕ) : Type 0 where
  pub round : Round
  pub fewer : before.variables ≡ suc after.variables
  pub message : round.values ≡ message_in s before
  pub sent : IsSent s.channel before.history round r after.history
  pub wire : after.wire ≡ with_rounds s.channel.bits before.wire (round ∷ [])
  pub evals : after.evals ≡ entries_of after.variables (folded_in s.basis s.order s.ops after.variables r (rows_of before.evals))
  pub weights : after.weights ≡ entries_of after.variables (folded_in s.basis s.order s.ops after.variables r (rows_of before.weights))
  pub claim : after.claim ≡ next_claim s.basis s.ops before.claim round.values r

-- A round as the tables before it tell it: what it puts on the wire is the honest message, and the value of a table after it at the other coordinates is the
-- value before it with the challenge placed.
pub record IsHonestRound (s : Setting) (before after : ProverState) (r : ℕ) : Type 0 where
  pub message : after.wire.messages ≡ before.wire.messages ++ honest_in s before [] after.variables ∷ []
  pub evals : (zs : List ℕ) → length zs ≡ after.variables →
      value_in s.basis s.ops (rows_of after.evals) zs ≡ value_in s.basis s.ops (rows_of before.evals) (placed s.order (r ∷ []) zs)
  pub weights : (zs : List ℕ) → length zs ≡ after.variables →
      value_in s.basis s.ops (rows_of after.weights) zs ≡ value_in s.basis s.ops (rows_of before.weights) (placed s.order (r ∷ []) zs)

-- A round for which no witness was found: the history ends with its message, and all else stays.
pub record IsRoundWithoutWitness (s : Setting) (before after : ProverState) : Type 0 where
  pub none : NoWitnessFound s.channel before.history (message_in s before) after.history
  pub kept : after ≡ record before { history = after.history }

-- ---- a batch of rounds

-- Rounds with the challenges rs: they are built of the tables before them and put on the wire, both tables are bound at rs, and the claim is folded
-- along them.
pub record IsPlayed (s : Setting) (before after : ProverState) (rs : List ℕ) : Type 0 where
  pub rounds : List Round
  pub built : IsBuilt (honest_in s before) s.channel before.history [] before.variables rounds
  pub count : before.variables ≡ length rounds + after.variables
  pub drawn : rs ≡ challenges s.channel.rules s.channel.extension s.channel.bits before.history rounds
  pub history : after.history ≡ before.history ++ rounds_events s.channel.extension s.channel.bits rounds
  pub wire : after.wire ≡ with_rounds s.channel.bits before.wire rounds
  pub evals : after.evals ≡ entries_of after.variables (folded_by s.basis s.order s.ops rs after.variables (rows_of before.evals))
  pub weights : after.weights ≡ entries_of after.variables (folded_by s.basis s.order s.ops rs after.variables (rows_of before.weights))
  pub claim : after.claim ≡ claim_along (next_claim s.basis s.ops) before.claim (messages_of rounds) rs

-- Rounds, with some challenges, and nothing of another one.
pub record IsPlayedInPart (s : Setting) (before after : ProverState) : Type 0 where
  pub rs : List ℕ
  pub played : IsPlayed s before after rs

-- Rounds, with some challenges, and then one for which no witness was found.
pub record IsPlayedWithoutWitness (s : Setting) (before after : ProverState) : Type 0 where
  pub rs : List ℕ
  pub last : ProverState
  pub played : IsPlayed s before last rs
  pub ends : IsRoundWithoutWitness s last after
