-- Rounds that are played on tables with weights: what a round leaves, what all of them leave, and why they stop.
use Rattle.std.specs.Prelude.{◌≡◌, ◌⊎◌, ℕ, suc, ◌+◌, ◌-◌, ◌<◌, List, [], ◌∷◌, ◌++◌, length, map, Result, Ok, Err}
use Rattle.sc_definitions.specs.declared.events.Event.{Event}
use Rattle.sc_definitions.specs.Ring.{Ops}
use Rattle.sc_definitions.specs.Tables.{evaluation}
use Rattle.sc_definitions.specs.Events.{words}
use Rattle.sc_definitions.specs.Seeds.{quadratic_seed}
use Rattle.sc_definitions.specs.Transcript.{Round, rounds_events, challenges}
use Rattle.sc_definitions.specs.Channels.{Channel, Wire, with_rounds, IsSent, IsBuilt, NoWitnessFound}
use Rattle.sc_definitions.specs.ProverStates.{half_rows}
use Rattle.sc_transcript.specs.declared.error.SumcheckError.{SumcheckError}
use Rattle.sc_transcript.specs.declared.error.SumcheckError.TheVariants.{NoWitness, NoMemory}
use Rattle.sc_transcript.specs.declared.data.SumcheckData.{SumcheckData}
use Rattle.sc_transcript.specs.Data.{wire_in}
use Rattle.sc_soundness.specs.Merged.{WeightedTable, honest_merged, merged_message, bound_table}
use Rattle.sc_merged.specs.declared.tables.MergedTables.{MergedTables}
use Rattle.sc_merged.specs.SameRows.{HaveSameRows}
use Rattle.sc_merged.specs.MergedViews.{left_in, pairs_in}

-- Where rounds stand: the tables, how many variables are left, the history, and what is on the wire.
pub record MergedState : Type 0 where
  pub pairs : List WeightedTable
  pub variables : ℕ
  pub history : List Event
  pub wire : Wire

-- where those stand that are played on these tables and put into this data, at a history
abbrev pub prover_state_in : {F EF : Type 0} → (F → ℕ) → (EF → ℕ) → MergedTables EF → SumcheckData F EF → List Event → MergedState
prover_state_in base number t d h = record { pairs = pairs_in number t; variables = left_in t; history = h; wire = wire_in base number d }

-- ---- one round

-- what the tables send next
abbrev pub next_message : Ops → MergedState → List ℕ
next_message o s = merged_message o (half_rows s.variables) s.pairs

-- A round was played with the challenge r: the message of the tables is sent with the first witness and put on the wire, and all tables are bound at r.
pub record IsMergedRound (o : Ops) (c : Channel) (before after : MergedState) (r : ℕ) : Type 0 where
  pub round : Round
  pub values : round.values ≡ next_message o before
  pub fewer : before.variables ≡ suc after.variables
  pub sent : IsSent c before.history round r after.history
  pub bound : HaveSameRows after.variables after.pairs (map (bound_table o (r ∷ []) after.variables) before.pairs)
  pub wire : after.wire ≡ with_rounds c.bits before.wire (round ∷ [])

-- No witness was found for the message of the tables, with which the history ends. All else is as it was.
pub record IsWithoutWitness (o : Ops) (c : Channel) (before after : MergedState) : Type 0 where
  pub kept : after ≡ record before { history = after.history }
  pub none : NoWitnessFound c before.history (next_message o before) after.history

-- why round i is refused, and what that leaves
abbrev pub IsHalted : Ops → Channel → MergedState → MergedState → ℕ → SumcheckError → Type 0
IsHalted o c before after i NoMemory = after ≡ before
IsHalted o c before after i (NoWitness j) = (j ≡ i) × IsWithoutWitness o c before after
IsHalted o c before after i e = ⊥

-- what round i leaves, by its result
abbrev pub LeavesRound : {X : Type 0} → (X → ℕ) → Ops → Channel → MergedState → MergedState → ℕ → Result X SumcheckError → Type 0
LeavesRound number o c before after i (Ok r) = IsMergedRound o c before after (number r)
LeavesRound number o c before after i (Err e) = IsHalted o c before after i e

-- ---- several rounds

-- Rounds were played with the challenges rs: each sends what an honest prover of the first tables sends, with the first witness, and all tables are bound at
-- the challenges.
pub record ArePlayed (o : Ops) (c : Channel) (before after : MergedState) (rs : List ℕ) : Type 0 where
  pub rounds : List Round
  pub built : IsBuilt (honest_merged o before.pairs) c before.history [] before.variables rounds
  pub drawn : rs ≡ challenges c.rules c.extension c.bits before.history rounds
  pub left : length rounds + after.variables ≡ before.variables
  pub bound : HaveSameRows after.variables after.pairs (map (bound_table o rs after.variables) before.pairs)
  pub history : after.history ≡ before.history ++ rounds_events c.extension c.bits rounds
  pub wire : after.wire ≡ with_rounds c.bits before.wire rounds

-- The rounds before round i were, and no witness was found for what that one sends, with which the history ends.
pub record StopAt (o : Ops) (c : Channel) (before after : MergedState) (i : ℕ) : Type 0 where
  pub last : MergedState
  pub rs : List ℕ
  pub played : ArePlayed o c before last rs
  pub count : length rs ≡ i
  pub some : i < before.variables
  pub kept : after ≡ record last { history = after.history }
  pub none : NoWitnessFound c last.history (honest_merged o before.pairs rs (before.variables - suc i)) after.history

-- what rounds leave, by their result: all are played, with these challenges, or some are, and the next one is refused
abbrev pub LeaveRounds : {X : Type 0} → Ops → Channel → MergedState → MergedState → List ℕ → Result X SumcheckError → Type 0
LeaveRounds o c before after rs (Ok x) = ArePlayed o c before after rs × (after.variables ≡ 0)
LeaveRounds o c before after rs (Err NoMemory) = ArePlayed o c before after rs
LeaveRounds o c before after rs (Err (NoWitness i)) = StopAt o c before after i
LeaveRounds o c before after rs (Err e) = ⊥

-- ---- a play

-- the same with the seed of all rounds behind the history
abbrev pub seeded : Channel → MergedState → MergedState
seeded c s = record s { history = s.history ++ words (quadratic_seed c.extension.degree evaluation c.bits s.variables) }

-- What a play leaves, by its result: all rounds are played after their seed, with these challenges, and no variable is left; or no witness is found in a
-- round; or, for want of memory, nothing is begun, or some rounds are played.
abbrev pub LeavesPlay : {X : Type 0} → (X → List ℕ) → Ops → Channel → MergedState → MergedState → Result X SumcheckError → Type 0
LeavesPlay challenges o c before after (Ok x) = ArePlayed o c (seeded c before) after (challenges x) × (after.variables ≡ 0)
LeavesPlay challenges o c before after (Err NoMemory) = (after ≡ before) ⊎ ((rs : List ℕ) × ArePlayed o c (seeded c before) after rs)
LeavesPlay challenges o c before after (Err (NoWitness i)) = StopAt o c (seeded c before) after i
LeavesPlay challenges o c before after (Err e) = ⊥
