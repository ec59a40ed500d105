-- Rounds and openings, as the functions that play and replay them see them.
use Rattle.std.specs.Prelude.{◌≡◌, ℕ, List, [], length, map, Option, Result, Ok, Err}
use Rattle.sc_definitions.specs.Tables.{evaluation}
use Rattle.sc_definitions.specs.Rounds.{next_claim, claim_along}
use Rattle.sc_definitions.specs.Transcript.{Round}
use Rattle.sc_definitions.specs.Channels.{empty_wire, with_rounds, IsBuilt}
use Rattle.sc_definitions.specs.Lucky.{LuckyChallenge}
use Rattle.sc_challenger.specs.Parties.{Party}
use Rattle.sc_transcript.specs.declared.error.SumcheckError.{SumcheckError}
use Rattle.sc_transcript.specs.declared.error.SumcheckError.TheVariants as rounds
use Rattle.sc_transcript.specs.Data.{wire_in}
use Rattle.sc_soundness.specs.Merged.{honest_merged}
use Rattle.sc_soundness.specs.Stages.{stage_luck}
use Rattle.sc_merge_definitions.specs.Openings.{OpeningsCase, merging_challenge, after_merging, merging_claim, weighted_tables, openings_challenges, values_at, openings_stage}
use Rattle.sc_merged.specs.declared.tables.MergedTables.{MergedTables}
use Rattle.sc_merged.specs.SameRows.{HaveSameRows}
use Rattle.sc_merged.specs.MergedViews.{left_in, pairs_in}
use Rattle.sc_openings.specs.declared.error.MergeError.{MergeError}
use Rattle.sc_openings.specs.declared.error.MergeError.TheVariants as errors
use Rattle.sc_openings.specs.declared.building.BuiltProof.{BuiltProof}
use Rattle.sc_openings.specs.declared.checking.Played.{Played}
use Rattle.sc_openings.specs.OpeningsJobs.{CameOpenings, came_in}
use Rattle.sc_openings.specs.OpeningsRounds.{rounds_start, openings_built, rounds_given}

-- What the refusal of rounds is answered as; neither the prover nor the replay refuses more than these, want of memory aside.
abbrev pub refusal_by : SumcheckError → MergeError
refusal_by (rounds.RoundCountMismatch expected actual) = errors.RoundCountMismatch expected actual
refusal_by (rounds.PowWitnessCountMismatch expected actual) = errors.PowWitnessCountMismatch expected actual
refusal_by (rounds.InvalidPowWitness i bits) = errors.InvalidPowWitness i bits
refusal_by (rounds.NoWitness i) = errors.NoWitness i
refusal_by e = errors.NoMemory

-- They are the rounds that an honest prover builds, on the wire, and the tables' values at their challenges.
pub record AreBuilt (q : OpeningsCase) (came : CameOpenings) : Type 0 where
  pub rounds : List Round
  pub are : openings_built q ≡ Ok rounds
  pub honest : IsBuilt (honest_merged q.ops (weighted_tables q)) q.channel (rounds_start q) [] q.variables rounds
  pub count : length rounds ≡ q.variables
  pub wire : came.wire ≡ with_rounds q.channel.bits empty_wire rounds
  pub openings : came.openings ≡ values_at q.ops (weighted_tables q) (openings_challenges q rounds)

-- This is the challenge that merges the claims, and a challenger stands where it was drawn.
pub record IsDrawnAt {EF : Type 0} (number : EF → ℕ) (q : OpeningsCase) (x : EF) (at : Party) : Type 0 where
  pub rules : at.rules ≡ q.channel.rules
  pub challenge : number x ≡ merging_challenge q
  pub history : at.history ≡ after_merging q

-- what a build leaves, by its result
abbrev pub LeavesBuilt : {F EF C : Type 0} → (F → ℕ) → (EF → ℕ) → (C → Party) → OpeningsCase → Result (BuiltProof F EF C) MergeError → Type 0
LeavesBuilt base number party q (Ok b) = IsDrawnAt number q b.challenge (party b.at_challenge) × AreBuilt q (came_in base number b.proof)
LeavesBuilt base number party q (Err (errors.NoWitness i)) = openings_built q ≡ Err i
LeavesBuilt base number party q (Err errors.NoMemory) = Unit {0}
LeavesBuilt base number party q (Err e) = ⊥

-- These tables have the rows of the case's, with their weights.
pub record AreTablesOf {EF : Type 0} (number : EF → ℕ) (q : OpeningsCase) (t : MergedTables EF) : Type 0 where
  pub variables : left_in t ≡ q.variables
  pub rows : HaveSameRows q.variables (pairs_in number t) (weighted_tables q)

-- Rounds were replayed after the claims were merged, with these challenges, and leave this residual of the merged claim.
pub record IsPlayedIn {F EF : Type 0} (base : F → ℕ) (number : EF → ℕ) (q : OpeningsCase) (p : Played F EF) : Type 0 where
  pub challenge : number p.challenge ≡ merging_challenge q
  pub claim : number p.claim ≡ merging_claim q
  pub challenges : map number p.challenges ≡ openings_challenges q (rounds_given (wire_in base number p.proof.rounds))
  pub residual : number p.residual
      ≡ claim_along (next_claim evaluation q.ops) (merging_claim q) (wire_in base number p.proof.rounds).messages
      (openings_challenges q (rounds_given (wire_in base number p.proof.rounds)))

-- So they were, on these tables.
pub record IsPlayedOn {F EF : Type 0} (base : F → ℕ) (number : EF → ℕ) (q : OpeningsCase) (p : Played F EF) (t : MergedTables EF) : Type 0 where
  pub played : IsPlayedIn base number q p
  pub tables : AreTablesOf number q t

-- the first lucky challenge of such rounds, if one is
abbrev pub played_luck : {F EF : Type 0} → (F → ℕ) → (EF → ℕ) → OpeningsCase → Played F EF → Option LuckyChallenge
played_luck base number q p = stage_luck q.ops (openings_stage q (rounds_given (wire_in base number p.proof.rounds)))
