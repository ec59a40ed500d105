-- Rounds of a claim, as the functions that play and replay them see them.
use Rattle.std.specs.Prelude.{◌≡◌, ℕ, List, length, map, Option, Result, Ok, Err}
use Rattle.sc_definitions.specs.Tables.{evaluation}
use Rattle.sc_definitions.specs.Rounds.{next_claim, claim_along}
use Rattle.sc_definitions.specs.Transcript.{Round}
use Rattle.sc_definitions.specs.Channels.{Wire, empty_wire, with_rounds}
use Rattle.sc_transcript.specs.declared.error.SumcheckError.{SumcheckError}
use Rattle.sc_transcript.specs.declared.error.SumcheckError.TheVariants as rounds
use Rattle.sc_transcript.specs.declared.data.SumcheckData.{SumcheckData}
use Rattle.sc_transcript.specs.Data.{wire_in}
use Rattle.sc_merge_definitions.specs.Matrices.{MatmulCase, drawn_point, after_point, entries_claim, inner_variables, matmul_tables, matmul_challenges, matmul_stage, AreBuiltRounds}
use Rattle.sc_definitions.specs.Lucky.{LuckyChallenge}
use Rattle.sc_soundness.specs.Stages.{stage_luck}
use Rattle.sc_rounds.specs.declared.product_polynomial.ProductPolynomial.{ProductPolynomial}
use Rattle.sc_rounds.specs.Turns.{IsPairOf}
use Rattle.sc_matmul.specs.declared.error.MatmulError.{MatmulError}
use Rattle.sc_matmul.specs.declared.error.MatmulError.TheVariants as errors
use Rattle.sc_challenger.specs.Parties.{Party}
use Rattle.sc_matmul.specs.declared.building.BuiltRounds.{BuiltRounds}
use Rattle.sc_matmul.specs.declared.checking.Played.{Played}
use Rattle.sc_matmul.specs.MatmulRounds.{matmul_built, rounds_given}

-- What the refusal of rounds is answered as; neither the prover nor the replay refuses more than these, want of memory aside.
abbrev pub refusal_by : SumcheckError → MatmulError
refusal_by (rounds.RoundCountMismatch expected actual) = errors.RoundCountMismatch expected actual
refusal_by (rounds.PowWitnessCountMismatch expected actual) = errors.PowWitnessCountMismatch expected actual
refusal_by (rounds.InvalidPowWitness i bits) = errors.InvalidPowWitness i bits
refusal_by (rounds.NoWitness i) = errors.NoWitness i
refusal_by e = errors.NoMemory

-- They are the rounds that an honest prover builds, on the wire.
pub record AreBuilt (q : MatmulCase) (came : Wire) : Type 0 where
  pub rounds : List Round
  pub are : matmul_built q ≡ Ok rounds
  pub honest : AreBuiltRounds q rounds
  pub count : length rounds ≡ inner_variables q
  pub wire : came ≡ with_rounds q.channel.bits empty_wire rounds

-- This is the point, and a challenger stands where it was drawn.
pub record IsDrawnAt {EF : Type 0} (number : EF → ℕ) (q : MatmulCase) (x : EF) (at : Party) : Type 0 where
  pub rules : at.rules ≡ q.channel.rules
  pub point : number x ≡ drawn_point q
  pub history : at.history ≡ after_point q

-- what a build leaves, by its result
abbrev pub LeavesBuilt : {F EF C : Type 0} → (F → ℕ) → (EF → ℕ) → (C → Party) → MatmulCase → Result (BuiltRounds F EF C) MatmulError → Type 0
LeavesBuilt base number party q (Ok b) = IsDrawnAt number q b.point (party b.at_point) × AreBuilt q (wire_in base number b.rounds)
LeavesBuilt base number party q (Err (errors.NoWitness i)) = matmul_built q ≡ Err i
LeavesBuilt base number party q (Err errors.NoMemory) = Unit {0}
LeavesBuilt base number party q (Err e) = ⊥

-- Rounds were replayed after the point was drawn, with these challenges, and leave this residual of the claim.
pub record IsPlayedIn {F EF : Type 0} (base : F → ℕ) (number : EF → ℕ) (q : MatmulCase) (p : Played F EF) : Type 0 where
  pub point : number p.point ≡ drawn_point q
  pub claim : number p.claim ≡ entries_claim q
  pub challenges : map number p.challenges ≡ matmul_challenges q (rounds_given (wire_in base number p.rounds))
  pub residual : number p.residual
      ≡ claim_along (next_claim evaluation q.ops) (entries_claim q) (wire_in base number p.rounds).messages (matmul_challenges q (rounds_given (wire_in base number p.rounds)))

-- So they were, on this pair of tables.
pub record IsPlayedOn {F EF : Type 0} (base : F → ℕ) (number : EF → ℕ) (q : MatmulCase) (p : Played F EF) (pair : ProductPolynomial F EF) : Type 0 where
  pub played : IsPlayedIn base number q p
  pub pair_is : IsPairOf number (matmul_tables q) (inner_variables q) pair

-- the first lucky challenge of such rounds, if one is
abbrev pub played_luck : {F EF : Type 0} → (F → ℕ) → (EF → ℕ) → MatmulCase → Played F EF → Option LuckyChallenge
played_luck base number q p = stage_luck q.ops (matmul_stage q (rounds_given (wire_in base number p.rounds)))
