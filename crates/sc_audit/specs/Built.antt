-- Rounds that were built, before they are replayed.
use Rattle.std.specs.Prelude.{ℕ, map, Result, Ok, Err}
use Rattle.sc_transcript.specs.Data.{wire_in}
use Rattle.sc_svo.specs.Grids.{grids_shown}
use Rattle.sc_audit_errors.specs.declared.error.AuditError.{AuditError}
use Rattle.sc_audit_errors.specs.declared.error.AuditError.TheVariants.{NoWitness, NoMemory}
use Rattle.sc_audit.specs.declared.strategies.Built.{Built}
use Rattle.sc_jobs.specs.Cases.{Asked}
use Rattle.sc_jobs.specs.Audits.{BuildStops}
use Rattle.sc_jobs.specs.BuiltCases.{as_build, Kept, IsBuiltCase}

-- what a build keeps before it is replayed
abbrev pub kept_in : {F EF : Type 0} → (F → ℕ) → (EF → ℕ) → Built F EF → Kept
kept_in base number b = record {
  claim = number b.claim;
  wire = wire_in base number b.rounds;
  challenges = map number b.challenges;
  eval = number b.eval;
  weight = number b.weight;
  grids = grids_shown number b.grids;
}

-- what a build leaves, by its result
abbrev pub LeavesBuild : {F EF : Type 0} → (F → ℕ) → (EF → ℕ) → Asked → Result (Built F EF) AuditError → Type 0
LeavesBuild base number q (Ok b) = IsBuiltCase q (kept_in base number b)
LeavesBuild base number q (Err NoMemory) = Unit {0}
LeavesBuild base number q (Err (NoWitness i)) = BuildStops (as_build q) i
LeavesBuild base number q (Err e) = ⊥
