-- A simulation on a copy of a challenger, which is then replayed on the challenger itself.
use Rattle.std.specs.Prelude.{◌≡◌, ℕ, List, map, Result, Ok, Err}
use Rattle.sc_definitions.specs.declared.events.Event.{Event}
use Rattle.sc_definitions.specs.Ring.{Ops}
use Rattle.sc_zk_definitions.specs.Masks.{target_after}
use Rattle.sc_zk_definitions.specs.MaskedBatches.{combination_of, head_verifier_state}
use Rattle.sc_transcript.specs.declared.error.SumcheckError.{SumcheckError}
use Rattle.sc_transcript.specs.declared.error.SumcheckError.TheVariants.{NoWitness, NoMemory}
use Rattle.sc_zk_rounds.specs.Data.{sent_in}
use Rattle.sc_zk_simulators.specs.declared.in_step.SimulatedRun.{SimulatedRun}
use Rattle.sc_zk_simulators.specs.Sendings.{LacksWitness}
use Rattle.sc_zk_simulators.specs.Simulations.{Simulation, Answer, IsWhole, LacksMemory, rounds_of}

-- The figures of a run: what was put on the wire with the challenges, the combination, and what the replay leaves of the first target.
pub record RunFigures : Type 0 where
  pub answer : Answer
  pub eps : ℕ
  pub residual : ℕ

-- those of a run
abbrev pub run_in : {F EF K : Type 0} → (F → ℕ) → (EF → ℕ) → SimulatedRun F EF K → RunFigures
run_in base number r = record {
  answer = record { sent = sent_in base number r.zk_data; challenges = map number r.randomness };
  eps = number r.eps;
  residual = number r.claimed_residual;
}

-- It was simulated whole and accepted, with the same challenges and to the history h, and these are its figures.
pub record IsAccepted (o : Ops) (s : Simulation) (f : RunFigures) (h : List Event) : Type 0 where
  pub whole : IsWhole s f.answer h
  pub eps : f.eps ≡ combination_of s.batch.channel s.batch.shape s.batch.given s.batch.begun
  pub residual : f.residual ≡ target_after o (head_verifier_state o s.batch).claim s.wires f.answer.challenges

-- No witness was found for wire i, and the verifier has not begun.
pub record IsNotReplayed (s : Simulation) (i : ℕ) (h : List Event) : Type 0 where
  pub simulated : List Event
  pub lacks : LacksWitness (rounds_of s) i simulated
  pub history : h ≡ s.batch.begun

-- what such a run leaves, by its answer
abbrev pub SimulatesInStep : {X : Type 0} → (X → RunFigures) → Ops → Simulation → Result X SumcheckError → List Event → Type 0
SimulatesInStep view o s (Ok x) h = IsAccepted o s (view x) h
SimulatesInStep view o s (Err (NoWitness i)) h = IsNotReplayed s i h
SimulatesInStep view o s (Err NoMemory) h = LacksMemory s h
SimulatesInStep view o s (Err e) h = ⊥
