-- What is answered: the figures of masked rounds, or why there are none.
use Rattle.std.specs.Prelude.{ℕ, ◌+◌, ◌-◌, List, [], length, Option, Some, None, Result, Ok, Err}
use Rattle.sc_definitions.specs.Ring.{◌*⟨◌⟩◌}
use Rattle.sc_definitions.specs.Transcript.{Round, messages_of, challenges}
use Rattle.sc_definitions.specs.Channels.{empty_wire, with_rounds}
use Rattle.sc_definitions.specs.Witnesses.{honest_rounds}
use Rattle.sc_zk_definitions.specs.Masks.{Piece, masks_at, first_target, target_after, plain_after, aux_after}
use Rattle.sc_zk_definitions.specs.MaskedRuns.{masked_in, piece_in, along}
use Rattle.sc_zk_definitions.specs.MaskedBatches.{MaskedBatch, head_of, eps_of, masking_of, start_of}
use Rattle.sc_zk_rounds.specs.InStep.{MaskedFigures, run_in}
use Rattle.sc_zk_audit.specs.declared.error.MaskedError.{MaskedError}
use Rattle.sc_zk_audit.specs.declared.error.MaskedError.TheVariants.{NoWitness}
use Rattle.sc_zk_audit.specs.declared.report.MaskedReport.{MaskedReport}
use Rattle.sc_zk_audit.specs.MaskedCases.{MaskedAsked, masked_batch}
use Rattle.sc_zk_audit.specs.MaskedRefusals.{masked_refusal}

-- a report by its numbers: the claim that the rounds begin with, and their figures
pub record MaskedReported : Type 0 where
  pub claim : ℕ
  pub figures : MaskedFigures

-- ---- the rounds

-- how many variables no round binds
abbrev pub left_of : MaskedBatch → ℕ
left_of b = b.taken.variables - length b.masks

-- What an honest round of a batch sends, by the challenges before it and the number of masks after its own: what the tables before the first round make
-- under the masks.
abbrev pub honest_wire : MaskedBatch → List ℕ → ℕ → List ℕ
honest_wire b rs m = masked_in b.setting (start_of b) (masking_of b) rs (m + left_of b)

-- the rounds of a batch, one for each mask, or the number of the first one for which no witness is found
abbrev pub masked_rounds : MaskedBatch → Result (List Round) ℕ
masked_rounds b = honest_rounds (honest_wire b) b.setting.channel (start_of b).history [] (length b.masks)

-- their challenges
abbrev pub challenges_of : MaskedBatch → List Round → List ℕ
challenges_of b rounds = challenges b.setting.channel.rules b.setting.channel.extension b.setting.channel.bits (start_of b).history rounds

-- ---- the report on them

-- the honest messages of the table and its weights at challenges, as far as there are any
abbrev pub pieces_of : MaskedBatch → List ℕ → List Piece
pieces_of b rs = along (piece_in b.setting (start_of b)) [] b.taken.variables rs

-- What rounds leave with these challenges: what a replay of their wires makes of the first target; and the plain residual and what is left of aux, both
-- times the combination, and the masks at the challenges.
abbrev pub figures_at : MaskedBatch → List Round → List ℕ → MaskedFigures
figures_at b rounds rs = record {
  mu = (head_of b).mu;
  wire = with_rounds b.setting.channel.bits empty_wire rounds;
  challenges = rs;
  eps = eps_of b;
  residual = target_after b.setting.ops (first_target b.setting.ops (eps_of b) (head_of b).claim (head_of b).mu) (messages_of rounds) rs;
  scaled = eps_of b *⟨ b.setting.ops ⟩ plain_after b.setting.ops b.taken.claim (pieces_of b rs) rs;
  carried = eps_of b *⟨ b.setting.ops ⟩ aux_after b.setting.ops b.half b.aux (length rs);
  mask_residual = masks_at b.setting.ops b.masks rs;
}

-- the report on rounds of a batch
abbrev pub masked_report : MaskedBatch → List Round → MaskedReported
masked_report b rounds = record { claim = (head_of b).claim; figures = figures_at b rounds (challenges_of b rounds) }

-- ---- what is answered

-- to rounds that are played, or to the one for which no witness is found
abbrev pub rounds_answer : MaskedBatch → Result (List Round) ℕ → Result MaskedReported MaskedError
rounds_answer b (Ok rounds) = Ok (masked_report b rounds)
rounds_answer b (Err i) = Err (NoWitness i)

-- what comes of the rounds, unless there is a refusal before
abbrev pub unless_refused : Option MaskedError → Result MaskedReported MaskedError → Result MaskedReported MaskedError
unless_refused (Some e) rest = Err e
unless_refused None rest = rest

-- to what is asked: the first refusal before a round is played, or else the report on the rounds, or the one that cannot be played
abbrev pub masked_answer : MaskedAsked → Result MaskedReported MaskedError
masked_answer q = unless_refused (masked_refusal q) (rounds_answer (masked_batch q) (masked_rounds (masked_batch q)))

-- ---- views

-- what a report shows
abbrev pub masked_reported : {F EF : Type 0} → (F → ℕ) → (EF → ℕ) → MaskedReport F EF → MaskedReported
masked_reported base number r = record { claim = number r.claim; figures = run_in base number r.run }

-- what a call answers
abbrev pub answer_in : {F EF : Type 0} → (F → ℕ) → (EF → ℕ) → Result (MaskedReport F EF) MaskedError → Result MaskedReported MaskedError
answer_in base number (Ok r) = Ok (masked_reported base number r)
answer_in base number (Err e) = Err e
