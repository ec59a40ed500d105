-- What is said of an answer, and what it leaves of the challenger's history.
use Rattle.std.specs.Prelude.{◌≡◌, ◌⊎◌, List, ◌++◌, Result, Ok, Err}
use Rattle.sc_definitions.specs.declared.events.Event.{Event}
use Rattle.sc_definitions.specs.Ring.{Ops, ◌+⟨◌⟩◌}
use Rattle.sc_definitions.specs.Transcript.{Round, rounds_events}
use Rattle.sc_definitions.specs.Replays.{given_rounds}
use Rattle.sc_zk_definitions.specs.MaskedBatches.{MaskedBatch, start_of}
use Rattle.sc_zk_rounds.specs.InStep.{MaskedFigures, LacksMemory}
use Rattle.sc_zk_audit.specs.declared.error.MaskedError.{MaskedError}
use Rattle.sc_zk_audit.specs.declared.error.MaskedError.TheVariants.{NoMemory}
use Rattle.sc_zk_audit.specs.MaskedReports.{MaskedReported}

-- An answer is exactly this one, or want of memory.
abbrev pub GivesMasked : Result MaskedReported MaskedError → Result MaskedReported MaskedError → Type 0
GivesMasked due (Ok r) = due ≡ Ok r
GivesMasked due (Err e) = (e ≡ NoMemory) ⊎ (due ≡ Err e)

-- the rounds that figures show
abbrev pub rounds_shown : MaskedFigures → List Round
rounds_shown f = given_rounds f.wire.messages f.wire.witnesses

-- the history after rounds of a batch, with all that stands before them
abbrev pub history_after : MaskedBatch → List Round → List Event
history_after b rounds = (start_of b).history ++ rounds_events b.setting.channel.extension b.setting.channel.bits rounds

-- What an answer leaves of the history: the rounds that a report shows, after all that stands before them; after want of memory a part of what stands
-- before them, or all of it and some of the rounds; and else it is as it was.
abbrev pub LeavesMaskedHistory : MaskedBatch → Result MaskedReported MaskedError → List Event → Type 0
LeavesMaskedHistory b (Ok r) h' = h' ≡ history_after b (rounds_shown r.figures)
LeavesMaskedHistory b (Err NoMemory) h' = LacksMemory b h'
LeavesMaskedHistory b (Err e) h' = h' ≡ b.taken.history

-- What the replay leaves is the sum of its three parts.
abbrev pub AddsUp : Ops → MaskedFigures → Type 0
AddsUp o f = f.residual ≡ (f.scaled +⟨ o ⟩ f.carried) +⟨ o ⟩ f.mask_residual
