-- What is asked of masked rounds, by the numbers of its elements.
use Rattle.std.specs.Prelude.{ℕ, List}
use Rattle.sc_definitions.specs.declared.events.Event.{Event}
use Rattle.sc_definitions.specs.Ring.{Ops}
use Rattle.sc_definitions.specs.Channels.{Channel}
use Rattle.sc_definitions.specs.Problem.{Problem}
use Rattle.sc_zk_definitions.specs.MaskedBatches.{MaskedBatch}
use Rattle.sc_jobs.specs.BuiltCases.{prover_for}
use Rattle.sc_zk_rounds.specs.Handoffs.{AskedMasks, batch_over}

-- What is asked: a table of so many rows, the problem that it has with its statements, and masks to play rounds on it under, over the ring of the
-- challenges, with rounds that go over a channel after a history. The difficulty is the channel's.
pub record MaskedAsked : Type 0 where
  pub rows : ℕ
  pub problem : Problem
  pub masks : AskedMasks
  pub ops : Ops
  pub channel : Channel
  pub history : List Event

-- the batch of rounds that is asked for: a round for each mask, on the table and its batched weights, under the batched claim
abbrev pub masked_batch : MaskedAsked → MaskedBatch
masked_batch q = batch_over q.channel q.ops (prover_for q.ops q.problem) q.history q.masks
