-- What is asked of rounds over a product of tables, by the numbers of its elements.
use Rattle.std.specs.Prelude.{ℕ, List, [], ◌++◌, length}
use Rattle.sc_definitions.specs.declared.events.Event.{Event}
use Rattle.sc_definitions.specs.Ring.{Ops}
use Rattle.sc_definitions.specs.Channels.{Channel, Wire}
use Rattle.sc_definitions.specs.Products.{product_claim}
use Rattle.sc_degree.specs.Shapes.{prelude_of, generic_shape}

-- a proof that is handed in: the sum that it claims, and what came of its rounds
pub record ProductGiven : Type 0 where
  pub claimed : ℕ
  pub came : Wire

-- what is done: the rounds are built, or those of a proof are checked
pub data ProductTask : Type 0 where
  to_build : ProductTask
  to_check : ProductGiven → ProductTask

-- What is asked: tables by their rows' numbers, row 0 first, and what is done with them, over the ring of the challenges, with rounds that go over a channel
-- after a history. The difficulty is the channel's.
pub record ProductAsked : Type 0 where
  pub ops : Ops
  pub tables : List (List ℕ)
  pub task : ProductTask
  pub channel : Channel
  pub history : List Event

-- Tables of so many variables, over the ring of the challenges, with rounds that go over a channel after a history.
pub record ProductCase : Type 0 where
  pub ops : Ops
  pub tables : List (ℕ → ℕ)
  pub variables : ℕ
  pub channel : Channel
  pub history : List Event

-- the case of these
abbrev pub case_over : Ops → List (ℕ → ℕ) → ℕ → Channel → List Event → ProductCase
case_over o tables n c h = record { ops = o; tables = tables; variables = n; channel = c; history = h }

-- the sum over all rows of the product of the tables
abbrev pub true_sum : ProductCase → ℕ
true_sum k = product_claim k.ops k.tables [] k.variables

-- the history before the first round, after the seed and the claimed sum
abbrev pub product_start : ProductCase → ℕ → List Event
product_start k claimed = k.history ++ prelude_of k.channel.extension (generic_shape k.variables (length k.tables) k.channel.bits) claimed
