-- What a prover on two tables shows, and where its rounds stand.
use Rattle.std.specs.Prelude.{◌≡◌, ◌⊎◌, ℕ, ◌-◌, List, [], ◌∷◌, ◌++◌, map, Option, Some, None}
use Rattle.sc_definitions.specs.declared.events.Event.{Event}
use Rattle.sc_definitions.specs.Ring.{Ops, ◌+⟨◌⟩◌, ◌*⟨◌⟩◌}
use Rattle.sc_definitions.specs.Tables.{Basis, Order, rows_of, inner_product, folded_in}
use Rattle.sc_definitions.specs.Messages.{message_of}
use Rattle.sc_definitions.specs.Rounds.{honest_message, next_claim}
use Rattle.sc_definitions.specs.Channels.{Channel, Wire}
use Rattle.sc_definitions.specs.ProverStates.{Setting, ProverState, half_rows, entries_of, IsPlayed}

-- What all that ask a prover see: what the entries of its tables are, which variable a round binds, how many variables are left, the entries of both
-- tables with every challenge bound, and the claim.
pub record ProverView : Type 0 where
  pub basis : Basis
  pub order : Order
  pub variables : ℕ
  pub evals : List ℕ
  pub weights : List ℕ
  pub claim : ℕ

-- What the entries are and which variable a round binds stay.
pub record KeepsForm (before after : ProverView) : Type 0 where
  pub basis : after.basis ≡ before.basis
  pub order : after.order ≡ before.order

-- the images of what is shown
abbrev pub imaged : (ℕ → ℕ) → ProverView → ProverView
imaged h s = record s { evals = map h s.evals; weights = map h s.weights; claim = h s.claim }

-- What is kept of a pair: its stored tables, and the challenge that they are not bound at yet.
pub record Stored : Type 0 where
  pub evals : List ℕ
  pub weights : List ℕ
  pub held : Option ℕ

-- where no challenge is held, the stored tables are those that are shown
abbrev pub settled_as : ProverView → Stored
settled_as s = record { evals = s.evals; weights = s.weights; held = None }

-- ---- one round

-- the message of its tables
abbrev pub message_shown : Ops → ProverView → List ℕ
message_shown o s = message_of s.basis s.order o (half_rows s.variables) (rows_of s.evals) (rows_of s.weights)

-- what an honest first round on them sends
abbrev pub honest_shown : Ops → ProverView → List ℕ
honest_shown o s = honest_message s.basis s.order o (rows_of s.evals) (rows_of s.weights) [] (s.variables - 1)

-- The same with the next variable bound at r, and the claim moved to what the message sends there.
abbrev pub with_bound : Ops → ProverView → ℕ → ProverView
with_bound o s r = record {
  basis = s.basis;
  order = s.order;
  variables = s.variables - 1;
  evals = entries_of (s.variables - 1) (folded_in s.basis s.order o (s.variables - 1) r (rows_of s.evals));
  weights = entries_of (s.variables - 1) (folded_in s.basis s.order o (s.variables - 1) r (rows_of s.weights));
  claim = next_claim s.basis o s.claim (message_shown o s) r;
}

-- The last of the challenges rs is held, and the stored tables have all others bound.
pub record HoldsLast (s : Setting) (start : ProverState) (rs : List ℕ) (stored : Stored) : Type 0 where
  pub others : List ℕ
  pub last : ℕ
  pub are : rs ≡ others ++ last ∷ []
  pub held : stored.held ≡ Some last
  pub before : ProverState
  pub played : IsPlayed s start before others
  pub evals : stored.evals ≡ before.evals
  pub weights : stored.weights ≡ before.weights

-- so it is where there is a challenge; where there is none, what was kept before is kept
abbrev pub HoldsIfAny : Setting → ProverState → Stored → List ℕ → Stored → Type 0
HoldsIfAny s start before rs stored = ((rs ≡ []) × (stored ≡ before)) ⊎ HoldsLast s start rs stored

-- ---- claims

-- the sum over all rows of evaluation times these weights
abbrev pub sum_with : Ops → ProverView → (ℕ → ℕ) → ℕ
sum_with o s w = inner_product o s.variables (rows_of s.evals) w

-- the claim is the sum over all rows of evaluation times weight
abbrev pub IsTrueClaim : Ops → ProverView → Type 0
IsTrueClaim o s = s.claim ≡ sum_with o s (rows_of s.weights)

-- the weights with values added to them, row by row
abbrev pub weights_plus : Ops → ProverView → (ℕ → ℕ) → List ℕ
weights_plus o s values = entries_of s.variables (λ b. rows_of s.weights b +⟨ o ⟩ values b)

-- the same with values added to the weights, and a number to the claim
abbrev pub with_added : Ops → ProverView → (ℕ → ℕ) → ℕ → ProverView
with_added o s values number = record s { weights = weights_plus o s values; claim = s.claim +⟨ o ⟩ number }

-- the same with the weights and the claim times a number
abbrev pub with_scaled : Ops → ProverView → ℕ → ProverView
with_scaled o s scale = record s {
  weights = entries_of s.variables (λ b. rows_of s.weights b *⟨ o ⟩ scale);
  claim = s.claim *⟨ o ⟩ scale;
}

-- ---- where its rounds stand

-- what stays, over a channel
abbrev pub setting_at : Channel → Ops → ProverView → Setting
setting_at c o s = record { channel = c; ops = o; basis = s.basis; order = s.order }

-- what moves, at a history and with so much on the wire
abbrev pub prover_state_at : ProverView → List Event → Wire → ProverState
prover_state_at s h sent = record { variables = s.variables; evals = s.evals; weights = s.weights; claim = s.claim; history = h; wire = sent }
