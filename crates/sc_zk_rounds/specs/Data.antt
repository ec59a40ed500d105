-- The data of masked rounds, by the numbers of its elements.
use Rattle.std.specs.Prelude.{◌≡◌, ◌-◌, ◌<◌, ◌≤◌, min, ℕ, List, [], All, length, map, vec_len, vec_capacity}
use Rattle.std.specs.declared.vec.Vec.{Vec}
use Rattle.sc_definitions.specs.Channels.{Wire, empty_wire}
use Rattle.sc_commitments.specs.Matrices.{lists_in}
use Rattle.sc_zk_rounds.specs.declared.data.ZkSumcheckData.{ZkSumcheckData}

-- what data has put on the wire
abbrev pub masked_wire_in : {F EF : Type 0} → (F → ℕ) → (EF → ℕ) → ZkSumcheckData F EF → Wire
masked_wire_in base number d = record { messages = lists_in number d.round_coefficients.items; witnesses = map base d.pow_witnesses.items }

-- what data has put on the wire, the masks' total first
pub record Sent : Type 0 where
  pub mu : ℕ
  pub wire : Wire

-- the same of data, by its numbers
abbrev pub sent_in : {F EF : Type 0} → (F → ℕ) → (EF → ℕ) → ZkSumcheckData F EF → Sent
sent_in base number d = record { mu = number d.mu_tilde; wire = masked_wire_in base number d }

-- nothing yet
pub record IsNewData {F EF : Type 0} (base : F → ℕ) (number : EF → ℕ) (d : ZkSumcheckData F EF) : Type 0 where
  pub mu : number d.mu_tilde ≡ 0
  pub wire : masked_wire_in base number d ≡ empty_wire

-- how many more rounds it takes without memory
abbrev pub masked_spare_in : {F EF : Type 0} → ZkSumcheckData F EF → ℕ
masked_spare_in d = min (vec_capacity d.round_coefficients - vec_len d.round_coefficients) (vec_capacity d.pow_witnesses - vec_len d.pow_witnesses)

-- a list is empty, and has room for n elements
pub record HasRoomFor {X Z : Type 0} (n : ℕ) (v : Vec X Z) : Type 0 where
  pub empty : v.items ≡ []
  pub room : n ≤ vec_capacity v

-- the words of a commitment: 64 numbers below 16
pub record AreWords (ws : List ℕ) : Type 0 where
  pub count : length ws ≡ 64
  pub below : All (λ w. w < 16) ws
