-- The integers modulo 17 are a field. This serves the tests alone.
use Rattle.std.proofs.Common.{◌≡◌, ◌≢◌, ℕ, zero, suc, ◌+◌, ◌-◌, ◌*◌, ◌%◌, ◌<◌, Bool, true, eqb, eqb-true, refl, arith}
use Rattle.sc_definitions.specs.Ring.{IsField, plus, times, opposite, power}
use Rattle.sc_definitions.specs.Residues.{residues, IsPrime}
use Rattle.sc_field.specs.PrimeLaws.{none_divides, prime_by_table, plus_modulo, times_modulo, opposite_modulo, prime_field}
use Rattle.sc_field.specs.Tested.{all_below, all-at}

-- no number from 2 to 4 divides 17
table : none_divides 17 3 ≡ true
unfolding none_divides
table = refl

prime_17 : IsPrime 17
prime_17 = prime_by_table 17 3 (omega arith) (omega arith) table

pub seventeen_field : IsField (residues 17)
seventeen_field = prime_field 17 prime_17 (omega arith) (omega arith)

-- the operations at any numbers
pub seventeen_plus : (x y : ℕ) → plus (residues 17) x y ≡ (x + y) % 17
seventeen_plus = plus_modulo 17

pub seventeen_times : (x y : ℕ) → times (residues 17) x y ≡ (x * y) % 17
seventeen_times = times_modulo 17

pub seventeen_opposite : (x : ℕ) → opposite (residues 17) x ≡ (17 - x % 17) % 17
seventeen_opposite = opposite_modulo 17

-- one plus one
pub seventeen_two : 2 ≡ plus (residues 17) 1 1
unfolding plus
seventeen_two = refl

-- the power 16 of the number after n is 1
inverts : ℕ → Bool
inverts n = eqb (times (residues 17) (suc n) (power (residues 17) (suc n) 15)) 1

all_invert : all_below 16 inverts ≡ true
unfolding all_below inverts times power
all_invert = refl

-- a number from 1 to 16 times its power 15 is 1
pub seventeen_inverse : (x : ℕ) → x < 17 → x ≢ 0 → times (residues 17) x (power (residues 17) x 15) ≡ 1
unfolding inverts
seventeen_inverse zero low positive = absurd (positive refl)
seventeen_inverse (suc n) low positive = eqb-true _ _ (all-at 16 inverts all_invert n (omega arith))
