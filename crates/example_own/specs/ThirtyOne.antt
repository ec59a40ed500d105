-- The integers modulo 31 are a field.
use Rattle.std.proofs.Common.{◌≡◌, ◌≢◌, ℕ, zero, suc, ◌+◌, ◌-◌, ◌*◌, ◌%◌, ◌<◌, Bool, true, eqb, eqb-true, refl, arith}
use Rattle.sc_definitions.specs.Ring.{IsField, plus, times, opposite, power}
use Rattle.sc_definitions.specs.Residues.{residues, IsPrime}
use Rattle.sc_field.specs.PrimeLaws.{none_divides, prime_by_table, plus_modulo, times_modulo, opposite_modulo, prime_field}
use Rattle.sc_field.specs.Tested.{all_below, all-at}

-- no number from 2 to 5 divides 31
table : none_divides 31 4 ≡ true
unfolding none_divides
table = refl

prime_31 : IsPrime 31
prime_31 = prime_by_table 31 4 (omega arith) (omega arith) table

pub is_field : IsField (residues 31)
is_field = prime_field 31 prime_31 (omega arith) (omega arith)

pub two_is : 2 ≡ plus (residues 31) 1 1
unfolding plus
two_is = refl

-- the operations at any numbers
pub sum : (x y : ℕ) → plus (residues 31) x y ≡ (x + y) % 31
sum = plus_modulo 31

pub product : (x y : ℕ) → times (residues 31) x y ≡ (x * y) % 31
product = times_modulo 31

pub negative : (x : ℕ) → opposite (residues 31) x ≡ (31 - x % 31) % 31
negative = opposite_modulo 31

-- the power 30 of the number after n is 1
inverts : ℕ → Bool
inverts n = eqb (times (residues 31) (suc n) (power (residues 31) (suc n) 29)) 1

all_invert : all_below 30 inverts ≡ true
unfolding all_below inverts times power
all_invert = refl

-- a number from 1 to 30 times its power 29 is 1
pub inverse : (x : ℕ) → x < 31 → x ≢ 0 → times (residues 31) x (power (residues 31) x 29) ≡ 1
unfolding inverts
inverse zero low positive = absurd (positive refl)
inverse (suc n) low positive = eqb-true _ _ (all-at 30 inverts all_invert n (omega arith))

pub ruleset laws = (sum, product, negative, inverse)
