-- The integers modulo 65537 are a field.
use Rattle.std.proofs.Common.{◌≡◌, ℕ, ◌+◌, ◌-◌, ◌*◌, ◌%◌, true, refl, arith}
use Rattle.sc_definitions.specs.Ring.{IsField, plus, times, opposite}
use Rattle.sc_definitions.specs.Residues.{residues, IsPrime}
use Rattle.sc_field.specs.PrimeLaws.{none_divides, prime_by_table, plus_modulo, times_modulo, opposite_modulo, prime_field}

-- no number from 2 to 256 divides 65537
table : none_divides 65537 255 ≡ true
unfolding none_divides
table = refl

pub prime_65537 : IsPrime 65537
prime_65537 = prime_by_table 65537 255 (omega arith) (omega arith) table

pub residues_field : IsField (residues 65537)
residues_field = prime_field 65537 prime_65537 (omega arith) (omega arith)

-- the operations at any numbers
pub residues_plus : (x y : ℕ) → plus (residues 65537) x y ≡ (x + y) % 65537
residues_plus = plus_modulo 65537

pub residues_times : (x y : ℕ) → times (residues 65537) x y ≡ (x * y) % 65537
residues_times = times_modulo 65537

pub residues_opposite : (x : ℕ) → opposite (residues 65537) x ≡ (65537 - x % 65537) % 65537
residues_opposite = opposite_modulo 65537

-- one plus one
pub residues_two : 2 ≡ plus (residues 65537) 1 1
unfolding plus
residues_two = refl
