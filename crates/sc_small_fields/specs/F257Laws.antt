-- The integers modulo 257 are a field.
use Rattle.std.proofs.Common.{◌≡◌, ℕ, ◌+◌, ◌-◌, ◌*◌, ◌%◌, true, refl, arith}
use Rattle.sc_definitions.specs.Ring.{IsField, plus, times, opposite}
use Rattle.sc_definitions.specs.Residues.{residues, IsPrime}
use Rattle.sc_field.specs.PrimeLaws.{none_divides, prime_by_table, plus_modulo, times_modulo, opposite_modulo, prime_field}

-- no number from 2 to 16 divides 257
table : none_divides 257 15 ≡ true
unfolding none_divides
table = refl

pub prime_257 : IsPrime 257
prime_257 = prime_by_table 257 15 (omega arith) (omega arith) table

pub f257_field : IsField (residues 257)
f257_field = prime_field 257 prime_257 (omega arith) (omega arith)

-- the operations at any numbers
pub f257_plus : (x y : ℕ) → plus (residues 257) x y ≡ (x + y) % 257
f257_plus = plus_modulo 257

pub f257_times : (x y : ℕ) → times (residues 257) x y ≡ (x * y) % 257
f257_times = times_modulo 257

pub f257_opposite : (x : ℕ) → opposite (residues 257) x ≡ (257 - x % 257) % 257
f257_opposite = opposite_modulo 257

-- one plus one
pub f257_two : 2 ≡ plus (residues 257) 1 1
unfolding plus
f257_two = refl
