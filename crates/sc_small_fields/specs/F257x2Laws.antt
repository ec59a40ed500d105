-- The extension of the integers modulo 257 by a square root of 3 is a field.
use Rattle.std.proofs.Common.{◌≡◌, ◌≢◌, ℕ, ◌*◌, ◌%◌, ◌<◌, Bool, true, not, eqb, eq-eqb, sym, ◌∙◌, refl, arith}
use Rattle.sc_definitions.specs.Ring.{IsField, element, plus, times}
use Rattle.sc_definitions.specs.Residues.{residues}
use Rattle.sc_definitions.specs.Quadratic.{pair, low, high, quadratic}
use Rattle.sc_small_fields.specs.F257Laws.{f257_field, f257_times}
use Rattle.sc_small_fields.specs.QuadraticFields.{quadratic_field}
use Rattle.sc_field.specs.Tested.{all_below, all-at}

is_no_root : ℕ → Bool
is_no_root x = not (eqb (x * x % 257) 3)

-- no square of the 257 numbers is 3
table : all_below 257 is_no_root ≡ true
unfolding all_below is_no_root
table = refl

refuted : (b : Bool) → not b ≡ true → b ≡ true → ⊥
refuted b n e = cc

pub no_root : (x : ℕ) → x < 257 → times (residues 257) x x ≢ element (residues 257) 3
unfolding is_no_root element
no_root x h e =
    refuted (eqb (x * x % 257) 3) (all-at 257 is_no_root table x h) (eq-eqb (x * x % 257) 3 (sym (f257_times x x) ∙ e))

pub f257x2_field : IsField (quadratic (residues 257) 3)
f257x2_field = quadratic_field (residues 257) f257_field.ring f257_field 3 no_root (omega arith) (omega arith)

-- zero, one and one plus one
pub f257x2_zero : pair (residues 257) 0 0 ≡ 0
unfolding pair
f257x2_zero = refl

pub f257x2_one : pair (residues 257) 1 0 ≡ 1
unfolding pair
f257x2_one = refl

pub f257x2_two : pair (residues 257) 2 0 ≡ plus (quadratic (residues 257) 3) 1 1
unfolding plus pair low high
f257x2_two = refl
