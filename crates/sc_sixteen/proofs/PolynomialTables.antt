-- What the tables of `Poly16` hold.
use Rattle.std.proofs.Common.{◌≡◌, ◌≢◌, ℕ, ◌+◌, ◌*◌, ◌/◌, ◌%◌, ◌<◌, true, map, get_or, refl}
use Rattle.std.specs.List.{range_with_len}
use Rattle.sc_definitions.specs.Ring.{times}
use Rattle.sc_definitions.specs.Sixteen.{polynomials, times_x, product_by_bits, image_by_bits, tower_to_polynomial, polynomial_to_tower}
use Rattle.sc_sixteen.specs.declared.poly16.TheConstants.{PRODUCTS, INVERSES, FROM_TOWER, TO_TOWER}
use Rattle.sc_sixteen.proofs.SixteenTables.{product_entry, all_inverses, inverse_entry, image_entry}

products : PRODUCTS ≡ map (λ k. product_by_bits 4 (k / 16) (k % 16)) (range_with_len 0 256)
unfolding times_x product_by_bits
products = refl

inverses : all_inverses (product_by_bits 4) INVERSES ≡ true
unfolding all_inverses times_x product_by_bits
inverses = refl

from_tower : FROM_TOWER ≡ map tower_to_polynomial (range_with_len 0 16)
unfolding image_by_bits
from_tower = refl

to_tower : TO_TOWER ≡ map polynomial_to_tower (range_with_len 0 16)
unfolding image_by_bits
to_tower = refl

pub polynomial_product_entry : (x y : ℕ) → x < 16 → y < 16 → get_or PRODUCTS (x * 16 + y) 0 ≡ times polynomials x y
polynomial_product_entry = product_entry (product_by_bits 4) PRODUCTS products

pub polynomial_inverse_entry : (x : ℕ) → x < 16 → x ≢ 0 → times polynomials x (get_or INVERSES x 0) ≡ 1
polynomial_inverse_entry = inverse_entry (product_by_bits 4) INVERSES inverses

pub from_tower_entry : (x : ℕ) → x < 16 → get_or FROM_TOWER x 0 ≡ tower_to_polynomial x
from_tower_entry = image_entry tower_to_polynomial FROM_TOWER from_tower

pub to_tower_entry : (x : ℕ) → x < 16 → get_or TO_TOWER x 0 ≡ polynomial_to_tower x
to_tower_entry = image_entry polynomial_to_tower TO_TOWER to_tower
