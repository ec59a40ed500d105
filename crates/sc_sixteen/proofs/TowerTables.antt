-- What the tables of `Tower16` hold.
use Rattle.std.proofs.Common.{◌≡◌, ◌≢◌, ℕ, ◌+◌, ◌*◌, ◌/◌, ◌%◌, ◌<◌, true, map, get_or, refl}
use Rattle.std.specs.List.{range_with_len}
use Rattle.sc_definitions.specs.Ring.{times}
use Rattle.sc_definitions.specs.Sixteen.{tower, product_of_four, tower_product}
use Rattle.sc_sixteen.specs.declared.tower16.TheConstants.{PRODUCTS, INVERSES}
use Rattle.sc_sixteen.proofs.SixteenTables.{product_entry, all_inverses, inverse_entry}

products : PRODUCTS ≡ map (λ k. tower_product (k / 16) (k % 16)) (range_with_len 0 256)
unfolding product_of_four tower_product
products = refl

inverses : all_inverses tower_product INVERSES ≡ true
unfolding all_inverses product_of_four tower_product
inverses = refl

pub tower_product_entry : (x y : ℕ) → x < 16 → y < 16 → get_or PRODUCTS (x * 16 + y) 0 ≡ times tower x y
tower_product_entry = product_entry tower_product PRODUCTS products

pub tower_inverse_entry : (x : ℕ) → x < 16 → x ≢ 0 → times tower x (get_or INVERSES x 0) ≡ 1
tower_inverse_entry = inverse_entry tower_product INVERSES inverses
