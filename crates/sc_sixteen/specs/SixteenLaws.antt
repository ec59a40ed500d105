-- The two fields of 16 numbers are fields, and represent each other.
use Rattle.std.proofs.Common.{◌≡◌, ℕ, true, refl, arith}
use Rattle.sc_definitions.specs.Ring.{IsField, IsRepresentation, plus, times}
use Rattle.sc_definitions.specs.Sixteen.{sixteen, tower, polynomials, product_of_four, tower_product, times_x, product_by_bits, image_by_bits, tower_to_polynomial, polynomial_to_tower}
use Rattle.sc_field.specs.Tested.{passes, tested_field, maps_there, tested_representation}

tower_passes : passes tower ≡ true
unfolding passes product_of_four tower_product
tower_passes = refl

pub tower_field : IsField tower
tower_field = tested_field tower tower_passes (omega arith) (omega arith)

polynomials_pass : passes polynomials ≡ true
unfolding passes times_x product_by_bits
polynomials_pass = refl

pub polynomials_field : IsField polynomials
polynomials_field = tested_field polynomials polynomials_pass (omega arith) (omega arith)

there : maps_there tower polynomials tower_to_polynomial polynomial_to_tower ≡ true
unfolding maps_there plus times product_of_four tower_product times_x product_by_bits image_by_bits
there = refl

back : maps_there polynomials tower polynomial_to_tower tower_to_polynomial ≡ true
unfolding maps_there plus times product_of_four tower_product times_x product_by_bits image_by_bits
back = refl

pub polynomials_represent_tower : IsRepresentation tower polynomials tower_to_polynomial polynomial_to_tower
polynomials_represent_tower = tested_representation tower polynomials tower_to_polynomial polynomial_to_tower there back

-- one plus one
pub sixteen_two : (t : ℕ → ℕ → ℕ) → 0 ≡ plus (sixteen t) 1 1
unfolding plus
sixteen_two t = refl
