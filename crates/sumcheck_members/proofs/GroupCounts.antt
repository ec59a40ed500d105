-- How many claims several groups have, counted group after group.
use Rattle.std.proofs.Common.{◌≡◌, ℕ, ◌+◌, ◌<◌, ◌≤◌, List, length, get_or, take, ap, arith}
use Rattle.std.specs.List.{flat_map}
use Rattle.std.proofs.lemmas.List.Folds.{length-flat_map-take}

-- so many as before, and those of the item that was read at an index, are not more than all
pub length-flat_map-read : {Y A : Type 0} (h : Y → List A) (ys : List Y) (y : Y) (i : ℕ) → i < length ys → y ≡ get_or ys i y →
    length (flat_map h (take i ys)) + length (h y) ≤ length (flat_map h ys)
length-flat_map-read h ys y i below is = omega (arith, length-flat_map-take h ys i y below, ap (λ z. length (h z)) is)
