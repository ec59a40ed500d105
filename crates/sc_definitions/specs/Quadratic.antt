-- Extensions of degree 2: the elements a + b u over a ring, where u^2 = k. Such an element has the number a + size b.
use Rattle.std.specs.Prelude.{ℕ, ◌+◌, ◌*◌, ◌/◌, ◌%◌, [], ◌∷◌, slice_index}
use Rattle.sc_definitions.specs.Ring.{Ops, ◌+⟨◌⟩◌, ◌*⟨◌⟩◌, opposite}
use Rattle.sc_definitions.specs.Events.{Extension}

-- the number of a + b u
unfoldable pub pair : Ops → ℕ → ℕ → ℕ
pair o a b = b * o.size + a

-- a of the element number x = a + b u
unfoldable pub low : Ops → ℕ → ℕ
low o x = x % o.size

-- b of the element number x = a + b u
unfoldable pub high : Ops → ℕ → ℕ
high o x = x / o.size

-- (a + b u) + (c + d u) is (a + c) + (b + d) u, and (a + b u) (c + d u) is (a c + k b d) + (a d + b c) u
abbrev pub quadratic : Ops → ℕ → Ops
quadratic o k = record {
  size = o.size * o.size;
  raw_plus = λ x y. pair o (low o x +⟨ o ⟩ low o y) (high o x +⟨ o ⟩ high o y);
  raw_times = λ x y. pair o (low o x *⟨ o ⟩ low o y +⟨ o ⟩ k *⟨ o ⟩ (high o x *⟨ o ⟩ high o y)) (low o x *⟨ o ⟩ high o y +⟨ o ⟩ high o x *⟨ o ⟩ low o y);
  raw_opposite = λ x. pair o (opposite o (low o x)) (opposite o (high o x));
}

-- a and b as the two parts of a + b u, in this order
abbrev pub pair_extension : Ops → Extension
pair_extension o = record {
  degree = 2;
  parts = λ x. low o x ∷ high o x ∷ [];
  join = λ xs. pair o (slice_index xs 0) (slice_index xs 1);
}
