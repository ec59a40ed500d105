-- Tables that are moved up by some rows, or read some rows further on.
use Rattle.std.specs.Prelude.{ℕ, ◌+◌, ◌-◌, nat_lt, if◌then◌else◌}

-- the given first s rows, and from row s on a table's
abbrev pub moved_up : ℕ → (ℕ → ℕ) → (ℕ → ℕ) → ℕ → ℕ
moved_up s first f b = if nat_lt b s then first b else f (b - s)

-- at each of n rows what stands s rows further on, and after the last row what is given there
abbrev pub moved_down : ℕ → ℕ → (ℕ → ℕ) → (ℕ → ℕ) → ℕ → ℕ
moved_down n s after v b = if nat_lt (b + s) n then v (b + s) else after (b + s - n)
