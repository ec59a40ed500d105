-- The lines of a report on claims on tables, and the texts of its refusals, of the numbers in them. Each line ends with a line feed.
use Rattle.std.specs.Prelude.{ℕ, suc, List, [], ◌∷◌, ◌++◌, codes, decimal}

-- a value by a name and its place
unfoldable pub numbered_line : List ℕ → ℕ → ℕ → List ℕ
numbered_line name i x = name ++ codes " " ++ decimal i ++ codes ": " ++ decimal x ++ codes "\n"

-- a line for each value, numbered from i on
abbrev pub numbered_lines : List ℕ → ℕ → List ℕ → List ℕ
numbered_lines name i [] = []
numbered_lines name i (x ∷ xs) = numbered_line name i x ++ numbered_lines name (suc i) xs

-- ---- refusals

-- a table of a length that does not fit
unfoldable pub table_text : ℕ → ℕ → List ℕ
table_text table len = codes "openings table " ++ decimal table ++ codes " length " ++ decimal len

-- a claim that names no table
unfoldable pub claim_table_text : ℕ → ℕ → List ℕ
claim_table_text claim table = codes "openings claim " ++ decimal claim ++ codes " table " ++ decimal table

-- a claim whose point has so many coordinates, and not one for each variable
unfoldable pub claim_arity_text : ℕ → ℕ → List ℕ
claim_arity_text claim coordinates = codes "openings claim " ++ decimal claim ++ codes " variables " ++ decimal coordinates

-- a proof of another number of openings
unfoldable pub opening_count_text : ℕ → ℕ → List ℕ
opening_count_text expected actual = codes "openings expected " ++ decimal expected ++ codes " actual " ++ decimal actual
