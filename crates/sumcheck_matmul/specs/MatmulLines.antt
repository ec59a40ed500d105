-- The lines of a report on a claimed product, and the texts of its refusals, of the numbers in them. Each line ends with a line feed.
use Rattle.std.specs.Prelude.{ℕ, ◌==◌, List, ◌++◌, codes, decimal, if◌then◌else◌}
use Rattle.sc_definitions.specs.Lucky.{LuckyChallenge, in_batch, in_round}
use Rattle.sumcheck_replies.specs.Lines.{spaced, lucky_round_line}

unfoldable pub point_line : ℕ → List ℕ
point_line x = codes "point " ++ decimal x ++ codes "\n"

-- the values of the two tables at the challenges
unfoldable pub left_line : ℕ → List ℕ
left_line x = codes "left " ++ decimal x ++ codes "\n"

unfoldable pub right_line : ℕ → List ℕ
right_line x = codes "right " ++ decimal x ++ codes "\n"

-- the beginning of the verdict that the point was lucky, up to the coefficients: the number of roots of the polynomial that certifies it
unfoldable pub lucky_point_name : ℕ → List ℕ
lucky_point_name roots = codes "verdict lucky-point vanishing " ++ decimal roots ++ codes " poly"

-- that verdict with the polynomial's coefficients
abbrev pub lucky_point_line : List ℕ → ℕ → List ℕ
lucky_point_line polynomial roots = lucky_point_name roots ++ spaced polynomial ++ codes "\n"

-- which challenge was lucky: the point, as what batches the entries, or that of a round
abbrev pub matmul_luck_line : LuckyChallenge → List ℕ
matmul_luck_line (in_batch polynomial roots) = lucky_point_line polynomial roots
matmul_luck_line (in_round round polynomial roots) = lucky_round_line round polynomial roots

-- a matrix by its number: the left one, the right one, and then the claimed one
abbrev pub side_name : ℕ → List ℕ
side_name i = if i == 0 then codes "left" else (if i == 1 then codes "right" else codes "claimed")

-- a matrix with a side that does not fit
unfoldable pub side_text : ℕ → ℕ → ℕ → List ℕ
side_text which rows cols = codes "matmul side " ++ side_name which ++ codes " " ++ decimal rows ++ codes " " ++ decimal cols

-- two matrices that have no product
unfoldable pub inner_text : ℕ → ℕ → List ℕ
inner_text left right = codes "matmul inner " ++ decimal left ++ codes " " ++ decimal right

-- a claimed matrix of other sides
unfoldable pub outer_text : ℕ → ℕ → List ℕ
outer_text rows cols = codes "matmul outer " ++ decimal rows ++ codes " " ++ decimal cols

-- a false entry: its row and column, its claimed and its true value
unfoldable pub false_entry_text : ℕ → ℕ → ℕ → ℕ → List ℕ
false_entry_text row col claimed actual =
    codes "false-entry " ++ decimal row ++ codes " " ++ decimal col ++ codes " claimed " ++ decimal claimed ++ codes " true " ++ decimal actual
