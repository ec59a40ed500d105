-- The lines of a report, and the texts of refusals, of the numbers in them. Each line ends with a line feed.
use Rattle.std.specs.Prelude.{◌≡◌, ℕ, suc, List, [], ◌∷◌, ◌++◌, codes, decimal, Option, Some, None, String, string_bytes}
use Rattle.sc_definitions.specs.Lucky.{LuckyChallenge, in_batch, in_round}
use Rattle.sc_audit_errors.specs.declared.error.ShapeFault.{ShapeFault}
use Rattle.sc_audit_errors.specs.declared.error.ShapeFault.TheVariants.{TableLength, Difficulty, Arity, ProjectiveSuffix}
use Rattle.sc_audit_errors.specs.declared.error.FitFault.{FitFault}
use Rattle.sc_audit_errors.specs.declared.error.FitFault.TheVariants.{Projective, Variables, Select, Selector}

-- a text had these bytes added
abbrev pub Adds : {Z : Type 0} → String Z → String Z → List ℕ → Type 0
Adds old new bytes = string_bytes new ≡ string_bytes old ++ bytes

-- numbers, a space before each
unfoldable pub spaced : List ℕ → List ℕ
spaced [] = []
spaced (x ∷ xs) = codes " " ++ decimal x ++ spaced xs

-- how many rows and how many statements there are
unfoldable pub counts_lines : ℕ → ℕ → List ℕ
counts_lines rows statements = codes "rows " ++ decimal rows ++ codes "\nstatements " ++ decimal statements ++ codes "\n"

unfoldable pub claim_line : ℕ → List ℕ
claim_line claim = codes "claim " ++ decimal claim ++ codes "\n"

-- a round's witness, if it has one
unfoldable pub witness_part : Option ℕ → List ℕ
witness_part None = []
witness_part (Some w) = codes " witness " ++ decimal w

-- a round's number, the values that it sent, its witness, and its challenge
unfoldable pub round_line : ℕ → List ℕ → Option ℕ → ℕ → List ℕ
round_line i values witness challenge =
    codes "round " ++ decimal i ++ codes ":" ++ spaced values ++ witness_part witness ++ codes " challenge " ++ decimal challenge ++ codes "\n"

-- the beginning of the line, up to the values, and its end, after the witness
unfoldable pub round_name : ℕ → List ℕ
round_name i = codes "round " ++ decimal i ++ codes ":"

unfoldable pub challenge_part : ℕ → List ℕ
challenge_part challenge = codes " challenge " ++ decimal challenge ++ codes "\n"

-- A line of some kind for the values of each round, its witness if there is one, and its challenge, numbered from i on.
abbrev pub lines_by : (ℕ → List ℕ → Option ℕ → ℕ → List ℕ) → ℕ → List (List ℕ) → List ℕ → List ℕ → List ℕ
lines_by line i [] witnesses challenges = []
lines_by line i (values ∷ messages) witnesses [] = []
lines_by line i (values ∷ messages) [] (r ∷ challenges) = line i values None r ++ lines_by line (suc i) messages [] challenges
lines_by line i (values ∷ messages) (w ∷ witnesses) (r ∷ challenges) = line i values (Some w) r ++ lines_by line (suc i) messages witnesses challenges

-- the lines of rounds
abbrev pub round_lines : ℕ → List (List ℕ) → List ℕ → List ℕ → List ℕ
round_lines i messages witnesses challenges = lines_by round_line i messages witnesses challenges

-- a round, as the place of something
unfoldable pub round_text : ℕ → List ℕ
round_text i = codes "round " ++ decimal i

-- the beginning of a line or of another text that is of a layer
unfoldable pub layer_name : ℕ → List ℕ
layer_name i = codes "layer " ++ decimal i ++ codes " "

-- the sum of all values that the rounds sent
unfoldable pub pairs_line : ℕ → List ℕ
pairs_line sum = codes "pairs " ++ decimal sum ++ codes "\n"

unfoldable pub residual_line : ℕ → List ℕ
residual_line x = codes "residual " ++ decimal x ++ codes "\n"

unfoldable pub eval_line : ℕ → List ℕ
eval_line x = codes "eval " ++ decimal x ++ codes "\n"

unfoldable pub weight_line : ℕ → List ℕ
weight_line x = codes "weight " ++ decimal x ++ codes "\n"

-- the product of the values of several tables
unfoldable pub product_line : ℕ → List ℕ
product_line x = codes "product " ++ decimal x ++ codes "\n"

-- a list of a grid by its round's number and the place of the round's variable
unfoldable pub grid_name : ℕ → List ℕ → List ℕ
grid_name i place = codes "grid " ++ decimal i ++ codes " " ++ place

-- the same with its values
abbrev pub grid_line : ℕ → List ℕ → List ℕ → List ℕ
grid_line i place values = grid_name i place ++ spaced values ++ codes "\n"

-- both lines of a round's grid: its variable at 0, and at infinity
abbrev pub both_lines : ℕ → List ℕ × List ℕ → List ℕ
both_lines i grid = grid_line i (codes "zero") grid.0 ++ grid_line i (codes "infinity") grid.1

-- those of each round, numbered from i on
abbrev pub grid_lines : ℕ → List (List ℕ × List ℕ) → List ℕ
grid_lines i [] = []
grid_lines i (grid ∷ grids) = both_lines i grid ++ grid_lines (suc i) grids

unfoldable pub holds_line : List ℕ
holds_line = codes "verdict holds\n"

unfoldable pub refuted_line : List ℕ
refuted_line = codes "verdict refuted\n"

-- the batching challenge was lucky: the number of roots of the polynomial that certifies it, and its coefficients
unfoldable pub lucky_batch_line : List ℕ → ℕ → List ℕ
lucky_batch_line polynomial roots = codes "verdict lucky-batch vanishing " ++ decimal roots ++ codes " poly" ++ spaced polynomial ++ codes "\n"

-- the challenge of a round was lucky: the round's number, and the same of its polynomial
unfoldable pub lucky_round_line : ℕ → List ℕ → ℕ → List ℕ
lucky_round_line round polynomial roots =
    codes "verdict lucky-round " ++ decimal round ++ codes " vanishing " ++ decimal roots ++ codes " poly" ++ spaced polynomial ++ codes "\n"

-- the beginnings of these lines, up to the coefficients
unfoldable pub lucky_batch_name : ℕ → List ℕ
lucky_batch_name roots = codes "verdict lucky-batch vanishing " ++ decimal roots ++ codes " poly"

unfoldable pub lucky_round_name : ℕ → ℕ → List ℕ
lucky_round_name round roots = codes "verdict lucky-round " ++ decimal round ++ codes " vanishing " ++ decimal roots ++ codes " poly"

-- which challenge was lucky
abbrev pub luck_line : LuckyChallenge → List ℕ
luck_line (in_batch polynomial roots) = lucky_batch_line polynomial roots
luck_line (in_round round polynomial roots) = lucky_round_line round polynomial roots

-- a table whose number of rows does not fit
unfoldable pub table_length_text : ℕ → List ℕ
table_length_text len = codes "job-shape table-length " ++ decimal len

-- more tables than there may be
unfoldable pub table_count_text : ℕ → ℕ → List ℕ
table_count_text tables bound = codes "job-shape tables " ++ decimal tables ++ codes " bound " ++ decimal bound

-- a difficulty above the greatest one
unfoldable pub difficulty_text : ℕ → ℕ → List ℕ
difficulty_text bits bound = codes "job-shape difficulty " ++ decimal bits ++ codes " bound " ++ decimal bound

-- statements on another number of variables than the table has
unfoldable pub arity_text : ℕ → ℕ → List ℕ
arity_text expected actual = codes "job-shape variables " ++ decimal actual ++ codes " expected " ++ decimal expected

-- coefficients whose rounds are to bind the last variable
unfoldable pub projective_suffix_text : List ℕ
projective_suffix_text = codes "job-shape projective-suffix"

-- a job of a wrong shape
abbrev pub shape_fault_text : ShapeFault → List ℕ
shape_fault_text (TableLength len) = table_length_text len
shape_fault_text (Difficulty bits bound) = difficulty_text bits bound
shape_fault_text (Arity expected actual) = arity_text expected actual
shape_fault_text ProjectiveSuffix = projective_suffix_text

-- a strategy that does not fit the job
unfoldable pub fit_fault_text : FitFault → List ℕ
fit_fault_text Projective = codes "strategy-unfit projective"
fit_fault_text (Variables variables bound) = codes "strategy-unfit variables " ++ decimal variables ++ codes " bound " ++ decimal bound
fit_fault_text (Select statement) = codes "strategy-unfit select " ++ decimal statement
fit_fault_text (Selector statement) = codes "strategy-unfit selector " ++ decimal statement

-- a false statement: its number, its claimed and its true value
unfoldable pub false_claim_text : ℕ → ℕ → ℕ → List ℕ
false_claim_text statement claimed actual =
    codes "false-claim " ++ decimal statement ++ codes " claimed " ++ decimal claimed ++ codes " true " ++ decimal actual

-- no proof of so many rounds
unfoldable pub missing_text : ℕ → List ℕ
missing_text rounds = codes "missing " ++ decimal rounds

-- a proof of another number of rounds
unfoldable pub rounds_text : ℕ → ℕ → List ℕ
rounds_text expected actual = codes "rounds expected " ++ decimal expected ++ codes " actual " ++ decimal actual

-- a proof of another number of witnesses
unfoldable pub witnesses_text : ℕ → ℕ → List ℕ
witnesses_text expected actual = codes "witnesses expected " ++ decimal expected ++ codes " actual " ++ decimal actual

-- a proof of which a round sends another number of values
unfoldable pub width_text : ℕ → ℕ → ℕ → List ℕ
width_text round expected actual = codes "width round " ++ decimal round ++ codes " expected " ++ decimal expected ++ codes " actual " ++ decimal actual

-- a proof whose witness fails the test of so many bits
unfoldable pub witness_text : ℕ → ℕ → List ℕ
witness_text round bits = codes "witness round " ++ decimal round ++ codes " bits " ++ decimal bits
