-- The job that a recipe makes, and the report on it in short.
use Rattle.std.specs.Prelude.{◌≡◌, ℕ, zero, suc, ◌+◌, ◌*◌, ◌%◌, ◌^◌, List, [], ◌∷◌, ◌++◌, length, map}
use Rattle.sc_definitions.specs.Ring.{Ops, ◌+⟨◌⟩◌}
use Rattle.sc_definitions.specs.Residues.{residues}
use Rattle.sc_definitions.specs.Tables.{evaluation, prefix, rows_of}
use Rattle.sc_definitions.specs.Statements.{Kind, equality, successor, Statement, claims, true_value}
use Rattle.sc_definitions.specs.declared.events.Event.{Event}
use Rattle.sc_definitions.specs.Events.{Rules, own_extension}
use Rattle.sc_definitions.specs.Scripted.{scripted_rules}
use Rattle.sc_definitions.specs.Channels.{channel}
use Rattle.sc_definitions.specs.Problem.{Problem}
use Rattle.sc_table.specs.declared.strategy.Strategy.{Strategy}
use Rattle.sc_jobs.specs.Cases.{build, Asked}
use Rattle.sc_jobs.specs.Figures.{Reported}
use Rattle.sumcheck_make.specs.declared.recipe.Recipe.{Recipe}
use Rattle.sumcheck_make.specs.declared.made.Parts.{Parts as PartsOf}
use Rattle.sumcheck_replies.specs.Reply.{Reply}
use Rattle.sumcheck_replies.specs.Lines.{counts_lines, claim_line, pairs_line, residual_line}
use Rattle.sumcheck_audit.specs.Report.{case_reply}

-- ---- the values

-- value number i of those that a number begins, itself number 0: each is 75 times the one before it plus 74, modulo 65537
unfoldable pub value_at : ℕ → ℕ → ℕ
value_at number zero = number
value_at number (suc i) = (75 * value_at number i + 74) % 65537

-- so many of them, after value number i
unfoldable pub values_behind : ℕ → ℕ → ℕ → List ℕ
values_behind number i zero = []
values_behind number i (suc count) = values_behind number i count ++ value_at number (i + count + 1) ∷ []

-- ---- the job

-- A table, a point, another one for the successor map, and the challenge that batches the two statements.
pub record Parts : Type 0 where
  pub table : List ℕ
  pub point : List ℕ
  pub successor : List ℕ
  pub batching : ℕ

-- those of a job of n variables, which are taken in this order
abbrev pub parts_of : ℕ → ℕ → Parts
parts_of number n = record {
  table = values_behind number 0 (2 ^ n);
  point = values_behind number (2 ^ n) n;
  successor = values_behind number (2 ^ n + n) n;
  batching = value_at number (2 ^ n + n + n + 1);
}

-- the number of the last of these values; the challenger's draws stand after it
abbrev pub parts_end : ℕ → ℕ
parts_end n = 2 ^ n + n + n + 1

-- the statement of a kind that claims its true value
abbrev pub true_statement : Ops → ℕ → (ℕ → ℕ) → Kind → Statement
true_statement o n f kind = claims kind (true_value o n f kind)

-- what is said of a table: its value at a point, and its value at another one through the successor map
abbrev pub true_statements : Ops → Parts → List Statement
true_statements o p =
    map (true_statement o (length p.point) (rows_of p.table)) (equality p.point ∷ successor prefix [] p.successor ∷ [])

-- the problem that the table has with these statements
abbrev pub problem_about : Ops → Parts → Problem
problem_about o p = record {
  basis = evaluation;
  order = prefix;
  variables = length p.point;
  table = rows_of p.table;
  statements = true_statements o p;
  batching = p.batching;
  initial = 0;
}

-- what a build of it asks of a challenger over a field that is its own extension, at no difficulty
abbrev pub asked_about : Ops → Parts → Strategy → Rules → List Event → Asked
asked_about o p strategy R h = record {
  case = record { rows = length p.table; problem = problem_about o p; task = build strategy };
  ops = o;
  channel = channel R own_extension o.size 0;
  history = h;
}

-- there is a row for each choice of the coordinates of either point
pub record PartsFit (p : Parts) : Type 0 where
  pub rows : length p.table ≡ 2 ^ length p.point
  pub same : length p.successor ≡ length p.point

-- what a recipe asks of a challenger that has its draws, and an empty history
abbrev pub made_asked : Recipe → Asked
made_asked r =
    asked_about (residues 65537) (parts_of r.number r.variables) r.strategy
    (scripted_rules (values_behind r.number (parts_end r.variables) r.variables) []) []

-- ---- the reply to it

-- the sum of elements
unfoldable pub sum_of : Ops → List ℕ → ℕ
sum_of o [] = 0
sum_of o (x ∷ xs) = x +⟨ o ⟩ sum_of o xs

-- the lines of a report in short, up to the verdict: how many rows and statements there are, the claim, the sum of all values that the rounds sent, and
-- what they leave of the claim
unfoldable pub summary_lines : ℕ → ℕ → Ops → Reported → List ℕ
summary_lines rows statements o r =
    counts_lines rows statements ++ claim_line r.figures.claim ++ pairs_line (sum_of o (map (sum_of o) r.figures.messages))
    ++ residual_line r.figures.residual

-- what is replied: the report in short
abbrev pub made_reply : Recipe → Reply
made_reply r = case_reply (summary_lines (2 ^ r.variables) 2 (residues 65537)) (made_asked r)

-- ---- views

-- the parts by the numbers of their elements
abbrev pub parts_in : {F : Type 0} → (F → ℕ) → PartsOf F → Parts
parts_in number p = record {
  table = map number p.table.items;
  point = map number p.point.items;
  successor = map number p.successor.items;
  batching = number p.batching;
}
