-- Typed calls: what numbers in a caller's memory ask, and what is left there.
use Rattle.std.specs.Prelude.{◌≡◌, ◌⊎◌, ℕ, Bool, true, false, List, [], ◌++◌, length, map, take, drop, Option, Some, None, Result, Ok, Err}
use Rattle.sc_definitions.specs.Tables.{Basis, evaluation, projective, Order, prefix, suffix}
use Rattle.sc_definitions.specs.Lucky.{in_batch, in_round}
use Rattle.sc_audit_errors.specs.declared.error.AuditError.TheVariants.{NoMemory}
use Rattle.sc_audit_errors.specs.Findings.{Finding, holds, refuted, lucky}
use Rattle.sc_jobs.specs.Cases.{Task}
use Rattle.sc_jobs.specs.Figures.{Figures, Reported}
use Rattle.sumcheck_replies.specs.declared.reply.Outcome.TheVariants.{JobRefused}
use Rattle.sumcheck_replies.specs.Refusals.{finding_reply, refusal_reply}
use Rattle.sumcheck_replies.specs.Reply.{code_of}
use Rattle.sumcheck_run.specs.Run.{want_of_memory}
use Rattle.sumcheck_tables.specs.declared.error.TableError.{TableError}
use Rattle.sumcheck_tables.specs.declared.error.TableError.TheVariants.{Points, NotAnElement, Audit}
use Rattle.sumcheck_tables.specs.declared.job.RoundNumbers.{RoundNumbers}
use Rattle.sumcheck_tables.specs.Tables.{TableCase}
use Rattle.sumcheck_tables.specs.Views.{numbers_in}
use Rattle.sumcheck_c.specs.declared.tables.Found.{Found}
use Rattle.sumcheck_c.specs.declared.tables.TableFigures.{TableFigures}
use Rattle.sumcheck_c.specs.declared.tables.TableTerms.{TableTerms}

-- ---- what is asked

abbrev pub order_by : Bool → Order
order_by true = suffix
order_by false = prefix

abbrev pub basis_by : Bool → Basis
basis_by true = projective
basis_by false = evaluation

-- a script is not read where challenges are those of the hash challenger
abbrev pub draws_by : Bool → List ℕ → Option (List ℕ)
draws_by true draws = None
draws_by false draws = Some draws

-- a table, points one after another, the values that are claimed there, draws, and what is done, on these terms
abbrev pub case_by : TableTerms → List ℕ → List ℕ → List ℕ → List ℕ → Task → TableCase
case_by terms table points values draws task = record {
  table = table;
  variables = terms.variables;
  points = points;
  values = values;
  batching = terms.batching;
  order = order_by terms.suffix;
  basis = basis_by terms.coefficients;
  bits = terms.bits;
  draws = draws_by terms.hash draws;
  task = task;
}

-- ---- the status

-- that of a report, as the program's
abbrev pub finding_code : Finding → ℕ
finding_code finding = code_of (finding_reply finding []).outcome

-- that of a refusal, as the program's: where the points are not one for each value, or a number is none of an element, the job is refused
abbrev pub error_code : TableError → ℕ
error_code Points = code_of JobRefused
error_code NotAnElement = code_of JobRefused
error_code (Audit NoMemory) = want_of_memory
error_code (Audit e) = code_of (refusal_reply e).outcome

-- ---- what is left in memory

-- a list with the front of another, as much of it as there is room for
abbrev pub fronted : {X : Type 0} → List X → List X → List X
fronted xs old = take (length old) xs ++ drop (length xs) old

-- what is found, by numbers
abbrev pub found_of : Finding → Found
found_of holds = record { verdict = 0; round = 0; vanishing = 0; coefficients = 0 }
found_of refuted = record { verdict = 1; round = 0; vanishing = 0; coefficients = 0 }
found_of (lucky (in_batch polynomial roots)) = record { verdict = 2; round = 0; vanishing = roots; coefficients = length polynomial }
found_of (lucky (in_round round polynomial roots)) = record { verdict = 3; round = round; vanishing = roots; coefficients = length polynomial }

-- the polynomial of a lucky challenge
abbrev pub polynomial_of : Finding → List ℕ
polynomial_of holds = []
polynomial_of refuted = []
polynomial_of (lucky (in_batch polynomial roots)) = polynomial
polynomial_of (lucky (in_round round polynomial roots)) = polynomial

-- the figures of a report, its challenges, and the polynomial of a lucky one
pub record Left : Type 0 where
  pub figures : TableFigures
  pub challenges : List ℕ
  pub polynomial : List ℕ

-- these of a caller
abbrev pub left_in : TableFigures → List ℕ → List ℕ → Left
left_in figures challenges polynomial = record { figures = figures; challenges = challenges; polynomial = polynomial }

-- what a report leaves of them
abbrev pub left_of : Figures → Left → Left
left_of f old = record {
  figures = record { claim = f.claim; residual = f.residual; eval = f.eval; weight = f.weight; found = found_of f.finding };
  challenges = fronted f.challenges old.challenges;
  polynomial = fronted (polynomial_of f.finding) old.polynomial;
}

-- the same, with the rounds that were built and their witnesses
pub record LeftOfBuild : Type 0 where
  pub left : Left
  pub rounds : List (List ℕ)
  pub witnesses : List ℕ

-- these of a caller
abbrev pub built_in : Left → List RoundNumbers → List ℕ → LeftOfBuild
built_in left rounds witnesses = record { left = left; rounds = map numbers_in rounds; witnesses = witnesses }

-- what a report leaves of them
abbrev pub built_of : Figures → LeftOfBuild → LeftOfBuild
built_of f old = record {
  left = left_of f old.left;
  rounds = fronted f.messages old.rounds;
  witnesses = fronted f.witnesses old.witnesses;
}

-- a report's status, and what is left of it; the status of a refusal, and all as it was
abbrev pub Tells : {M : Type 0} → (Figures → M → M) → Result Reported TableError → M → M → ℕ → Type 0
Tells left (Ok r) old new code = (code ≡ finding_code r.figures.finding) × (new ≡ left r.figures old)
Tells left (Err e) old new code = (code ≡ error_code e) × (new ≡ old)

-- It is told so, or there is no memory, and all is as it was.
abbrev pub TellsOrLacks : {M : Type 0} → (Figures → M → M) → Result Reported TableError → M → M → ℕ → Type 0
TellsOrLacks left answer old new code = Tells left answer old new code ⊎ ((code ≡ want_of_memory) × (new ≡ old))

-- what a check tells of an answer
abbrev pub TellsCheck : Result Reported TableError → Left → Left → ℕ → Type 0
TellsCheck answer old new code = TellsOrLacks left_of answer old new code

-- what a build tells
abbrev pub TellsBuild : Result Reported TableError → LeftOfBuild → LeftOfBuild → ℕ → Type 0
TellsBuild answer old new code = TellsOrLacks built_of answer old new code
