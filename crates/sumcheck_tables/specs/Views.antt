-- Jobs in memory as what is asked.
use Rattle.std.specs.Prelude.{ℕ, List, [], ◌∷◌, map, Option, Some, None}
use Rattle.sc_table.specs.Strategy.{basis_of, order_of}
use Rattle.sc_jobs.specs.Cases.{Given, Task, build, check}
use Rattle.sumcheck_tables.specs.declared.job.RoundNumbers.{RoundNumbers}
use Rattle.sumcheck_tables.specs.declared.job.Draws.{Draws}
use Rattle.sumcheck_tables.specs.declared.job.Draws.TheVariants.{Script, Hash}
use Rattle.sumcheck_tables.specs.declared.job.TableMode.{TableMode}
use Rattle.sumcheck_tables.specs.declared.job.TableMode.TheVariants.{Build, Check}
use Rattle.sumcheck_tables.specs.declared.job.TableJob.{TableJob}
use Rattle.sumcheck_tables.specs.Tables.{TableCase}

-- the two numbers of a round
abbrev pub numbers_in : RoundNumbers → List ℕ
numbers_in r = r.first ∷ r.leading ∷ []

-- the proof that rounds and witnesses are
abbrev pub given_of : List RoundNumbers → List ℕ → Given
given_of rounds witnesses = record { messages = map numbers_in rounds; witnesses = witnesses }

abbrev pub draws_in : Draws → Option (List ℕ)
draws_in (Script draws) = Some draws.now
draws_in Hash = None

abbrev pub task_in : TableMode → Task
task_in (Build strategy) = build strategy
task_in (Check rounds witnesses) = check (Some (given_of rounds.now witnesses.now))

abbrev pub case_in : TableJob → TableCase
case_in job = record {
  table = job.table.now;
  variables = job.variables;
  points = job.points.now;
  values = job.values.now;
  batching = job.batching;
  order = order_of job.order;
  basis = basis_of job.basis;
  bits = job.bits;
  draws = draws_in job.draws;
  task = task_in job.mode;
}
