-- A case whose rounds were built.
use Rattle.std.specs.Prelude.{◌≡◌, ℕ, List, length}
use Rattle.sc_definitions.specs.Ring.{Ops}
use Rattle.sc_definitions.specs.Transcript.{Round, challenges}
use Rattle.sc_definitions.specs.Channels.{Wire, empty_wire, with_rounds}
use Rattle.sc_definitions.specs.ProverStates.{entries_of}
use Rattle.sc_definitions.specs.Problem.{Problem, weights_of, claim_of, eval_of, weight_value_of}
use Rattle.sc_definitions.specs.ProverViews.{ProverView}
use Rattle.sc_jobs.specs.Cases.{build, Asked, with_task, start_of}
use Rattle.sc_jobs.specs.Audits.{AreRounds, grids_for}
use Rattle.sc_table.specs.declared.strategy.Strategy.TheVariants.{Plain}

-- a build of it; with what strategy makes no difference to its rounds
abbrev pub as_build : Asked → Asked
as_build q = with_task q (build Plain)

-- what a prover shows of a problem before its first round
abbrev pub prover_for : Ops → Problem → ProverView
prover_for o p = record {
  basis = p.basis;
  order = p.order;
  variables = p.variables;
  evals = entries_of p.variables p.table;
  weights = entries_of p.variables (weights_of o p);
  claim = claim_of o p;
}

-- what a build keeps: the claim that it began with, what it has put on the wire, its challenges, the values of the table and of the weights there, and
-- the grids of its small-value rounds
pub record Kept : Type 0 where
  pub claim : ℕ
  pub wire : Wire
  pub challenges : List ℕ
  pub eval : ℕ
  pub weight : ℕ
  pub grids : List (List ℕ × List ℕ)

-- They are the rounds that an honest prover builds, with the case's claim, its values at their challenges, and its grids.
pub record IsBuiltCase (q : Asked) (b : Kept) : Type 0 where
  pub rounds : List Round
  pub built : AreRounds (as_build q) (build Plain) rounds
  pub count : length rounds ≡ q.case.problem.variables
  pub wire : b.wire ≡ with_rounds q.channel.bits empty_wire rounds
  pub drawn : b.challenges ≡ challenges q.channel.rules q.channel.extension q.channel.bits (start_of q).history rounds
  pub claim : b.claim ≡ claim_of q.ops q.case.problem
  pub eval : b.eval ≡ eval_of q.ops q.case.problem b.challenges
  pub weight : b.weight ≡ weight_value_of q.ops q.case.problem b.challenges
  pub grids : b.grids ≡ grids_for q
