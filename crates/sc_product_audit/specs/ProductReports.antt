-- What is answered: the figures of rounds and what they say of the claimed sum, or why there are none.
use Rattle.std.specs.Prelude.{ℕ, ◌==◌, Bool, true, false, List, [], map, Option, option_map, Result, Ok, Err}
use Rattle.sc_definitions.specs.Ring.{Ops}
use Rattle.sc_definitions.specs.Rounds.{claim_along}
use Rattle.sc_definitions.specs.Transcript.{Round, messages_of, challenges}
use Rattle.sc_definitions.specs.Channels.{witnesses_of}
use Rattle.sc_definitions.specs.Interpolation.{next_through}
use Rattle.sc_definitions.specs.Products.{values_product}
use Rattle.sc_definitions.specs.Lucky.{LuckyChallenge, in_round, luck_in, first_turn, product_course}
use Rattle.sc_degree.specs.Proofs.{proof_wire}
use Rattle.sc_degree.specs.declared.turns.FoundTurn.{FoundTurn}
use Rattle.sc_degree.specs.Turns.{product_turn}
use Rattle.sc_audit_errors.specs.Findings.{Finding, holds, refuted, lucky, named}
use Rattle.sc_product_audit.specs.declared.error.ProductError.{ProductError}
use Rattle.sc_product_audit.specs.declared.error.ProductError.TheVariants.{NoWitness}
use Rattle.sc_product_audit.specs.declared.report.ProductReport.{ProductReport}
use Rattle.sc_product_audit.specs.declared.report.ProductVerdict.{ProductVerdict}
use Rattle.sc_product_audit.specs.declared.report.ProductVerdict.TheVariants.{Holds, Refuted, LuckyRound}
use Rattle.sc_product_audit.specs.ProductCases.{ProductTask, to_build, to_check, ProductAsked, ProductCase, true_sum, product_start}
use Rattle.sc_product_audit.specs.ProductShapes.{product_shape, case_with}
use Rattle.sc_product_audit.specs.ProductRounds.{product_built, product_given}

-- the figures of rounds: the claimed sum, what they send, the challenges, what is left of the claimed sum, and the product of the tables' values at the challenges
pub record ProductFigures : Type 0 where
  pub claimed : ℕ
  pub messages : List (List ℕ)
  pub witnesses : List ℕ
  pub challenges : List ℕ
  pub residual : ℕ
  pub product : ℕ

-- a report by its numbers: the figures of rounds, and what they say of the claimed sum
pub record ProductReported : Type 0 where
  pub figures : ProductFigures
  pub finding : Finding

-- ---- the report on rounds

abbrev pub figures_at : ProductCase → ℕ → List Round → List ℕ → ProductFigures
figures_at k claimed rounds rs = record {
  claimed = claimed;
  messages = messages_of rounds;
  witnesses = witnesses_of k.channel.bits rounds;
  challenges = rs;
  residual = claim_along (next_through k.ops) claimed (messages_of rounds) rs;
  product = values_product k.ops k.tables rs;
}

-- those of rounds with a claimed sum
abbrev pub product_figures : ProductCase → ℕ → List Round → ProductFigures
product_figures k claimed rounds =
    figures_at k claimed rounds (challenges k.channel.rules k.channel.extension k.channel.bits (product_start k claimed) rounds)

-- the first lucky challenge of figures: that of the first round after which the claim is the true one
unfoldable pub product_luck : ProductCase → ProductFigures → Option LuckyChallenge
product_luck k f = option_map (luck_in k.ops) (first_turn (product_course k.ops k.tables) 0 f.claimed f.messages [] f.challenges)

-- What rounds say of a claimed sum, as what they leave of it is the product of the tables' values or not, as it is the true sum or not, and this is the
-- first lucky challenge, if one is.
abbrev pub product_finding : Bool → Bool → Option LuckyChallenge → Finding
product_finding false true_claimed luck = refuted
product_finding true true luck = holds
product_finding true false luck = named luck

-- what figures say of the claimed sum
abbrev pub figures_finding : ProductCase → ProductFigures → Finding
figures_finding k f = product_finding (f.residual == f.product) (f.claimed == true_sum k) (product_luck k f)

-- the report on figures
abbrev pub reported_on : ProductCase → ProductFigures → ProductReported
reported_on k f = record { figures = f; finding = figures_finding k f }

-- ---- what is answered

-- to rounds with a claimed sum
abbrev pub given_result : ProductCase → ℕ → Result (List Round) ProductError → Result ProductReported ProductError
given_result k claimed (Ok rounds) = Ok (reported_on k (product_figures k claimed rounds))
given_result k claimed (Err e) = Err e

-- to rounds that are built, or the round for which no witness is found
abbrev pub built_result : ProductCase → Result (List Round) ℕ → Result ProductReported ProductError
built_result k (Ok rounds) = Ok (reported_on k (product_figures k (true_sum k) rounds))
built_result k (Err i) = Err (NoWitness i)

-- to what is done
abbrev pub task_result : ProductCase → ProductTask → Result ProductReported ProductError
task_result k to_build = built_result k (product_built k)
task_result k (to_check g) = given_result k g.claimed (product_given k g)

-- the same after the shape
abbrev pub shaped_result : ProductAsked → Result ℕ ProductError → Result ProductReported ProductError
shaped_result q (Ok n) = task_result (case_with q n) q.task
shaped_result q (Err e) = Err e

-- to what is asked: the report on the rounds that are asked for, or the first refusal
abbrev pub product_result : ProductAsked → Result ProductReported ProductError
product_result q = shaped_result q (product_shape q)

-- ---- views

-- what a verdict says
abbrev pub verdict_finding : {EF : Type 0} → (EF → ℕ) → ProductVerdict EF → Finding
verdict_finding number Holds = holds
verdict_finding number Refuted = refuted
verdict_finding number (LuckyRound round poly vanishing) = lucky (in_round round (map number poly) vanishing)

-- what a report shows
abbrev pub reported_in : {F EF : Type 0} → (F → ℕ) → (EF → ℕ) → ProductReport F EF → ProductReported
reported_in base number r = record {
  figures = record {
    claimed = number r.proof.claimed_sum;
    messages = (proof_wire base number r.proof).messages;
    witnesses = (proof_wire base number r.proof).witnesses;
    challenges = map number r.challenges;
    residual = number r.residual;
    product = number r.product;
  };
  finding = verdict_finding number r.verdict;
}

-- what a call answers
abbrev pub result_in : {F EF : Type 0} → (F → ℕ) → (EF → ℕ) → Result (ProductReport F EF) ProductError → Result ProductReported ProductError
result_in base number (Ok r) = Ok (reported_in base number r)
result_in base number (Err e) = Err e

-- the luck of the turn that was found, if one was
abbrev pub luck_found : {EF : Type 0} → Ops → (EF → ℕ) → Option (FoundTurn EF) → Option LuckyChallenge
luck_found o number found = option_map (luck_in o) (option_map (product_turn number) found)
