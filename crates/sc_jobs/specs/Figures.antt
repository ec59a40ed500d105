-- The figures of a report, which the rounds and their challenges determine.
use Rattle.std.specs.Prelude.{ℕ, List, map, Bool, true, false, ◌==◌, Option, Some, None}
use Rattle.sc_definitions.specs.declared.false_claim.FalseClaim.{FalseClaim}
use Rattle.sc_definitions.specs.Ring.{Ops, ◌*⟨◌⟩◌}
use Rattle.sc_definitions.specs.Statements.{first_false_claim}
use Rattle.sc_definitions.specs.Problem.{Problem, claim_of, residual_of, eval_of, weight_value_of}
use Rattle.sc_definitions.specs.Lucky.{LuckyChallenge, in_batch, in_round, luck_of}
use Rattle.sc_transcript.specs.Data.{messages_in, witnesses_in}
use Rattle.sc_audit_errors.specs.Findings.{Finding, holds, refuted, lucky, named}
use Rattle.sc_svo.specs.Grids.{grids_shown}
use Rattle.sc_jobs.specs.declared.report.Report.{Report}
use Rattle.sc_jobs.specs.declared.report.Verdict.{Verdict}
use Rattle.sc_jobs.specs.declared.report.Verdict.TheVariants.{Holds, Refuted, LuckyBatch, LuckyRound}

-- the figures of a report
pub record Figures : Type 0 where
  pub claim : ℕ
  pub messages : List (List ℕ)
  pub witnesses : List ℕ
  pub challenges : List ℕ
  pub residual : ℕ
  pub eval : ℕ
  pub weight : ℕ
  pub finding : Finding

-- what is found where the residual is right or not, and this is the first false statement, if one is, and the first lucky challenge, if one is
abbrev pub finding_by : Bool → Option FalseClaim → Option LuckyChallenge → Finding
finding_by false fault luck = refuted
finding_by true None luck = holds
finding_by true (Some c) luck = named luck

-- the first false statement of a problem, if one is
abbrev pub false_claim_of : Ops → Problem → Option FalseClaim
false_claim_of o p = first_false_claim o p.variables p.table 0 p.statements

-- whether what messages leave of the claim is the product of the table's and the weights' values at their challenges
abbrev pub is_matched : Ops → Problem → List (List ℕ) → List ℕ → Bool
is_matched o p messages rs = residual_of o p messages rs == eval_of o p rs *⟨ o ⟩ weight_value_of o p rs

-- the figures of these messages, witnesses and challenges
unfoldable pub figures_of : Ops → Problem → List (List ℕ) → List ℕ → List ℕ → Figures
figures_of o p messages witnesses rs = record {
  claim = claim_of o p;
  messages = messages;
  witnesses = witnesses;
  challenges = rs;
  residual = residual_of o p messages rs;
  eval = eval_of o p rs;
  weight = weight_value_of o p rs;
  finding = finding_by (is_matched o p messages rs) (false_claim_of o p) (luck_of o p messages rs);
}

-- what a verdict says
abbrev pub finding_in : {EF : Type 0} → (EF → ℕ) → Verdict EF → Finding
finding_in number Holds = holds
finding_in number Refuted = refuted
finding_in number (LuckyBatch poly vanishing) = lucky (in_batch (map number poly) vanishing)
finding_in number (LuckyRound round poly vanishing) = lucky (in_round round (map number poly) vanishing)

-- a report as it is shown: its figures, and the grids of its small-value rounds, each by the values at 0 and those at infinity
pub record Reported : Type 0 where
  pub figures : Figures
  pub grids : List (List ℕ × List ℕ)

-- what a report shows
abbrev pub report_in : {F EF : Type 0} → (F → ℕ) → (EF → ℕ) → Report F EF → Reported
report_in base number r = record {
  figures = record {
    claim = number r.claim;
    messages = messages_in number r.rounds;
    witnesses = witnesses_in base r.rounds;
    challenges = map number r.challenges;
    residual = number r.residual;
    eval = number r.eval;
    weight = number r.weight;
    finding = finding_in number r.verdict;
  };
  grids = grids_shown number r.grids;
}
