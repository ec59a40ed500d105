-- What builds of one case have in common, and what rounds that are not refuted have to do with strategies.
use Rattle.std.specs.Prelude.{◌≡◌, ℕ, true, List, []}
use Rattle.sc_definitions.specs.declared.events.Event.{Event}
use Rattle.sc_definitions.specs.Ring.{Ops}
use Rattle.sc_definitions.specs.Problem.{Problem, claim_of}
use Rattle.sc_definitions.specs.TwoTables.{tables_in}
use Rattle.sc_definitions.specs.Strategies.{StrategyEntry, messages_against, accepts}
use Rattle.sc_table.specs.declared.strategy.Strategy.{Strategy}
use Rattle.sc_jobs.specs.Cases.{build, Asked, with_task}
use Rattle.sc_audit_errors.specs.Findings.{refuted}
use Rattle.sc_jobs.specs.Figures.{Reported, figures_of}
use Rattle.sc_jobs.specs.Audits.{IsAudited}

-- Two builds of one table with the same statements at one difficulty, from one history on, have the same report, the grids of small-value rounds aside,
-- and leave the same history, whatever their strategies.
abbrev pub BuildsAgree : Type 0
BuildsAgree =
    (q : Asked) (one other : Strategy) (report report' : Reported) (h₁ h₂ : List Event) →
    IsAudited (with_task q (build one)) report h₁ → IsAudited (with_task q (build other)) report' h₂ → (report.figures ≡ report'.figures) × (h₁ ≡ h₂)

-- Where a strategy sends a proof's messages against their challenges, and the rounds are not refuted, it accepts these challenges from the batched
-- claim on.
abbrev pub PassingIsAccepted : Ops → Type 0
PassingIsAccepted o =
    (p : Problem) (s : List StrategyEntry) (messages : List (List ℕ)) (witnesses rs : List ℕ) → messages_against s [] rs ≡ messages →
    ((figures_of o p messages witnesses rs).finding ≡ refuted → ⊥) → accepts o (tables_in o p) s (claim_of o p) rs ≡ true

-- So a strategy that sends the rounds of a report against its challenges accepts these from the report's claim on, unless they are refuted.
abbrev pub ReportsAreAccepted : Type 0
ReportsAreAccepted =
    (q : Asked) (report : Reported) (h : List Event) (s : List StrategyEntry) → IsAudited q report h →
    messages_against s [] report.figures.challenges ≡ report.figures.messages → (report.figures.finding ≡ refuted → ⊥) →
    accepts q.ops (tables_in q.ops q.case.problem) s report.figures.claim report.figures.challenges ≡ true
