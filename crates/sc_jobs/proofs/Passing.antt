-- Rounds that are not refuted are accepted.
use Rattle.std.proofs.Common.{◌≡◌, Bool, true, false, ◌==◌, [], Option, refl, sym, ◌∙◌, ap, subst}
use Rattle.sc_definitions.specs.declared.false_claim.FalseClaim.{FalseClaim}
use Rattle.sc_definitions.specs.Ring.{Ops, times}
use Rattle.sc_definitions.specs.Transcript.{messages_of, challenges}
use Rattle.sc_definitions.specs.Channels.{witnesses_of}
use Rattle.sc_definitions.specs.Rounds.{next_claim, claim_along}
use Rattle.sc_definitions.specs.Problem.{claim_of, residual_of, eval_of, weight_value_of}
use Rattle.sc_definitions.specs.TwoTables.{tables_in, end_of}
use Rattle.sc_definitions.specs.Lucky.{LuckyChallenge, luck_of}
use Rattle.sc_definitions.specs.Strategies.{messages_against, accepts}
use Rattle.sc_audit_errors.specs.Findings.{refuted}
use Rattle.sc_jobs.specs.Cases.{start_of}
use Rattle.sc_jobs.specs.Figures.{Figures, finding_by, false_claim_of, is_matched, figures_of}
use Rattle.sc_jobs.specs.Laws.{PassingIsAccepted, ReportsAreAccepted}

unrefuted : (b : Bool) (fault : Option FalseClaim) (luck : Option LuckyChallenge) → (finding_by b fault luck ≡ refuted → ⊥) → b ≡ true
unrefuted false fault luck passed = absurd (passed refl)
unrefuted true fault luck passed = refl

pub passing_is_accepted : (o : Ops) → PassingIsAccepted o
unfolding figures_of accepts end_of residual_of eval_of weight_value_of
passing_is_accepted o p s messages witnesses rs sent passed =
    ap (λ ms. claim_along (next_claim p.basis o) (claim_of o p) ms rs == times o (eval_of o p rs) (weight_value_of o p rs)) sent
    ∙ unrefuted (is_matched o p messages rs) (false_claim_of o p) (luck_of o p messages rs) passed

pub reports_are_accepted : ReportsAreAccepted
unfolding figures_of
reports_are_accepted q report h s audited sent passed =
    let is = audited.played.is in
    let rounds = audited.played.rounds in
    let o = q.ops in
    let p = q.case.problem in
    let holds : Figures → Type 0 = λ f. messages_against s [] f.challenges ≡ f.messages → (f.finding ≡ refuted → ⊥) → accepts o (tables_in o p) s f.claim f.challenges ≡ true in
    subst holds (sym is) (passing_is_accepted o p s (messages_of rounds) (witnesses_of q.channel.bits rounds)
    (challenges q.channel.rules q.channel.extension q.channel.bits (start_of q).history rounds)) sent passed
