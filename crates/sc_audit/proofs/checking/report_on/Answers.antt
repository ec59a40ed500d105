use Rattle.std.proofs.Common.{◌≡◌, ◌==◌, map, refl, ◌∙◌, ap}
use Rattle.sc_definitions.specs.Channels.{Wire}
use Rattle.sc_definitions.specs.Tables.{entries, value_in}
use Rattle.sc_definitions.specs.Statements.{batched_weight}
use Rattle.sc_definitions.specs.Problem.{eval_of, weight_value_of}
use Rattle.sc_definitions.specs.Lucky.{luck_of}
use Rattle.sc_table.specs.Strategy.{basis_of, order_of}
use Rattle.sc_transcript.specs.Data.{messages_in, witnesses_in}
use Rattle.sc_svo.specs.Grids.{grid_shown}
use Rattle.sc_jobs.specs.Cases.{problem_in}
use Rattle.sc_jobs.specs.Figures.{finding_by, false_claim_of, is_matched}
use Rattle.sc_jobs.proofs.FigureLaws.{figures-are, matched-by, eval-at_slice, weight-at}
use Rattle.sc_audit.proofs.checking.report_on.Goals as goal

pub returns : goal.returns
returns g c =
    let N = g.EF.Field.number in
    let o = g.EF.Field.ops in
    let job = c.args.fitting.now.job.now in
    let p = problem_in job in
    let rs = map N c.args.challenges in
    let ms = messages_in N c.args.proof.now in
    let eval : N c.eval_slice-eval.result ≡ eval_of o p rs =
    eval-at_slice o (basis_of job.basis) (order_of job.order) _ p.table _ _ _ g.EF.Algebra.embedding g.F.Field.number c.deref.result.now _ rs _ g.met.EF.Algebra.embeds.zero_kept
    (λ b. ap (λ l. g.EF.Algebra.embedding (entries g.F.Field.number l b)) c.deref.ensures.value) (ap (map N) c.as_slice.ensures ∙ c.in_ok-point.ensures) c.eval_slice-eval.ensures in
    let weight : N c.eval_at-weight.result ≡ weight_value_of o p rs =
    weight-at o (basis_of job.basis) (order_of job.order) _ p.table _ _ _ rs _ (c.eval_at-weight.ensures ∙ ap (value_in p.basis o (batched_weight o _ _ _)) c.in_ok-point.ensures) in
    let matched : (c.index.result == c.index-2.result) ≡ is_matched o p ms rs =
    matched-by o p _ (N c.args.residual) (N c.eval_slice-eval.result) (N c.eval_at-weight.result) ms rs c.requires.residual eval weight (cc (c.index.ensures, c.index-2.ensures, c.mul.ensures)) in
    record {
      figures_are = figures-are o p ms (witnesses_in g.F.Field.number c.args.proof.now) rs (ap (λ (w : Wire). w.messages) c.in_ok-rounds.ensures) (ap (λ (w : Wire). w.witnesses) c.in_ok-rounds.ensures) refl
          c.requires.claim c.requires.residual eval weight (c.in_ok-verdict.ensures ∙ ap (λ t. finding_by t (false_claim_of o p) (luck_of o p ms rs)) matched);
      grids = ap (map (grid_shown N)) c.empty.ensures;
    }
