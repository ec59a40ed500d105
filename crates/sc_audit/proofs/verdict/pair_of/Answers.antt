use Rattle.std.proofs.Common.{◌≡◌, ◌^◌, ◌<◌, length, map, sym, ◌∙◌, ap, subst}
use Rattle.sc_definitions.proofs.Lengths.{pow-same}
use Rattle.sc_rounds.specs.Products.{variables_in}
use Rattle.sc_jobs.specs.Cases.{problem_in}
use Rattle.sc_jobs.proofs.Embedded.{entry-embedded, length-embedded}
use Rattle.sc_jobs.proofs.FigureLaws.{weights-batched, claim-batched}
use Rattle.sc_audit.proofs.verdict.pair_of.Goals as goal

pub new_in-requires-clause-offered : goal.new_in-requires-clause-offered
new_in-requires-clause-offered g c = c.args.fitting.now.offered

pub new_in-requires-clause-same : goal.new_in-requires-clause-same
new_in-requires-clause-same g c =
    let job = c.args.fitting.now.job.now in
    let same = c.in_ok-embedded.ensures ∙ ap (map _) c.deref.ensures.value in
    let size = length-embedded g.EF.Algebra.embedding g.F.Field.number g.EF.Field.number job.table.items c.in_ok-embedded.field-0.items same in
    pow-same _ _ (sym c.new-evals.ensures.size ∙ size ∙ sym job.table.ok.0 ∙ c.args.fitting.now.rows) ∙ sym c.in_ok-weights.ensures.variables

-- the pair has the problem's table and its batched weights
pub returns-clause-pair : goal.returns-clause-pair
returns-clause-pair g c =
    let N = g.EF.Field.number in
    let o = g.EF.Field.ops in
    let job = c.args.fitting.now.job.now in
    let p = problem_in job in
    let n = p.variables in
    let pair = c.new_in.result in
    let same = c.in_ok-embedded.ensures ∙ ap (map _) c.deref.ensures.value in
    let rows : length job.table.items ≡ 2 ^ n = sym job.table.ok.0 ∙ c.args.fitting.now.rows in
    let size = length-embedded g.EF.Algebra.embedding g.F.Field.number N job.table.items c.in_ok-embedded.field-0.items same in
    let count : variables_in pair ≡ n = c.new_in.ensures.variables ∙ pow-same _ _ (sym c.new-evals.ensures.size ∙ size ∙ rows) in
    record {
      basis = sym c.new_in.ensures.basis;
      order = sym c.new_in.ensures.order;
      variables = sym count;
      evals = λ b low. ap (λ t. t b) (c.new_in.ensures.evals ∙ c.new-evals.ensures.table)
          ∙ entry-embedded g.EF.Algebra.embedding g.F.Field.number N job.table.items c.in_ok-embedded.field-0.items b same (subst (λ k. b < k) (sym rows) (subst (λ k. b < 2 ^ k) count low));
      weights = λ b low. weights-batched o p b _
          (ap (λ t. t b) c.new_in.ensures.weights ∙ c.in_ok-weights.ensures.weights b (subst (λ k. b < 2 ^ k) count low));
    }

pub returns-clause-claim : goal.returns-clause-claim
returns-clause-claim g c = claim-batched g.EF.Field.ops (problem_in c.args.fitting.now.job.now) _ c.in_ok-weights.ensures.claim
