use Rattle.std.proofs.Common.{◌≡◌, ◌^◌, length, map, sym, ◌∙◌, ap, arith}
use Rattle.sc_definitions.specs.Tables.{entries, rows_of, inner_product}
use Rattle.sc_definitions.specs.Problem.{weights_of}
use Rattle.sc_definitions.proofs.BuildLaws.{batch-true, first_false_claim-all}
use Rattle.sc_definitions.proofs.Lengths.{pow-same}
use Rattle.sc_definitions.proofs.SameTables.{inner_product-same}
use Rattle.sc_definitions.proofs.ProverStateLaws.{entries-is}
use Rattle.sc_table.specs.Polys.{variables_of}
use Rattle.sc_rounds.specs.Products.{variables_in, evals_in, weights_in}
use Rattle.sc_rounds.proofs.PairRounds.{pair_rows}
use Rattle.sc_jobs.specs.Cases.{problem_in}
use Rattle.sc_jobs.proofs.Embedded.{entry-embedded, length-embedded}
use Rattle.sc_jobs.proofs.FigureLaws.{weights-batched, claim-batched}
use Rattle.sc_audit.proofs.strategies.prover_of.Goals as goal

pub new_in-poly-requires-clause-offered : goal.new_in-poly-requires-clause-offered
new_in-poly-requires-clause-offered g c = c.args.fitting.now.offered

pub new_in-poly-requires-clause-same : goal.new_in-poly-requires-clause-same
new_in-poly-requires-clause-same g c =
    let job = c.args.fitting.now.job.now in
    let same = c.in_ok-embedded.ensures ∙ ap (map _) c.deref.ensures.value in
    let size = length-embedded g.EF.Algebra.embedding g.F.Field.number g.EF.Field.number job.table.items c.in_ok-embedded.field-0.items same in
    pow-same _ _ (sym c.new-evals.ensures.size ∙ size ∙ sym job.table.ok.0 ∙ c.args.fitting.now.rows) ∙ sym c.in_ok-weights.ensures.variables

pub new-requires : goal.new-requires
new-requires g c =
    let N = g.EF.Field.number in
    let job = c.args.fitting.now.job.now in
    let p = problem_in job in
    let n = p.variables in
    let same = c.in_ok-embedded.ensures ∙ ap (map _) c.deref.ensures.value in
    let rows : length job.table.items ≡ 2 ^ n = sym job.table.ok.0 ∙ c.args.fitting.now.rows in
    let size = length-embedded g.EF.Algebra.embedding g.F.Field.number N job.table.items c.in_ok-embedded.field-0.items same in
    let count : variables_of c.new-evals.result ≡ n = pow-same _ _ (sym c.new-evals.ensures.size ∙ size ∙ rows) in
    c.in_ok-weights.ensures.claim
    ∙ sym (batch-true g.EF.Field.ops g.met.EF.Field.is_field.ring n p.table _ _ _ (first_false_claim-all _ _ _ 0 _ c.requires))
    ∙ sym (inner_product-same g.EF.Field.ops n _ _ _ _
    (λ b low. ap (λ t. t b) (c.new_in-poly.ensures.evals ∙ c.new-evals.ensures.table)
    ∙ entry-embedded g.EF.Algebra.embedding g.F.Field.number N job.table.items c.in_ok-embedded.field-0.items b same (omega (arith, low, rows)))
    (λ b low. ap (λ t. t b) c.new_in-poly.ensures.weights ∙ c.in_ok-weights.ensures.weights b low))
    ∙ ap (λ k. inner_product g.EF.Field.ops k (evals_in N c.new_in-poly.result) (weights_in N c.new_in-poly.result)) (sym (c.new_in-poly.ensures.variables ∙ count))

-- what the prover shows
pub returns : goal.returns
unfolding entries rows_of
returns g c =
    let N = g.EF.Field.number in
    let o = g.EF.Field.ops in
    let job = c.args.fitting.now.job.now in
    let p = problem_in job in
    let n = p.variables in
    let poly = c.new_in-poly.result in
    let same = c.in_ok-embedded.ensures ∙ ap (map _) c.deref.ensures.value in
    let rows : length job.table.items ≡ 2 ^ n = sym job.table.ok.0 ∙ c.args.fitting.now.rows in
    let size = length-embedded g.EF.Algebra.embedding g.F.Field.number N job.table.items c.in_ok-embedded.field-0.items same in
    let count : variables_in poly ≡ n = c.new_in-poly.ensures.variables ∙ pow-same _ _ (sym c.new-evals.ensures.size ∙ size ∙ rows) in
    let evals = entries-is n _ p.table ((pair_rows N poly).0 ∙ ap (λ k. 2 ^ k) count)
    (λ b low. ap (λ t. t b) (c.new_in-poly.ensures.evals ∙ c.new-evals.ensures.table)
    ∙ entry-embedded g.EF.Algebra.embedding g.F.Field.number N job.table.items c.in_ok-embedded.field-0.items b same (omega (arith, low, rows))) in
    let weights = entries-is n _ (weights_of o p) ((pair_rows N poly).1 ∙ ap (λ k. 2 ^ k) count)
    (λ b low. weights-batched o p b _ (ap (λ t. t b) c.new_in-poly.ensures.weights ∙ c.in_ok-weights.ensures.weights b low)) in
    let claim = claim-batched o p _ c.in_ok-weights.ensures.claim in
    c.new.ensures.shown ∙ (λ i. record { basis = c.new_in-poly.ensures.basis i; order = c.new_in-poly.ensures.order i; variables = count i; evals = evals i; weights = weights i; claim = claim i })
