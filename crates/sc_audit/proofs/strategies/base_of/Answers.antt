use Rattle.std.proofs.Common.{◌≡◌, ◌^◌, length, sym, ◌∙◌, ap}
use Rattle.sc_definitions.specs.Tables.{entries, rows_of, inner_product}
use Rattle.sc_definitions.specs.Problem.{weights_of}
use Rattle.sc_definitions.proofs.BuildLaws.{batch-true, first_false_claim-all}
use Rattle.sc_definitions.proofs.SameTables.{inner_product-same}
use Rattle.sc_definitions.proofs.ProverStateLaws.{entries-is}
use Rattle.sc_table.specs.Polys.{variables_of, table_of}
use Rattle.sc_table.proofs.EntryLaws.{entry-embedded}
use Rattle.sc_rounds.proofs.BaseLaws.{image_entries, base_rows}
use Rattle.sc_jobs.specs.Cases.{problem_in}
use Rattle.sc_jobs.proofs.FigureLaws.{weights-batched, claim-batched}
use Rattle.sc_audit.proofs.strategies.base_of.Goals as goal

pub new-requires-clause-offered : goal.new-requires-clause-offered
new-requires-clause-offered g c = c.args.fitting.now.offered

-- the statements are true, so that the batched claim is the sum of the entries times the batched weights
pub new-requires-clause-agree : goal.new-requires-clause-agree
new-requires-clause-agree g c =
    let N = g.EF.Field.number in
    let o = g.EF.Field.ops in
    let embed = g.EF.Algebra.embedding in
    let read = g.F.Field.number in
    let job = c.args.fitting.now.job.now in
    let p = problem_in job in
    let n = p.variables in
    let w = c.in_ok-weights.weights in
    record {
      rows = ap length c.deref.ensures.value ∙ sym job.table.ok.0 ∙ c.args.fitting.now.rows ∙ ap (λ n. 2 ^ n) (sym c.in_ok-weights.ensures.variables);
      sum_is = c.in_ok-weights.ensures.claim
          ∙ sym (batch-true o g.met.EF.Field.is_field.ring n p.table _ _ _ (first_false_claim-all _ _ _ 0 _ c.requires))
          ∙ sym (inner_product-same o n _ _ _ _
          (λ b low. entry-embedded embed read c.deref.result.now b g.met.EF.Algebra.embeds.zero_kept ∙ ap (λ xs. embed (entries read xs b)) c.deref.ensures.value)
          (λ b low. c.in_ok-weights.ensures.weights b low))
          ∙ ap (λ k. inner_product o k (entries (λ x. embed (read x)) c.deref.result.now) (table_of N w)) (sym c.in_ok-weights.ensures.variables);
    }

-- what a prover of the images would show
pub returns : goal.returns
unfolding entries rows_of
returns g c =
    let N = g.EF.Field.number in
    let o = g.EF.Field.ops in
    let job = c.args.fitting.now.job.now in
    let p = problem_in job in
    let n = p.variables in
    let w = c.in_ok-weights.weights in
    let of = λ (x : g.row.F.Denot). g.EF.Algebra.embedding (g.F.Field.number x) in
    let count : variables_of w ≡ n = c.in_ok-weights.ensures.variables in
    let size : length c.deref.result.now ≡ 2 ^ variables_of w =
    ap length c.deref.ensures.value ∙ sym job.table.ok.0 ∙ c.args.fitting.now.rows ∙ ap (λ k. 2 ^ k) (sym count) in
    let rows = base_rows of N c.deref.result.now w size in
    let evals = entries-is n _ p.table (rows.0 ∙ ap (λ k. 2 ^ k) count)
    (λ b low. ap (λ t. t b) (image_entries g.EF.Algebra.embedding g.F.Field.number c.deref.result.now g.met.EF.Algebra.embeds.zero_kept)
    ∙ ap (λ xs. g.EF.Algebra.embedding (entries g.F.Field.number xs b)) c.deref.ensures.value) in
    let weights = entries-is n _ (weights_of o p) (rows.1 ∙ ap (λ k. 2 ^ k) count)
    (λ b low. weights-batched o p b _ (c.in_ok-weights.ensures.weights b low)) in
    let claim = claim-batched o p _ c.in_ok-weights.ensures.claim in
    c.new.ensures ∙ (λ i. record { basis = p.basis; order = p.order; variables = count i; evals = evals i; weights = weights i; claim = claim i })
