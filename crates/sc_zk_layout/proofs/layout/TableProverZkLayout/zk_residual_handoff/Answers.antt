use Rattle.std.proofs.Common.{ℕ, map, length, ap, ◌∙◌, sym, subst}
use Rattle.sc_definitions.specs.Combined.{combined_weight, scaled_from}
use Rattle.sc_definitions.proofs.Lengths.{pow-same}
use Rattle.sc_table.specs.Polys.{variables_of, table_of}
use Rattle.sc_table.specs.Strategy.{order_of}
use Rattle.sc_svo.specs.Batches.{batch_in, IsBoundBy}
use Rattle.sc_layout.specs.Openings.{statements_of}
use Rattle.sc_layout.specs.Provers.{laid_by}
use Rattle.sc_zk_layout.specs.Grids.{with_side_scaled}
use Rattle.sc_zk_layout.proofs.GridLaws.{pair-is, same-variables}
use Rattle.sc_zk_layout.proofs.RecordedLaws.{laid-left}
use Rattle.sc_zk_layout.proofs.layout.TableProverZkLayout.zk_residual_handoff.Goals as goal

pub residual-requires-clause-table : goal.residual-requires-clause-table
residual-requires-clause-table g c = pow-same (variables_of c.table-table.result.now) _ c.in_ok-batch.ensures.made.variables

pub residual-requires-clause-challenges : goal.residual-requires-clause-challenges
residual-requires-clause-challenges g c = ap length c.as_slice.ensures ∙ c.requires ∙ sym (c.in_ok-batch.ensures.made.rounds ∙ c.folding.ensures.is)

pub scaled_pair-requires : goal.scaled_pair-requires
scaled_pair-requires g c =
    let e = g.EF.Field in
    record { same = same-variables e.ops e.number (batch_in c.in_ok-batch.batch) _ _ (map e.number c.as_slice.result.now) c.in_ok-evals.evals c.in_ok-evals.weights c.in_ok-evals.ensures.evals c.in_ok-evals.ensures.weights }

pub returns : goal.returns
returns g c = λ claim scaled is.
    let e = g.EF.Field in
    let o = e.ops in
    let N = e.number in
    let l = laid_by c.args.self in
    let b = batch_in c.in_ok-batch.batch in
    let made = c.in_ok-batch.ensures.made in
    let a = N c.args.alpha in
    let rs = map N c.args.rs.now in
    let f : ℕ → ℕ = λ x. g.EF.Algebra.embedding (table_of g.F.Field.number c.table-table.result.now x) in
    let evals = subst (λ xs. IsBoundBy o N b f (map N xs) c.in_ok-evals.evals) c.as_slice.ensures c.in_ok-evals.ensures.evals in
    let weights = subst (λ xs. IsBoundBy o N b (combined_weight o b.claims) (map N xs) c.in_ok-evals.weights) c.as_slice.ensures c.in_ok-evals.ensures.weights in
    let variables = sym (pow-same (variables_of c.table-table.result.now) _ made.variables) ∙ c.table-table.ensures.variables in
    c.scaled_pair.ensures claim scaled is
    ∙ ap (λ s. with_side_scaled o s (N c.args.eps))
    (pair-is o N b f rs claim (order_of c.order-order.result) c.in_ok-evals.evals c.in_ok-evals.weights (sym made.order_is) evals weights
    ∙ laid-left o b f l a claim rs (made.order_is ∙ c.order-order.ensures) variables (made.claims ∙ ap (λ r. scaled_from o a 0 (statements_of r)) c.claims.ensures.recorded) c.table-table.ensures.rows)
