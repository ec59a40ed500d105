use Rattle.std.proofs.Common.{ℕ, map, sym, ap, ◌∙◌, subst}
use Rattle.sc_definitions.specs.Combined.{combined_weight}
use Rattle.sc_definitions.specs.ProverViews.{IsTrueClaim}
use Rattle.sc_table.specs.Polys.{table_of}
use Rattle.sc_table.specs.Strategy.{order_of}
use Rattle.sc_svo.specs.Batches.{batch_in, IsBoundBy}
use Rattle.sc_zk_layout.specs.Grids.{with_side_scaled}
use Rattle.sc_zk_layout.proofs.GridLaws.{pair-is}
use Rattle.sc_zk_layout.proofs.grid_rounds.GridRounds.into_prover.Goals as goal

pub scaled_prover-requires-clause-honest : goal.scaled_prover-requires-clause-honest
scaled_prover-requires-clause-honest g c =
    let e = g.EF.Field in
    let s = c.args.self in
    let f : ℕ → ℕ = λ b. g.EF.Algebra.embedding (table_of g.F.Field.number s.table.now b) in
    let b = batch_in s.batch in
    let rs = map e.number s.challenges.items in
    let evals = subst (λ l. IsBoundBy e.ops e.number b f (map e.number l) c.in_ok-evals.evals) c.deref.ensures.value c.in_ok-evals.ensures.evals in
    let weights = subst (λ l. IsBoundBy e.ops e.number b (combined_weight e.ops b.claims) (map e.number l) c.in_ok-evals.weights) c.deref.ensures.value c.in_ok-evals.ensures.weights in
    let pair = pair-is e.ops e.number b f rs (e.number s.claim) (order_of s.order) c.in_ok-evals.evals c.in_ok-evals.weights s.ordered evals weights in
    subst (IsTrueClaim e.ops) (sym pair) s.honest

pub returns-clause-shown : goal.returns-clause-shown
returns-clause-shown g c =
    let e = g.EF.Field in
    let s = c.args.self in
    let f : ℕ → ℕ = λ b. g.EF.Algebra.embedding (table_of g.F.Field.number s.table.now b) in
    let b = batch_in s.batch in
    let rs = map e.number s.challenges.items in
    let evals = subst (λ l. IsBoundBy e.ops e.number b f (map e.number l) c.in_ok-evals.evals) c.deref.ensures.value c.in_ok-evals.ensures.evals in
    let weights = subst (λ l. IsBoundBy e.ops e.number b (combined_weight e.ops b.claims) (map e.number l) c.in_ok-evals.weights) c.deref.ensures.value c.in_ok-evals.ensures.weights in
    let pair = pair-is e.ops e.number b f rs (e.number s.claim) (order_of s.order) c.in_ok-evals.evals c.in_ok-evals.weights s.ordered evals weights in
    c.scaled_prover.ensures.shown ∙ ap (λ t. with_side_scaled e.ops t (e.number c.args.scale)) pair
