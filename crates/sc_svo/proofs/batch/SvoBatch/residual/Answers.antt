use Rattle.std.proofs.Common.{subst, map}
use Rattle.std.specs.Prelude.{ℕ, IfOk}
use Rattle.sc_svo.specs.Batches.{batch_in, IsBoundBy, IsPlacedBy}
use Rattle.sc_svo.proofs.batch.SvoBatch.residual.Goals as goal

pub returns-clause-evals : goal.returns-clause-evals
returns-clause-evals g c =
    let e = g.EF.Field in
    let holds : (ℕ → ℕ) → Type 0 = λ f. IfOk c.residual_slice.result (λ p. IsBoundBy e.ops e.number (batch_in c.args.self.now)
    (λ b. g.EF.Algebra.embedding (f b)) (map e.number c.args.rs.now) p.0) in
    subst holds c.as_slice.ensures.numbers c.residual_slice.ensures.evals

pub returns-clause-placed_evals : goal.returns-clause-placed_evals
returns-clause-placed_evals g c =
    let e = g.EF.Field in
    let holds : (ℕ → ℕ) → Type 0 = λ f. IfOk c.residual_slice.result (λ p. IsPlacedBy e.ops e.number (batch_in c.args.self.now)
    (λ b. g.EF.Algebra.embedding (f b)) (map e.number c.args.rs.now) p.0) in
    subst holds c.as_slice.ensures.numbers c.residual_slice.ensures.placed_evals
