use Rattle.std.proofs.Common.{ℕ, ap, sym, ◌∙◌}
use Rattle.std.proofs.lemmas.Simd.{map-map}
use Rattle.std.proofs.lemmas.Result.{IfOk-weaker}
use Rattle.sc_definitions.specs.ProverViews.{ProverView, imaged}
use Rattle.sc_definitions.proofs.MappedRounds.{same_images}
use Rattle.sc_rounds.proofs.HeldLaws.{settled_pair}
use Rattle.sc_rounds.proofs.ShownLaws.{numbers_if_ok}
use Rattle.sc_rounds.proofs.strategy.repr.ReprSumcheckProver.weights.Goals as goal

pub returns-clause-variables : goal.returns-clause-variables
returns-clause-variables g c =
    let t = c.settle.new.self in
    let e = c.settle.ensures in
    let same = settled_pair g.R.Field.ops g.R.Field.number t.poly t.sum t.held _ e.settled e.kept in
    IfOk-weaker c.weights.result _ _ (λ q size. size ∙ ap (λ (s : ProverView). s.variables) same) c.weights.ensures.variables

pub returns-clause-table : goal.returns-clause-table
returns-clause-table g c =
    let to = g.R.FromTable.to_number in
    let N = g.R.Field.number in
    let T : g.row.R.Denot → ℕ = λ x. to (N x) in
    let t = c.settle.new.self in
    let e = c.settle.ensures in
    let same = settled_pair g.R.Field.ops N t.poly t.sum t.held _ e.settled e.kept in
    let table = t.poly.weights in
    IfOk-weaker c.weights.result _ _ (λ q is. is ∙ sym (map-map to N table.evals.items) ∙ ap (λ (s : ProverView). (imaged to s).weights) same)
    (numbers_if_ok T T table c.weights.result (IfOk-weaker c.weights.result _ _ (λ q size. size ∙ t.poly.same) c.weights.ensures.variables)
    (IfOk-weaker c.weights.result _ _
    (λ p. same_images g.R.Field.ops g.EF.Field.ops g.met.R.Field.is_field.ring g.met.EF.Field.is_field.ring to g.met.R.FromTable.represents.back
    N N p.evals.items table.evals.items)
    c.weights.ensures.table))
