use Rattle.std.proofs.Common.{ℕ, All, sym, subst}
use Rattle.std.proofs.lemmas.List.Elements.{All-nil}
use Rattle.sc_table.specs.Polys.{table_of}
use Rattle.sc_layout.specs.Kept.{KeepsPartials}
use Rattle.sc_layout.proofs.prover.TableProver.new.Goals as goal

pub invariant_of-result-clause-kept : goal.invariant_of-result-clause-kept
invariant_of-result-clause-kept g c =
    let f : ℕ → ℕ = λ b. g.EF.Algebra.embedding (table_of g.F.Field.number c.args.poly b) in
    let P = KeepsPartials g.EF.Field.ops g.O.BindingOrder.binds c.args.folding f in
    subst (All P) (sym c.new.ensures.none) (All-nil P)
