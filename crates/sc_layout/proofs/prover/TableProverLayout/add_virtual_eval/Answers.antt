use Rattle.std.proofs.Common.{ℕ, All, length, map, refl, ap, sym, subst, ◌∙◌}
use Rattle.std.proofs.lemmas.List.{length-map}
use Rattle.sc_svo.specs.Points.{point_in, near_in, order_in}
use Rattle.sc_table.specs.Polys.{table_of, variables_of}
use Rattle.sc_layout.specs.Openings.{current_at}
use Rattle.sc_layout.specs.Books.{prover_recorded}
use Rattle.sc_layout.specs.Kept.{KeepsPartials}
use Rattle.sc_layout.specs.Provers.{laid_by}
use Rattle.sc_layout.proofs.TrueLaws.{current-value, value-as}
use Rattle.sc_layout.proofs.ProverLaws.{arity-virtual, true-virtual, opens-virtual}
use Rattle.sc_layout.proofs.prover.TableProverLayout.add_virtual_eval.Goals as goal

pub invariant_of-self : goal.invariant_of-self
invariant_of-self g c =
    let e = g.EF.Field in
    let s = c.args.self.now in
    let n = variables_of s.table in
    let f : ℕ → ℕ = λ b. g.EF.Algebra.embedding (table_of g.F.Field.number s.table b) in
    let zs = map e.number c.in_ok-point.point in
    let size = length-map c.in_ok-point.point e.number ∙ c.in_ok-point.ensures.size ∙ c.num_variables.ensures in
    let parts = c.in_ok-in_parts.field-0 in
    let is = current-value e.ops g.met.EF.Field.is_field.ring (order_in parts) f (point_in parts) (length (near_in parts)) (e.number c.in_ok-value.value)
    (ap (λ t. t.value) c.in_ok-value.ensures) ∙ value-as current_at e.ops n f f (point_in parts) zs refl c.in_ok-in_parts.ensures.point size in
    record {
      some = s.some;
      few = s.few;
      within = s.within;
      variables = s.variables;
      arity = arity-virtual e.ops n f zs size (prover_recorded s.claims) _ c.add_virtual.result c.add_virtual.ensures.kept (e.number c.in_ok-value.value) c.add_virtual.ensures.gains s.arity;
      truth = true-virtual e.ops n f zs size (prover_recorded s.claims) _ c.add_virtual.result c.add_virtual.ensures.kept (e.number c.in_ok-value.value) c.add_virtual.ensures.gains is s.truth;
      kept = subst (All (KeepsPartials e.ops g.O.BindingOrder.binds s.folding f)) (sym c.add_virtual.ensures.all) s.kept;
    }

pub returns-clause-opens : goal.returns-clause-opens
returns-clause-opens g c =
    let e = g.EF.Field in
    let s = c.args.self.now in
    let n = variables_of s.table in
    let f : ℕ → ℕ = λ b. g.EF.Algebra.embedding (table_of g.F.Field.number s.table b) in
    let zs = map e.number c.in_ok-point.point in
    let size = length-map c.in_ok-point.point e.number ∙ c.in_ok-point.ensures.size ∙ c.num_variables.ensures in
    let parts = c.in_ok-in_parts.field-0 in
    let is = current-value e.ops g.met.EF.Field.is_field.ring (order_in parts) f (point_in parts) (length (near_in parts)) (e.number c.in_ok-value.value)
    (ap (λ t. t.value) c.in_ok-value.ensures) ∙ value-as current_at e.ops n f f (point_in parts) zs refl c.in_ok-in_parts.ensures.point size in
    opens-virtual e.ops g.EF.ExtensionField.extension (g.C.Challenger.party c.args.challenger.now) (g.C.Challenger.party c.draw_point.new.challenger)
    (g.C.Challenger.party c.add_virtual.new.challenger) (laid_by s) _ c.num_variables.result _ _ zs c.num_variables.ensures
    c.in_ok-point.ensures.drawn c.in_ok-point.ensures.left (e.number c.in_ok-value.value) c.in_ok-add_virtual.ensures.left c.in_ok-add_virtual.ensures.gains is
