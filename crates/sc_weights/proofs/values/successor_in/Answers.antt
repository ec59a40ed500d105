use Rattle.std.proofs.Common.{◌≡◌, length, map, sym, ◌∙◌, ap}
use Rattle.std.proofs.lemmas.List.{length-map}
use Rattle.sc_definitions.specs.Ring.{plus}
use Rattle.sc_definitions.specs.Tables.{value_in}
use Rattle.sc_definitions.specs.Statements.{successor_weight}
use Rattle.sc_definitions.proofs.CoefficientValues.{coefficients-successor}
use Rattle.sc_table.specs.Strategy.{basis_of}
use Rattle.sc_weights.proofs.values.successor_in.Goals as goal
use Rattle.sc_weights.proofs.values.successor_in.Goals.{in-Evaluation, in-Projective}

pub returns : goal.returns
returns g c =
    let f = g.EF.Field in
    let zs = map f.number c.args.z.now in
    let xs = map f.number c.args.x.now in
    let size : length zs ≡ length xs = length-map c.args.z.now f.number ∙ c.requires ∙ sym (length-map c.args.x.now f.number) in
    c.add.ensures ∙ elim c.match-basis.branch [
      | in-Evaluation w ↦
          ap (λ t. plus f.ops (f.number t.1) (f.number t.2)) w._carry-is ∙ w.eval_next.ensures.value
          ∙ sym (ap (λ b. value_in (basis_of b) f.ops (successor_weight f.ops zs) xs) w.in-Evaluation.is)
      | in-Projective w ↦
          ap (λ t. plus f.ops (f.number t.1) (f.number t.2)) w._carry-is
          ∙ ap (λ k. plus f.ops k (f.number w.successor_at.result.2)) w.successor_at.ensures.done
          ∙ ap (plus f.ops _) w.successor_at.ensures.omega
          ∙ sym (ap (λ b. value_in (basis_of b) f.ops (successor_weight f.ops zs) xs) w.in-Projective.is
          ∙ coefficients-successor f.ops g.met.EF.Field.is_field.ring zs xs size)
    ]
