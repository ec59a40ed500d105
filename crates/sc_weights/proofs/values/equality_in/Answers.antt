use Rattle.std.proofs.Common.{◌≡◌, length, map, sym, ◌∙◌, ap}
use Rattle.std.proofs.lemmas.List.{length-map}
use Rattle.sc_definitions.specs.Tables.{equality_weight, value_in}
use Rattle.sc_definitions.proofs.ValueLaws.{value-weight}
use Rattle.sc_table.specs.Strategy.{basis_of}
use Rattle.sc_weights.proofs.values.equality_in.Goals as goal

pub returns-in-Evaluation : goal.returns-in-Evaluation
returns-in-Evaluation g c =
    let f = g.EF.Field in
    let zs = map f.number c.args.z.now in
    let xs = map f.number c.args.x.now in
    let size : length zs ≡ length xs = length-map c.args.z.now f.number ∙ c.requires ∙ sym (length-map c.args.x.now f.number) in
    c.eval_eq.ensures ∙ sym (ap (λ b. value_in (basis_of b) f.ops (equality_weight f.ops zs) xs) c.in-Evaluation.is ∙ value-weight f.ops g.met.EF.Field.is_field.ring zs xs size)
