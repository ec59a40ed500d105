use Rattle.std.proofs.Common.{map, ◌∙◌, ap}
use Rattle.std.proofs.lemmas.List.{with_items_is}
use Rattle.sc_definitions.specs.Tables.{entries}
use Rattle.sc_circuit.proofs.PhaseLaws.{weights-alone}
use Rattle.sc_circuit.proofs.weights.equality_weights.Goals as goal

pub returns-clause-weights : goal.returns-clause-weights
returns-clause-weights g c = λ b low.
    let e = g.EF.Field in
    let N = e.number in
    let zeros = c.in_ok-weights.weights in
    let made = c.add_equality.new.rows in
    let lent = c.as_mut_slice.result.now in
    ap (λ xs. entries N xs b) (with_items_is zeros made (c.add_equality.auto.rows ∙ c.as_mut_slice.ensures.len))
    ∙ weights-alone e.ops g.met.EF.Field.is_field.ring (map N c.args.point.now) b (entries N made b) (entries N lent b) (N c.ONE.result) (c.add_equality.ensures b low)
    (ap (λ xs. entries N xs b) c.as_mut_slice.ensures.value ∙ c.in_ok-weights.ensures.zero b)
    (ap N c.ONE.ensures ∙ g.met.EF.Field.one_is)
