use Rattle.std.proofs.Common.{◌<◌, map, ◌∙◌, ap, subst}
use Rattle.std.proofs.lemmas.List.{length-map}
use Rattle.sc_definitions.specs.Ring.{power}
use Rattle.sc_definitions.specs.Tables.{entries}
use Rattle.sc_circuit_definitions.specs.Circuits.{weighted_sum}
use Rattle.sc_circuit_definitions.proofs.LayerTruthLaws.{powers-weighted}
use Rattle.sc_circuit.proofs.SumLaws.{weighted-same}
use Rattle.sc_circuit.proofs.outputs.begin.Goals as goal

pub returns-clause-claim : goal.returns-clause-claim
returns-clause-claim g c =
    let N = g.EF.Field.number in
    let o = g.EF.Field.ops in
    let x = N c.args.challenge in
    let ns = map g.F.Field.number c.args.outputs.now in
    let vs = map g.EF.Algebra.embedding ns in
    let many = length-map ns g.EF.Algebra.embedding ∙ length-map c.args.outputs.now g.F.Field.number in
    c.weighted.ensures
    ∙ ap (λ xs. weighted_sum o (entries N xs) vs) c.deref.ensures.value
    ∙ weighted-same o (entries N c.in_ok-weights.weights.items) (power o x) vs (λ b low. c.in_ok-weights.ensures.powers b (subst (λ n. b < n) many low))
    ∙ powers-weighted o g.met.EF.Field.is_field.ring x vs
