use Rattle.std.proofs.Common.{◌^◌, ◌<◌, length, map, sym, ◌∙◌, ap, subst}
use Rattle.std.proofs.lemmas.List.{length-map}
use Rattle.sc_definitions.specs.Ring.{plus, times}
use Rattle.sc_definitions.specs.Tables.{equality_weight}
use Rattle.sc_definitions.specs.Statements.{successor_weight, weight_of}
use Rattle.sc_definitions.proofs.RingLaws.{times_comm, times-one, element-times}
use Rattle.sc_merge_definitions.specs.Openings.{claim_kind}
use Rattle.sc_merged.specs.WeightedPolys.{weights_in}
use Rattle.sc_openings.proofs.ValueLaws.{slot-plain}
use Rattle.sc_openings.proofs.weights.add_claim.Goals as goal

-- of next rows
pub returns-in_ok-weights-clause-weights : goal.returns-in_ok-weights-clause-weights
unfolding weight_of
returns-in_ok-weights-clause-weights g c = λ b low.
    let e = g.EF.Field in
    let N = e.number in
    let o = e.ops in
    let claim = c.args.claim.now in
    let zs = map N claim.point in
    let within : b < 2 ^ length claim.point = subst (λ k. b < 2 ^ k) (sym c.requires.point) low in
    let entry = ap (λ t. t b) c.as_slice-then-claim.ensures.numbers ∙ c.in_ok-weights.ensures.table b (subst (λ l. b < 2 ^ length l) (sym c.as_slice.ensures) within)
    ∙ ap (λ l. successor_weight o (map N l) b) c.as_slice.ensures
    ∙ sym (slot-plain o g.met.EF.Field.is_field.ring zs b (subst (λ k. b < 2 ^ k) (sym (length-map claim.point N)) within)) in
    c.add_weights.ensures.weights b low
    ∙ ap (λ t. plus o (weights_in N c.args.pair.now b) (times o (N c.args.scale) t)) entry
    ∙ sym (ap (λ s. plus o (weights_in N c.args.pair.now b) (times o (N c.args.scale) (weight_of o (claim_kind s zs) b))) c.if-claim.true)

-- of rows
pub returns-in_ok-weights-2-clause-weights : goal.returns-in_ok-weights-2-clause-weights
unfolding weight_of
returns-in_ok-weights-2-clause-weights g c = λ b low.
    let e = g.EF.Field in
    let N = e.number in
    let o = e.ops in
    let ring = g.met.EF.Field.is_field.ring in
    let claim = c.args.claim.now in
    let zs = map N claim.point in
    let term = times o (N c.args.scale) (equality_weight o zs b) in
    let within : b < 2 ^ length claim.point = subst (λ k. b < 2 ^ k) (sym c.requires.point) low in
    c.add_equality.ensures.weights b low
    ∙ ap (λ t. plus o (weights_in N c.args.pair.now b) (times o 1 t)) (c.in_ok-weights-2.ensures.weights b within)
    ∙ ap (plus o (weights_in N c.args.pair.now b)) (times_comm o ring 1 term ∙ times-one o ring term ∙ element-times o ring (N c.args.scale) (equality_weight o zs b))
    ∙ sym (ap (λ s. plus o (weights_in N c.args.pair.now b) (times o (N c.args.scale) (weight_of o (claim_kind s zs) b))) c.if-claim.false)
