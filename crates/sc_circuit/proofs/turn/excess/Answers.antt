use Rattle.std.proofs.Common.{◌≡◌, ◌+◌, ◌<◌, length, ◌∙◌, ap, arith}
use Rattle.sc_degree.proofs.TurnLaws.{sent-length}
use Rattle.sc_circuit.proofs.turn.excess.Goals as goal

-- both have one coefficient more than there are values
pub difference-requires : goal.difference-requires
difference-requires g c =
    let e = g.EF.Field in
    let field = g.met.EF.Field.is_field in
    let nodes = c.args.nodes.now in
    let values = c.args.values.now in
    let honest = c.args.honest.now in
    let some : 0 < length values = omega (arith, c.requires.values, nodes.some, nodes.weights.ok.0) in
    let some_honest : 0 < length honest = omega (arith, c.requires.values, c.requires.honest, some) in
    let sent : length c.as_slice.result.now ≡ length values + 1 =
    ap length c.as_slice.ensures.value ∙ sent-length e.ops field e.number (e.number c.args.claim) values c.in_ok-sent.sent.items some c.in_ok-sent.ensures in
    let due : length c.as_slice-2.result.now ≡ length honest + 1 =
    ap length c.as_slice-2.ensures.value ∙ sent-length e.ops field e.number (e.number c.args.truth) honest c.in_ok-due.due.items some_honest c.in_ok-due.ensures in
    omega (arith, sent, due, c.requires.values, c.requires.honest)
