use Rattle.std.proofs.Common.{◌≡◌, ◌<◌, get_or, length, rules}
use Rattle.std.proofs.lemmas.List.{length-map}
use Rattle.sc_definitions.proofs.ReplayLaws.{length-given_rounds}
use Rattle.sc_zk_rounds.proofs.VerifiedLaws.{wire_came}
use Rattle.sc_zk_rounds.proofs.replayed.CameWiresCameRounds.round_at.Goals as goal

pub index-requires : goal.index-requires
index-requires g c = rw c.args.self.now.data.now.round_coefficients.ok.0 (rw (length-given_rounds, length-map) at c.requires)

pub returns-clause-round : goal.returns-clause-round
returns-clause-round g c =
    let d = c.args.self.now.data.now in
    let low : c.args.i < length d.round_coefficients.items = rw (length-given_rounds, length-map) at c.requires in
    let is : c.index.result.now ≡ get_or d.round_coefficients.items c.args.i c.index.result.now = search rules in
    wire_came g.F.Field.number g.EF.Field.number d c.args.i c.index.result.now c.as_slice.result.now _ low is c.as_slice.ensures.value
    (rw (← c.deref.ensures.value) c.witness_at.ensures.number)
