use Rattle.std.proofs.Common.{◌≡◌, ◌<◌, get_or, length, rules}
use Rattle.std.proofs.lemmas.List.{length-map}
use Rattle.sc_definitions.proofs.ReplayLaws.{length-given_rounds}
use Rattle.sc_degree.proofs.ReplayLaws.{round_came}
use Rattle.sc_degree.proofs.proof.CameOverCameRounds.round_at.Goals as goal

pub index-requires : goal.index-requires
index-requires g c = rw c.args.self.now.proof.now.round_polys.ok.0 (rw (length-given_rounds, length-map) at c.requires)

pub returns-clause-round : goal.returns-clause-round
returns-clause-round g c =
    let proof = c.args.self.now.proof.now in
    let low : c.args.i < length proof.round_polys.items = rw (length-given_rounds, length-map) at c.requires in
    let is : c.index.result.now ≡ get_or proof.round_polys.items c.args.i c.index.result.now = search rules in
    round_came g.F.Field.number g.EF.Field.number proof c.args.i c.index.result.now c.as_slice.result.now _ low is c.as_slice.ensures.value
    (rw (← c.deref.ensures.value) c.witness_at.ensures.number)
