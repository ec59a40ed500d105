use Rattle.std.proofs.Common.{ℕ, ap}
use Rattle.std.specs.Option.{option_map_or}
use Rattle.sc_transcript.proofs.RoundWords.{is_sent}
use Rattle.sc_transcript.proofs.rounds.send_rest.Goals as goal

pub returns-clause-sent : goal.returns-clause-sent
returns-clause-sent g c = λ h values absorbed.
    let E = g.EF.ExtensionField.extension in
    let H = λ (x : g.row.C.Denot). (g.C.Challenger.party x).history in
    let R = λ (x : g.row.C.Denot). (g.C.Challenger.party x).rules in
    let w : ℕ = option_map_or g.F.Field.number c.in-Ok.witness 0 in
    let found = c.in-Ok.ensures.left in (
      is_sent (R c.args.challenger.now) E g.F.Field.ops.size c.args.pow_bits h (H c.args.challenger.now) values w absorbed (R c.append_witness.new.challenger) _ (H c.append_witness.new.challenger) _ _
          found.1 (λ none. ap (λ o. option_map_or g.F.Field.number o 0) (found.2.none none)) found.0 c.in-Ok.ensures.rules
          g.met.EF.ExtensionField.degree_is (rw c.unwrap-challenge.ensures at c.sample_ext.ensures.drawn) (rw c.unwrap-challenge.ensures at c.sample_ext.ensures.left).history,
      found.2,
    )
