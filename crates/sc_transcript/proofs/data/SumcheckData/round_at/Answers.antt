use Rattle.std.proofs.Common.{◌≡◌, ◌<◌, length, get_or, map, ap, sym, ◌∙◌, Some, rules}
use Rattle.std.specs.Option.{option_map_or}
use Rattle.std.proofs.lemmas.Option.{slice_get-get_or}
use Rattle.std.proofs.lemmas.List.{length-map}
use Rattle.sc_definitions.specs.Transcript.{Round}
use Rattle.sc_definitions.proofs.ReplayLaws.{length-given_rounds, get_or-given_rounds}
use Rattle.sc_transcript.specs.Data.{pair_of, messages_in}
use Rattle.sc_transcript.specs.Shapes.{pair_round}
use Rattle.sc_transcript.proofs.WitnessReads.{message_at}
use Rattle.sc_transcript.proofs.data.SumcheckData.round_at.Goals as goal

pub index-requires : goal.index-requires
index-requires g c = rw c.args.self.now.polynomial_evaluations.ok.0 (rw (length-given_rounds, length-map) at c.requires)

pub returns-clause-round : goal.returns-clause-round
returns-clause-round g c =
    let N = g.EF.Field.number in
    let ms = c.args.self.now.polynomial_evaluations.items in
    let ws = c.args.self.now.pow_witnesses.items in
    let m = c.index.result.now in
    let low : c.args.i < length ms = rw (length-given_rounds, length-map) at c.requires in
    let is : m ≡ get_or ms c.args.i m = search rules in
    let r : Round = pair_round (N m.c_a) (N m.c_inf) (option_map_or g.F.Field.number c.witness_at.result 0) in
    let found : get_or (map g.F.Field.number ws) c.args.i 0 ≡ option_map_or g.F.Field.number c.witness_at.result 0 = rw (← c.deref.ensures.value) (sym c.witness_at.ensures.number) in
    slice_get-get_or _ c.args.i r (rw (length-given_rounds, length-map) low)
    ∙ ap Some (get_or-given_rounds (messages_in N c.args.self.now) (map g.F.Field.number ws) c.args.i (pair_of N m) r (rw length-map low) (message_at (pair_of N) ms c.args.i m low is)
    ∙ ap (pair_round (N m.c_a) (N m.c_inf)) found)
