use Rattle.std.proofs.Common.{length, ap, sym, ◌∙◌}
use Rattle.sc_degree.proofs.PlayLaws.{sent_width}
use Rattle.sc_degree.proofs.prover.play_round.Goals as goal

-- what the prover sends has its degree
pub round-requires-clause-width : goal.round-requires-clause-width
round-requires-clause-width g c =
    ap length c.deref.ensures.value ∙ sent_width g.EF.Field.number g.EF.Field.ops _ _ _ c.in_ok-values.ensures ∙ sym c.requires.ready.degree
