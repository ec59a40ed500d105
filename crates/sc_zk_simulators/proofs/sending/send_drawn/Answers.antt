use Rattle.std.proofs.Common.{OnErr, ap, sym, subst}
use Rattle.sc_commitments.specs.Draws.{draws_from, SomeDrawn}
use Rattle.sc_commitments.proofs.CodeLaws.{none-drawn}
use Rattle.sc_zk_simulators.proofs.SendingLaws.{one-drawn}
use Rattle.sc_zk_simulators.proofs.sending.send_drawn.Goals as goal

-- there was no memory for the wire
pub returns-in_err-wire-clause-drew : goal.returns-in_err-wire-clause-drew
returns-in_err-wire-clause-drew g c =
    let wire = draws_from g.EF.Field.ops.size c.args.width in
    let s = g.G.Rng.stream c.args.rng.now in
    subst (λ r. OnErr c.from_residual.result (SomeDrawn wire 1 s (g.G.Rng.stream r))) (sym c.in_err-wire.ensures.refused) (none-drawn _ wire 1 s)

-- the round is refused
pub returns-clause-drew : goal.returns-clause-drew
returns-clause-drew g c = one-drawn _ (draws_from g.EF.Field.ops.size c.args.width) _ _ (ap (λ p. p.1) c.in_ok-wire.ensures.drawn)
