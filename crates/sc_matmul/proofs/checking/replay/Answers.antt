use Rattle.sc_matmul.proofs.checking.replay.Goals as goal

-- the point was drawn first
pub returns-clause-answered : goal.returns-clause-answered
returns-clause-answered g c =
    c.replay_at.ensures.answered (g.C.Challenger.party c.args.challenger.now)
    (record { rules = c.in_ok-point.ensures.rules; point = c.in_ok-point.ensures.drawn; history = c.in_ok-point.ensures.after })
