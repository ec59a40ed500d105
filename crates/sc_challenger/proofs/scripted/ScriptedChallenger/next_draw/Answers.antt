use Rattle.std.proofs.Common.{rules}
use Rattle.sc_challenger.proofs.ListReads.{get_or-read}
use Rattle.sc_challenger.proofs.scripted.ScriptedChallenger.next_draw.Goals as goal

pub returns-in-Some : goal.returns-in-Some
returns-in-Some g c =
    let here = c.args.self.now in
    get_or-read g.F.Field.number here.draws.items here.drawn _ c.in-Some.draw.now 0 (search rules) (search rules) here.drawn_is
