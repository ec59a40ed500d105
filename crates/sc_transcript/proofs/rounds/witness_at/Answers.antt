use Rattle.sc_transcript.proofs.WitnessReads.{read_at, read_past}
use Rattle.sc_transcript.proofs.rounds.witness_at.Goals as goal

pub returns-then-i-witnesses-clause-number : goal.returns-then-i-witnesses-clause-number
returns-then-i-witnesses-clause-number g c =
    read_at g.F.Field.number c.args.witnesses.now c.args.i c.index-witnesses-i.result c.if-i-witnesses.true c.index-witnesses-i.is

-- past the end there is none, and the number is 0
pub returns-else-i-witnesses-clause-number : goal.returns-else-i-witnesses-clause-number
returns-else-i-witnesses-clause-number g c = read_past g.F.Field.number c.args.witnesses.now c.args.i c.if-i-witnesses.false
