use Rattle.std.proofs.Math.Nat.{pos_of_ne-zero}
use Rattle.sc_transcript.proofs.rounds.append_witness.Goals as goal

-- a witness is sought at a positive difficulty alone
pub grind-requires-clause-positive : goal.grind-requires-clause-positive
grind-requires-clause-positive g c = pos_of_ne-zero c.if-pow_bits-eq0.false
