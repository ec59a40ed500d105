-- What rounds say of statements.
use Rattle.std.specs.Prelude.{Option, Some, None}
use Rattle.sc_definitions.specs.Lucky.{LuckyChallenge}

-- Where the residual is right although a statement is false, a challenge was lucky.
pub data Finding : Type 0 where
  holds : Finding
  refuted : Finding
  lucky : LuckyChallenge → Finding

-- The finding where the residual is right although a statement is false: the first lucky challenge. There always is one, so the other case is not met.
abbrev pub named : Option LuckyChallenge → Finding
named (Some l) = lucky l
named None = refuted
