-- A false claim with the number of its statement capped.
use Rattle.std.specs.Prelude.{◌^◌, ◌-◌, min, Option}
use Rattle.std.specs.Option.{option_map}
use Rattle.sc_definitions.specs.declared.false_claim.FalseClaim.{FalseClaim}

-- a statement's number stands still at the last number of its type, 2^64 - 1
abbrev pub capped_claim : FalseClaim → FalseClaim
capped_claim c = record { statement = min c.statement (2 ^ 64 - 1); claimed = c.claimed; actual = c.actual }

-- the same of a false claim, if there is one
abbrev pub capped : Option FalseClaim → Option FalseClaim
capped found = option_map capped_claim found
