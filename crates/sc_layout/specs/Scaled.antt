-- Openings as claims of a small-value batch.
use Rattle.std.specs.Prelude.{◌≡◌, ℕ, List, length}
use Rattle.sc_definitions.specs.Ring.{Ops, power}
use Rattle.sc_definitions.specs.Statements.{Statement}
use Rattle.sc_definitions.specs.Combined.{scaled_from}
use Rattle.sc_svo.specs.Claims.{claims_in}
use Rattle.sc_layout.specs.declared.scaled.ScaledClaims.{ScaledClaims}

-- These statements are scaled under a challenge.
pub record AreScaled {EF : Type 0} (o : Ops) (number : EF → ℕ) (challenge : ℕ) (ss : List Statement) (s : ScaledClaims EF) : Type 0 where
  pub challenge_is : number s.challenge ≡ challenge
  pub power_is : number s.power ≡ power o challenge (length ss)
  pub claims_are : claims_in number s.claims.items ≡ scaled_from o challenge 0 ss
