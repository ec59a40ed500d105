-- What masks make of the next round.
use Rattle.std.specs.Prelude.{◌≡◌, ℕ, List, length, map, drop}
use Rattle.sc_definitions.specs.Ring.{Ops}
use Rattle.sc_zk_definitions.specs.Masks.{masks_at, two_power, sum_of, endpoint, aux_after}
use Rattle.sc_zk_definitions.specs.MaskedRuns.{Masking}
use Rattle.sc_zk_rounds.specs.declared.mixing.Mixing.{Mixing}

-- It is what these masks make of the round after the challenges rs.
pub record IsMixing {EF : Type 0} (o : Ops) (number : EF → ℕ) (k : Masking) (rs : List ℕ) (m : Mixing EF) : Type 0 where
  pub half : number m.half ≡ k.half
  pub factor : number m.factor ≡ two_power o (length (drop (length rs) k.masks))
  pub done : number m.done ≡ masks_at o k.masks rs
  pub ends : number m.ends ≡ sum_of o (map (endpoint o) (drop (length rs) k.masks))
  pub aux : number m.aux ≡ aux_after o k.half k.aux (length rs)
