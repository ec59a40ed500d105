-- What is known before a masked round.
use Rattle.std.specs.Prelude.{◌≡◌, ℕ, List, length}
use Rattle.sc_definitions.specs.Ring.{Ops, power, ◌*⟨◌⟩◌}
use Rattle.sc_zk_definitions.specs.Masks.{sum_of}
use Rattle.sc_zk_definitions.specs.Explained.{half_of}
use Rattle.sc_zk_definitions.specs.MaskedRuns.{IsHalf}
use Rattle.sc_zk_views.specs.declared.mask_sums.MaskSums.{MaskSums}

-- It has the powers of a base, and masks with these endpoints are left.
pub record AreMaskSums {X : Type 0} (o : Ops) (number : X → ℕ) (base : ℕ) (left : List ℕ) (m : MaskSums X) : Type 0 where
  pub half : number m.half ≡ half_of o
  pub twice : IsHalf o (number m.half)
  pub step : base *⟨ o ⟩ number m.step ≡ 1
  pub factor : number m.factor ≡ power o base (length left)
  pub ends : number m.ends ≡ sum_of o left
