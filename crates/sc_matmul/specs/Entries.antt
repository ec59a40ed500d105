-- A false entry, as what it differs in.
use Rattle.sc_soundness.specs.Differences.{Difference}
use Rattle.sc_matmul.specs.declared.product.FalseEntry.{FalseEntry}

-- its place, and what is claimed there and true
abbrev pub difference_of : FalseEntry → Difference
difference_of f = record { place = f.place; claimed = f.claimed; actual = f.actual }
