use Rattle.std.proofs.Common.{false, ap}
use Rattle.std.proofs.Math.Bridge.{le_prop}
use Rattle.sc_tests_common.proofs.counted.CountedField.TWO.Goals as goal

-- a bound has one proof
pub returns : goal.returns
returns g c = ap (λ below. record { value = record { value = 2; below = below }; has_flag = false; count = 0 }) (le_prop _ _)
