-- What a challenger answers that counts.
use Rattle.std.specs.Prelude.{◌%◌, ◌==◌, length}
use Rattle.sc_definitions.specs.Events.{Rules}

-- a draw is how many events came before it, modulo 31, and that number alone passes a test
abbrev pub counting_rules : Rules
counting_rules = record {
  draw = λ h. length h % 31;
  passes = λ h bits w. w == length h % 31;
  max_bits = 16;
}
