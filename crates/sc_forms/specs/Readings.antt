-- What texts are read as where readers of JSON differ, as figures.
use Rattle.std.specs.Prelude.{◌≡◌, ℕ, zero, suc, List, ◌++◌, replicate, codes, pos, true, false, Some, None}
use Rattle.std.specs.Float.{fin, float_one, two_to}
use Rattle.serde_json.specs.Data.{unsigned, float, number, array, object, Items, no_items, item, member, no_members}
use Rattle.sc_forms.specs.Values.{value_of}

-- so many brackets that open, and as many that close
abbrev pub brackets : ℕ → List ℕ
brackets n = replicate n 91 ++ replicate n 93

-- a list in a list and so on, so many in all
abbrev pub lists_in : ℕ → Items
lists_in zero = no_items
lists_in (suc n) = item (array (lists_in n)) no_items

pub record WorkedReadings : Type 0 where
  -- A number is an unsigned one where it is digits alone and below 2^64. With a point, an exponent or the sign of a zero it is a float, whatever its value.
  pub point : value_of (codes "1.0") ≡ Some (number (float float_one))
  pub exponent : value_of (codes "1e2") ≡ Some (number (float (fin false 25 (pos 2))))
  pub minus_zero : value_of (codes "-0") ≡ Some (number (float (fin true 0 (pos 0))))
  pub greatest : value_of (codes "18446744073709551615") ≡ Some (number (unsigned 18446744073709551615))
  pub past_it : value_of (codes "18446744073709551616") ≡ Some (number (float (two_to 64)))
  -- a number that rounds to infinity makes the text no value
  pub infinite : value_of (codes "1e309") ≡ None
  -- of a member that stands twice the last one counts
  pub twice : value_of (codes "{\"a\":1,\"a\":2}") ≡ Some (object (member (codes "a") (number (unsigned 2)) no_members))
  -- lists nest 127 deep, and no deeper
  pub deepest : value_of (brackets 127) ≡ Some (array (lists_in 126))
  pub too_deep : value_of (brackets 128) ≡ None
