-- The value that bytes are.
use Rattle.std.proofs.Common.{◌≡◌, ℕ, List, Bool, true, false, Some, None, refl}
use Rattle.std.specs.Prelude.{IsUtf8, if◌then◌else◌}
use Rattle.std.specs.Str.{is_utf8}
use Rattle.std.proofs.lemmas.Str.{IsUtf8-from_is_utf8, is_utf8-from_IsUtf8}
use Rattle.serde_json.specs.Data.{Data}
use Rattle.serde_json.specs.Read.{read}
use Rattle.sc_forms.specs.Values.{value_of}

pub value_of_text : (input : List ℕ) (d : Data) → IsUtf8 input → read input ≡ Some d → value_of input ≡ Some d
unfolding value_of
value_of_text input d text is = rw (is_utf8-from_IsUtf8 input text) is

none_at : (b : Bool) (input : List ℕ) → is_utf8 input ≡ b → (IsUtf8 input → read input ≡ None) → (if b then read input else None) ≡ None
none_at true input is h = h (IsUtf8-from_is_utf8 input is)
none_at false input is h = refl

pub value_of_none : (input : List ℕ) → (IsUtf8 input → read input ≡ None) → value_of input ≡ None
unfolding value_of
value_of_none input h = none_at (is_utf8 input) input refl h
