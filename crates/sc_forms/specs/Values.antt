-- The JSON value that bytes are.
use Rattle.std.specs.Prelude.{ℕ, List, Option, None, if◌then◌else◌}
use Rattle.std.specs.Str.{is_utf8}
use Rattle.serde_json.specs.Data.{Data}
use Rattle.serde_json.specs.Read.{read}

-- the value, if they are one JSON text in UTF-8
unfoldable pub value_of : List ℕ → Option Data
value_of input = if is_utf8 input then read input else None
