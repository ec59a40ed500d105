-- An input as a value.
use Rattle.std.specs.Prelude.{◌≡◌, ℕ, List}
use Rattle.serde_json.specs.Data.{Data}
use Rattle.serde_json.specs.View.{view}
use Rattle.sumcheck_replies.specs.declared.kind.Input.{Input}
use Rattle.sumcheck_replies.specs.declared.kind.Input.TheVariants.{Value, Refused}
use Rattle.sumcheck_replies.specs.Reply.{Reply}
use Rattle.sumcheck_replies.specs.Kinds.{json_reply}

-- What a command that replies to a value replies to an input: that to the value which the input is, or what refuses it.
abbrev pub IsReadAs : List ℕ → Input → Type 0
IsReadAs input (Value v) = (reply : Data → Reply) → json_reply reply input ≡ reply (view v)
IsReadAs input (Refused answer) = (reply : Data → Reply) → json_reply reply input ≡ answer
