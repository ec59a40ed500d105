-- The commands that calls are.
use Rattle.std.specs.Prelude.{ℕ, List, [], ◌∷◌, codes, decimal, Option}
use Rattle.sumcheck_run.specs.Program.{command_of}
use Rattle.sumcheck_run.specs.declared.command.Command.{Command}

-- the command that this word alone is
abbrev pub word_command : List ℕ → Option Command
word_command word = command_of (word ∷ [])

-- the command `make` with two numbers, in decimal digits, and a word
abbrev pub make_command : ℕ → ℕ → List ℕ → Option Command
make_command variables number strategy = command_of (codes "make" ∷ decimal variables ∷ decimal number ∷ strategy ∷ [])
