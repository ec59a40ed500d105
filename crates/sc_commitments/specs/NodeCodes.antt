-- A code of values at nodes, as contracts see it.
use Rattle.std.specs.Prelude.{ℕ}
use Rattle.sc_field.specs.declared.field.Field.{Ghosts as FieldOf}
use Rattle.std.specs.declared.cmp.PartialEq.{Ghosts as PartialEqOf}
use Rattle.sc_commitments.specs.declared.node_code.NodeCode.{NodeCode}

module _ {EF : Type 0} {e : FieldOf EF} {q : PartialEqOf EF} where
  -- its lengths: of a message, of randomness, and of a codeword
  abbrev pub lengths_of : NodeCode EF e q → ℕ × ℕ × ℕ
  lengths_of c = (c.message_len, c.randomness_len, c.codeword_len)
