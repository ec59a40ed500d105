use Rattle.std.proofs.Common.{◌≡◌, ℕ, ◌<◌, ◌≤◌, length, vec_capacity}
use Rattle.sc_definitions.specs.Ring.{power}
use Rattle.sc_definitions.specs.Tables.{entries}
use Rattle.sc_matmul.proofs.tables.powers_of.Given as goal

abbrev pub invariant-loop-i : goal.invariant-loop-i
invariant-loop-i g l = record {
  made : length l.powers.items ≡ l.i;
  room : l.count ≤ vec_capacity l.powers;
  next : g.EF.Field.number l.next ≡ power g.EF.Field.ops (g.EF.Field.number l.x) l.i;
  powers : (i : ℕ) → i < l.i → entries g.EF.Field.number l.powers.items i ≡ power g.EF.Field.ops (g.EF.Field.number l.x) i;
}
