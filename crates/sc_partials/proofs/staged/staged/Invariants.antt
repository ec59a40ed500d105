use Rattle.std.proofs.Common.{◌≡◌, ◌-◌, ◌^◌, suc}
use Rattle.sc_definitions.specs.Tables.{entries}
use Rattle.sc_table.specs.Strategy.{order_of}
use Rattle.sc_partials.specs.Staged.{IsStaged}
use Rattle.sc_partials.proofs.staged.staged.Given as goal

abbrev pub invariant-loop-i : goal.invariant-loop-i
invariant-loop-i g l =
    IsStaged g.EF.Field.number g.EF.Field.ops (order_of l.order) (entries g.EF.Field.number l.table) l.i (suc (l.before - l.i)) l.values.items
    × (l.places ≡ 3 ^ l.i)
