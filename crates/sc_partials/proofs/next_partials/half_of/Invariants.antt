use Rattle.std.proofs.Common.{◌≡◌, ◌-◌, vec_capacity}
use Rattle.sc_definitions.specs.Ring.{times}
use Rattle.sc_table.specs.Polys.{variables_of, table_of}
use Rattle.sc_table.specs.Strategy.{order_of}
use Rattle.sc_table.proofs.SliceLaws.{HasPushed}
use Rattle.sc_partials.specs.NextPartials.{half_row}
use Rattle.sc_partials.proofs.next_partials.half_of.Given as goal

abbrev pub invariant-loop-a : goal.invariant-loop-a
invariant-loop-a g l =
    let e = g.EF.Field in
    record {
      pushed : HasPushed e.number (λ a. times e.ops (e.number l.factor) (table_of e.number l.table (half_row (order_of l.order) l.at_one (variables_of l.table - 1) a))) l.a l.rows.items;
      room : vec_capacity l.rows ≡ l.half;
    }
