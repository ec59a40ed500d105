use Rattle.std.proofs.Common.{◌≡◌, ◌+◌, ◌*◌, vec_capacity}
use Rattle.sc_definitions.specs.Ring.{times}
use Rattle.sc_definitions.specs.Tables.{entries}
use Rattle.sc_table.proofs.SliceLaws.{HasPushed}
use Rattle.sc_svo.proofs.next_point.every.Given as goal

abbrev pub invariant-loop-a : goal.invariant-loop-a
invariant-loop-a g l =
    let e = g.EF.Field in
    record {
      pushed : HasPushed e.number (λ a. times e.ops (e.number l.factor) (entries (λ x. g.EF.Algebra.embedding (g.F.Field.number x)) l.rows (l.from + a * l.step))) l.a l.kept.items;
      room : vec_capacity l.kept ≡ l.count;
    }
