use Rattle.std.proofs.Common.{◌≡◌, vec_capacity}
use Rattle.sc_definitions.specs.Tables.{entries}
use Rattle.sc_definitions.specs.Partials.{summed_last}
use Rattle.sc_table.specs.SplitEqs.{split_variables, split_weight, shifted_by}
use Rattle.sc_table.proofs.SliceLaws.{HasPushed}
use Rattle.sc_table.proofs.split_eq.SplitEq.single_sums.Given as goal

abbrev pub invariant-loop-a : goal.invariant-loop-a
invariant-loop-a g l =
    let f = g.EF.Field in
    let images = entries (λ x. g.EF.Algebra.embedding (g.A.Field.number x)) l.poly in
    record {
      pushed : HasPushed f.number (summed_last f.ops (split_variables l.self)
          (shifted_by l.up (split_weight f.number f.ops l.self)) images) l.a l.sums.items;
      room : vec_capacity l.sums ≡ l.width;
    }
