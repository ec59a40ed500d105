use Rattle.std.proofs.Common.{◌≡◌, take}
use Rattle.sc_definitions.specs.Tables.{evaluation, prefix}
use Rattle.sc_definitions.specs.Messages.{message_first, message_leading}
use Rattle.sc_definitions.specs.ProverStates.{half_rows}
use Rattle.sc_merged.specs.MergedViews.{left_in, pairs_in}
use Rattle.sc_merged.proofs.TotalLaws.{total}
use Rattle.sc_merged.proofs.tables.MergedTables.message.Given as goal

abbrev pub invariant-loop-i : goal.invariant-loop-i
invariant-loop-i g l =
    let e = g.EF.Field in
    let half = half_rows (left_in l.self) in
    let so_far = take l.i (pairs_in e.number l.self) in
    record {
      first : e.number l.c_a ≡ total e.ops (λ p. message_first evaluation prefix e.ops half p.table p.weights) so_far;
      leading : e.number l.c_inf ≡ total e.ops (λ p. message_leading evaluation prefix e.ops half p.table p.weights) so_far;
    }
