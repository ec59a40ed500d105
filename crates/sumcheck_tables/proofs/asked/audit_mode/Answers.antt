use Rattle.std.specs.Prelude.{map}
use Rattle.std.specs.List.{list_all}
use Rattle.sumcheck_tables.specs.Tables.{are_below}
use Rattle.sumcheck_tables.specs.Views.{numbers_in}
use Rattle.sumcheck_tables.proofs.NumberLaws.{both, rounds-below}
use Rattle.sumcheck_tables.proofs.asked.audit_mode.Goals as goal

pub messages-requires : goal.messages-requires
messages-requires g c =
    let all = rw c.in-Check.is at c.requires in
    rounds-below g.EF.Field.ops.size c.in-Check.rounds.now
    (both (list_all (are_below g.EF.Field.ops.size) (map numbers_in c.in-Check.rounds.now)) (are_below g.F.Field.ops.size c.in-Check.witnesses.now) all).0
