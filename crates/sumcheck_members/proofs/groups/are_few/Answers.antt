use Rattle.std.proofs.Common.{arith, sym, length}
use Rattle.std.proofs.lemmas.Grind.{common_steps}
use Rattle.std.proofs.lemmas.Bool.{lt-leb}
use Rattle.sumcheck_members.specs.Groups.{most_statements}
use Rattle.sumcheck_members.specs.Statements.{all_claims, group_claims}
use Rattle.sumcheck_members.proofs.GroupCounts.{length-flat_map-read}
use Rattle.sumcheck_members.proofs.groups.are_few.Goals as goal

pub returns-then-count-room : goal.returns-then-count-room
returns-then-count-room c =
    let all = length-flat_map-read (group_claims (λ n. n)) c.args.groups.now c.group-item.result c.loop-group.group-index (omega arith) c.group-item.is in
    sym (lt-leb (length (all_claims (λ n. n) c.args.groups.now)) most_statements (omega (arith, all, c.len-count.ensures, c.if-count-room.true, c.loop-group.invariant)))

-- a group more takes its claims from the room
pub loop-group-preserved : goal.loop-group-preserved
loop-group-preserved c = grind (arith, common_steps)
