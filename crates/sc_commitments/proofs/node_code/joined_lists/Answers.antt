use Rattle.std.proofs.Common.{ap, ◌++◌, ◌∙◌}
use Rattle.sc_commitments.proofs.CodeLaws.{joined-push}
use Rattle.sc_commitments.proofs.node_code.joined_lists.Goals as goal

-- one list more
pub loop-j-preserved : goal.loop-j-preserved
loop-j-preserved g c =
    let m = c.index-messages-j.result in
    let r = c.index-randomness-j.result in
    joined-push g.EF.Field.number c.args.messages.now c.args.randomness.now c.loop-j.lists.items c.push.new.self.items c.loop-j.j m r c.extend_from_slice.new.self c.loop-j-test.true c.requires
    c.index-messages-j.is c.index-randomness-j.is
    (c.in_ok-extend_from_slice.ensures.items ∙ ap (λ t. t ++ c.deref-in-loop-j.result.now) (c.in_ok-list.ensures.items ∙ c.deref.ensures.value) ∙ ap (λ t. m.items ++ t) c.deref-in-loop-j.ensures.value)
    c.in_ok-push.ensures.items c.loop-j.invariant
