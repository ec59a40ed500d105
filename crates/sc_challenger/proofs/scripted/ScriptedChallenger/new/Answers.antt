use Rattle.std.proofs.Common.{◌≡◌, map, ap, ◌∙◌, arith, length, take, drop, ◌++◌}
use Rattle.std.proofs.lemmas.Grind.{common_steps}
use Rattle.sc_definitions.specs.Scripted.{scripted_rules}
use Rattle.sc_challenger.proofs.scripted.ScriptedChallenger.new.Goals as goal

-- what was lent to be sorted is what came back
pub invariant_of-result-clause-sorted : goal.invariant_of-result-clause-sorted
invariant_of-result-clause-sorted g c =
    let sorted = c.sort_each.new.lists in
    let back : take c.args.good.len (sorted ++ drop (length sorted) c.args.good.items) ≡ sorted = grind (arith, common_steps, c.sort_each.auto.lists, c.args.good.ok) in
    rw back c.sort_each.ensures.sorted

-- and its rules are those of the lists before
pub returns-clause-rules : goal.returns-clause-rules
returns-clause-rules g c =
    let number = g.F.Field.number in
    let draws = map number c.args.draws.items in
    let sorted = c.sort_each.new.lists in
    let back : take c.args.good.len (sorted ++ drop (length sorted) c.args.good.items) ≡ sorted = grind (arith, common_steps, c.sort_each.auto.lists, c.args.good.ok) in
    ap (λ lists. scripted_rules draws (map (λ list. map number list.items) lists)) back
    ∙ c.sort_each.ensures.same draws
    ∙ ap (λ lists. scripted_rules draws (map (λ list. map number list.items) lists)) c.deref_mut.ensures.value
