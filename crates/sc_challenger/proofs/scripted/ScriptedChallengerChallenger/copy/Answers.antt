use Rattle.std.proofs.Common.{◌≡◌, ℕ, List, map, All, rules, subst, sym, ap, ◌∙◌}
use Rattle.std.specs.List.Sorted.{IsNonDecreasing}
use Rattle.sc_definitions.specs.Scripted.{draws_in, tests_in}
use Rattle.sc_challenger.proofs.scripted.ScriptedChallengerChallenger.copy.Goals as goal

-- the copy has the events, and so as many draws and tests, and lists of the same numbers
pub invariant_of-result : goal.invariant_of-result
invariant_of-result g c =
    let here = c.args.self.now in
    let same : c.in_ok-events.events.items ≡ here.events.items = search rules in
    let lists : map (λ list. map g.F.Field.number list.items) c.in_ok-good.good.items ≡ map (λ list. map g.F.Field.number list.items) here.good.items = search rules in
    record {
      sorted = subst (λ (all : List (List ℕ)). All IsNonDecreasing all) (sym lists) here.sorted;
      drawn_is = here.drawn_is ∙ sym (ap draws_in same);
      tested_is = here.tested_is ∙ sym (ap tests_in same);
    }
