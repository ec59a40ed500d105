use Rattle.std.proofs.Common.{◌<◌, ◌==◌, [], length, map, ap, subst, refl, sym, ◌∙◌, arith, rules}
use Rattle.std.specs.List.{list_any}
use Rattle.std.specs.List.Sorted.{IsNonDecreasing}
use Rattle.std.proofs.lemmas.List.{length-map}
use Rattle.sc_challenger.proofs.ListReads.{get_or-read}
use Rattle.sc_challenger.proofs.scripted.ScriptedChallengerChallenger.would_pass.Goals as goal

-- the list of the test is sorted, as each is
pub has-requires : goal.has-requires
has-requires g c =
    let number = g.F.Field.number in
    let here = c.args.self.now in
    let low : here.tested < length here.good.items = search rules in
    let list = get_or-read (λ list. map number list.items) here.good.items here.tested here.tested c.in-Some.list.now [] low (search rules) refl in
    let within = length-map here.good.items (λ list. map number list.items) in
    subst IsNonDecreasing (sym (ap (map number) c.deref-in-Some.ensures.value ∙ list)) (here.sorted here.tested [] (omega (arith, within, low)))

-- and has the witness where the list that the rules name has it
pub returns-in-Some : goal.returns-in-Some
returns-in-Some g c =
    let number = g.F.Field.number in
    let here = c.args.self.now in
    let list = get_or-read (λ list. map number list.items) here.good.items here.tested _ c.in-Some.list.now [] (search rules) (search rules) here.tested_is in
    c.has.ensures ∙ ap (list_any (λ n. n == number c.args.witness)) (ap (map number) c.deref-in-Some.ensures.value ∙ list)
