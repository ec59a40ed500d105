use Rattle.std.proofs.Common.{ap, ◌∙◌, ◌==◌, map, rules}
use Rattle.std.specs.List.{list_any}
use Rattle.std.proofs.lemmas.List.Sorted.{answers_always}
use Rattle.sc_challenger.proofs.SortedLists.{found}
use Rattle.sc_challenger.proofs.scripted.has.Goals as goal

-- the closure gives an element's number
pub returns : goal.returns
returns g c =
    let number = g.F.Field.number in
    let facts = c.binary_search_by_key.ensures in
    let by_number = facts.position number (answers_always _ _ _ (λ f a r f' called. search rules)) in
    c.is_ok.ensures.value
    ∙ found number c.args.list.now c.index.result _ c.requires facts.bound by_number
    ∙ ap (λ w. list_any (λ n. n == w) (map number c.args.list.now)) c.index.ensures
