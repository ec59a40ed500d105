use Rattle.std.proofs.Common.{◌≡◌, true, sym, ◌∙◌, rules}
use Rattle.sc_merge_definitions.specs.Openings.{first_false_table_claim}
use Rattle.sc_merge_definitions.proofs.FindingLaws.{holds_where, finding-named, ok-then}
use Rattle.sc_openings.specs.OpeningsPlays.{played_luck}
use Rattle.sc_openings.proofs.ValueLaws.{told-claim}
use Rattle.sc_openings.proofs.verdict.verdict_on.Goals as goal

-- every claim is true
pub returns-in-None : goal.returns-in-None
returns-in-None g c = λ q ops values on.
    let is : c.args.matched ≡ true = search rules in
    let found = told-claim values c.deref.ensures.value c.deref-2.ensures.value c.first_false.ensures in
    sym (holds_where c.args.matched (first_false_table_claim q 0 q.claims) (played_luck g.F.Field.number g.EF.Field.number q c.args.played.now) is (sym found ∙ c.in-None.is))

-- a claim is false
pub returns-in-Some : goal.returns-in-Some
returns-in-Some g c =
    let is : c.args.matched ≡ true = search rules in
    ok-then c.luck_on.result c.luck_on.ensures (λ v told q ops values on.
    let found = told-claim values c.deref.ensures.value c.deref-2.ensures.value c.first_false.ensures in
    told q ops values on ∙ finding-named c.args.matched (played_luck g.F.Field.number g.EF.Field.number q c.args.played.now) is (sym found ∙ c.in-Some.is))
