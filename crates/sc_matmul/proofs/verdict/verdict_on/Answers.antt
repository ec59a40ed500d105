use Rattle.std.proofs.Common.{◌≡◌, true, length, map, sym, ◌∙◌, ap, rules}
use Rattle.std.specs.Option.{option_map}
use Rattle.sc_soundness.specs.Differences.{first_difference}
use Rattle.sc_merge_definitions.specs.Matrices.{MatmulCase}
use Rattle.sc_merge_definitions.proofs.FindingLaws.{finding-named, ok-then}
use Rattle.sc_matmul.specs.Entries.{difference_of}
use Rattle.sc_matmul.specs.FittingClaims.{case_by}
use Rattle.sc_matmul.specs.MatmulPlays.{played_luck}
use Rattle.sc_matmul.proofs.AuditLaws.{as-many}
use Rattle.sc_matmul.proofs.verdict.verdict_on.Goals as goal

pub first_false-requires : goal.first_false-requires
first_false-requires g c = ap length c.as_slice.ensures ∙ as-many c.args.fitting.now c.args.product.now c.requires.product

-- an entry is false
pub returns-in-Some : goal.returns-in-Some
returns-in-Some g c =
    let B = g.F.Field.number in
    let fitting = c.args.fitting.now in
    let is : c.args.matched ≡ true = search rules in
    let found = c.first_false.ensures ∙ ap (λ l. first_difference 0 (map B l) (map B c.args.product.now)) c.as_slice.ensures
    ∙ ap (first_difference 0 (map B fitting.claimed.now.values.items)) c.requires.product in
    ok-then c.luck_on.result c.luck_on.ensures (λ v told at on.
    let q : MatmulCase = case_by fitting at in
    told at on ∙ finding-named c.args.matched (played_luck B g.EF.Field.number q c.args.played.now) is (sym found ∙ ap (option_map difference_of) c.in-Some.is))
