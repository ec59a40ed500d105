use Rattle.std.proofs.Common.{◌^◌, ◌<◌, length, map, sym, ◌∙◌, ap, subst}
use Rattle.std.proofs.lemmas.List.{length-map}
use Rattle.sc_definitions.specs.Tables.{entries, value}
use Rattle.sc_definitions.specs.Statements.{equality, successor_weight, true_value}
use Rattle.sc_definitions.proofs.StatementLaws.{true_value-equality}
use Rattle.sc_merge_definitions.specs.Openings.{claim_kind}
use Rattle.sc_openings.proofs.ValueLaws.{true-next}
use Rattle.sc_openings.proofs.values.true_value.Goals as goal

-- of next rows
pub returns-in_ok-weights : goal.returns-in_ok-weights
returns-in_ok-weights g c =
    let e = g.EF.Field in
    let N = e.number in
    let image = λ (x : g.row.F.Denot). g.EF.Algebra.embedding (g.F.Field.number x) in
    let claim = c.args.claim.now in
    let n = length claim.point in
    let zs = map N claim.point in
    let same = ap length c.as_slice-point.ensures in
    c.dot_slices.ensures
    ∙ true-next e.ops g.met.EF.Field.is_field.ring image N c.args.table.now c.as_slice.result.now zs n (length-map claim.point N) c.requires.rows
    (λ b low. ap (λ t. t b) c.as_slice.ensures.numbers ∙ c.in_ok-weights.ensures.table b (subst (λ k. b < 2 ^ k) (sym same) low)
    ∙ ap (λ l. successor_weight e.ops (map N l) b) c.as_slice-point.ensures)
    ∙ sym (ap (λ s. true_value e.ops n (entries image c.args.table.now) (claim_kind s zs)) c.if-claim.true)

-- of rows
pub returns-else-claim : goal.returns-else-claim
returns-else-claim g c =
    let e = g.EF.Field in
    let N = e.number in
    let image = λ (x : g.row.F.Denot). g.EF.Algebra.embedding (g.F.Field.number x) in
    let claim = c.args.claim.now in
    let zs = map N claim.point in
    let f = entries image c.args.table.now in
    c.eval_slice.ensures ∙ ap (λ l. value e.ops f (map N l)) c.as_slice-point.ensures
    ∙ sym (true_value-equality e.ops f zs) ∙ ap (λ n. true_value e.ops n f (equality zs)) (length-map claim.point N)
    ∙ sym (ap (λ s. true_value e.ops (length claim.point) f (claim_kind s zs)) c.if-claim.false)
