use Rattle.std.proofs.Common.{◌≡◌, ◌<◌, ◌^◌, length, map, sym, ◌∙◌, ap, subst}
use Rattle.std.specs.Prelude.{◌==◌}
use Rattle.std.proofs.lemmas.List.{length-map}
use Rattle.sc_definitions.specs.Tables.{value}
use Rattle.sc_definitions.proofs.TableLaws.{value-same}
use Rattle.sc_table.specs.Polys.{variables_of}
use Rattle.sc_transcript.specs.Data.{wire_in}
use Rattle.sc_merge_definitions.specs.QuadraticPlays.{finding_where}
use Rattle.sc_merge_definitions.specs.Matrices.{MatmulCase, left_table, right_table, false_entry}
use Rattle.sc_matmul.specs.FittingClaims.{case_by}
use Rattle.sc_matmul.specs.MatmulPlays.{played_luck}
use Rattle.sc_matmul.proofs.ReplayLaws.{figures-are}
use Rattle.sc_matmul.proofs.BuildLaws.{pair-made}
use Rattle.sc_matmul.proofs.checking.report_on.Goals as goal

pub returns : goal.returns
returns g c = λ at played.
    let B = g.F.Field.number in
    let N = g.EF.Field.number in
    let o = g.EF.Field.ops in
    let q : MatmulCase = case_by c.args.fitting.now at in
    let w = wire_in B N c.args.played.rounds in
    let rs = map N c.args.played.challenges in
    let left_rows = c.in_ok-left_rows.left_rows in
    let right_rows = c.in_ok-right_rows.right_rows in
    let size = length-map c.args.played.challenges N ∙ c.requires.challenges in
    let left_size : length rs ≡ variables_of left_rows = size ∙ sym c.in_ok-left_rows.ensures.variables in
    let right_size : length rs ≡ variables_of right_rows = size ∙ sym c.in_ok-right_rows.ensures.variables in
    let left_at : N c.eval-left.result ≡ value o (left_table q) rs =
    c.eval-left.ensures ∙ value-same o _ (left_table q) rs (λ b low. c.in_ok-left_rows.ensures.table at played.point b (subst (λ k. b < 2 ^ k) left_size low)) in
    let right_at : N c.eval-right.result ≡ value o (right_table q) rs =
    c.eval-right.ensures ∙ value-same o _ (right_table q) rs (λ b low. c.in_ok-right_rows.ensures.table at played.point b (subst (λ k. b < 2 ^ k) right_size low)) in
    let made = c.new_unpacked-pair.ensures in
    let pair = pair-made N q c.new_unpacked-pair.result left_rows right_rows c.in_ok-left_rows.ensures.variables c.in_ok-right_rows.ensures.variables made.variables made.basis made.order
    made.evals made.weights (c.in_ok-left_rows.ensures.table at played.point) (c.in_ok-right_rows.ensures.table at played.point) in
    let luck = played_luck B N q c.args.played in
    let residual = N c.args.played.residual in
    let found = c.in_ok-verdict.ensures at (record { played = played; pair_is = pair })
    ∙ ap (λ k. finding_where (k == c.index-2.result) (false_entry q) luck) c.index.ensures
    ∙ ap (λ k. finding_where (residual == k) (false_entry q) luck) (c.index-2.ensures ∙ c.mul.ensures) in
    figures-are q w c.requires.counted played.point played.claim played.challenges played.residual left_at right_at found
