use Rattle.std.proofs.Common.{◌≡◌, None, length, map, sym, ◌∙◌, ap, arith}
use Rattle.sc_soundness.specs.Differences.{first_difference}
use Rattle.sc_transcript.specs.Data.{wire_in}
use Rattle.sc_merge_definitions.specs.Matrices.{MatmulCase, false_entry}
use Rattle.sc_matmul.specs.FittingClaims.{case_by}
use Rattle.sc_matmul.specs.MatmulReports.{result_in}
use Rattle.sc_matmul.proofs.SideLaws.{fit-by}
use Rattle.sc_matmul.proofs.AuditLaws.{as-many, entry-none}
use Rattle.sc_matmul.proofs.BuildLaws.{built-counted, built-answered}
use Rattle.sc_matmul.proofs.building.build.Goals as goal

pub product_of-requires-clause-few : goal.product_of-requires-clause-few
product_of-requires-clause-few g c = (fit-by c.args.fitting.now).inner_most

pub product_of-requires-clause-rows : goal.product_of-requires-clause-rows
product_of-requires-clause-rows g c = (fit-by c.args.fitting.now).rows_most

pub product_of-requires-clause-cols : goal.product_of-requires-clause-cols
product_of-requires-clause-cols g c = (fit-by c.args.fitting.now).cols_most

pub check_entries-requires-clause-some : goal.check_entries-requires-clause-some
check_entries-requires-clause-some g c =
    let fit = fit-by c.args.fitting.now in
    omega (arith, fit.cols_some, fit.cols_same)

pub check_entries-requires-clause-same : goal.check_entries-requires-clause-same
check_entries-requires-clause-same g c =
    as-many c.args.fitting.now c.in_ok-product.product.items c.in_ok-product.ensures ∙ sym (ap length c.deref.ensures.value)

pub replay_at-requires-clause-counted : goal.replay_at-requires-clause-counted
replay_at-requires-clause-counted g c =
    let B = g.F.Field.number in
    let N = g.EF.Field.number in
    let q : MatmulCase = case_by c.args.fitting.now (g.C.Challenger.party c.args.challenger.now) in
    built-counted q g.met.EF.Field.is_field.ring (wire_in B N c.in_ok-built.built.rounds) c.in_ok-built.ensures.1

-- what was built is answered as a build
pub returns-clause-answered : goal.returns-clause-answered
returns-clause-answered g c =
    let B = g.F.Field.number in
    let N = g.EF.Field.number in
    let fitting = c.args.fitting.now in
    let q : MatmulCase = case_by fitting (g.C.Challenger.party c.args.challenger.now) in
    let none : false_entry q ≡ None =
    sym (ap (first_difference 0 (map B fitting.claimed.now.values.items)) (ap (map B) c.deref.ensures.value ∙ c.in_ok-product.ensures))
    ∙ entry-none fitting.claimed.now.cols _ c.in_ok-check_entries.ensures in
    built-answered q g.met.EF.Field.is_field.ring (wire_in B N c.in_ok-built.built.rounds) c.in_ok-built.ensures.1 none (result_in B N c.replay_at.result)
    (g.C.Challenger.party c.replay_at.new.challenger).history (c.replay_at.ensures.answered (g.C.Challenger.party c.args.challenger.now) c.in_ok-built.ensures.0)
