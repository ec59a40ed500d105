use Rattle.std.proofs.Common.{◌^◌, ◌<◌, ◌∙◌, ap, sym, arith}
use Rattle.sc_table.specs.Polys.{variables_of}
use Rattle.sc_svo_layout_tests.proofs.Sizes.{two_halves}
use Rattle.sc_svo_layout_tests.proofs.tests.svo.rounds.messages_agree.Goals as goal

pub sumcheck_coefficients-wanted-requires-clause-same :
    goal.sumcheck_coefficients-wanted-requires-clause-same
sumcheck_coefficients-wanted-requires-clause-same g c =
    c.as_slice.ensures.size
    ∙ ap (λ v. 2 ^ v) (sym c.loop-j.invariant.0)
    ∙ sym c.as_slice-in-loop-j.ensures.size

pub sumcheck_coefficients-wanted-requires-clause-even :
    goal.sumcheck_coefficients-wanted-requires-clause-even
sumcheck_coefficients-wanted-requires-clause-even g c =
    let left : 0 < variables_of c.loop-j.evals = omega (arith, c.requires.variables, c.loop-j.invariant, c.loop-j-test.true) in
    omega (arith, two_halves _ _ left c.as_slice.ensures.size)
