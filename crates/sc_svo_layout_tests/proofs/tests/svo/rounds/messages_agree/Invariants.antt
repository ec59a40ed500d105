use Rattle.std.proofs.Common.{◌≡◌, ◌+◌}
use Rattle.sc_table.specs.Polys.{variables_of}
use Rattle.sc_svo_layout_tests.proofs.tests.svo.rounds.messages_agree.Given as goal

abbrev pub invariant-loop-j : goal.invariant-loop-j
invariant-loop-j g l =
    (variables_of l.weights ≡ variables_of l.evals)
    × (l.j + variables_of l.evals ≡ variables_of l.initial.evals)
