use Rattle.std.proofs.Common.{◌-◌, ◌≤◌}
use Rattle.sc_definitions.specs.Tables.{projective, prefix, entries}
use Rattle.sc_definitions.proofs.LoopLaws.{IsMessageSoFar}
use Rattle.sc_table.proofs.strategy.sumcheck_coefficients_prefix_projective.Given as goal

abbrev pub invariant-loop-from : goal.invariant-loop-from
invariant-loop-from g l =
    let a = g.A.Field in
    record {
      within : l.from ≤ l.half;
      so_far : IsMessageSoFar projective prefix a.ops l.half l.from (entries (λ x. g.A.Algebra.embedding (g.B.Field.number x)) l.evals) (entries a.number l.weights)
          (a.number l.message.c_a) (a.number l.message.c_inf);
    }

abbrev pub decreases-loop-from : goal.decreases-loop-from
decreases-loop-from g l = l.half - l.from
