use Rattle.std.proofs.Common.{◌≡◌, length, map}
use Rattle.sc_definitions.specs.Ring.{power}
use Rattle.sc_definitions.specs.Statements.{batched_by_powers}
use Rattle.sc_tables_statements_tests.proofs.tests.statements.batched_at.Given as goal

abbrev pub invariant-loop-weight : goal.invariant-loop-weight
invariant-loop-weight g l =
    let f = g.EF.Field in
    record {
      can : (goal.iterator-loop-weight g).can_next l.weight-iterator;
      finite : (goal.iterator-loop-weight g).is_finite l.weight-iterator;
      summed : f.number l.sum ≡ batched_by_powers f.ops (f.number l.challenge) 0 (map f.number l.yielded);
      next : f.number l.coefficient ≡ power f.ops (f.number l.challenge) (length l.yielded);
    }
