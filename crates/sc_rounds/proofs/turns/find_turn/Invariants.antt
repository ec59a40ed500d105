use Rattle.std.proofs.Common.{◌≡◌, ℕ, ◌+◌, length, map}
use Rattle.sc_definitions.specs.TwoTables.{TwoTables}
use Rattle.sc_transcript.specs.Data.{pair_of}
use Rattle.sc_rounds.specs.Products.{variables_in, basis_in, order_in, evals_in, weights_in}
use Rattle.sc_rounds.specs.Turns.{IsPairOf}
use Rattle.sc_definitions.proofs.FindLaws.{Finds}
use Rattle.sc_rounds.proofs.turns.find_turn.Given as goal

abbrev pub invariant-loop-i : goal.invariant-loop-i
invariant-loop-i g l =
    let e = g.EF.Field in
    let N = e.number in
    record {
      left : variables_in l.pair + l.i ≡ length l.challenges;
      basis : basis_in l.pair ≡ basis_in l.fn.pair;
      order : order_in l.pair ≡ order_in l.fn.pair;
      finds : (t : TwoTables) (n : ℕ) → IsPairOf N t n l.fn.pair →
          Finds e.ops t (variables_in l.pair) (evals_in N l.pair) (weights_in N l.pair) (N l.fn.claim) (N l.claim) (N l.truth) l.i (map (pair_of N) l.messages) (map N l.challenges);
    }
