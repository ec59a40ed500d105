use Rattle.std.proofs.Common.{◌≡◌, ◌+◌, length, map}
use Rattle.sc_degree.specs.Products.{tables_of, product_arity}
use Rattle.sc_degree.proofs.TurnLaws.{Finds}
use Rattle.sc_degree.proofs.turns.find_turn.Given as goal

abbrev pub invariant-loop-i : goal.invariant-loop-i
invariant-loop-i g l =
    let e = g.EF.Field in
    let N = e.number in
    record {
      left : product_arity l.product + l.i ≡ length l.challenges;
      degree : length (tables_of N l.product) ≡ length (tables_of N l.fn.product);
      finds : Finds e.ops (tables_of N l.fn.product) (product_arity l.fn.product) (tables_of N l.product) (product_arity l.product) (N l.fn.claim) (N l.claim) (N l.truth) l.i
          (map (λ m. map N m.items) l.messages) (map N l.challenges);
    }
