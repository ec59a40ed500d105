use Rattle.std.proofs.Common.{◌≡◌, ℕ, suc, ◌+◌, [], ◌∷◌, ◌++◌, length, map, sym, ◌∙◌, ap, refl, arith}
use Rattle.std.proofs.lemmas.List.{length-append, length-map, map_push}
use Rattle.sc_definitions.specs.Ring.{Ops, plus, times, power}
use Rattle.sc_definitions.specs.Statements.{batched_by_powers}
use Rattle.sc_definitions.proofs.RingLaws.{times_comm}
use Rattle.sc_definitions.proofs.Power.{power-zero, power-suc}
use Rattle.sc_definitions.proofs.StatementLaws.{batched_by_powers-append}
use Rattle.sc_tables_statements_tests.proofs.tests.statements.batched_at.Goals as goal

batched_by_powers-none : (o : Ops) (c p : ℕ) → batched_by_powers o c p [] ≡ 0
unfolding batched_by_powers
batched_by_powers-none o c p = refl

pub loop-weight-init : goal.loop-weight-init
loop-weight-init g c =
    let f = g.EF.Field in
    let met = g.met.EF.Field in
    record {
      can = tt;
      finite = tt;
      summed = ap f.number c.ZERO-sum.ensures ∙ met.zero_is ∙ sym (batched_by_powers-none f.ops (f.number c.args.challenge) 0);
      next = ap f.number c.ONE-coefficient.ensures ∙ met.one_is ∙ sym (power-zero f.ops met.is_field.ring (f.number c.args.challenge));
    }

pub loop-weight-preserved : goal.loop-weight-preserved
loop-weight-preserved g c =
    let f = g.EF.Field in
    let ring = g.met.EF.Field.is_field.ring in
    let x = f.number c.args.challenge in
    let inv = c.loop-weight.invariant in
    let given = c.loop-weight.yielded in
    let weight = c.in-Some.weight in
    let place : length given ≡ 0 + length (map f.number given) = omega (arith, length-map given f.number) in
    let more : suc (length given) ≡ length (given ++ weight ∷ []) = omega (arith, length-append given (weight ∷ [])) in
    let term : f.number c.mul.result ≡ times f.ops (power f.ops x (length given)) (f.number weight) =
    c.mul.ensures ∙ ap (λ k. times f.ops k (f.number weight)) inv.next in
    record {
      can = tt;
      finite = tt;
      summed = c.add-sum.ensures ∙ ap (λ s. plus f.ops s (f.number c.mul.result)) inv.summed
          ∙ ap (plus f.ops (batched_by_powers f.ops x 0 (map f.number given))) (term ∙ ap (λ k. times f.ops (power f.ops x k) (f.number weight)) place)
          ∙ sym (batched_by_powers-append f.ops ring x 0 (map f.number given) (f.number weight))
          ∙ ap (batched_by_powers f.ops x 0) (sym (map_push f.number given weight));
      next = c.mul-coefficient.ensures ∙ ap (λ k. times f.ops k x) inv.next ∙ times_comm f.ops ring (power f.ops x (length given)) x
          ∙ sym (power-suc f.ops x (length given)) ∙ ap (power f.ops x) more;
    }
