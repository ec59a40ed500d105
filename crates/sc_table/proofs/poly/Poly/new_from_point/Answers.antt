use Rattle.std.proofs.Common.{◌≡◌, ◌+◌, ◌^◌, ◌≤◌, ◌++◌, [], ◌∷◌, length, sym, ◌∙◌, ap, refl, subst, arith}
use Rattle.std.proofs.lemmas.Result.{IfOk-from_err}
use Rattle.sc_definitions.proofs.RingLaws.{element-small}
use Rattle.sc_table.proofs.PowerLaws.{one-shifted}
use Rattle.sc_table.proofs.WeightLaws.{IsWeighted, weighted-none, weighted-more, weighted-room, weighted-all}
use Rattle.sc_table.proofs.poly.Poly.new_from_point.Goals as goal

pub loop-z_i-init : goal.loop-z_i-init
loop-z_i-init g c =
    let a = g.A.Field in
    let ring = g.met.A.Field.is_field.ring in
    let all = c.args.z.now in
    let scale = a.number c.args.scale in
    let items = c.push_reserved.new.self.items in
    let rest_is : c.into_iter-z_i-iterator.result.iter.rest.now ≡ all = cc in
    let one : items ≡ c.args.scale ∷ [] = c.push_reserved.ensures.items ∙ ap (λ l. l ++ c.args.scale ∷ []) c.in_ok-evals.ensures.items in
    record {
      can_next = tt;
      ends = tt;
      weighted = subst (λ rest. IsWeighted a.number a.ops scale all rest items) (sym rest_is)
          (weighted-none a.number a.ops ring scale all c.args.scale items one refl (element-small a.ops ring scale (g.met.A.Field.number_below c.args.scale)));
      room = c.push_reserved.ensures.capacity ∙ c.in_ok-evals.ensures.exact ∙ one-shifted (length all) c.requires;
    }

pub push_weighted-requires : goal.push_weighted-requires
push_weighted-requires g c =
    let a = g.A.Field in
    let all = c.args.z.now in
    let e = c.loop-z_i.evals in
    let so_far = subst (λ rest. IsWeighted a.number a.ops (a.number c.args.scale) all rest e.items) c.in-Some.ensures.steps c.loop-z_i.invariant.weighted in
    let fits : length e.items + length e.items ≤ 2 ^ length all =
    weighted-room a.number a.ops (a.number c.args.scale) all c.next.new.self.iter.rest.now c.in-Some.z_i.now e.items so_far in
    omega (arith, fits, e.ok.0, c.loop-z_i.invariant.room)

pub loop-z_i-preserved : goal.loop-z_i-preserved
loop-z_i-preserved g c =
    let a = g.A.Field in
    let all = c.args.z.now in
    let e = c.loop-z_i.evals in
    let so_far = subst (λ rest. IsWeighted a.number a.ops (a.number c.args.scale) all rest e.items) c.in-Some.ensures.steps c.loop-z_i.invariant.weighted in
    record {
      can_next = tt;
      ends = tt;
      weighted = weighted-more a.number a.ops g.met.A.Field.is_field.ring (a.number c.args.scale) all c.next.new.self.iter.rest.now e.items c.in-Some.z_i.now
          c.push_weighted.new.weights.items so_far c.push_weighted.ensures.size c.push_weighted.ensures.low c.push_weighted.ensures.high;
      room = c.push_weighted.ensures.room ∙ c.loop-z_i.invariant.room;
    }

pub invariant_of-result : goal.invariant_of-result
invariant_of-result g c =
    let a = g.A.Field in
    let rest = c.loop-z_i.z_i-iterator.iter.rest.now in
    let all = weighted-all a.number a.ops (a.number c.args.scale) c.args.z.now rest c.loop-z_i.evals.items c.in-None.ensures.steps.0 c.loop-z_i.invariant.weighted in
    record { sized = c.loop-z_i.evals.ok.0 ∙ all.0 }

pub returns-clause-table : goal.returns-clause-table
returns-clause-table g c =
    let a = g.A.Field in
    let rest = c.loop-z_i.z_i-iterator.iter.rest.now in
    let all = weighted-all a.number a.ops (a.number c.args.scale) c.args.z.now rest c.loop-z_i.evals.items c.in-None.ensures.steps.0 c.loop-z_i.invariant.weighted in
    all.1

-- a refusal tells nothing of an answer
pub returns-in_err-evals-clause-variables : goal.returns-in_err-evals-clause-variables
returns-in_err-evals-clause-variables g c = IfOk-from_err c.from_residual.result _ c.from_residual.ensures.0

pub returns-in_err-evals-clause-table : goal.returns-in_err-evals-clause-table
returns-in_err-evals-clause-table g c = IfOk-from_err c.from_residual.result _ c.from_residual.ensures.0
