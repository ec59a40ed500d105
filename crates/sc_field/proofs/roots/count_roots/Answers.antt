use Rattle.std.proofs.Common.{◌≡◌, ◌≤◌, ◌==◌, map, sym, ap, subst, ◌∙◌, if◌then◌else◌, arith}
use Rattle.sc_definitions.specs.Polynomials.{poly_at}
use Rattle.sc_definitions.proofs.RootCount.{root_count-bound, count-none}
use Rattle.sc_field.proofs.RootLaws.{counted-next, counted-all, all-tried}
use Rattle.sc_field.proofs.roots.count_roots.Goals as goal

pub loop-i-init : goal.loop-i-init
loop-i-init g c = record { counted = count-none _; few = omega arith }

-- one element more is tried
pub loop-i-2-preserved : goal.loop-i-2-preserved
loop-i-2-preserved g c =
    let f = g.F.Field in
    let cs = map f.number c.args.coeffs.now in
    let value : f.number c.poly_at.result ≡ poly_at f.ops cs c.loop-i-2.i = c.poly_at.ensures ∙ ap (poly_at f.ops cs) c.element.ensures in
    let one = c.one_for_zero-count.ensures.one ∙ ap (λ v. if v == 0 then 1 else 0) value in
    let few = c.loop-i-2.invariant.few in
    let least : c.one_for_zero-count.result ≤ 1 = c.one_for_zero-count.ensures.few in
    record { counted = counted-next f.ops cs c.loop-i-2.i c.loop-i-2.count c.one_for_zero-count.result c.loop-i-2.invariant.counted one; few = omega (arith, few, least) }

pub returns-clause-count : goal.returns-clause-count
returns-clause-count g c =
    let f = g.F.Field in
    counted-all f.ops (map f.number c.args.coeffs.now) c.loop-i-2.i c.loop-i-2.count c.loop-i-2.invariant.counted
    (all-tried _ _ _ _ c.size-fours.ensures c.size-i-end.ensures c.loop-i-2-test.false c.loop-i-2.auto.i-end)

pub returns-clause-bounded : goal.returns-clause-bounded
returns-clause-bounded g c p last =
    let f = g.F.Field in
    let cs = map f.number c.args.coeffs.now in
    subst (λ n. n ≤ p) (sym (counted-all f.ops cs c.loop-i-2.i c.loop-i-2.count c.loop-i-2.invariant.counted
    (all-tried _ _ _ _ c.size-fours.ensures c.size-i-end.ensures c.loop-i-2-test.false c.loop-i-2.auto.i-end)))
    (root_count-bound f.ops g.met.F.Field.is_field cs p last)
