use Rattle.std.proofs.Common.{◌≡◌, ◌+◌, ◌*◌, ◌^◌, ◌∙◌, ap, refl, arith}
use Rattle.std.proofs.Math.Nat.{pow-suc, pow-le-pow_right}
use Rattle.sc_partials.proofs.SumLaws.{zeros-none, zeros-more}
use Rattle.sc_partials.proofs.sums.empty_sums.Goals as goal

pub loop-i-init : goal.loop-i-init
loop-i-init g c = (
  refl,
  λ order n f. zeros-none g.EF.Field.number g.EF.Field.ops g.met.EF.Field.is_field.ring order n f _ c.in_ok-sums.ensures.empty,
)

pub overflow_mul-places : goal.overflow_mul-places
overflow_mul-places g c =
    let most = pow-le-pow_right {n = 3} (omega arith) {i = c.loop-i.i} {j = 12} (omega (arith, c.loop-i-test.true, c.requires)) in
    let all : 3 ^ 12 ≡ 531441 = refl in
    omega (arith, most, all, c.loop-i.invariant.0)

pub loop-i-preserved : goal.loop-i-preserved
loop-i-preserved g c =
    let e = g.EF.Field in
    let more : 3 ^ (c.loop-i.i + 1) ≡ 3 ^ c.loop-i.i * 3 = ap (λ n. 3 ^ n) (omega arith) ∙ pow-suc 3 c.loop-i.i in
    let size = c.in_ok-zeros.ensures in (
      omega (arith, more, c.loop-i.invariant.0),
      λ order n f. zeros-more e.number e.ops g.met.EF.Field.is_field.ring order n f c.loop-i.i c.loop-i.sums.items _ c.in_ok-zeros.field-0 (c.loop-i.invariant.1 order n f)
          (record { zero = size.size ∙ c.loop-i.invariant.0; infinity = size.infinity_size ∙ c.loop-i.invariant.0 }) size.zero size.infinity c.in_ok-push.ensures.items,
    )
