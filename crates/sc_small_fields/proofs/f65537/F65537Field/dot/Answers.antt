use Rattle.std.proofs.Common.{◌≡◌, length, refl, sym, ◌∙◌, arith}
use Rattle.std.proofs.Math.Nat.{mod-eq_of_lt}
use Rattle.sc_definitions.specs.Residues.{residues}
use Rattle.sc_definitions.proofs.LoopLaws.{entry-read}
use Rattle.sc_field.proofs.DotLaws.{products-none, products-all}
use Rattle.sc_small_fields.proofs.DelayedLaws.{delayed-more, product-most}
use Rattle.sc_small_fields.proofs.f65537.F65537Field.dot.Goals as goal

pub loop-i-init : goal.loop-i-init
loop-i-init c = record { total = products-none (residues 65537) _ _ 0 refl; few = omega arith }

pub overflow_add-sum : goal.overflow_add-sum
overflow_add-sum c =
    let x = c.index-xs-i.result in
    let y = c.index-ys-i.result in
    let most = product-most x.value y.value (omega (arith, x.below)) (omega (arith, y.below)) in
    omega (arith, most, c.loop-i.invariant.few, c.requires.few)

pub loop-i-preserved : goal.loop-i-preserved
loop-i-preserved c =
    let i = c.loop-i.i in
    let x = c.index-xs-i.result in
    let y = c.index-ys-i.result in
    let left = entry-read (λ x. x.value) c.args.xs.now i x (omega arith) c.index-xs-i.is in
    let right = entry-read (λ x. x.value) c.args.ys.now i y (omega arith) c.index-ys-i.is in
    let most = product-most x.value y.value (omega (arith, x.below)) (omega (arith, y.below)) in
    record {
      total = delayed-more _ _ i c.loop-i.sum x.value y.value c.loop-i.invariant.total (mod-eq_of_lt x.below ∙ sym left) (mod-eq_of_lt y.below ∙ sym right);
      few = omega (arith, most, c.loop-i.invariant.few);
    }

pub returns : goal.returns
returns c =
    let done : c.loop-i.i ≡ length c.args.xs.now = omega (arith, c.loop-i.auto, c.loop-i-test) in
    c.reduced.ensures ∙ products-all (residues 65537) _ _ done c.loop-i.invariant.total
