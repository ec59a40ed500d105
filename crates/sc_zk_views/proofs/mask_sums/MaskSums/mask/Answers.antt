use Rattle.std.proofs.Common.{◌≡◌, ◌++◌, ◌∷◌, [], ◌-◌, length, take, drop, map, length-drop, sym, ap, ◌∙◌}
use Rattle.std.proofs.Math.Seq.{take-length}
use Rattle.sc_definitions.specs.Polynomials.{poly_scaled}
use Rattle.sc_definitions.specs.Ring.{plus, minus, times}
use Rattle.sc_zk_definitions.specs.Masks.{piece, sum_of}
use Rattle.sc_zk_views.proofs.SumLaws.{mask-made}
use Rattle.sc_zk_views.proofs.mask_sums.MaskSums.mask.Goals as goal

pub returns : goal.returns
returns g c = λ left m.
    let o = g.EF.Field.ops in
    let N = g.EF.Field.number in
    let self = c.args.self.now in
    let wire = c.args.wire.now in
    let plain = c.args.plain in
    let whole : take (length wire - 2) (drop 2 wire) ≡ drop 2 wire = ap (λ n. take n (drop 2 wire)) (sym (length-drop 2 wire)) ∙ take-length (drop 2 wire) in
    let constant : N c.sub-constant.result ≡ minus o (times o (N self.factor) (minus o (N c.index-wire-0.result) (times o (N c.args.eps) (N plain.c0)))) (N c.others.result) =
    cc (c.sub-constant.ensures, c.mul-2.ensures, c.sub.ensures, c.mul.ensures) in
    let square : N c.mul-square.result ≡ times o (N self.factor) (minus o (N c.index-wire-1.result) (times o (N c.args.eps) (N plain.c_inf))) =
    cc (c.mul-square.ensures, c.sub-2.ensures, c.mul-3.ensures) in
    let linear : N c.sub-linear.result ≡ minus o (minus o (N c.args.end) (plus o (N c.sub-constant.result) (N c.sub-constant.result)))
    (plus o (N c.mul-square.result) (times o (N self.factor) (N c.sum.result))) =
    cc (c.sub-linear.ensures, c.sub-3.ensures, c.double.ensures, c.add-higher.ensures, c.mul-4.ensures) in
    mask-made o g.met.EF.Field.is_field.ring N self left m (N c.args.eps) (N c.args.end) (piece (N plain.c0) (N plain.c_inf)) wire c.index-wire-0.result c.index-wire-1.result
    c.sub-constant.result c.sub-linear.result c.mul-square.result (N c.others.result) (N c.sum.result) c.push.new.self.items c.push-2.new.self.items c.push-3.new.self.items _
    c.requires c.index-wire-0.is c.index-wire-1.is c.others.ensures constant square (c.sum.ensures ∙ ap (λ l. sum_of o (map N l)) whole) linear
    (c.in_ok-push.ensures.items ∙ ap (λ l. l ++ c.sub-constant.result ∷ []) c.new-mask.ensures.items) c.in_ok-push-2.ensures.items c.in_ok-push-3.ensures.items
    (c.in_ok-push_scaled.ensures ∙ ap (λ l. map N c.push-3.new.self.items ++ poly_scaled o (N self.factor) (map N l)) whole)
