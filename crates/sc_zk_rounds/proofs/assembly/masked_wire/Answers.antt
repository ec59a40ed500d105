use Rattle.std.proofs.Common.{◌≡◌, ◌++◌, ◌∷◌, [], ◌-◌, length, take, drop, map, length-drop, sym, ap, ◌∙◌}
use Rattle.std.proofs.Math.Seq.{take-length}
use Rattle.sc_definitions.specs.Polynomials.{poly_scaled}
use Rattle.sc_definitions.specs.Ring.{plus, times}
use Rattle.sc_zk_definitions.specs.Masks.{piece}
use Rattle.sc_zk_rounds.proofs.AssemblyLaws.{wire-made, wire-length}
use Rattle.sc_zk_rounds.proofs.assembly.masked_wire.Goals as goal

pub returns-clause-wire : goal.returns-clause-wire
returns-clause-wire g c =
    let f = g.EF.Field in
    let o = f.ops in
    let x : f.number c.add-2.result ≡ plus o (plus o (times o (f.number c.args.factor) (f.number c.index-mask-0.result)) (f.number c.args.constant)) (times o (f.number c.args.eps) (f.number c.args.c0)) =
    c.add-2.ensures ∙ ap (λ v. plus o v (f.number c.mul-2.result)) (c.add.ensures ∙ ap (λ v. plus o v (f.number c.args.constant)) c.mul.ensures)
    ∙ ap (λ v. plus o (plus o (times o (f.number c.args.factor) (f.number c.index-mask-0.result)) (f.number c.args.constant)) v) c.mul-2.ensures in
    let y : f.number c.add-3.result ≡ plus o (times o (f.number c.args.factor) (f.number c.index-mask-2.result)) (times o (f.number c.args.eps) (f.number c.args.c_inf)) =
    c.add-3.ensures ∙ ap (λ v. plus o v (f.number c.mul-4.result)) c.mul-3.ensures
    ∙ ap (λ v. plus o (times o (f.number c.args.factor) (f.number c.index-mask-2.result)) v) c.mul-4.ensures in
    let mask = c.args.mask.now in
    let whole : take (length mask - 3) (drop 3 mask) ≡ drop 3 mask = ap (λ n. take n (drop 3 mask)) (sym (length-drop 3 mask)) ∙ take-length (drop 3 mask) in
    wire-made o g.met.EF.Field.is_field.ring f.number (f.number c.args.factor) (f.number c.args.constant) (f.number c.args.eps) (piece (f.number c.args.c0) (f.number c.args.c_inf))
    c.args.mask.now c.index-mask-0.result c.index-mask-2.result c.add-2.result c.add-3.result c.push.new.self.items c.push-2.new.self.items _ c.requires
    c.index-mask-0.is c.index-mask-2.is x y (c.in_ok-push.ensures.items ∙ ap (λ l. l ++ c.add-2.result ∷ []) c.new-wire.ensures.items) c.in_ok-push-2.ensures.items (c.in_ok-push_scaled.ensures ∙ ap (λ l. map f.number c.push-2.new.self.items ++ poly_scaled o (f.number c.args.factor) (map f.number l)) whole)

-- two values, and those of the mask after its first three
pub returns-clause-count : goal.returns-clause-count
returns-clause-count g c =
    let f = g.EF.Field in
    let o = f.ops in
    let mask = c.args.mask.now in
    let whole : take (length mask - 3) (drop 3 mask) ≡ drop 3 mask = ap (λ n. take n (drop 3 mask)) (sym (length-drop 3 mask)) ∙ take-length (drop 3 mask) in
    wire-length o g.met.EF.Field.is_field.ring f.number (f.number c.args.factor) mask c.add-2.result c.add-3.result c.push.new.self.items c.push-2.new.self.items c.push_scaled.new.wire.items c.requires
    (c.in_ok-push.ensures.items ∙ ap (λ l. l ++ c.add-2.result ∷ []) c.new-wire.ensures.items) c.in_ok-push-2.ensures.items
    (c.in_ok-push_scaled.ensures ∙ ap (λ l. map f.number c.push-2.new.self.items ++ poly_scaled o (f.number c.args.factor) (map f.number l)) whole)
