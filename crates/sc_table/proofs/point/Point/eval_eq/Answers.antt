use Rattle.std.proofs.Common.{◌≡◌, ◌∷◌, map, sym, ◌∙◌, ap}
use Rattle.std.proofs.lemmas.Slice.Zip.{Zip-more, either_empty_from_Zip}
use Rattle.sc_definitions.specs.Ring.{plus, times, minus}
use Rattle.sc_definitions.specs.Tables.{eq_product}
use Rattle.sc_definitions.proofs.RingLaws.{element-small}
use Rattle.sc_table.proofs.PointLaws.{eq_product-init, eq_product-more, eq_product-none}
use Rattle.sc_table.proofs.point.Point.eval_eq.Goals as goal

pub loop-z_i-init : goal.loop-z_i-init
loop-z_i-init g c =
    let f = g.EF.Field in
    let first : c.into_iter-z_i-iterator.result.a.rest.now ≡ c.args.z.now = cc in
    let second : c.into_iter-z_i-iterator.result.b.rest.now ≡ c.args.x.now = cc in
    ap (λ l. times f.ops (f.number c.ONE-product.result) (eq_product f.ops (map f.number l) (map f.number c.into_iter-z_i-iterator.result.b.rest.now))) first
    ∙ ap (λ l. times f.ops (f.number c.ONE-product.result) (eq_product f.ops (map f.number c.args.z.now) (map f.number l))) second
    ∙ eq_product-init f.ops g.met.EF.Field.is_field.ring (f.number c.ONE-product.result) (map f.number c.args.z.now) (map f.number c.args.x.now)
    (ap f.number c.ONE-product.ensures ∙ g.met.EF.Field.one_is)

pub loop-z_i-preserved : goal.loop-z_i-preserved
loop-z_i-preserved g c =
    let f = g.EF.Field in
    let ring = g.met.EF.Field.is_field.ring in
    let one : f.number c.ONE.result ≡ 1 = ap f.number c.ONE.ensures ∙ g.met.EF.Field.one_is in
    let one' : f.number c.ONE-in-loop-z_i.result ≡ 1 = ap f.number c.ONE-in-loop-z_i.ensures ∙ g.met.EF.Field.one_is in
    let p = f.number c.loop-z_i.product in
    let z = f.number c.in-Some.z_i.now in
    let x = f.number c.in-Some.x_i.now in
    let zs = map f.number c.next.new.self.a.rest.now in
    let xs = map f.number c.next.new.self.b.rest.now in
    let parts = Zip-more c.loop-z_i.z_i-iterator c.next.new.self _ (c.in-Some.z_i, c.in-Some.x_i) c.in-Some.is c.next.ensures.steps in
    let step : f.number c.mul-product.result ≡ times f.ops p (plus f.ops (times f.ops z x) (times f.ops (minus f.ops 1 z) (minus f.ops 1 x))) =
    cc (c.mul-product.ensures, c.add.ensures, c.mul-both.ensures, c.mul-neither.ensures, c.sub.ensures, c.sub-in-loop-z_i.ensures, one, one') in
    ap (λ k. times f.ops k (eq_product f.ops zs xs)) step
    ∙ eq_product-more f.ops ring p z x zs xs
    ∙ ap (λ l. times f.ops p (eq_product f.ops l (x ∷ xs))) (ap (map f.number) (sym parts.0))
    ∙ ap (λ l. times f.ops p (eq_product f.ops (map f.number c.loop-z_i.z_i-iterator.a.rest.now) l)) (ap (map f.number) (sym parts.1))
    ∙ c.loop-z_i.invariant

pub returns : goal.returns
returns g c =
    let f = g.EF.Field in
    let ring = g.met.EF.Field.is_field.ring in
    let p = c.loop-z_i.product in
    let none = either_empty_from_Zip c.loop-z_i.z_i-iterator c.next.new.self _ c.in-None.is c.next.ensures.steps in
    sym (element-small f.ops ring (f.number p) (g.met.EF.Field.number_below p))
    ∙ sym (eq_product-none f.ops ring (f.number p) f.number c.loop-z_i.z_i-iterator.a.rest.now c.loop-z_i.z_i-iterator.b.rest.now none)
    ∙ c.loop-z_i.invariant
