use Rattle.std.proofs.Common.{◌≡◌, ℕ, ◌∷◌, length, map, sym, ◌∙◌, ap, subst}
use Rattle.std.proofs.lemmas.List.{length-map}
use Rattle.std.proofs.lemmas.Slice.Zip.{Zip-more, either_empty_from_Zip}
use Rattle.sc_definitions.specs.Ring.{plus, times, minus}
use Rattle.sc_definitions.proofs.Maps.{map-minus}
use Rattle.sc_weights.proofs.ProductSteps.{IsPassed, passed-none, passed-more, passed-all}
use Rattle.sc_weights.proofs.values.products_at.Goals as goal

pub loop-z_i-init : goal.loop-z_i-init
loop-z_i-init g c =
    let f = g.EF.Field in
    let met = g.met.EF.Field in
    let of : g.row.F.Denot → ℕ = λ x. g.EF.Algebra.embedding (g.F.Field.number x) in
    let first : c.into_iter-z_i-iterator.result.a.rest.now ≡ c.args.z.now = cc in
    let second : c.into_iter-z_i-iterator.result.b.rest.now ≡ c.args.x.now = cc in
    let zs = map of c.args.z.now in
    let xs = map f.number c.args.x.now in
    let size : length zs ≡ length xs = length-map c.args.z.now of ∙ c.requires ∙ sym (length-map c.args.x.now f.number) in
    let product = f.number c.ONE-product.result in
    subst (λ l. IsPassed f.ops zs xs (map of l) (map f.number c.into_iter-z_i-iterator.result.b.rest.now) product) (sym first)
    (subst (λ l. IsPassed f.ops zs xs zs (map f.number l) product) (sym second)
    (passed-none f.ops met.is_field.ring zs xs product size (ap f.number c.ONE-product.ensures ∙ met.one_is)))

pub loop-z_i-preserved : goal.loop-z_i-preserved
loop-z_i-preserved g c =
    let f = g.EF.Field in
    let met = g.met.EF.Field in
    let base = g.met.F.Field in
    let l = c.loop-z_i in
    let embeds = g.met.EF.Algebra.embeds in
    let embed = g.EF.Algebra.embedding in
    let of : g.row.F.Denot → ℕ = λ x. embed (g.F.Field.number x) in
    let z = c.in-Some.z_i.now in
    let x = f.number c.in-Some.x_i.now in
    let zs = map of c.next.new.self.a.rest.now in
    let xs = map f.number c.next.new.self.b.rest.now in
    let all_z = map of c.args.z.now in
    let all_x = map f.number c.args.x.now in
    let parts = Zip-more l.z_i-iterator c.next.new.self _ (c.in-Some.z_i, c.in-Some.x_i) c.in-Some.is c.next.ensures.steps in
    let one : f.number c.ONE.result ≡ 1 = ap f.number c.ONE.ensures ∙ met.one_is in
    let one' : g.F.Field.number c.ONE-in-loop-z_i.result ≡ 1 = ap g.F.Field.number c.ONE-in-loop-z_i.ensures ∙ base.one_is in
    let less : embed (g.F.Field.number c.sub.result) ≡ minus f.ops (of z) 1 =
    ap embed c.sub.ensures ∙ map-minus g.F.Field.ops f.ops base.is_field.ring met.is_field.ring embed embeds (g.F.Field.number z) (g.F.Field.number c.ONE-in-loop-z_i.result) (base.number_below z) (base.number_below c.ONE-in-loop-z_i.result)
    ∙ ap (minus f.ops (of z)) (ap embed one' ∙ embeds.one_kept) in
    let so_far : IsPassed f.ops all_z all_x (of z ∷ zs) (x ∷ xs) (f.number l.product) =
    subst (λ t. IsPassed f.ops all_z all_x (of z ∷ zs) (map f.number t) (f.number l.product)) parts.1
    (subst (λ t. IsPassed f.ops all_z all_x (map of t) (map f.number l.z_i-iterator.b.rest.now) (f.number l.product)) parts.0 l.invariant) in
    passed-more f.ops met.is_field.ring all_z all_x zs xs (of z) x _ _ so_far
    (c.mul-product.ensures ∙ ap (times f.ops (f.number l.product)) (c.add-factor.ensures ∙ ap (λ k. plus f.ops k (f.number c.mul_base.result)) one ∙ ap (plus f.ops 1) (c.mul_base.ensures ∙ ap (times f.ops x) less)))

pub returns : goal.returns
returns g c =
    let f = g.EF.Field in
    let met = g.met.EF.Field in
    let l = c.loop-z_i in
    let of : g.row.F.Denot → ℕ = λ x. g.EF.Algebra.embedding (g.F.Field.number x) in
    let none = either_empty_from_Zip l.z_i-iterator c.next.new.self _ c.in-None.is c.next.ensures.steps in
    passed-all f.ops met.is_field.ring of f.number (map of c.args.z.now) (map f.number c.args.x.now) l.z_i-iterator.a.rest.now l.z_i-iterator.b.rest.now
    (f.number l.product) (met.number_below l.product) none l.invariant
