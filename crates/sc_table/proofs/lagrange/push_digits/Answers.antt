use Rattle.std.proofs.Common.{◌≡◌, length, ◌∙◌, ap}
use Rattle.sc_definitions.specs.Ring.{minus}
use Rattle.sc_table.proofs.PlaceLaws.{digits-added}
use Rattle.sc_table.proofs.lagrange.push_digits.Goals as goal

pub returns-clause-digits : goal.returns-clause-digits
returns-clause-digits g c =
    let f = g.F.Field in
    let one : f.number c.ONE.result ≡ 1 = ap f.number c.ONE.ensures ∙ g.met.F.Field.one_is in
    let third : c.len-third.result ≡ length c.args.weights.now.items = c.len-third.ensures ∙ c.args.weights.now.ok.0 in
    digits-added f.ops g.met.F.Field.is_field.ring f.number c.args.weights.now.items c.push_weighted.new.weights.items
    c.push_multiples.new.items.items c.len-third.result (f.number c.args.r) (f.number c.sub.result)
    third c.push_weighted.ensures.size (c.sub.ensures ∙ ap (minus f.ops (f.number c.args.r)) one) c.push_weighted.ensures.low
    c.push_weighted.ensures.high c.push_multiples.ensures.kept
    c.push_multiples.ensures.added
