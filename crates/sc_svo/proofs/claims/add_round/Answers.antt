use Rattle.std.proofs.Common.{◌≡◌, suc, ◌+◌, ◌^◌, ◌<◌, length, map, ◌∙◌, ap, sym, subst, refl, arith}
use Rattle.std.proofs.lemmas.Result.{on_ok_weaker}
use Rattle.sc_definitions.specs.Ring.{times}
use Rattle.sc_definitions.specs.Tables.{entries, equality_weight}
use Rattle.sc_definitions.specs.Partials.{kept_of}
use Rattle.sc_table.specs.Strategy.{order_of}
use Rattle.sc_svo.proofs.ClaimLaws.{grid-same, adds-as}
use Rattle.sc_svo.proofs.claims.add_round.Goals as goal

pub returns : goal.returns
returns g c =
    let e = g.EF.Field in
    let next : c.args.before + 1 ≡ suc c.args.before = omega arith in
    let none : suc c.args.before + 0 ≡ c.args.before + 1 = omega arith in
    let size : length c.kept_of-kept.result.now ≡ c.args.before + 1 = c.kept_of-kept.ensures.size in
    on_ok_weaker c.add_products.result
    (adds-as e.number e.ops c.args.before _ _ c.args.sums.now c.add_products.new.sums
    (grid-same (order_of c.args.order) e.ops (entries e.number c.args.partial.now) (entries e.number c.args.partial.now) _ _ c.args.before 0 (λ b low. refl)
    (λ b low. ap (λ t. t b) c.as_slice.ensures.numbers ∙ c.in_ok-weights.ensures.table b (subst (λ n. b < 2 ^ n) (none ∙ sym size) low)
    ∙ ap (λ zs. times e.ops (e.number c.args.coefficient) (equality_weight e.ops zs b)) (c.kept_of-kept.ensures.kept ∙ ap (λ n. kept_of (order_of c.args.order) n (map e.number c.args.near.now)) next))))
    c.add_products.ensures.added
