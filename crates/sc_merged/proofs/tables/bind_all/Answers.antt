use Rattle.std.proofs.Common.{◌<◌, sym, subst, arith}
use Rattle.sc_merged.specs.WeightedPolys.{arity_in}
use Rattle.sc_merged.proofs.BoundLaws.{bound-none, bound-more}
use Rattle.sc_merged.proofs.tables.bind_all.Goals as goal

pub loop-pair-init : goal.loop-pair-init
loop-pair-init g c = bound-none g.EF.Field.ops g.EF.Field.number (g.EF.Field.number c.args.r) c.args.pairs.now

pub bind-requires : goal.bind-requires
bind-requires g c =
    let i = c.loop-pair.pair-index in
    let d = c.pair-item.result in
    subst (λ p. 0 < arity_in p) (sym (c.loop-pair.invariant.left i d (omega arith))) (c.requires i d (omega (arith, c.loop-pair-test.true)))

pub loop-pair-preserved : goal.loop-pair-preserved
loop-pair-preserved g c =
    let e = g.EF.Field in
    bound-more e.ops e.number (e.number c.args.r) c.loop-pair.pair-index c.args.pairs.now c.loop-pair.pairs c.bind.new.self c.pair-item.result
    (omega (arith, c.loop-pair-test.true, c.loop-pair.auto.pairs)) c.loop-pair.invariant (record { fewer = c.bind.ensures.fewer; bound = c.bind.ensures.bound })
