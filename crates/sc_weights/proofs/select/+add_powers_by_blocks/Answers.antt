use Rattle.std.proofs.Common.{rules, ◌≡◌, ◌+◌, ◌-◌, ◌*◌, ◌^◌, ◌<◌, length, sym, ◌∙◌, ap, subst, arith}
use Rattle.sc_definitions.specs.Ring.{plus, times, power}
use Rattle.sc_definitions.proofs.RingLaws.{times_assoc}
use Rattle.sc_definitions.proofs.LoopLaws.{entry-read}
use Rattle.sc_weights.proofs.Halves.{low-length, high-length, halves-added}
use Rattle.sc_weights.proofs.PowerSteps.{power-behind, power-after, half-rows}
use Rattle.sc_weights.proofs.select.+add_powers_by_blocks.Goals as goal

pub returns-then-halvings-eq0-clause-next : goal.returns-then-halvings-eq0-clause-next
returns-then-halvings-eq0-clause-next g t c =
    let f = g.EF.Field in
    let ring = g.met.EF.Field.is_field.ring in
    let z = g.EF.Algebra.embedding (g.F.Field.number c.args.var) in
    let weights = c.args.weights.now in
    let n = length weights in
    let scale = f.number c.args.scale in
    let last : n - 1 < n = omega (arith, c.requires.some) in
    let size : length c.args.rows.now ≡ n = c.requires.size ∙ ap (λ k. 2 ^ k * n) c.if-halvings-eq0.true ∙ omega arith in
    let read = entry-read f.number weights (n - 1) c.index-weights-weights.result last c.index-weights-weights.is in
    c.mul_base.ensures ∙ ap (λ k. times f.ops k z) (c.mul.ensures ∙ ap (times f.ops scale) (sym read ∙ c.requires.weights (n - 1) last))
    ∙ times_assoc f.ops ring scale (power f.ops z (n - 1)) z ∙ ap (times f.ops scale) (power-after f.ops ring z n c.requires.some ∙ ap (power f.ops z) (sym size))

pub add_powers_by_blocks-between-requires : goal.add_powers_by_blocks-between-requires
add_powers_by_blocks-between-requires g t c κs within =
    let size = half-rows c.args.halvings (length c.args.weights.now) (length c.args.rows.now) (omega (arith, c.if-halvings-eq0.false)) c.requires.size in
    (search rules, (within.0, (within.1, (low-length g.EF.Field.number c.args.rows.now _ size, (c.requires.some, c.requires.weights)))))

pub add_powers_by_blocks-requires : goal.add_powers_by_blocks-requires
add_powers_by_blocks-requires g t c κs within =
    let size = half-rows c.args.halvings (length c.args.weights.now) (length c.args.rows.now) (omega (arith, c.if-halvings-eq0.false)) c.requires.size in (
      search rules,
      (within.0, (within.1, (high-length g.EF.Field.number c.args.rows.now _ size c.add_powers_by_blocks-between.new.rows c.add_powers_by_blocks-between.auto.rows, (c.requires.some, c.requires.weights)))),
    )

pub returns-clause-rows : goal.returns-clause-rows
returns-clause-rows g t c = λ b inside.
    let f = g.EF.Field in
    let ring = g.met.EF.Field.is_field.ring in
    let z = g.EF.Algebra.embedding (g.F.Field.number c.args.var) in
    let rows = c.args.rows.now in
    let scale = f.number c.args.scale in
    let p = 2 ^ (c.args.halvings - 1) * length c.args.weights.now in
    let size : length rows ≡ p + p = half-rows c.args.halvings (length c.args.weights.now) (length rows) (omega (arith, c.if-halvings-eq0.false)) c.requires.size in
    let lows = low-length f.number rows p size in
    let highs = high-length f.number rows p size c.add_powers_by_blocks-between.new.rows c.add_powers_by_blocks-between.auto.rows in
    let between : f.number c.add_powers_by_blocks-between.result ≡ times f.ops scale (power f.ops z p) = c.add_powers_by_blocks-between.ensures.next ∙ ap (λ k. times f.ops scale (power f.ops z k)) lows in
    halves-added f.ops f.number rows c.add_powers_by_blocks-between.new.rows c.add_powers_by_blocks.new.rows _ p size c.add_powers_by_blocks-between.auto.rows c.add_powers_by_blocks.auto.rows
    (λ k. times f.ops scale (power f.ops z k))
    (λ k below. c.add_powers_by_blocks-between.ensures.rows k (omega (arith, below, lows)))
    (λ k below. c.add_powers_by_blocks.ensures.rows k (omega (arith, below, highs))
    ∙ ap (plus f.ops _) (ap (λ s. times f.ops s (power f.ops z k)) between ∙ power-behind f.ops ring z scale p k))
    b (subst (λ k. b < k) size inside)

pub returns-clause-next : goal.returns-clause-next
returns-clause-next g t c =
    let f = g.EF.Field in
    let z = g.EF.Algebra.embedding (g.F.Field.number c.args.var) in
    let rows = c.args.rows.now in
    let scale = f.number c.args.scale in
    let p = 2 ^ (c.args.halvings - 1) * length c.args.weights.now in
    let size : length rows ≡ p + p = half-rows c.args.halvings (length c.args.weights.now) (length rows) (omega (arith, c.if-halvings-eq0.false)) c.requires.size in
    let lows = low-length f.number rows p size in
    let highs = high-length f.number rows p size c.add_powers_by_blocks-between.new.rows c.add_powers_by_blocks-between.auto.rows in
    c.add_powers_by_blocks.ensures.next ∙ ap (λ k. times f.ops (f.number c.add_powers_by_blocks-between.result) (power f.ops z k)) highs
    ∙ ap (λ k. times f.ops k (power f.ops z p)) (c.add_powers_by_blocks-between.ensures.next ∙ ap (λ k. times f.ops scale (power f.ops z k)) lows)
    ∙ power-behind f.ops g.met.EF.Field.is_field.ring z scale p p ∙ ap (λ k. times f.ops scale (power f.ops z k)) (sym size)
