use Rattle.std.proofs.Common.{rules, ◌≡◌, ℕ, ◌+◌, ◌-◌, ◌*◌, ◌/◌, ◌^◌, ◌<◌, length, sym, ◌∙◌, ap, subst, arith}
use Rattle.sc_definitions.specs.Ring.{plus, times, power}
use Rattle.sc_definitions.specs.Tables.{sum_below, entries}
use Rattle.sc_definitions.proofs.LoopLaws.{entry-read}
use Rattle.sc_definitions.proofs.Sums.{sum-same}
use Rattle.sc_definitions.proofs.Power.{power-plus}
use Rattle.sc_field.specs.Products.{products}
use Rattle.sc_table.proofs.EntryLaws.{entry-embedded}
use Rattle.sc_weights.proofs.Halves.{low-shared, high-shared}
use Rattle.sc_weights.proofs.PowerSteps.{power-after, powers-halves, half-rows}
use Rattle.sc_weights.proofs.select.+powers_value_by_blocks.Goals as goal

pub returns-then-halvings-eq0-clause-sum : goal.returns-then-halvings-eq0-clause-sum
unfolding products
returns-then-halvings-eq0-clause-sum g t c =
    let f = g.EF.Field in
    let embed = g.EF.Algebra-2.embedding in
    let z = g.EF.Algebra-1.embedding (g.F.Field.number c.args.var) in
    let rows = c.args.rows.now in
    let weights = c.args.weights.now in
    let size : length rows ≡ length weights = c.requires.size ∙ ap (λ k. 2 ^ k * length weights) c.if-halvings-eq0.true ∙ omega arith in
    c.dot_base-sum.ensures
    ∙ sum-same f.ops (length rows) _ (λ b. times f.ops (embed (entries g.A.Field.number rows b)) (power f.ops z b)) (λ b low.
    ap (λ k. times f.ops k (entries f.number weights b)) (entry-embedded embed g.A.Field.number rows b g.met.EF.Algebra-2.embeds.zero_kept)
    ∙ ap (times f.ops (embed (entries g.A.Field.number rows b))) (c.requires.weights b (subst (λ k. b < k) size low)))

pub returns-then-halvings-eq0-clause-next : goal.returns-then-halvings-eq0-clause-next
returns-then-halvings-eq0-clause-next g t c =
    let f = g.EF.Field in
    let z = g.EF.Algebra-1.embedding (g.F.Field.number c.args.var) in
    let weights = c.args.weights.now in
    let n = length weights in
    let last : n - 1 < n = omega (arith, c.requires.some) in
    let size : length c.args.rows.now ≡ n = c.requires.size ∙ ap (λ k. 2 ^ k * n) c.if-halvings-eq0.true ∙ omega arith in
    let read = entry-read f.number weights (n - 1) c.index-weights-weights.result last c.index-weights-weights.is in
    c.mul_base.ensures ∙ ap (λ k. times f.ops k z) (sym read ∙ c.requires.weights (n - 1) last)
    ∙ power-after f.ops g.met.EF.Field.is_field.ring z n c.requires.some ∙ ap (power f.ops z) (sym size)

pub powers_value_by_blocks-lo-requires : goal.powers_value_by_blocks-lo-requires
powers_value_by_blocks-lo-requires g t c κs within =
    let size = half-rows c.args.halvings (length c.args.weights.now) (length c.args.rows.now) (omega (arith, c.if-halvings-eq0.false)) c.requires.size in
    let half : length c.args.rows.now / 2 ≡ 2 ^ (c.args.halvings - 1) * length c.args.weights.now = omega (arith, size) in
    (search rules, (within.0, (within.1.0, (within.1.1, (c.split_at.ensures.front_len ∙ half, (c.requires.some, (c.requires.few, c.requires.weights)))))))

pub powers_value_by_blocks-hi-requires : goal.powers_value_by_blocks-hi-requires
powers_value_by_blocks-hi-requires g t c κs within =
    let size = half-rows c.args.halvings (length c.args.weights.now) (length c.args.rows.now) (omega (arith, c.if-halvings-eq0.false)) c.requires.size in
    (search rules, (within.0, (within.1.0, (within.1.1, (omega (arith, c.split_at.ensures.back_len, size), (c.requires.some, (c.requires.few, c.requires.weights)))))))

pub returns-clause-sum : goal.returns-clause-sum
returns-clause-sum g t c =
    let f = g.EF.Field in
    let embed = g.EF.Algebra-2.embedding in
    let of : g.row.A.Denot → ℕ = g.A.Field.number in
    let z = g.EF.Algebra-1.embedding (g.F.Field.number c.args.var) in
    let rows = c.args.rows.now in
    let p = 2 ^ (c.args.halvings - 1) * length c.args.weights.now in
    let size : length rows ≡ p + p = half-rows c.args.halvings (length c.args.weights.now) (length rows) (omega (arith, c.if-halvings-eq0.false)) c.requires.size in
    let front = c.split_at.result.0.now in
    let back = c.split_at.result.1.now in
    let lows : length front ≡ p = c.split_at.ensures.front_len ∙ omega (arith, size) in
    let highs : length back ≡ p = omega (arith, c.split_at.ensures.back_len, size) in
    let low : ℕ → ℕ = λ b. embed (entries of front b) in
    let high : ℕ → ℕ = λ b. embed (entries of back b) in
    let lo = c.powers_value_by_blocks-lo.result in
    let hi = c.powers_value_by_blocks-hi.result in
    c.add.ensures ∙ ap (plus f.ops (f.number lo.0)) c.mul.ensures
    ∙ powers-halves f.ops g.met.EF.Field.is_field.ring z (λ b. embed (entries of rows b)) low high p (length rows) (f.number lo.0) (f.number hi.0) (f.number lo.1) size
    (λ b below. ap embed (low-shared of rows p size front c.split_at.ensures.front b below)) (λ b _. ap embed (high-shared of rows p size back c.split_at.ensures.back b))
    (c.powers_value_by_blocks-lo.ensures.sum ∙ ap (λ k. sum_below f.ops k (λ b. times f.ops (low b) (power f.ops z b))) lows)
    (c.powers_value_by_blocks-hi.ensures.sum ∙ ap (λ k. sum_below f.ops k (λ b. times f.ops (high b) (power f.ops z b))) highs)
    (c.powers_value_by_blocks-lo.ensures.next ∙ ap (power f.ops z) lows)

pub returns-clause-next : goal.returns-clause-next
returns-clause-next g t c =
    let f = g.EF.Field in
    let z = g.EF.Algebra-1.embedding (g.F.Field.number c.args.var) in
    let rows = c.args.rows.now in
    let p = 2 ^ (c.args.halvings - 1) * length c.args.weights.now in
    let size : length rows ≡ p + p = half-rows c.args.halvings (length c.args.weights.now) (length rows) (omega (arith, c.if-halvings-eq0.false)) c.requires.size in
    let lows : length c.split_at.result.0.now ≡ p = c.split_at.ensures.front_len ∙ omega (arith, size) in
    let highs : length c.split_at.result.1.now ≡ p = omega (arith, c.split_at.ensures.back_len, size) in
    c.mul-2.ensures
    ∙ ap (λ k. times f.ops k (f.number c.powers_value_by_blocks-hi.result.1)) (c.powers_value_by_blocks-lo.ensures.next ∙ ap (power f.ops z) lows)
    ∙ ap (times f.ops (power f.ops z p)) (c.powers_value_by_blocks-hi.ensures.next ∙ ap (power f.ops z) highs)
    ∙ sym (power-plus f.ops g.met.EF.Field.is_field.ring z p p) ∙ ap (power f.ops z) (sym size)
