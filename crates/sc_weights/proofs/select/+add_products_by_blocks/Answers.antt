use Rattle.std.proofs.Common.{rules, ◌≡◌, ℕ, ◌+◌, ◌-◌, ◌^◌, ◌<◌, ◌≤◌, ◌∷◌, length, map, take, drop, sym, ◌∙◌, ap, subst, arith}
use Rattle.std.proofs.lemmas.List.{length-map}
use Rattle.sc_definitions.specs.Ring.{plus, times}
use Rattle.sc_definitions.specs.Tables.{monomial}
use Rattle.sc_definitions.proofs.TableLaws.{two_halves}
use Rattle.sc_weights.proofs.Halves.{split-first, halves-added, low-length, high-length}
use Rattle.sc_weights.proofs.ProductSteps.{gain-low, gain-high, last-same, rest-size}
use Rattle.sc_weights.proofs.select.+add_products_by_blocks.Goals as goal

pub add_products_by_blocks-requires : goal.add_products_by_blocks-requires
add_products_by_blocks-requires g t c κs within =
    let of : g.row.F.Denot → ℕ = λ x. g.EF.Algebra.embedding (g.F.Field.number x) in
    let z = c.args.z.now in
    let rest = take (length z - 1) (drop 1 z) in
    let more : 8 + 1 ≤ length z = omega (arith, c.requires.long, c.if-z-eq-BLOCK_COORDINATES.false) in
    let fewer : length rest + 1 ≡ length z = rest-size z (omega (arith, more)) in
    let size : length c.args.rows.now ≡ 2 ^ length rest + 2 ^ length rest = c.requires.size ∙ ap (λ k. 2 ^ k) (omega (arith, fewer)) ∙ two_halves (length rest) in (
      search rules,
      (
        within.0,
        (
          within.1,
          (
            low-length g.EF.Field.number c.args.rows.now _ size,
            (
              omega (arith, more, fewer),
              (c.requires.block, (λ k below. c.requires.weights k below ∙ ap (λ l. monomial g.EF.Field.ops (map of l) k) (sym (last-same z 8 more)))),
            ),
          ),
        ),
      ),
    )

pub add_products_by_blocks-requires-2 : goal.add_products_by_blocks-requires-2
add_products_by_blocks-requires-2 g t c κs within =
    let of : g.row.F.Denot → ℕ = λ x. g.EF.Algebra.embedding (g.F.Field.number x) in
    let z = c.args.z.now in
    let rest = take (length z - 1) (drop 1 z) in
    let more : 8 + 1 ≤ length z = omega (arith, c.requires.long, c.if-z-eq-BLOCK_COORDINATES.false) in
    let fewer : length rest + 1 ≡ length z = rest-size z (omega (arith, more)) in
    let size : length c.args.rows.now ≡ 2 ^ length rest + 2 ^ length rest = c.requires.size ∙ ap (λ k. 2 ^ k) (omega (arith, fewer)) ∙ two_halves (length rest) in (
      search rules,
      (
        within.0,
        (
          within.1,
          (
            high-length g.EF.Field.number c.args.rows.now _ size c.add_products_by_blocks.new.rows c.add_products_by_blocks.auto.rows,
            (
              omega (arith, more, fewer),
              (c.requires.block, (λ k below. c.requires.weights k below ∙ ap (λ l. monomial g.EF.Field.ops (map of l) k) (sym (last-same z 8 more)))),
            ),
          ),
        ),
      ),
    )

pub returns : goal.returns
returns g t c = λ b low.
    let f = g.EF.Field in
    let ring = g.met.EF.Field.is_field.ring in
    let of : g.row.F.Denot → ℕ = λ x. g.EF.Algebra.embedding (g.F.Field.number x) in
    let rows = c.args.rows.now in
    let z = c.args.z.now in
    let first = c.index-z-0.result in
    let rest = take (length z - 1) (drop 1 z) in
    let some : 1 ≤ length z = omega (arith, c.requires.long) in
    let split : z ≡ first ∷ rest = split-first z first some c.index-z-0.is in
    let scale = f.number c.args.scale in
    let p = 2 ^ length rest in
    let whole : 2 ^ length z ≡ p + p = ap (λ l. 2 ^ length l) split ∙ two_halves (length rest) in
    let mapped : map of z ≡ of first ∷ map of rest = ap (map of) split in
    let size : 2 ^ length (map of rest) ≡ p = ap (λ k. 2 ^ k) (length-map rest of) in
    let gain : ℕ → ℕ = λ k. times f.ops scale (monomial f.ops (map of z) k) in
    halves-added f.ops f.number rows c.add_products_by_blocks.new.rows c.add_products_by_blocks-2.new.rows _ p (c.requires.size ∙ whole) c.add_products_by_blocks.auto.rows c.add_products_by_blocks-2.auto.rows gain
    (λ k below. c.add_products_by_blocks.ensures k below ∙ ap (plus f.ops _) (gain-low f.ops ring (of first) (map of rest) (map of z) mapped scale k (omega (arith, below, size))))
    (λ k below. c.add_products_by_blocks-2.ensures k below ∙ ap (plus f.ops _) (ap (λ s. times f.ops s (monomial f.ops (map of rest) k)) c.mul_base.ensures
    ∙ gain-high f.ops ring (of first) (map of rest) (map of z) mapped scale k (omega (arith, below, size)) ∙ ap (λ n. gain (n + k)) size))
    b (subst (λ n. b < n) whole low)
