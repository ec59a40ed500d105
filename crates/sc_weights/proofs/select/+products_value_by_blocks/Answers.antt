use Rattle.std.proofs.Common.{rules, ◌≡◌, ℕ, ◌+◌, ◌-◌, ◌/◌, ◌^◌, ◌<◌, ◌≤◌, ◌∷◌, length, map, take, drop, sym, ◌∙◌, ap, subst, arith}
use Rattle.std.proofs.lemmas.List.{length-map}
use Rattle.sc_definitions.specs.Ring.{plus, times}
use Rattle.sc_definitions.specs.Tables.{sum_below, entries, monomial, inner_product}
use Rattle.sc_definitions.proofs.Sums.{sum-same}
use Rattle.sc_definitions.proofs.TableLaws.{two_halves}
use Rattle.sc_field.specs.Products.{products}
use Rattle.sc_table.proofs.EntryLaws.{entry-embedded}
use Rattle.sc_weights.proofs.Halves.{split-first, low-shared, high-shared}
use Rattle.sc_weights.proofs.ProductSteps.{inner_product-monomial, last-same, rest-size}
use Rattle.sc_weights.proofs.select.+products_value_by_blocks.Goals as goal

pub returns-then-z-eq-BLOCK_COORDINATES : goal.returns-then-z-eq-BLOCK_COORDINATES
unfolding products inner_product
returns-then-z-eq-BLOCK_COORDINATES g t c =
    let f = g.EF.Field in
    let embed = g.EF.Algebra-2.embedding in
    let of : g.row.F.Denot → ℕ = λ x. g.EF.Algebra-1.embedding (g.F.Field.number x) in
    let z = c.args.z.now in
    let rows = c.args.rows.now in
    let table : ℕ → ℕ = λ b. embed (entries g.A.Field.number rows b) in
    let eight : length z ≡ 8 = c.if-z-eq-BLOCK_COORDINATES.true in
    let many : length rows ≡ 256 = c.requires.size ∙ ap (λ k. 2 ^ k) eight in
    let all : drop (length z - 8) z ≡ z = ap (λ k. drop (k - 8) z) eight in
    c.dot_base.ensures
    ∙ sum-same f.ops (length rows) _ (λ b. times f.ops (table b) (monomial f.ops (map of z) b)) (λ b low.
    ap (λ k. times f.ops k (entries f.number c.args.weights.now b)) (entry-embedded embed g.A.Field.number rows b g.met.EF.Algebra-2.embeds.zero_kept)
    ∙ ap (times f.ops (table b)) (c.requires.weights b (subst (λ k. b < k) many low) ∙ ap (λ l. monomial f.ops (map of l) b) all))
    ∙ ap (λ k. sum_below f.ops k (λ b. times f.ops (table b) (monomial f.ops (map of z) b))) c.requires.size

pub products_value_by_blocks-lo-requires : goal.products_value_by_blocks-lo-requires
products_value_by_blocks-lo-requires g t c κs within =
    let of : g.row.F.Denot → ℕ = λ x. g.EF.Algebra-1.embedding (g.F.Field.number x) in
    let z = c.args.z.now in
    let rest = take (length z - 1) (drop 1 z) in
    let more : 8 + 1 ≤ length z = omega (arith, c.requires.long, c.if-z-eq-BLOCK_COORDINATES.false) in
    let fewer : length rest + 1 ≡ length z = rest-size z (omega (arith, more)) in
    let size : length c.args.rows.now ≡ 2 ^ length rest + 2 ^ length rest = c.requires.size ∙ ap (λ k. 2 ^ k) (omega (arith, fewer)) ∙ two_halves (length rest) in
    let half : length c.args.rows.now / 2 ≡ 2 ^ length rest = omega (arith, size) in (
      search rules,
      (
        within.0,
        (
          within.1.0,
          (
            within.1.1,
            (
              c.split_at.ensures.front_len ∙ half,
              (
                omega (arith, more, fewer),
                (c.requires.block, (λ k below. c.requires.weights k below ∙ ap (λ l. monomial g.EF.Field.ops (map of l) k) (sym (last-same z 8 more)))),
              ),
            ),
          ),
        ),
      ),
    )

pub products_value_by_blocks-hi-requires : goal.products_value_by_blocks-hi-requires
products_value_by_blocks-hi-requires g t c κs within =
    let of : g.row.F.Denot → ℕ = λ x. g.EF.Algebra-1.embedding (g.F.Field.number x) in
    let z = c.args.z.now in
    let rest = take (length z - 1) (drop 1 z) in
    let more : 8 + 1 ≤ length z = omega (arith, c.requires.long, c.if-z-eq-BLOCK_COORDINATES.false) in
    let fewer : length rest + 1 ≡ length z = rest-size z (omega (arith, more)) in
    let size : length c.args.rows.now ≡ 2 ^ length rest + 2 ^ length rest = c.requires.size ∙ ap (λ k. 2 ^ k) (omega (arith, fewer)) ∙ two_halves (length rest) in (
      search rules,
      (
        within.0,
        (
          within.1.0,
          (
            within.1.1,
            (
              omega (arith, c.split_at.ensures.back_len, size),
              (
                omega (arith, more, fewer),
                (c.requires.block, (λ k below. c.requires.weights k below ∙ ap (λ l. monomial g.EF.Field.ops (map of l) k) (sym (last-same z 8 more)))),
              ),
            ),
          ),
        ),
      ),
    )

pub returns : goal.returns
returns g t c =
    let f = g.EF.Field in
    let ring = g.met.EF.Field.is_field.ring in
    let of : g.row.F.Denot → ℕ = λ x. g.EF.Algebra-1.embedding (g.F.Field.number x) in
    let rows = c.args.rows.now in
    let z = c.args.z.now in
    let first = c.index-z-0.result in
    let rest = take (length z - 1) (drop 1 z) in
    let some : 1 ≤ length z = omega (arith, c.requires.long) in
    let split : z ≡ first ∷ rest = split-first z first some c.index-z-0.is in
    let p = 2 ^ length rest in
    let size : length rows ≡ p + p = c.requires.size ∙ ap (λ l. 2 ^ length l) split ∙ two_halves (length rest) in
    let zs = map of rest in
    let mapped : map of z ≡ of first ∷ zs = ap (map of) split in
    let arity : length zs ≡ length rest = length-map rest of in
    let sized : 2 ^ length zs ≡ p = ap (λ k. 2 ^ k) arity in
    let embed = g.EF.Algebra-2.embedding in
    let low : ℕ → ℕ = λ b. embed (entries g.A.Field.number c.split_at.result.0.now b) in
    let high : ℕ → ℕ = λ b. embed (entries g.A.Field.number c.split_at.result.1.now b) in
    let table : ℕ → ℕ = λ b. embed (entries g.A.Field.number rows b) in
    let lo : f.number c.products_value_by_blocks-lo.result ≡ inner_product f.ops (length zs) low (monomial f.ops zs) = c.products_value_by_blocks-lo.ensures ∙ ap (λ n. inner_product f.ops n low (monomial f.ops zs)) (sym arity) in
    let hi : f.number c.products_value_by_blocks-hi.result ≡ inner_product f.ops (length zs) high (monomial f.ops zs) = c.products_value_by_blocks-hi.ensures ∙ ap (λ n. inner_product f.ops n high (monomial f.ops zs)) (sym arity) in
    c.add.ensures ∙ ap (plus f.ops (f.number c.products_value_by_blocks-lo.result)) c.mul_base.ensures
    ∙ ap (λ k. plus f.ops k (times f.ops (f.number c.products_value_by_blocks-hi.result) (of first))) lo
    ∙ ap (λ k. plus f.ops (inner_product f.ops (length zs) low (monomial f.ops zs)) (times f.ops k (of first))) hi
    ∙ inner_product-monomial f.ops ring (of first) zs (map of z) mapped table low high
    (λ b below. ap embed (low-shared g.A.Field.number rows p size c.split_at.result.0.now c.split_at.ensures.front b (omega (arith, below, sized))))
    (λ b below. ap embed (high-shared g.A.Field.number rows p size c.split_at.result.1.now c.split_at.ensures.back b ∙ ap (λ n. entries g.A.Field.number rows (n + b)) (sym sized)))
    ∙ ap (λ n. inner_product f.ops n table (monomial f.ops (map of z))) (length-map z of)
