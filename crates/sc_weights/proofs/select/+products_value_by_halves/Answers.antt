use Rattle.std.proofs.Common.{◌≡◌, ℕ, ◌+◌, ◌-◌, ◌^◌, ◌<◌, ◌∷◌, length, map, take, drop, sym, ◌∙◌, ap, subst, arith}
use Rattle.std.proofs.lemmas.List.{length-map}
use Rattle.sc_definitions.specs.Ring.{plus, times}
use Rattle.sc_definitions.specs.Tables.{entries, monomial, inner_product}
use Rattle.sc_definitions.proofs.LoopLaws.{entry-read}
use Rattle.sc_definitions.proofs.TableLaws.{two_halves}
use Rattle.sc_weights.proofs.Halves.{split-first, low-shared, high-shared}
use Rattle.sc_weights.proofs.ProductSteps.{inner_product-none, inner_product-monomial}
use Rattle.sc_weights.proofs.select.+products_value_by_halves.Goals as goal

pub returns-in_default : goal.returns-in_default
returns-in_default g t c =
    let f = g.EF.Field in
    let met = g.met.EF.Field in
    let of : g.row.F.Denot → ℕ = λ x. g.EF.Algebra-1.embedding (g.F.Field.number x) in
    let rows = c.args.rows.now in
    let z = c.args.z.now in
    let table : ℕ → ℕ = λ b. g.EF.Algebra-2.embedding (entries g.A.Field.number rows b) in
    let none : length z ≡ 0 = omega (arith, c.in_default.len_below) in
    let one : 2 ^ length z ≡ 1 = ap (λ k. 2 ^ k) none in
    let read = entry-read g.A.Field.number rows 0 c.index-rows-0.result (omega (arith, c.requires, one)) c.index-rows-0.is in
    let is : f.number c.embed.result ≡ table 0 = c.embed.ensures ∙ ap g.EF.Algebra-2.embedding (sym read) in
    is ∙ inner_product-none f.ops met.is_field.ring table (map of z) (omega (arith, none, length-map z of)) (subst (λ k. k < f.ops.size) is (met.number_below c.embed.result))
    ∙ ap (λ n. inner_product f.ops n table (monomial f.ops (map of z))) (length-map z of)

pub returns : goal.returns
returns g t c =
    let f = g.EF.Field in
    let ring = g.met.EF.Field.is_field.ring in
    let of : g.row.F.Denot → ℕ = λ x. g.EF.Algebra-1.embedding (g.F.Field.number x) in
    let rows = c.args.rows.now in
    let z = c.args.z.now in
    let first = c.first-item.result in
    let rest = take (length z - 1) (drop 1 z) in
    let split : z ≡ first ∷ rest = split-first z first (omega (arith, c.in-len1-up.len_at_least)) c.first-item.is in
    let p = 2 ^ length rest in
    let size : length rows ≡ p + p = c.requires ∙ ap (λ l. 2 ^ length l) split ∙ two_halves (length rest) in
    let zs = map of rest in
    let mapped : map of z ≡ of first ∷ zs = ap (map of) split in
    let arity : length zs ≡ length rest = length-map rest of in
    let sized : 2 ^ length zs ≡ p = ap (λ k. 2 ^ k) arity in
    let embed = g.EF.Algebra-2.embedding in
    let low : ℕ → ℕ = λ b. embed (entries g.A.Field.number c.split_at.result.0.now b) in
    let high : ℕ → ℕ = λ b. embed (entries g.A.Field.number c.split_at.result.1.now b) in
    let table : ℕ → ℕ = λ b. embed (entries g.A.Field.number rows b) in
    let lo : f.number c.products_value_by_halves-lo.result ≡ inner_product f.ops (length zs) low (monomial f.ops zs) = c.products_value_by_halves-lo.ensures ∙ ap (λ n. inner_product f.ops n low (monomial f.ops zs)) (sym arity) in
    let hi : f.number c.products_value_by_halves-hi.result ≡ inner_product f.ops (length zs) high (monomial f.ops zs) = c.products_value_by_halves-hi.ensures ∙ ap (λ n. inner_product f.ops n high (monomial f.ops zs)) (sym arity) in
    c.add.ensures ∙ ap (plus f.ops (f.number c.products_value_by_halves-lo.result)) c.mul_base.ensures
    ∙ ap (λ k. plus f.ops k (times f.ops (f.number c.products_value_by_halves-hi.result) (of first))) lo
    ∙ ap (λ k. plus f.ops (inner_product f.ops (length zs) low (monomial f.ops zs)) (times f.ops k (of first))) hi
    ∙ inner_product-monomial f.ops ring (of first) zs (map of z) mapped table low high
    (λ b below. ap embed (low-shared g.A.Field.number rows p size c.split_at.result.0.now c.split_at.ensures.front b (omega (arith, below, sized))))
    (λ b below. ap embed (high-shared g.A.Field.number rows p size c.split_at.result.1.now c.split_at.ensures.back b ∙ ap (λ n. entries g.A.Field.number rows (n + b)) (sym sized)))
    ∙ ap (λ n. inner_product f.ops n table (monomial f.ops (map of z))) (length-map z of)
