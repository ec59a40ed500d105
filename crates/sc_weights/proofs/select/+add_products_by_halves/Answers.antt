use Rattle.std.proofs.Common.{◌≡◌, ℕ, ◌+◌, ◌-◌, ◌^◌, ◌<◌, ◌∷◌, length, map, take, drop, sym, ◌∙◌, ap, subst, arith}
use Rattle.std.proofs.lemmas.List.{length-map}
use Rattle.sc_definitions.specs.Ring.{plus, times}
use Rattle.sc_definitions.specs.Tables.{entries, monomial}
use Rattle.sc_definitions.proofs.RingLaws.{plus-element_right}
use Rattle.sc_definitions.proofs.LoopLaws.{entry-read}
use Rattle.sc_definitions.proofs.TableLaws.{two_halves}
use Rattle.sc_weights.proofs.Halves.{split-first, halves-added, row-added}
use Rattle.sc_weights.proofs.ProductSteps.{gain-low, gain-high, gain-none}
use Rattle.sc_weights.proofs.select.+add_products_by_halves.Goals as goal

pub returns-in_default : goal.returns-in_default
returns-in_default g t c =
    let f = g.EF.Field in
    let ring = g.met.EF.Field.is_field.ring in
    let rows = c.args.rows.now in
    let z = c.args.z.now in
    let zs = map (λ x. g.EF.Algebra.embedding (g.F.Field.number x)) z in
    let none : length z ≡ 0 = omega (arith, c.in_default.len_below) in
    let one : 2 ^ length z ≡ 1 = ap (λ k. 2 ^ k) none in
    let scale = f.number c.args.scale in
    let read = entry-read f.number rows 0 c.index-rows-0.result (omega (arith, c.requires, one)) c.index-rows-0.is in
    row-added f.ops f.number rows c.add.result (λ b. times f.ops scale (monomial f.ops zs b)) (2 ^ length z) one c.requires
    (cc (c.add.ensures, read) ∙ sym (ap (plus f.ops (entries f.number rows 0)) (gain-none f.ops ring scale zs (omega (arith, none, length-map z (λ x. g.EF.Algebra.embedding (g.F.Field.number x)))))
    ∙ plus-element_right f.ops ring (entries f.number rows 0) scale))

pub returns : goal.returns
returns g t c = λ b low.
    let f = g.EF.Field in
    let ring = g.met.EF.Field.is_field.ring in
    let of : g.row.F.Denot → ℕ = λ x. g.EF.Algebra.embedding (g.F.Field.number x) in
    let rows = c.args.rows.now in
    let z = c.args.z.now in
    let first = c.first-item.result in
    let rest = take (length z - 1) (drop 1 z) in
    let split : z ≡ first ∷ rest = split-first z first (omega (arith, c.in-len1-up.len_at_least)) c.first-item.is in
    let scale = f.number c.args.scale in
    let p = 2 ^ length rest in
    let whole : 2 ^ length z ≡ p + p = ap (λ l. 2 ^ length l) split ∙ two_halves (length rest) in
    let mapped : map of z ≡ of first ∷ map of rest = ap (map of) split in
    let size : 2 ^ length (map of rest) ≡ p = ap (λ k. 2 ^ k) (length-map rest of) in
    let gain : ℕ → ℕ = λ k. times f.ops scale (monomial f.ops (map of z) k) in
    halves-added f.ops f.number rows c.add_products_by_halves.new.rows c.add_products_by_halves-2.new.rows _ p (c.requires ∙ whole) c.add_products_by_halves.auto.rows c.add_products_by_halves-2.auto.rows gain
    (λ k below. c.add_products_by_halves.ensures k below ∙ ap (plus f.ops _) (gain-low f.ops ring (of first) (map of rest) (map of z) mapped scale k (omega (arith, below, size))))
    (λ k below. c.add_products_by_halves-2.ensures k below ∙ ap (plus f.ops _) (ap (λ s. times f.ops s (monomial f.ops (map of rest) k)) c.mul_base.ensures
    ∙ gain-high f.ops ring (of first) (map of rest) (map of z) mapped scale k (omega (arith, below, size)) ∙ ap (λ n. gain (n + k)) size))
    b (subst (λ n. b < n) whole low)
