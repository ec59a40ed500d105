use Rattle.std.proofs.Common.{◌≡◌, ℕ, ◌+◌, ◌-◌, ◌*◌, ◌<◌, ◌≤◌, length, set, take, drop, sym, ◌∙◌, ap, subst, refl, arith}
use Rattle.sc_definitions.specs.Ring.{plus}
use Rattle.sc_definitions.specs.Tables.{entries}
use Rattle.sc_field.specs.Products.{products}
use Rattle.sc_field.specs.Written.{HasWritten}
use Rattle.sc_field.proofs.EntryLaws.{entry-read, part-entry, part-length}
use Rattle.sc_field.proofs.WrittenLaws.{written-none, written-more}
use Rattle.sc_table.proofs.SumLaws.{products-same}
use Rattle.sc_table.proofs.SplitLaws.{row-within}
use Rattle.sc_table.proofs.split_eq.add_dots.Goals as goal

pub loop-c-init : goal.loop-c-init
loop-c-init g c = written-none g.E.Field.number _ 0 c.args.sums.now

pub loop-c-preserved : goal.loop-c-preserved
loop-c-preserved g c =
    let e = g.E.Field in
    let of = λ (x : g.row.A.Denot). g.E.Algebra.embedding (g.A.Field.number x) in
    let k = c.loop-c.c in
    let old = c.args.sums.now in
    let new = c.loop-c.sums in
    let xs = c.args.table.now in
    let weights = c.args.weights.now in
    let at = k * c.args.row + c.args.from in
    let m = length weights in
    let n = at + m - at in
    let part = take n (drop at xs) in
    let within : at + m ≤ length xs = omega (
      arith,
      row-within (length xs) (length old) c.args.row k c.requires.size (omega (arith, c.loop-c-test.true, c.loop-c.auto.sums)),
      c.requires.inside,
    ) in
    let size : length part ≡ m = part-length xs n at m (omega arith) within in
    let sum : ℕ → ℕ = λ j. products e.ops m (λ i. entries of xs (j * c.args.row + c.args.from + i)) (entries e.number weights) in
    let table : ℕ → ℕ = λ j. plus e.ops (entries e.number old j) (sum j) in
    let so_far = c.loop-c.invariant in
    let low : k < length new = omega (arith, c.loop-c-test.true, c.loop-c.auto.sums) in
    let zero_k : 0 + k ≡ k = omega arith in
    let k_zero : k ≡ 0 + k = omega arith in
    let before : entries e.number old k ≡ e.number c.index-sums-c.result = sym (so_far.behind k (omega arith))
    ∙ entry-read e.number new k c.index-sums-c.result low c.index-sums-c.is in
    let gain : e.number c.dot_base-products.result ≡ sum k = c.dot_base-products.ensures
    ∙ ap (λ j. products e.ops j (entries of part) (entries e.number weights)) size
    ∙ products-same e.ops m (entries of part) (λ i. entries of xs (at + i)) (entries e.number weights) (entries e.number weights)
    (λ i inside. part-entry of xs n at i (at + i) (omega (arith, inside)) refl) (λ i inside. refl) in
    subst (λ j. HasWritten e.number table 0 (k + 1) old (set new j c.add.result)) zero_k
    (written-more e.number table 0 k old new c.add.result (omega (arith, low)) so_far
    (subst (λ j. e.number c.add.result ≡ table j) k_zero (cc (c.add.ensures, before, gain))))

pub returns : goal.returns
returns g c = λ b low. c.loop-c.invariant.written b (omega arith) (omega (arith, low, c.loop-c-test.false))
