use Rattle.std.proofs.Common.{◌≡◌, ℕ, ◌+◌, ◌*◌, ◌<◌, length, get_or, set, sym, ◌∙◌, ap, subst, arith}
use Rattle.sc_definitions.specs.Tables.{entries}
use Rattle.sc_field.specs.Written.{HasWritten}
use Rattle.sc_small_fields.proofs.DelayedLaws.{product-most}
use Rattle.sc_field.proofs.EntryLaws.{entry-read, entry-at}
use Rattle.sc_field.proofs.WrittenLaws.{written-none, written-more}
use Rattle.sc_small_fields.proofs.f65537.add_products.Goals as goal

pub loop-c-init : goal.loop-c-init
loop-c-init c = written-none (λ n. n) _ 0 c.args.totals.now

pub overflow_add-totals : goal.overflow_add-totals
overflow_add-totals c =
    let k = c.loop-c.c in
    let x = c.index-row-c.result in
    let value = ap (λ y. y.value * c.args.factor.value) c.index-row-c.is in
    let most = product-most x.value c.args.factor.value (omega (arith, x.below)) (omega (arith, c.args.factor.below)) in
    omega (arith, value, most, entry-at c.loop-c.totals k, c.loop-c.invariant.behind k (omega arith), c.requires.small k)

pub loop-c-preserved : goal.loop-c-preserved
loop-c-preserved c =
    let k = c.loop-c.c in
    let old = c.args.totals.now in
    let new = c.loop-c.totals in
    let row = c.args.row.now in
    let y = c.args.factor.value in
    let table : ℕ → ℕ = λ b. entries (λ n. n) old b + entries (λ x. x.value) row b * y in
    let so_far = c.loop-c.invariant in
    let low : k < length new = omega (arith, c.loop-c-test.true, c.loop-c.auto.totals, c.requires.fits) in
    let at : 0 + k ≡ k = omega arith in
    let back : k ≡ 0 + k = omega arith in
    let gain : entries (λ x. x.value) row k * y ≡ (get_or row k c.index-row-c.result).value * y =
    ap (λ n. n * y) (entry-read (λ x. x.value) row k c.index-row-c.result c.loop-c-test.true c.index-row-c.is)
    ∙ ap (λ x. x.value * y) c.index-row-c.is in
    let total : get_or new k 0 ≡ entries (λ n. n) old k = sym (entry-at new k) ∙ so_far.behind k (omega arith) in
    let sum = get_or new k 0 + (get_or row k c.index-row-c.result).value * y in
    let is : sum ≡ table k = ap (λ n. n + (get_or row k c.index-row-c.result).value * y) total ∙ ap (λ n. entries (λ n. n) old k + n) (sym gain) in
    subst (λ j. HasWritten (λ n. n) table 0 (k + 1) old (set new j sum)) at
    (written-more (λ n. n) table 0 k old new sum (omega (arith, low)) so_far (subst (λ j. sum ≡ table j) back is))

pub returns-clause-gained : goal.returns-clause-gained
returns-clause-gained c = λ b low. c.loop-c.invariant.written b (omega arith) (omega (arith, low, c.loop-c-test.false))

pub returns-clause-others : goal.returns-clause-others
returns-clause-others c = λ b high. c.loop-c.invariant.behind b (omega (arith, high, c.loop-c-test.false, c.loop-c.auto))
