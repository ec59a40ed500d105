use Rattle.std.proofs.Common.{◌≡◌, ℕ, ◌+◌, ◌-◌, ◌%◌, ◌<◌, length, sym, ◌∙◌, ap, arith}
use Rattle.sc_definitions.specs.Ring.{plus}
use Rattle.sc_definitions.specs.Residues.{residues}
use Rattle.sc_definitions.specs.Tables.{entries}
use Rattle.sc_small_fields.specs.declared.f65537.F65537.{F65537}
use Rattle.sc_field.proofs.EntryLaws.{entry-read, entry-at}
use Rattle.sc_field.proofs.WrittenLaws.{written-none, written-more}
use Rattle.sc_small_fields.proofs.f65537.add_reduced.Goals as goal

pub loop-c-init : goal.loop-c-init
loop-c-init c = written-none (λ x. x.value) _ c.args.from c.args.sums.now

pub loop-c-preserved : goal.loop-c-preserved
loop-c-preserved c =
    let o = residues 65537 in
    let of = λ (x : F65537). x.value in
    let from = c.args.from in
    let k = c.loop-c.c in
    let old = c.args.sums.now in
    let new = c.loop-c.sums in
    let numbers = c.args.numbers.now in
    let table : ℕ → ℕ = λ b. plus o (entries of old b) (entries (λ n. n) numbers (b - from) % 65537) in
    let so_far = c.loop-c.invariant in
    let low : from + k < length new = omega (arith, c.requires.inside, c.loop-c-test.true, c.loop-c.auto.sums) in
    let sum : entries of old (from + k) ≡ c.index-sums-from.result.value = sym (so_far.behind (from + k) (omega arith))
    ∙ entry-read of new (from + k) c.index-sums-from.result low c.index-sums-from.is in
    let at : from + k - from ≡ k = omega arith in
    let gain : entries (λ n. n) numbers (from + k - from) % 65537 ≡ c.reduced.result.value =
    ap (λ j. entries (λ n. n) numbers j % 65537) at ∙ ap (λ n. n % 65537) (entry-at numbers k) ∙ sym c.reduced.ensures in
    written-more of table from k old new c.add.result low so_far (cc (c.add.ensures, sum, gain))
