use Rattle.std.proofs.Common.{◌≡◌, ℕ, ◌+◌, ◌-◌, ◌*◌, ◌%◌, ◌<◌, length, ◌∙◌, ap, arith}
use Rattle.sc_definitions.specs.Ring.{plus}
use Rattle.sc_definitions.specs.Residues.{residues}
use Rattle.sc_definitions.specs.Tables.{entries}
use Rattle.sc_small_fields.specs.declared.f65537.F65537.{F65537}
use Rattle.sc_field.specs.Products.{products}
use Rattle.sc_field.proofs.WrittenLaws.{written-none, written-block}
use Rattle.sc_small_fields.proofs.f65537.add_blocks.Goals as goal

pub loop-from-init : goal.loop-from-init
loop-from-init c = record { within = omega arith; rows = written-none (λ x. x.value) _ 0 c.args.sums.now }

pub loop-from-preserved : goal.loop-from-preserved
loop-from-preserved c =
    let o = residues 65537 in
    let of = λ (x : F65537). x.value in
    let old = c.args.sums.now in
    let new = c.loop-from.sums in
    let width = length old in
    let from = c.loop-from.from in
    let len = c.min-len.result in
    let factors = c.args.factors.now in
    let totals = c.column_totals-totals.result in
    let sum : ℕ → ℕ = λ k. products o (length factors) (λ a. entries of c.args.rows.now (a * width + k)) (entries of factors) in
    let table : ℕ → ℕ = λ k. plus o (entries of old k) (sum k) in
    let next : ℕ → ℕ = λ k. plus o (entries of new k) (entries (λ n. n) totals (k - from) % 65537) in
    record {
      within = omega arith;
      rows = written-block of table next from len old new c.add_reduced.new.sums c.loop-from.invariant.rows c.add_reduced.ensures
          (λ k high low.
          let at : from + (k - from) ≡ k = omega (arith, high) in
          let inside : k - from < len = omega (arith, high, low) in
          ap (λ n. plus o n (entries (λ n. n) totals (k - from) % 65537)) (c.loop-from.invariant.rows.behind k (omega (arith, high)))
          ∙ ap (plus o (entries of old k)) (c.column_totals-totals.ensures (k - from) inside ∙ ap sum at));
    }

pub returns : goal.returns
returns c = λ k low. c.loop-from.invariant.rows.written k (omega arith) (omega (arith, low, c.loop-from-test))
