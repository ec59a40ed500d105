use Rattle.std.proofs.Common.{ℕ, ◌≡◌, ◌+◌, ◌-◌, ◌*◌, ◌<◌, length, take, drop, sym, ◌∙◌, ap, refl, arith}
use Rattle.sc_definitions.specs.Ring.{plus, times}
use Rattle.sc_definitions.specs.Residues.{residues}
use Rattle.sc_definitions.specs.Tables.{entries}
use Rattle.sc_small_fields.specs.ResiduesLaws.{residues_field}
use Rattle.sc_field.proofs.ColumnLaws.{gained-none, gained-more, gained-products}
use Rattle.sc_field.proofs.EntryLaws.{entry-read, part-entry}
use Rattle.sc_small_fields.proofs.f65537.F65537Field.add_columns.Goals as goal

pub loop-a-init : goal.loop-a-init
loop-a-init c = record { rows = gained-none (λ x. x.value) (residues 65537) residues_field.ring _ c.args.sums.now (λ x. x.below) }

pub loop-a-preserved : goal.loop-a-preserved
loop-a-preserved c =
    let o = residues 65537 in
    let old = c.args.sums.now in
    let new = c.loop-a.sums in
    let rows = c.args.rows.now in
    let factors = c.args.factors.now in
    let width = length old in
    let a = c.loop-a.a in
    let gain : ℕ → ℕ → ℕ = λ k i. times o (entries (λ x. x.value) rows (i * width + k)) (entries (λ x. x.value) factors i) in
    let factor = entry-read (λ x. x.value) factors a c.index-factors-a.result (omega arith) c.index-factors-a.is in
    record {
      rows = gained-more (λ x. x.value) o residues_field.ring gain old a new c.add_row.new.sums c.loop-a.invariant.rows
          (λ k low.
          let from = a * width in
          let n = from + width - from in
          let inside : k < n = omega (arith, low) in
          c.add_row.ensures k (omega (arith, low, c.loop-a.auto.sums))
          ∙ ap (plus o (entries (λ x. x.value) new k))
          (ap (λ x. times o (entries (λ x. x.value) (take n (drop from rows)) k) x) (sym factor)
          ∙ ap (λ x. times o x (entries (λ x. x.value) factors a)) (part-entry (λ x. x.value) rows n from k (from + k) inside refl)));
    }

pub returns : goal.returns
returns c = λ k low.
    let done : c.loop-a.a ≡ length c.args.factors.now = omega (arith, c.loop-a.auto, c.loop-a-test) in
    gained-products (residues 65537) (λ i. entries (λ x. x.value) c.args.rows.now (i * length c.args.sums.now + k))
    (entries (λ x. x.value) c.args.factors.now) _ _ _ _ done (c.loop-a.invariant.rows.rows k low)
