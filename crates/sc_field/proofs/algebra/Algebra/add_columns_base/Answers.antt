use Rattle.std.proofs.Common.{ℕ, ◌≡◌, ◌+◌, ◌-◌, ◌*◌, ◌<◌, length, take, drop, sym, ◌∙◌, ap, refl, arith}
use Rattle.sc_definitions.specs.Ring.{plus, times}
use Rattle.sc_definitions.specs.Tables.{entries}
use Rattle.sc_field.proofs.ColumnLaws.{gained-none, gained-more, gained-products}
use Rattle.sc_field.proofs.EntryLaws.{entry-read, part-entry}
use Rattle.sc_field.proofs.algebra.Algebra.add_columns_base.Goals as goal

pub loop-a-init : goal.loop-a-init
loop-a-init g c = record {
  rows = gained-none g.Self.Field.number g.Self.Field.ops g.met.Self.Field.is_field.ring _ c.args.sums.now
      g.met.Self.Field.number_below;
}

pub loop-a-preserved : goal.loop-a-preserved
loop-a-preserved g c =
    let f = g.Self.Field in
    let of = λ (x : g.row.B.Denot). g.Self.Algebra.embedding (g.B.Field.number x) in
    let old = c.args.sums.now in
    let new = c.loop-a.sums in
    let rows = c.args.rows.now in
    let factors = c.args.factors.now in
    let width = length old in
    let a = c.loop-a.a in
    let gain : ℕ → ℕ → ℕ = λ k i. times f.ops (entries of rows (i * width + k)) (entries f.number factors i) in
    let factor = entry-read f.number factors a c.index-factors-a.result (omega arith) c.index-factors-a.is in
    record {
      rows = gained-more f.number f.ops g.met.Self.Field.is_field.ring gain old a new c.add_row_base.new.sums c.loop-a.invariant.rows
          (λ k low.
          let from = a * width in
          let n = from + width - from in
          let inside : k < n = omega (arith, low) in
          c.add_row_base.ensures k (omega (arith, low, c.loop-a.auto.sums))
          ∙ ap (plus f.ops (entries f.number new k))
          (ap (λ x. times f.ops (entries of (take n (drop from rows)) k) x) (sym factor)
          ∙ ap (λ x. times f.ops x (entries f.number factors a)) (part-entry of rows n from k (from + k) inside refl)));
    }

pub returns : goal.returns
returns g c = λ k low.
    let f = g.Self.Field in
    let of = λ (x : g.row.B.Denot). g.Self.Algebra.embedding (g.B.Field.number x) in
    let done : c.loop-a.a ≡ length c.args.factors.now = omega (arith, c.loop-a.auto, c.loop-a-test) in
    gained-products f.ops (λ i. entries of c.args.rows.now (i * length c.args.sums.now + k)) (entries f.number c.args.factors.now) _ _ _ _ done
    (c.loop-a.invariant.rows.rows k low)
