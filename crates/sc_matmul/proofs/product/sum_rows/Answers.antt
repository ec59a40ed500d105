use Rattle.std.proofs.Common.{◌≡◌, ◌+◌, ◌*◌, ◌<◌, length, drop, sym, ◌∙◌, ap, subst}
use Rattle.sc_definitions.specs.Ring.{plus}
use Rattle.sc_definitions.specs.Tables.{entries}
use Rattle.sc_field.specs.Products.{products}
use Rattle.sc_field.proofs.EntryLaws.{entry-filled}
use Rattle.sc_matmul.proofs.EntryLaws.{from-zero, whole-written}
use Rattle.sc_matmul.proofs.product.sum_rows.Goals as goal

pub returns-clause-sums : goal.returns-clause-sums
returns-clause-sums g c = λ k low.
    let a = g.A.Field in
    let image = λ (x : g.row.B.Denot). g.A.Algebra.embedding (g.B.Field.number x) in
    let n = length c.args.factors.now in
    let before = c.deref_mut.result.now in
    let new = c.add_columns_base.new.sums in
    let whole : length before ≡ c.resize.new.self.len = ap length c.deref_mut.ensures.value ∙ sym c.resize.new.self.ok.0 in
    let size : length before ≡ c.args.width = whole ∙ c.in_ok-resize.ensures.len in
    let zero : entries a.number before k ≡ 0 =
    ap (λ xs. entries a.number xs k) (c.deref_mut.ensures.value ∙ c.in_ok-resize.ensures.items)
    ∙ entry-filled a.number c.new-sums.result.items c.ZERO.result _ _ k c.new-sums.ensures.items (ap a.number c.ZERO.ensures ∙ g.met.A.Field.zero_is) in
    ap (λ xs. entries a.number xs k) (whole-written new (drop (length new) c.resize.new.self.items) c.resize.new.self.len (sym whole ∙ sym c.add_columns_base.auto.sums))
    ∙ from-zero a.ops g.met.A.Field.is_field.ring n (λ i. entries image c.args.rows.now (i * c.args.width + k)) (entries a.number c.args.factors.now) (entries a.number before k)
    (entries a.number new k) zero
    (c.add_columns_base.ensures k (subst (λ w. k < w) (sym size) low)
    ∙ ap (λ w. plus a.ops (entries a.number before k) (products a.ops n (λ i. entries image c.args.rows.now (i * w + k)) (entries a.number c.args.factors.now))) size)
