use Rattle.std.proofs.Common.{◌≡◌, ℕ, ◌^◌, true, length, ◌∙◌, ap, sym, arith}
use Rattle.std.proofs.lemmas.List.{with_items_is}
use Rattle.sc_definitions.specs.Ring.{plus, times}
use Rattle.sc_definitions.specs.Tables.{entries}
use Rattle.sc_definitions.proofs.Lengths.{pow-same}
use Rattle.sc_definitions.proofs.TableLaws.{two_halves}
use Rattle.sc_table.specs.Polys.{variables_of, table_of}
use Rattle.sc_table.specs.Strategy.{order_of}
use Rattle.sc_partials.specs.NextPartials.{half_row}
use Rattle.sc_partials.proofs.next_partials.with_half.Goals as goal

pub add_half-requires-clause-half : goal.add_half-requires-clause-half
add_half-requires-clause-half g c =
    let n = variables_of c.args.sums in
    omega (arith, ap length c.deref_mut.ensures.value, c.into_evals-rows.ensures.size, c.as_slice.ensures.size, ap (λ k. 2 ^ k) c.requires, two_halves n)

pub add_half-requires-clause-few : goal.add_half-requires-clause-few
add_half-requires-clause-few g c =
    let t = c.args.table.now in
    omega (arith, c.as_slice.ensures.size, t.sized, t.evals.ok.0, t.evals.small)

pub returns : goal.returns
returns g c =
    let e = g.EF.Field in
    let n = variables_of c.args.sums in
    let rows = c.into_evals-rows.result in
    let new = c.add_half.new.rows in
    let old : c.deref_mut.result.now ≡ rows.items = c.deref_mut.ensures.value in
    let size : length new ≡ length rows.items = c.add_half.auto.rows ∙ ap length old in
    let items = with_items_is rows new (size ∙ sym rows.ok.0) in
    let whole : length rows.items ≡ 2 ^ n = c.into_evals-rows.ensures.size in
    let half : ℕ → ℕ = half_row (order_of c.args.order) true n in
    record {
      variables = pow-same (variables_of c.new.result) n (sym c.new.ensures.size ∙ ap length items ∙ size ∙ whole);
      rows = λ a low.
          ap (λ f. f a) c.new.ensures.table ∙ ap (λ xs. entries e.number xs a) items
          ∙ c.add_half.ensures n (ap length old ∙ whole) a low
          ∙ ap (λ xs. plus e.ops (entries e.number xs a) (times e.ops (e.number c.args.factor) (entries e.number c.as_slice.result.now (half a)))) old
          ∙ ap (λ f. plus e.ops (f a) (times e.ops (e.number c.args.factor) (entries e.number c.as_slice.result.now (half a)))) c.into_evals-rows.ensures.numbers
          ∙ ap (λ f. plus e.ops (table_of e.number c.args.sums a) (times e.ops (e.number c.args.factor) (f (half a)))) c.as_slice.ensures.numbers;
    }
