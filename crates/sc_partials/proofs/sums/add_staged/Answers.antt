use Rattle.std.proofs.Common.{◌≡◌, ◌^◌, length, take, drop, ◌∙◌, ap, sym, arith}
use Rattle.std.proofs.lemmas.List.{with_items_is}
use Rattle.sc_definitions.specs.Ring.{plus, times, minus}
use Rattle.sc_definitions.specs.Tables.{entries}
use Rattle.sc_table.specs.Strategy.{order_of}
use Rattle.sc_partials.proofs.SumLaws.{grid-added}
use Rattle.sc_partials.proofs.sums.add_staged.Goals as goal

pub returns-clause-added : goal.returns-clause-added
returns-clause-added g c =
    let e = g.EF.Field in
    let old = c.args.sums.now in
    let zero = c.add_values.new.sums in
    let infinity = c.add_differences.new.sums in
    let old_zero : c.deref_mut.result.now ≡ old.zero.items = c.deref_mut.ensures.value in
    let old_infinity : c.deref_mut-2.result.now ≡ old.infinity.items = c.deref_mut-2.ensures.value in
    let zero_size : length zero ≡ length old.zero.items = c.add_values.auto.sums ∙ ap length old_zero in
    let infinity_size : length infinity ≡ length old.infinity.items = c.add_differences.auto.sums ∙ ap length old_infinity in
    let zero_is = with_items_is old.zero zero (zero_size ∙ sym old.zero.ok.0) in
    let infinity_is = with_items_is old.infinity infinity (infinity_size ∙ sym old.infinity.ok.0) in
    let places : c.len-places.result ≡ 3 ^ c.args.before = c.len-places.ensures ∙ old.zero.ok.0 ∙ c.requires.sums.zero in
    grid-added e.number e.ops g.met.EF.Field.is_field.ring (order_of c.args.order) (entries e.number c.args.table.now) (entries e.number c.args.weights.now) c.args.before old _
    c.in_ok-table.table.items c.in_ok-weights.weights.items c.split_at.result.0.now c.split_at.result.1.now c.split_at-2.result.0.now c.split_at-2.result.1.now
    c.requires.sums c.in_ok-table.ensures c.in_ok-weights.ensures
    (c.split_at.ensures.front ∙ ap (take c.len-places.result) c.deref.ensures.value ∙ ap (λ n. take n c.in_ok-table.table.items) places)
    (c.split_at.ensures.back ∙ ap (drop c.len-places.result) c.deref.ensures.value ∙ ap (λ n. drop n c.in_ok-table.table.items) places)
    (c.split_at-2.ensures.front ∙ ap (take c.len-places.result) c.deref-2.ensures.value ∙ ap (λ n. take n c.in_ok-weights.weights.items) places)
    (c.split_at-2.ensures.back ∙ ap (drop c.len-places.result) c.deref-2.ensures.value ∙ ap (λ n. drop n c.in_ok-weights.weights.items) places)
    (ap length zero_is ∙ zero_size) (ap length infinity_is ∙ infinity_size)
    (λ k low. ap (λ t. entries e.number t k) zero_is ∙ c.add_values.ensures k (omega (arith, low, ap length old_zero, c.requires.sums.zero))
    ∙ ap (λ t. plus e.ops (entries e.number t k) (times e.ops (entries e.number c.split_at.result.0.now k) (entries e.number c.split_at-2.result.0.now k))) old_zero)
    (λ k low. ap (λ t. entries e.number t k) infinity_is ∙ c.add_differences.ensures k (omega (arith, low, ap length old_infinity, c.requires.sums.infinity))
    ∙ ap (λ t. plus e.ops (entries e.number t k) (times e.ops (minus e.ops (entries e.number c.split_at.result.1.now k) (entries e.number c.split_at.result.0.now k))
    (minus e.ops (entries e.number c.split_at-2.result.1.now k) (entries e.number c.split_at-2.result.0.now k)))) old_infinity)
