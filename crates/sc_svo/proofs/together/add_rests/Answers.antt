use Rattle.std.proofs.Common.{◌≡◌, ℕ, suc, ◌+◌, ◌*◌, ◌%◌, ◌^◌, ◌≤◌, length, ◌∙◌, ap, sym, arith}
use Rattle.std.proofs.lemmas.List.{with_items_is}
use Rattle.sc_definitions.specs.Tables.{entries}
use Rattle.sc_table.specs.Strategy.{order_of}
use Rattle.sc_table.proofs.PowerLaws.{one-shifted}
use Rattle.sc_svo.proofs.TogetherLaws.{rests-none, rests-more, rests-all}
use Rattle.sc_svo.proofs.together.add_rests.Goals as goal

-- how many rows a round's own variables have, and how many choices there are of those after them
own : (before after : ℕ) → suc before + after ≤ 40 → 1 * 2 ^ (before + 1) % 18446744073709551616 ≡ 2 ^ suc before
own before after few = let next : before + 1 ≡ suc before = omega arith in one-shifted (before + 1) (omega (arith, few)) ∙ ap (λ n. 2 ^ n) next

others : (before after : ℕ) → suc before + after ≤ 40 → 1 * 2 ^ after % 18446744073709551616 ≡ 2 ^ after
others before after few = one-shifted after (omega (arith, few))

pub loop-rest-init : goal.loop-rest-init
loop-rest-init g c =
    let e = g.EF.Field in
    record {
      rows = c.in_ok-rows.ensures ∙ own c.args.before c.args.after c.requires.few;
      beside = c.in_ok-beside.ensures ∙ own c.args.before c.args.after c.requires.few;
      added = rests-none e.number e.ops (order_of c.args.order) (entries (λ (x : g.row.F.Denot). g.EF.Algebra.embedding (g.F.Field.number x)) c.args.table.now)
          (entries e.number c.args.weights.now) c.args.before c.args.after g.met.EF.Field.is_field.ring g.met.EF.Field.number_below c.args.sums.now c.requires.sized;
    }

pub loop-rest-preserved : goal.loop-rest-preserved
loop-rest-preserved g c =
    let e = g.EF.Field in
    let j = c.args.before in
    let m = c.args.after in
    let r = c.loop-rest.rest in
    let so_far = c.loop-rest.invariant in
    let rests = others j m c.requires.few in
    let first = c.read_rest.new.rows in
    let second = c.read_rest-in-loop-rest.new.rows in
    let first_size : length first ≡ 2 ^ suc j = c.read_rest.auto.rows ∙ ap length c.deref_mut.ensures.value ∙ so_far.rows in
    let second_size : length second ≡ 2 ^ suc j = c.read_rest-in-loop-rest.auto.rows ∙ ap length c.deref_mut-in-loop-rest.ensures.value ∙ so_far.beside in
    let first_items = with_items_is c.loop-rest.rows first (first_size ∙ sym so_far.rows ∙ sym c.loop-rest.rows.ok.0) in
    let second_items = with_items_is c.loop-rest.beside second (second_size ∙ sym so_far.beside ∙ sym c.loop-rest.beside.ok.0) in
    record {
      rows = ap length first_items ∙ first_size;
      beside = ap length second_items ∙ second_size;
      added = rests-more e.number e.ops (order_of c.args.order) (entries (λ (x : g.row.F.Denot). g.EF.Algebra.embedding (g.F.Field.number x)) c.args.table.now)
          (entries e.number c.args.weights.now) j m g.met.EF.Field.is_field.ring r c.args.sums.now c.loop-rest.sums c.add_products.new.sums _ _
          (λ a low. ap (λ xs. entries e.number xs a) (c.deref.ensures.value ∙ first_items)
          ∙ c.read_rest.ensures (suc j) m (ap length c.deref_mut.ensures.value ∙ so_far.rows) rests a low)
          (λ a low. ap (λ xs. entries e.number xs a) (c.deref-in-loop-rest.ensures.value ∙ second_items)
          ∙ c.read_rest-in-loop-rest.ensures (suc j) m (ap length c.deref_mut-in-loop-rest.ensures.value ∙ so_far.beside) rests a low)
          so_far.added c.in_ok-add_products.ensures.added;
    }

pub returns : goal.returns
returns g c =
    let e = g.EF.Field in
    let rests = others c.args.before c.args.after c.requires.few in
    rests-all e.number e.ops (order_of c.args.order) (entries (λ (x : g.row.F.Denot). g.EF.Algebra.embedding (g.F.Field.number x)) c.args.table.now)
    (entries e.number c.args.weights.now) c.args.before c.args.after c.loop-rest.rest c.args.sums.now c.loop-rest.sums
    (omega (arith, c.loop-rest-test.false, c.loop-rest.auto.rest-end, rests)) c.loop-rest.invariant.added
