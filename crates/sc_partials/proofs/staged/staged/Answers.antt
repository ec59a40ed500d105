use Rattle.std.proofs.Common.{◌≡◌, suc, ◌+◌, ◌*◌, ◌-◌, ◌%◌, ◌^◌, length, ◌∙◌, ap, sym, refl, subst, arith}
use Rattle.std.proofs.Math.Nat.{pow-suc}
use Rattle.sc_definitions.specs.Tables.{entries}
use Rattle.sc_table.specs.Strategy.{order_of}
use Rattle.sc_partials.specs.Staged.{IsStaged, HasDigit}
use Rattle.sc_partials.proofs.StagedLaws.{staged-none, staged-more, some_places, few_values, shifted_one, two_parts}
use Rattle.sc_partials.proofs.staged.staged.Goals as goal

pub loop-i-init : goal.loop-i-init
loop-i-init g c =
    let e = g.EF.Field in
    let whole : c.args.before ≡ c.args.before - 0 = omega arith in (
      subst (λ xs. IsStaged e.number e.ops (order_of c.args.order) (entries e.number c.args.table.now) 0 (suc (c.args.before - 0)) xs) (sym c.in_ok-values.ensures.items)
          (subst (λ n. IsStaged e.number e.ops (order_of c.args.order) (entries e.number c.args.table.now) 0 (suc n) c.args.table.now) whole
          (staged-none e.number e.ops (order_of c.args.order) (suc c.args.before) c.args.table.now c.requires.size)),
      refl,
    )

pub with_digit-requires-clause-size : goal.with_digit-requires-clause-size
with_digit-requires-clause-size g c =
    let m = c.args.before - c.loop-i.i in
    let rows = shifted_one m (omega (arith, c.requires.few)) in
    two_parts m c.loop-i.i (length c.deref.result.now) (ap length c.deref.ensures.value ∙ c.loop-i.invariant.0.size)
    ∙ ap (λ n. (n + n) * 3 ^ c.loop-i.i) (sym rows)
    ∙ ap (λ n. ((1 * 2 ^ m) % 18446744073709551616 + (1 * 2 ^ m) % 18446744073709551616) * n) (sym c.loop-i.invariant.1)

pub with_digit-requires-clause-some : goal.with_digit-requires-clause-some
with_digit-requires-clause-some g c = omega (arith, c.loop-i.invariant.1, some_places c.loop-i.i)

pub with_digit-requires-clause-few : goal.with_digit-requires-clause-few
with_digit-requires-clause-few g c =
    let few = few_values (suc (c.args.before - c.loop-i.i)) c.loop-i.i (omega (arith, c.requires.few, c.loop-i-test.true)) in
    omega (arith, few, ap length c.deref.ensures.value, c.loop-i.invariant.0.size)

pub loop-i-preserved : goal.loop-i-preserved
loop-i-preserved g c =
    let e = g.EF.Field in
    let i = c.loop-i.i in
    let m = c.args.before - i in
    let left : m ≡ suc (c.args.before - (i + 1)) = omega (arith, c.loop-i-test.true) in
    let rows = shifted_one m (omega (arith, c.requires.few)) in
    let f = entries e.number c.args.table.now in
    let order = order_of c.args.order in
    let new = c.in_ok-values-2.values.items in
    let more : HasDigit e.number e.ops order m (3 ^ i) c.loop-i.values.items new =
    subst (λ xs. HasDigit e.number e.ops order m (3 ^ i) xs new) c.deref.ensures.value
    (subst (λ n. HasDigit e.number e.ops order m n c.deref.result.now new) c.loop-i.invariant.1 (c.in_ok-values-2.ensures m rows)) in
    let next = staged-more e.number e.ops g.met.EF.Field.is_field.ring order f i m c.loop-i.values.items new c.loop-i.invariant.0 more in
    let same : suc i ≡ i + 1 = omega arith in
    let power : 3 ^ (i + 1) ≡ 3 ^ i * 3 = ap (λ n. 3 ^ n) (sym same) ∙ pow-suc 3 i in (
      subst (λ n. IsStaged e.number e.ops order f n (suc (c.args.before - (i + 1))) new) same (subst (λ n. IsStaged e.number e.ops order f (suc i) n new) left next),
      omega (arith, power, c.loop-i.invariant.1),
    )

pub returns : goal.returns
returns g c =
    let e = g.EF.Field in
    let done : c.loop-i.i ≡ c.args.before = omega (arith, c.loop-i.auto.i-end, c.loop-i-test.false) in
    let none : suc (c.args.before - c.args.before) ≡ 1 = omega arith in
    let f = entries e.number c.args.table.now in
    let order = order_of c.args.order in
    subst (λ n. IsStaged e.number e.ops order f c.args.before n c.loop-i.values.items) none
    (subst (λ n. IsStaged e.number e.ops order f n (suc (c.args.before - n)) c.loop-i.values.items) done c.loop-i.invariant.0)
