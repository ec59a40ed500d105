use Rattle.std.proofs.Common.{◌≡◌, ◌<◌, [], length, map, ◌∙◌, ap, sym, subst, arith, rules}
use Rattle.std.proofs.lemmas.List.{length-map, nil_from_length}
use Rattle.std.proofs.lemmas.Nat.{pow_pos}
use Rattle.sc_table.specs.Polys.{variables_of}
use Rattle.sc_table.specs.Strategy.{order_of}
use Rattle.sc_table.proofs.EntryLaws.{entry-read}
use Rattle.sc_partials.specs.Partials.{opened, Leaves}
use Rattle.sc_partials.proofs.PartialTables.{partial-fewer, leaves-none, leaves-more, last-numbers, size_fewer, some_kept}
use Rattle.sc_partials.proofs.Refusals.{on-refusal, grows-fewer, grows-more, some-none, some-fewer, some-cut}
use Rattle.sc_partials.proofs.partials.+push_partials.Goals as goal

pub sum_over-requires : goal.sum_over-requires
sum_over-requires g t c =
    let some = some_kept (order_of c.args.order) c.args.kept.now c.last_kept-z.result.0 c.last_kept-z.result.1.now c.last_kept-z.ensures in
    omega (arith, some, c.requires)

pub push_partials-requires : goal.push_partials-requires
push_partials-requires g t c κs within =
    let fewer = some_kept (order_of c.args.order) c.args.kept.now c.last_kept-z.result.0 c.last_kept-z.result.1.now c.last_kept-z.ensures in (
      omega (arith, fewer, c.decreases),
      (
        within,
        size_fewer (order_of c.args.order) c.args.kept.now c.last_kept-z.result.0 c.last_kept-z.result.1.now _ _ c.last_kept-z.ensures c.requires c.in_ok-next.ensures.fewer,
      ),
    )

pub returns-then-is_empty-clause-rounds : goal.returns-then-is_empty-clause-rounds
returns-then-is_empty-clause-rounds g t c f zs is =
    let e = g.EF.Field in
    let order = order_of c.args.order in
    let empty : c.args.kept.now ≡ [] = nil_from_length c.args.kept.now (search rules) in
    let none : map e.number c.args.kept.now ≡ [] = ap (map e.number) empty in
    let some : 0 < length c.as_slice.result.now = omega (arith, c.as_slice.ensures.size, pow_pos (variables_of c.args.table)) in
    let read = entry-read e.number c.as_slice.result.now 0 c.index-as_slice-0.result some c.index-as_slice-0.is in
    subst (λ n. Leaves e.ops e.number (opened order f zs) n c.args.rounds.now.items c.args.rounds.now.items c.index-as_slice-0.result) (length-map c.args.kept.now e.number)
    (leaves-none e.ops g.met.EF.Field.is_field.ring e.number f zs order (map e.number c.args.kept.now) c.args.table c.args.rounds.now.items c.index-as_slice-0.result
    none is (sym read ∙ ap (λ t. t 0) c.as_slice.ensures.numbers))

pub returns-clause-rounds : goal.returns-clause-rounds
returns-clause-rounds g t c f zs is =
    let e = g.EF.Field in
    let ring = g.met.EF.Field.is_field.ring in
    let order = order_of c.args.order in
    let kept = map e.number c.args.kept.now in
    let rest = map e.number c.last_kept-z.result.1.now in
    let z = e.number c.last_kept-z.result.0 in
    let last = last-numbers e.number order c.args.kept.now c.last_kept-z.result.0 c.last_kept-z.result.1.now c.last_kept-z.ensures in
    let next = partial-fewer e.ops ring e.number f zs order kept rest z c.args.table c.in_ok-next.next last is c.in_ok-next.ensures in
    let less = subst (λ n. Leaves e.ops e.number (opened order f zs) n c.args.rounds.now.items c.push_partials.new.rounds.items c.in_ok-value.value)
    (sym (length-map c.last_kept-z.result.1.now e.number)) (c.in_ok-value.ensures.rounds f zs next) in
    subst (λ n. Leaves e.ops e.number (opened order f zs) n c.args.rounds.now.items c.push.new.self.items c.in_ok-value.value) (length-map c.args.kept.now e.number)
    (leaves-more e.ops ring e.number f zs order kept rest z (record { table = c.args.table }) c.args.rounds.now.items c.push_partials.new.rounds.items
    c.push.new.self.items c.in_ok-value.value last is less c.in_ok-push.ensures.items)

-- no memory for the next table
pub returns-in_err-next-clause-refused : goal.returns-in_err-next-clause-refused
returns-in_err-next-clause-refused g t c f zs is =
    let e = g.EF.Field in
    let order = order_of c.args.order in
    let fewer = some_kept order c.args.kept.now c.last_kept-z.result.0 c.last_kept-z.result.1.now c.last_kept-z.ensures in
    on-refusal c.from_residual.result _ (some-none e.ops e.number f zs order (length c.args.kept.now) c.args.rounds.now.items (omega (arith, fewer)))

-- or for those after it
pub returns-in_err-value-clause-refused : goal.returns-in_err-value-clause-refused
returns-in_err-value-clause-refused g t c f zs is =
    let e = g.EF.Field in
    let order = order_of c.args.order in
    let kept = map e.number c.args.kept.now in
    let rest = map e.number c.last_kept-z.result.1.now in
    let z = e.number c.last_kept-z.result.0 in
    let last = last-numbers e.number order c.args.kept.now c.last_kept-z.result.0 c.last_kept-z.result.1.now c.last_kept-z.ensures in
    let next = partial-fewer e.ops g.met.EF.Field.is_field.ring e.number f zs order kept rest z c.args.table c.in_ok-next.next last is c.in_ok-next.ensures in
    let fewer = some_kept order c.args.kept.now c.last_kept-z.result.0 c.last_kept-z.result.1.now c.last_kept-z.ensures in
    on-refusal c.from_residual-in_err-value.result _
    (some-fewer e.ops e.number f zs order (length c.last_kept-z.result.1.now) (length c.args.kept.now) c.args.rounds.now.items c.push_partials.new.rounds.items fewer
    (c.in_err-value.ensures.refused f zs next))

-- or for the list
pub returns-in_err-push-clause-refused : goal.returns-in_err-push-clause-refused
returns-in_err-push-clause-refused g t c f zs is =
    let e = g.EF.Field in
    let order = order_of c.args.order in
    let kept = map e.number c.args.kept.now in
    let rest = map e.number c.last_kept-z.result.1.now in
    let z = e.number c.last_kept-z.result.0 in
    let last = last-numbers e.number order c.args.kept.now c.last_kept-z.result.0 c.last_kept-z.result.1.now c.last_kept-z.ensures in
    let next = partial-fewer e.ops g.met.EF.Field.is_field.ring e.number f zs order kept rest z c.args.table c.in_ok-next.next last is c.in_ok-next.ensures in
    let fewer = some_kept order c.args.kept.now c.last_kept-z.result.0 c.last_kept-z.result.1.now c.last_kept-z.ensures in
    on-refusal c.from_residual-in_err-push.result _
    (some-cut e.ops e.number f zs order (length c.last_kept-z.result.1.now) (length c.args.kept.now) c.args.rounds.now.items c.push_partials.new.rounds.items
    c.push.new.self.items c.in_ok-value.value fewer (c.in_ok-value.ensures.rounds f zs next) c.in_err-push.ensures.items)

pub returns-in_err-push-clause-kept : goal.returns-in_err-push-clause-kept
returns-in_err-push-clause-kept g t c =
    let fewer = some_kept (order_of c.args.order) c.args.kept.now c.last_kept-z.result.0 c.last_kept-z.result.1.now c.last_kept-z.ensures in
    grows-fewer (length c.last_kept-z.result.1.now) (length c.args.kept.now) c.args.rounds.now.items c.push_partials.new.rounds.items c.push.new.self.items
    (omega (arith, fewer)) c.in_ok-value.ensures.kept c.in_err-push.ensures.items

pub returns-clause-kept : goal.returns-clause-kept
returns-clause-kept g t c =
    let fewer = some_kept (order_of c.args.order) c.args.kept.now c.last_kept-z.result.0 c.last_kept-z.result.1.now c.last_kept-z.ensures in
    grows-more (length c.last_kept-z.result.1.now) (length c.args.kept.now) c.args.rounds.now.items c.push_partials.new.rounds.items c.push.new.self.items
    (record { table = c.args.table }) fewer c.in_ok-value.ensures.kept c.in_ok-push.ensures.items
