use Rattle.std.proofs.Common.{◌≡◌, [], length, map, refl, ap, sym, subst, arith, rules}
use Rattle.std.proofs.lemmas.List.{length-map, nil_from_length}
use Rattle.sc_table.specs.Strategy.{order_of}
use Rattle.sc_partials.specs.Partials.{opened}
use Rattle.sc_partials.specs.NextPartials.{AreOf, HaveRows, NextLeaves, part_fewer, rows_by}
use Rattle.sc_partials.proofs.PartialTables.{last-numbers, size_kept, some_kept}
use Rattle.sc_partials.proofs.Refusals.{on-refusal, grows-fewer, grows-more, next-some_none, next-some_fewer, next-some_cut}
use Rattle.sc_partials.proofs.NextTables.{have-of, next-fewer, next-leaves_none, next-leaves_more}
use Rattle.sc_partials.proofs.next_partials.+push_next_partials.Goals as goal

pub fewer-requires : goal.fewer-requires
fewer-requires g t c =
    let size = size_kept (order_of c.args.order) c.args.kept.now c.last_kept-z.result.0 c.last_kept-z.result.1.now c.last_kept-z.ensures in
    (length c.last_kept-z.result.1.now, subst (λ n. AreOf n c.args.tables) size c.requires)

pub push_next_partials-requires : goal.push_next_partials-requires
push_next_partials-requires g t c κs within =
    let size = size_kept (order_of c.args.order) c.args.kept.now c.last_kept-z.result.0 c.last_kept-z.result.1.now c.last_kept-z.ensures in
    let m = length c.last_kept-z.result.1.now in
    let made = c.in_ok-next.ensures m (subst (λ n. AreOf n c.args.tables) size c.requires) in (
      omega (arith, size, c.decreases),
      (within, have-of g.EF.Field.number m _ c.in_ok-next.next made),
    )

pub returns-then-is_empty-clause-rounds : goal.returns-then-is_empty-clause-rounds
returns-then-is_empty-clause-rounds g t c f zs is =
    let e = g.EF.Field in
    let order = order_of c.args.order in
    let empty : c.args.kept.now ≡ [] = nil_from_length c.args.kept.now (search rules) in
    let none : map e.number c.args.kept.now ≡ [] = ap (map e.number) empty in
    subst (λ n. NextLeaves e.ops e.number (opened order f zs) n c.args.rounds.now.items c.args.rounds.now.items c.closed.result) (length-map c.args.kept.now e.number)
    (next-leaves_none e.ops g.met.EF.Field.is_field.ring e.number f zs order (map e.number c.args.kept.now) c.args.tables c.args.rounds.now.items c.closed.result none is c.closed.ensures)

pub returns-clause-rounds : goal.returns-clause-rounds
returns-clause-rounds g t c f zs is =
    let e = g.EF.Field in
    let ring = g.met.EF.Field.is_field.ring in
    let order = order_of c.args.order in
    let kept = map e.number c.args.kept.now in
    let rest = map e.number c.last_kept-z.result.1.now in
    let z = e.number c.last_kept-z.result.0 in
    let m = length c.last_kept-z.result.1.now in
    let size = size_kept order c.args.kept.now c.last_kept-z.result.0 c.last_kept-z.result.1.now c.last_kept-z.ensures in
    let last = last-numbers e.number order c.args.kept.now c.last_kept-z.result.0 c.last_kept-z.result.1.now c.last_kept-z.ensures in
    let made = c.in_ok-next.ensures m (subst (λ n. AreOf n c.args.tables) size c.requires) in
    let count : m ≡ length rest = sym (length-map c.last_kept-z.result.1.now e.number) in
    let fewer = subst (λ n. HaveRows e.number n (part_fewer order e.ops n z (rows_by e.number c.args.tables)) c.in_ok-next.next) count made in
    let next = next-fewer e.ops ring e.number f zs order kept rest z c.args.tables c.in_ok-next.next last is fewer in
    let less = subst (λ n. NextLeaves e.ops e.number (opened order f zs) n c.args.rounds.now.items c.push_next_partials.new.rounds.items c.in_ok-value.value) count
    (c.in_ok-value.ensures.rounds f zs next) in
    subst (λ n. NextLeaves e.ops e.number (opened order f zs) n c.args.rounds.now.items c.push.new.self.items c.in_ok-value.value) (length-map c.args.kept.now e.number)
    (next-leaves_more e.ops ring e.number f zs order kept rest z c.args.tables c.args.rounds.now.items c.push_next_partials.new.rounds.items
    c.push.new.self.items c.in_ok-value.value last is less c.in_ok-push.ensures.items)

-- no memory for the next tables
pub returns-in_err-next-clause-refused : goal.returns-in_err-next-clause-refused
returns-in_err-next-clause-refused g t c f zs is =
    let e = g.EF.Field in
    let order = order_of c.args.order in
    let fewer = some_kept order c.args.kept.now c.last_kept-z.result.0 c.last_kept-z.result.1.now c.last_kept-z.ensures in
    on-refusal c.from_residual.result _ (next-some_none e.ops e.number f zs order (length c.args.kept.now) c.args.rounds.now.items (omega (arith, fewer)))

-- or for those after them
pub returns-in_err-value-clause-refused : goal.returns-in_err-value-clause-refused
returns-in_err-value-clause-refused g t c f zs is =
    let e = g.EF.Field in
    let ring = g.met.EF.Field.is_field.ring in
    let order = order_of c.args.order in
    let kept = map e.number c.args.kept.now in
    let rest = map e.number c.last_kept-z.result.1.now in
    let z = e.number c.last_kept-z.result.0 in
    let m = length c.last_kept-z.result.1.now in
    let size = size_kept order c.args.kept.now c.last_kept-z.result.0 c.last_kept-z.result.1.now c.last_kept-z.ensures in
    let last = last-numbers e.number order c.args.kept.now c.last_kept-z.result.0 c.last_kept-z.result.1.now c.last_kept-z.ensures in
    let made = c.in_ok-next.ensures m (subst (λ n. AreOf n c.args.tables) size c.requires) in
    let count : m ≡ length rest = sym (length-map c.last_kept-z.result.1.now e.number) in
    let fewer_rows = subst (λ n. HaveRows e.number n (part_fewer order e.ops n z (rows_by e.number c.args.tables)) c.in_ok-next.next) count made in
    let next = next-fewer e.ops ring e.number f zs order kept rest z c.args.tables c.in_ok-next.next last is fewer_rows in
    let fewer = some_kept order c.args.kept.now c.last_kept-z.result.0 c.last_kept-z.result.1.now c.last_kept-z.ensures in
    on-refusal c.from_residual-in_err-value.result _
    (next-some_fewer e.ops e.number f zs order m (length c.args.kept.now) c.args.rounds.now.items c.push_next_partials.new.rounds.items fewer
    (c.in_err-value.ensures.refused f zs next))

pub returns-in_err-value-clause-kept : goal.returns-in_err-value-clause-kept
returns-in_err-value-clause-kept g t c =
    let fewer = some_kept (order_of c.args.order) c.args.kept.now c.last_kept-z.result.0 c.last_kept-z.result.1.now c.last_kept-z.ensures in
    grows-fewer (length c.last_kept-z.result.1.now) (length c.args.kept.now) c.args.rounds.now.items c.push_next_partials.new.rounds.items c.push_next_partials.new.rounds.items
    (omega (arith, fewer)) c.in_err-value.ensures.kept refl

-- or for the list
pub returns-in_err-push-clause-refused : goal.returns-in_err-push-clause-refused
returns-in_err-push-clause-refused g t c f zs is =
    let e = g.EF.Field in
    let ring = g.met.EF.Field.is_field.ring in
    let order = order_of c.args.order in
    let kept = map e.number c.args.kept.now in
    let rest = map e.number c.last_kept-z.result.1.now in
    let z = e.number c.last_kept-z.result.0 in
    let m = length c.last_kept-z.result.1.now in
    let size = size_kept order c.args.kept.now c.last_kept-z.result.0 c.last_kept-z.result.1.now c.last_kept-z.ensures in
    let last = last-numbers e.number order c.args.kept.now c.last_kept-z.result.0 c.last_kept-z.result.1.now c.last_kept-z.ensures in
    let made = c.in_ok-next.ensures m (subst (λ n. AreOf n c.args.tables) size c.requires) in
    let count : m ≡ length rest = sym (length-map c.last_kept-z.result.1.now e.number) in
    let fewer_rows = subst (λ n. HaveRows e.number n (part_fewer order e.ops n z (rows_by e.number c.args.tables)) c.in_ok-next.next) count made in
    let next = next-fewer e.ops ring e.number f zs order kept rest z c.args.tables c.in_ok-next.next last is fewer_rows in
    let fewer = some_kept order c.args.kept.now c.last_kept-z.result.0 c.last_kept-z.result.1.now c.last_kept-z.ensures in
    on-refusal c.from_residual-in_err-push.result _
    (next-some_cut e.ops e.number f zs order m (length c.args.kept.now) c.args.rounds.now.items c.push_next_partials.new.rounds.items
    c.push.new.self.items c.in_ok-value.value fewer (c.in_ok-value.ensures.rounds f zs next) c.in_err-push.ensures.items)

pub returns-in_err-push-clause-kept : goal.returns-in_err-push-clause-kept
returns-in_err-push-clause-kept g t c =
    let fewer = some_kept (order_of c.args.order) c.args.kept.now c.last_kept-z.result.0 c.last_kept-z.result.1.now c.last_kept-z.ensures in
    grows-fewer (length c.last_kept-z.result.1.now) (length c.args.kept.now) c.args.rounds.now.items c.push_next_partials.new.rounds.items c.push.new.self.items
    (omega (arith, fewer)) c.in_ok-value.ensures.kept c.in_err-push.ensures.items

pub returns-clause-kept : goal.returns-clause-kept
returns-clause-kept g t c =
    let fewer = some_kept (order_of c.args.order) c.args.kept.now c.last_kept-z.result.0 c.last_kept-z.result.1.now c.last_kept-z.ensures in
    grows-more (length c.last_kept-z.result.1.now) (length c.args.kept.now) c.args.rounds.now.items c.push_next_partials.new.rounds.items c.push.new.self.items
    c.args.tables fewer c.in_ok-value.ensures.kept c.in_ok-push.ensures.items
