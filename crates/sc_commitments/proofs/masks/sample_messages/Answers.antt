use Rattle.std.proofs.Common.{length, ap, sym, ◌∙◌, arith}
use Rattle.sc_commitments.specs.Matrices.{lists_in}
use Rattle.sc_commitments.proofs.CodeLaws.{none-drawn, lists-none, lists-push, lengths-none, lengths-push}
use Rattle.sc_commitments.proofs.masks.sample_messages.Goals as goal

pub loop-place-init : goal.loop-place-init
loop-place-init g c =
    let none = lists-none (g.Enc.ZkEncoding.message_from c.args.encoding.now) (g.G.Rng.stream c.args.rng.now) in
    let empty = c.in_ok-messages.ensures.empty in
    record {
      numbers = ap (lists_in g.EF.Field.number) empty ∙ sym (ap (λ p. p.0) none);
      stream = sym (ap (λ p. p.1) none);
      lengths = lengths-none (g.Enc.ZkEncoding.message_length c.args.encoding.now) c.in_ok-messages.messages.items empty;
      count = c.in_ok-messages.messages.ok.0 ∙ ap length empty;
      room = c.in_ok-messages.ensures.room;
    }

-- one list more
pub loop-place-preserved : goal.loop-place-preserved
loop-place-preserved g c =
    let inv = c.loop-place.invariant in
    let put = c.push_reserved.ensures in
    let v = c.in_ok-sample_message.field-0 in
    let more = lists-push g.EF.Field.number (g.Enc.ZkEncoding.message_from c.args.encoding.now) c.loop-place._place (g.G.Rng.stream c.args.rng.now)
    (g.G.Rng.stream c.loop-place.rng) (g.G.Rng.stream c.sample_message.new.rng) c.loop-place.messages.items c.push_reserved.new.self.items v put.items
    inv.numbers inv.stream c.in_ok-sample_message.ensures.drawn in
    record {
      numbers = more.0;
      stream = more.1;
      lengths = lengths-push (g.Enc.ZkEncoding.message_length c.args.encoding.now) c.loop-place.messages.items c.push_reserved.new.self.items v put.items
          inv.lengths c.in_ok-sample_message.ensures.size;
      count = omega (arith, put.len, inv.count);
      room = omega (arith, put.capacity, inv.room);
    }

pub returns-in_err-messages-clause-refused : goal.returns-in_err-messages-clause-refused
returns-in_err-messages-clause-refused g c = none-drawn _ (g.Enc.ZkEncoding.message_from c.args.encoding.now) _ (g.G.Rng.stream c.args.rng.now)
