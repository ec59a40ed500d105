use Rattle.std.proofs.Common.{length, ap, sym, ◌∙◌, arith}
use Rattle.sc_commitments.specs.Matrices.{lists_in}
use Rattle.sc_commitments.proofs.CodeLaws.{none-drawn, lists-none, lists-push, lengths-none, lengths-push}
use Rattle.sc_commitments.proofs.masks.sample_all_randomness.Goals as goal

pub loop-place-init : goal.loop-place-init
loop-place-init g c =
    let none = lists-none (g.Enc.ZkEncoding.randomness_from c.args.encoding.now) (g.G.Rng.stream c.args.rng.now) in
    let empty = c.in_ok-randomness.ensures.empty in
    record {
      numbers = ap (lists_in g.EF.Field.number) empty ∙ sym (ap (λ p. p.0) none);
      stream = sym (ap (λ p. p.1) none);
      lengths = lengths-none (g.Enc.ZkEncoding.randomness_length c.args.encoding.now) c.in_ok-randomness.randomness.items empty;
      count = c.in_ok-randomness.randomness.ok.0 ∙ ap length empty;
      room = c.in_ok-randomness.ensures.room;
    }

-- one list more
pub loop-place-preserved : goal.loop-place-preserved
loop-place-preserved g c =
    let inv = c.loop-place.invariant in
    let put = c.push_reserved.ensures in
    let v = c.in_ok-sample_randomness.field-0 in
    let more = lists-push g.EF.Field.number (g.Enc.ZkEncoding.randomness_from c.args.encoding.now) c.loop-place._place (g.G.Rng.stream c.args.rng.now)
    (g.G.Rng.stream c.loop-place.rng) (g.G.Rng.stream c.sample_randomness.new.rng) c.loop-place.randomness.items c.push_reserved.new.self.items v put.items
    inv.numbers inv.stream c.in_ok-sample_randomness.ensures.drawn in
    record {
      numbers = more.0;
      stream = more.1;
      lengths = lengths-push (g.Enc.ZkEncoding.randomness_length c.args.encoding.now) c.loop-place.randomness.items c.push_reserved.new.self.items v put.items
          inv.lengths c.in_ok-sample_randomness.ensures.size;
      count = omega (arith, put.len, inv.count);
      room = omega (arith, put.capacity, inv.room);
    }

pub returns-in_err-randomness-clause-refused : goal.returns-in_err-randomness-clause-refused
returns-in_err-randomness-clause-refused g c = none-drawn _ (g.Enc.ZkEncoding.randomness_from c.args.encoding.now) _ (g.G.Rng.stream c.args.rng.now)
