use Rattle.std.proofs.Common.{◌≡◌, ◌+◌, arith}
use Rattle.sc_degree.proofs.LagrangeLaws.{weights-more, weights-all}
use Rattle.sc_degree.proofs.util.RoundPolyInterpolator.new.Goals as goal

pub loop-node-preserved : goal.loop-node-preserved
loop-node-preserved g c =
    let e = g.EF.Field in
    record {
      so_far = weights-more e.ops e.number (c.args.degree + 1) c.loop-node.node c.loop-node.weights.items c.push_reserved.new.self.items c.weight_of.result
          c.push_reserved.ensures.items c.loop-node.invariant.so_far c.weight_of.ensures;
      room = omega (arith, c.push_reserved.ensures.capacity, c.loop-node.invariant.room);
    }

pub invariant_of-result : goal.invariant_of-result
invariant_of-result g c =
    let e = g.EF.Field in
    let weights = c.loop-node.weights in
    let done = c.loop-node.invariant.so_far in
    let all : c.loop-node.node ≡ c.args.degree + 1 = omega (arith, c.loop-node-test.false, c.loop-node.auto.node-end) in
    record {
      some = omega (arith, all, done.size, weights.ok.0, c.requires.some);
      few = omega (arith, all, done.size, weights.ok.0, c.requires.nodes);
      are = weights-all e.ops e.number (c.args.degree + 1) c.loop-node.node weights.items all done;
    }
