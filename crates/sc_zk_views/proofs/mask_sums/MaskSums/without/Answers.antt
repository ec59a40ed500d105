use Rattle.std.proofs.Common.{length, ◌∙◌, ap}
use Rattle.sc_definitions.specs.Ring.{times, minus}
use Rattle.sc_zk_views.proofs.SumLaws.{power-less, sum-less}
use Rattle.sc_zk_views.proofs.mask_sums.MaskSums.without.Goals as goal

pub returns-clause-sums : goal.returns-clause-sums
returns-clause-sums g c = λ base left m.
    let o = g.EF.Field.ops in
    let N = g.EF.Field.number in
    let ring = g.met.EF.Field.is_field.ring in
    let self = c.args.self in
    record {
      half = m.half;
      twice = m.twice;
      step = m.step;
      factor = c.mul.ensures ∙ ap (λ x. times o x (N self.step)) m.factor ∙ power-less o ring base (N self.step) (length left) m.step;
      ends = c.sub.ensures ∙ ap (λ x. minus o x (N c.args.end)) m.ends ∙ sum-less o ring (N c.args.end) left;
    }
