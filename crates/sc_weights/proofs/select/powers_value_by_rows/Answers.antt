use Rattle.std.proofs.Common.{◌≡◌, ℕ, length, ◌∙◌, ap, subst}
use Rattle.sc_definitions.specs.Ring.{times, power}
use Rattle.sc_definitions.proofs.Sums.{sum-same}
use Rattle.sc_table.proofs.EntryLaws.{entry-embedded}
use Rattle.sc_weights.proofs.PowerSteps.{IsSummed, summed-none, summed-more, summed-all}
use Rattle.sc_weights.proofs.select.powers_value_by_rows.Goals as goal

pub loop-row-init : goal.loop-row-init
loop-row-init g c =
    let f = g.EF.Field in
    let met = g.met.EF.Field in
    let of : g.row.A.Denot → ℕ = λ x. g.EF.Algebra-2.embedding (g.A.Field.number x) in
    let z = g.EF.Algebra-1.embedding (g.F.Field.number c.args.var) in
    let rest_is : c.into_iter-row-iterator.result.iter.rest.now ≡ c.args.rows.now = cc in
    record {
      can_next = tt;
      ends = tt;
      summed = summed-none f.ops met.is_field.ring z of c.args.rows.now _ _ rest_is (ap f.number c.ZERO-sum.ensures ∙ met.zero_is);
    }

pub loop-row-preserved : goal.loop-row-preserved
loop-row-preserved g c =
    let f = g.EF.Field in
    let of : g.row.A.Denot → ℕ = λ x. g.EF.Algebra-2.embedding (g.A.Field.number x) in
    let z = g.EF.Algebra-1.embedding (g.F.Field.number c.args.var) in
    let so_far = subst (λ rest. IsSummed of f.ops z c.args.rows.now rest (f.number c.loop-row.sum)) c.in-Some.ensures.steps c.loop-row.invariant.summed in
    record {
      can_next = tt;
      ends = tt;
      summed = summed-more f.ops g.met.EF.Field.is_field.ring z of c.args.rows.now c.next.new.self.iter.rest.now c.in-Some.row.now _ _ so_far
          (cc (c.add-sum.ensures, c.mul_base.ensures, c.embed.ensures));
    }

pub returns : goal.returns
returns g c =
    let f = g.EF.Field in
    let embed = g.EF.Algebra-2.embedding in
    let of : g.row.A.Denot → ℕ = λ x. embed (g.A.Field.number x) in
    let z = g.EF.Algebra-1.embedding (g.F.Field.number c.args.var) in
    let rows = c.args.rows.now in
    summed-all f.ops g.met.EF.Field.is_field.ring z of rows c.loop-row.row-iterator.iter.rest.now _ c.in-None.ensures.steps.0 c.loop-row.invariant.summed
    ∙ sum-same f.ops (length rows) _ _ (λ b _. ap (λ k. times f.ops k (power f.ops z b)) (entry-embedded embed g.A.Field.number rows b g.met.EF.Algebra-2.embeds.zero_kept))
