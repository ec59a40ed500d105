use Rattle.std.proofs.Common.{◌≡◌, ◌/◌, length, refl, ap, sym, ◌∙◌, rules, arith}
use Rattle.sc_field.proofs.WrittenLaws.{written-none}
use Rattle.sc_degree_tests.proofs.TwoLaws.{bound_more, bound_whole}
use Rattle.sc_degree_tests.proofs.two_products.bind.Goals as goal

pub loop-k-init : goal.loop-k-init
loop-k-init g c = record { written = written-none g.EF.Field.number _ 0 c.args.xs.now.items; len = refl }

pub loop-k-preserved : goal.loop-k-preserved
loop-k-preserved g c =
    let f = g.EF.Field in
    let inv = c.loop-k.invariant in
    let same : length c.loop-k.xs.items ≡ length c.args.xs.now.items = sym c.loop-k.xs.ok.0 ∙ inv.len ∙ c.args.xs.now.ok.0 in
    record {
      written = bound_more f.ops (f.number c.args.r) f.number c.args.xs.now.items c.loop-k.xs.items c.loop-k.k _ inv.written
          (ap (λ n. n / 2) (c.len-half.ensures ∙ c.args.xs.now.ok.0)) same c.loop-k-test.true
          c.index-low.result.now c.index.result.now c.add.result _ _ (search rules) (search rules) c.sub-gap.ensures c.mul.ensures c.add.ensures;
      len = inv.len;
    }

pub returns-clause-bound : goal.returns-clause-bound
returns-clause-bound g c =
    let f = g.EF.Field in
    let inv = c.loop-k.invariant in
    let same : length c.loop-k.xs.items ≡ length c.args.xs.now.items = sym c.loop-k.xs.ok.0 ∙ inv.len ∙ c.args.xs.now.ok.0 in
    bound_whole f.ops (f.number c.args.r) f.number c.args.xs.now.items c.loop-k.xs.items c.loop-k.k _ inv.written
    (ap (λ n. n / 2) (c.len-half.ensures ∙ c.args.xs.now.ok.0)) same (omega (arith, c.loop-k.auto.k-end, c.loop-k-test.false)) _ c.truncate.ensures.items
