use Rattle.std.proofs.Common.{◌-◌, length, map, sym, ap, ◌∙◌, arith}
use Rattle.std.proofs.lemmas.List.{length-map}
use Rattle.sc_definitions.specs.Ring.{plus}
use Rattle.sc_field.proofs.RootLaws.{horner, value-none, value-all}
use Rattle.sc_matmul.proofs.TableLaws.{claim-value}
use Rattle.sc_matmul.proofs.tables.claim_at.Goals as goal

pub loop-i-init : goal.loop-i-init
loop-i-init g c =
    let f = g.EF.Field in
    let image = λ (x : g.row.F.Denot). g.EF.Algebra.embedding (g.F.Field.number x) in
    let n = length c.args.claimed.now in
    ap f.number c.ZERO-claim.ensures ∙ g.met.EF.Field.zero_is
    ∙ sym (value-none f.ops (n - 0) (map image c.args.claimed.now) (f.number c.args.point) (length-map _ _ ∙ omega arith))

-- one entry more, before the others
pub loop-i-preserved : goal.loop-i-preserved
loop-i-preserved g c =
    let f = g.EF.Field in
    let o = f.ops in
    let image = λ (x : g.row.F.Denot). g.EF.Algebra.embedding (g.F.Field.number x) in
    let a = c.index-claimed-claimed.result in
    horner o g.met.EF.Field.is_field.ring image c.args.claimed.now c.loop-i.i (f.number c.args.point) _ _ a c.loop-i-test.true c.index-claimed-claimed.is
    c.loop-i.invariant (c.add-claim.ensures ∙ ap (λ v. plus o v (f.number c.embed.result)) c.mul.ensures ∙ ap (plus o _) c.embed.ensures)

pub returns : goal.returns
returns g c =
    let f = g.EF.Field in
    let image = λ (x : g.row.F.Denot). g.EF.Algebra.embedding (g.F.Field.number x) in
    claim-value f.ops g.met.EF.Field.is_field.ring g.EF.Algebra.embedding g.F.Field.number c.args.claimed.now (f.number c.args.point) (f.number c.loop-i.claim)
    (value-all f.ops (map image c.args.claimed.now) (f.number c.args.point) (f.number c.loop-i.claim) (length c.args.claimed.now - c.loop-i.i) c.loop-i.invariant
    (omega (arith, c.loop-i.auto.i-end, c.loop-i-test.false)))
