use Rattle.std.proofs.Common.{◌≡◌, ℕ, ◌∙◌, ap}
use Rattle.sc_definitions.specs.Ring.{minus}
use Rattle.sc_definitions.proofs.RingLaws.{times_comm}
use Rattle.sc_definitions.proofs.Maps.{map-minus}
use Rattle.sc_table.proofs.slices.value_between.Goals as goal

pub returns : goal.returns
returns g c =
    let a = g.A.Field in
    let b = g.B.Field in
    let h : ℕ → ℕ = g.A.Algebra.embedding in
    let ring = g.met.A.Field.is_field.ring in
    let low = g.met.B.Field.number_below in
    let slope : h (b.number c.sub.result) ≡ minus a.ops (h (b.number c.args.hi)) (h (b.number c.args.lo)) =
    ap h c.sub.ensures ∙ map-minus b.ops a.ops g.met.B.Field.is_field.ring ring h g.met.A.Algebra.embeds _ _ (low c.args.hi) (low c.args.lo) in
    cc (c.add.ensures, c.embed.ensures, c.mul_base.ensures, slope, times_comm a.ops ring (a.number c.args.r) (minus a.ops (h (b.number c.args.hi)) (h (b.number c.args.lo))))
