use Rattle.std.proofs.Common.{map, ◌∙◌, ap}
use Rattle.sc_definitions.specs.Tables.{projective, value_in, entries}
use Rattle.sc_definitions.proofs.HonestRounds.{value_in-same}
use Rattle.sc_table.proofs.EntryLaws.{entry-embedded}
use Rattle.sc_table.proofs.poly.Poly.eval_projective.Goals as goal

pub returns : goal.returns
returns g c =
    let e = g.E.Field in
    let h = g.E.Algebra.embedding in
    let zs = map e.number c.args.z.now in
    let f = λ (x : g.row.A.Denot). h (g.A.Field.number x) in
    c.eval_slice_projective.ensures
    ∙ ap (λ xs. value_in projective e.ops (entries f c.as_slice.result.now) (map e.number xs)) c.as_slice-2.ensures
    ∙ value_in-same projective e.ops _ _ zs (λ b _. entry-embedded h g.A.Field.number c.as_slice.result.now b g.met.E.Algebra.embeds.zero_kept
    ∙ ap (λ t. h (t b)) c.as_slice.ensures.numbers)
