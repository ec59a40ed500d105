use Rattle.std.proofs.Common.{map, ◌∙◌, ap}
use Rattle.sc_definitions.specs.Tables.{value}
use Rattle.sc_definitions.proofs.TableLaws.{value-same}
use Rattle.sc_definitions.specs.Tables.{entries}
use Rattle.sc_table.proofs.EntryLaws.{entry-embedded}
use Rattle.sc_table.proofs.poly.Poly.eval.Goals as goal

pub returns : goal.returns
returns g c =
    let e = g.E.Field in
    let h = g.E.Algebra.embedding in
    let zs = map e.number c.args.z.now in
    let f = λ (x : g.row.A.Denot). h (g.A.Field.number x) in
    c.eval_slice.ensures
    ∙ ap (λ xs. value e.ops (entries f c.as_slice.result.now) (map e.number xs)) c.as_slice-2.ensures
    ∙ ap (λ xs. value e.ops (entries f xs) zs) c.as_slice.ensures.value
    ∙ value-same e.ops _ _ zs (λ b _. entry-embedded h g.A.Field.number c.args.self.now.evals.items b g.met.E.Algebra.embeds.zero_kept)
