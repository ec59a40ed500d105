use Rattle.std.proofs.Common.{◌*◌, length, sym, ap, ◌∙◌}
use Rattle.std.proofs.lemmas.List.{length-map}
use Rattle.sumcheck_matmul.proofs.MatmulJobLaws.{even-count}
use Rattle.sumcheck_matmul.proofs.asked.matrix_of.Goals as goal

-- as many entries as rows and columns make
pub new-requires : goal.new-requires
new-requires g c =
    let values = c.in_ok-values.values in
    values.ok.0 ∙ sym (length-map values.items g.F.Field.number) ∙ ap length c.in_ok-values.ensures ∙ even-count c.args.rows.now c.requires.even
    ∙ ap (λ n. length c.args.rows.now * n) (sym c.width_of.ensures)
