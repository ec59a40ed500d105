use Rattle.std.proofs.Common.{ℕ, map, sym, ◌∙◌, ap}
use Rattle.sc_definitions.specs.Tables.{entries, value}
use Rattle.sc_definitions.specs.Statements.{equality, true_value}
use Rattle.sc_definitions.proofs.Lengths.{pow-same}
use Rattle.sc_definitions.proofs.StatementLaws.{true_value-equality}
use Rattle.sc_definitions.proofs.TableLaws.{value-same}
use Rattle.sc_table.proofs.EntryLaws.{entry-embedded}
use Rattle.sc_weights.proofs.equality.PointRowWeights.true_value.Goals as goal

pub returns : goal.returns
returns g c n size =
    let f = g.EF.Field in
    let embed = g.EF.Algebra.embedding in
    let number = g.A.Field.number in
    let rows = c.args.rows.now in
    let zs = map f.number c.args.self.now in
    let table : ℕ → ℕ = λ b. embed (entries number rows b) in
    c.eval_slice.ensures
    ∙ ap (λ xs. value f.ops (entries (λ x. embed (number x)) rows) (map f.number xs)) c.as_slice.ensures
    ∙ value-same f.ops _ _ zs (λ b _. entry-embedded embed number rows b g.met.EF.Algebra.embeds.zero_kept)
    ∙ sym (true_value-equality f.ops table zs)
    ∙ ap (λ k. true_value f.ops k table (equality zs)) (c.requires.1.1 ∙ pow-same c.requires.0 n (sym c.requires.1.0 ∙ size))
