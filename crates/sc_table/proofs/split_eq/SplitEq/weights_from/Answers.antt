use Rattle.std.proofs.Common.{◌≡◌, ◌+◌, set, sym, ◌∙◌, ap, arith, ⊎_elim}
use Rattle.std.proofs.lemmas.Bool.{cases_eq}
use Rattle.sc_definitions.specs.Tables.{entries}
use Rattle.sc_field.proofs.EntryLaws.{entry-set_same, entry-set_other}
use Rattle.sc_table.specs.SplitEqs.{split_weight}
use Rattle.sc_table.proofs.split_eq.SplitEq.weights_from.Goals as goal

pub loop-k-preserved : goal.loop-k-preserved
loop-k-preserved g c =
    let f = g.EF.Field in
    let k = c.loop-k.k in
    let old = c.loop-k.weights in
    let x = c.weight.result in
    record {
      written = λ b low. ⊎_elim
          (λ at. let same : k ≡ b = omega (arith, at) in
          sym (ap (entries f.number (set old k x)) same) ∙ entry-set_same f.number old k x (omega arith) ∙ c.weight.ensures
          ∙ ap (λ j. split_weight f.number f.ops c.args.self.now (c.args.from + j)) same)
          (λ apart. entry-set_other f.number old k b x apart ∙ c.loop-k.invariant.written b (omega (arith, low, apart)))
          (cases_eq b k);
    }
