use Rattle.std.proofs.Common.{◌∙◌, sym}
use Rattle.sumcheck_veil.proofs.AskedLaws.{long-lists, many-lists}
use Rattle.sumcheck_veil.proofs.masks.written_masks.Goals as goal

-- as many lists of either as there are rounds, each of its length
pub returns-clause-coded : goal.returns-clause-coded
returns-clause-coded g c =
    let N = g.EF.Field.number in
    let w = c.args.written.now in
    let masks = c.in_ok-masks.ensures ∙ c.as_slice.ensures in
    let randomness = c.in_ok-randomness.ensures ∙ c.as_slice-2.ensures in
    record {
      same = many-lists N c.in_ok-masks.masks.items w.messages masks ∙ c.requires.messages.count ∙ sym c.requires.count ∙ sym (many-lists N c.in_ok-randomness.randomness.items w.randomness randomness);
      masks = long-lists N _ c.in_ok-masks.masks.items w.messages masks c.requires.messages.long;
      randomness = long-lists N _ c.in_ok-randomness.randomness.items w.randomness randomness (λ k d low. (c.requires.randomness k d low).1);
    }
