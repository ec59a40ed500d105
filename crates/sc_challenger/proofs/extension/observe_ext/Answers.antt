use Rattle.std.proofs.Common.{◌≡◌, ◌<◌, ◌+◌, ℕ, List, [], ◌∷◌, ◌++◌, get_or, take, sym, ap, ◌∙◌, append_assoc, length, arith}
use Rattle.std.proofs.lemmas.List.{map-append, take_more}
use Rattle.sc_definitions.specs.declared.events.Event.TheVariants.{Word}
use Rattle.sc_definitions.specs.Events.{words}
use Rattle.sc_challenger.proofs.extension.observe_ext.Goals as goal

-- the words of one part more
one_more : (parts : List ℕ) (i n : ℕ) → i < length parts → n ≡ get_or parts i 0 → words (take i parts) ++ Word n ∷ [] ≡ words (take (i + 1) parts)
one_more parts i n small is =
    ap (λ k. words (take i parts) ++ Word k ∷ []) is ∙ sym (map-append Word (take i parts) (get_or parts i 0 ∷ [])) ∙ sym (ap words (take_more parts i 0 small))

-- a part more is a word more
pub loop-i-preserved : goal.loop-i-preserved
loop-i-preserved g c =
    let told = rw c.unwrap.ensures at c.observe.ensures in
    let before = (g.C.Challenger.party c.reserve.new.self).history in
    let parts = g.EF.ExtensionField.extension.parts (g.EF.Field.number c.args.x) in
    let many = g.met.EF.ExtensionField.extends.length_parts (g.EF.Field.number c.args.x) (g.met.EF.Field.number_below c.args.x) in
    record {
      rules = told.rules ∙ c.loop-i.invariant.rules;
      history = told.history ∙ ap (λ h. h ++ Word (g.F.Field.number c.part.result) ∷ []) c.loop-i.invariant.history
          ∙ append_assoc before (words (take c.loop-i.i parts)) (Word (g.F.Field.number c.part.result) ∷ [])
          ∙ ap (λ l. before ++ l) (one_more parts c.loop-i.i (g.F.Field.number c.part.result) (omega arith) c.part.ensures);
      room = omega (arith, told.spare);
      spare = omega (arith, told.spare);
    }
