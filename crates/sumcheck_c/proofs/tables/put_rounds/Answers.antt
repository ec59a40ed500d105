use Rattle.std.proofs.Common.{◌≡◌, ℕ, ◌<◌, List, [], ◌∷◌, length, map, slice_set, sym, ◌∙◌, ap, arith}
use Rattle.std.proofs.lemmas.List.{length-map, map-set}
use Rattle.sc_small_fields.specs.declared.f65537.F65537.{F65537}
use Rattle.sc_table.specs.declared.strategy.RoundMessage.{RoundMessage}
use Rattle.sumcheck_tables.specs.Views.{numbers_in}
use Rattle.sumcheck_c.proofs.TypedLaws.{front-step, mapped-read, same-read}
use Rattle.sumcheck_c.proofs.tables.put_rounds.Goals as goal

pub loop-i-preserved : goal.loop-i-preserved
loop-i-preserved c =
    let pair : RoundMessage F65537 → List ℕ = λ m. m.c_a.value ∷ m.c_inf.value ∷ [] in
    let xs = c.args.messages.now in
    let i = c.loop-i.i in
    let x = c.index-messages-i.result in
    let few = c.min-n.ensures in
    let long = length-map xs pair in
    let kept = length-map c.args.out.now numbers_in in
    let low : i < length xs = omega (arith, few) in
    let low' : i < length (map pair xs) = omega (arith, few, long) in
    let room : i < length (map numbers_in c.args.out.now) = omega (arith, few, kept) in
    let again = same-read xs i x c.index-messages-i-in-loop-i.result low c.index-messages-i.is c.index-messages-i-in-loop-i.is in
    let first : c.number_of.result ≡ x.c_a.value = c.number_of.ensures ∙ ap (λ m. m.c_a.value) (sym c.index-messages-i.is) in
    let second : c.number_of-in-loop-i.result ≡ x.c_inf.value = c.number_of-in-loop-i.ensures ∙ ap (λ m. m.c_inf.value) (sym c.index-messages-i-in-loop-i.is ∙ again) in
    let put : c.number_of.result ∷ c.number_of-in-loop-i.result ∷ [] ≡ pair x =
    ap (λ k. k ∷ c.number_of-in-loop-i.result ∷ []) first ∙ ap (λ k. x.c_a.value ∷ k ∷ []) second in
    map-set numbers_in c.loop-i.out i _ ∙ ap (λ v. slice_set (map numbers_in c.loop-i.out) i v) put ∙ ap (λ l. slice_set l i (pair x)) c.loop-i.invariant
    ∙ front-step i (map pair xs) (map numbers_in c.args.out.now) (pair x) low' room (mapped-read pair xs i x low c.index-messages-i.is)
