-- The steps of one round more, and those that a refusal leaves.
use Rattle.std.proofs.Common.{◌≡◌, ℕ, zero, suc, ◌+◌, ◌<◌, ◌≤◌, List, [], ◌∷◌, ◌++◌, length, take, Result, Ok, Err, OnErr, refl, ap, sym, ◌∙◌, append_assoc, length-append, arith}
use Rattle.std.proofs.lemmas.List.{append-nil}
use Rattle.sc_definitions.specs.declared.interactions.Interaction.{Interaction}
use Rattle.sc_definitions.specs.declared.interactions.Kind.TheVariants.{Pow}
use Rattle.sc_definitions.specs.declared.interactions.Length.TheVariants.{Fixed}
use Rattle.sc_definitions.specs.declared.interactions.Label.TheVariants.{RoundPow}
use Rattle.sc_definitions.specs.Seeds.{step, pow_steps, round_steps, rounds_steps}
use Rattle.sc_transcript.specs.Gains.{GainsSome}

steps_end : (degree width bits n : ℕ) → rounds_steps degree width bits (suc n) ≡ rounds_steps degree width bits n ++ round_steps degree width bits
steps_end degree width bits zero = append-nil (round_steps degree width bits)
steps_end degree width bits (suc n) =
    let one = round_steps degree width bits in
    ap (λ t. one ++ t) (steps_end degree width bits n) ∙ sym (append_assoc one (rounds_steps degree width bits n) one)

-- one round more comes after the others
pub steps_more : (degree width bits n : ℕ) → rounds_steps degree width bits n ++ round_steps degree width bits ≡ rounds_steps degree width bits (n + 1)
steps_more degree width bits n =
    let next : suc n ≡ n + 1 = omega arith in
    sym (steps_end degree width bits n) ∙ ap (rounds_steps degree width bits) next

-- ---- the steps of one round

-- what holds anyway holds on an error
pub on-refusal : {T E : Type 0} (r : Result T E) (P : Type 0) → P → OnErr r P
on-refusal (Ok x) P p = tt
on-refusal (Err e) P p = p

-- the values' step, and at a positive difficulty the witness's
pub with-witness : (bits : ℕ) (old one two : List Interaction) (first : Interaction) → 0 < bits → one ≡ old ++ first ∷ [] → two ≡ one ++ step Pow 1 (Fixed bits) RoundPow ∷ [] →
    two ≡ old ++ (first ∷ pow_steps bits)
with-witness zero old one two first some one_is two_is = absurd (omega (arith, some))
with-witness (suc b) old one two first some one_is two_is =
    two_is ∙ ap (λ l. l ++ step Pow 1 (Fixed (suc b)) RoundPow ∷ []) one_is ∙ append_assoc old (first ∷ []) (step Pow 1 (Fixed (suc b)) RoundPow ∷ [])

pub without-witness : (bits : ℕ) (old one : List Interaction) (first : Interaction) → bits ≤ 0 → one ≡ old ++ first ∷ [] → one ≡ old ++ (first ∷ pow_steps bits)
without-witness zero old one first none one_is = one_is
without-witness (suc b) old one first none one_is = absurd (omega (arith, none))

-- the first items of a list, which one stands after
all-but_last : {X : Type 0} (xs : List X) (x : X) → take (length xs) (xs ++ x ∷ []) ≡ xs
all-but_last [] x = refl
all-but_last (y ∷ xs) x = ap (λ l. y ∷ l) (all-but_last xs x)

-- all but the last of a list's items were appended
pub gains-but_last : {X : Type 0} (xs : List X) (x : X) (old new : List X) → new ≡ old ++ xs → GainsSome (xs ++ x ∷ []) old new
gains-but_last xs x old new is = record {
  count = length xs;
  few = omega (arith, length-append xs (x ∷ []));
  kept = is ∙ ap (λ l. old ++ l) (sym (all-but_last xs x));
}
