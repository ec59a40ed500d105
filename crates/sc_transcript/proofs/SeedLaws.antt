-- Two quadratic shapes with different numbers of rounds, difficulties or bases have different seeds. What the bytes of rounds tell holds of any width.
use Rattle.std.proofs.Common.{◌≡◌, ℕ, zero, suc, ◌/◌, ◌%◌, ◌^◌, ◌<◌, ◌≤◌, List, [], ◌∷◌, ◌++◌, length, get_or, take, drop, flat_map, refl, ap, sym, ◌∙◌, arith, append_assoc, length-append}
use Rattle.std.specs.Int.{w64, from_be_bytes}
use Rattle.std.proofs.lemmas.Nat.{from_be_bytes-to_be_bytes_8}
use Rattle.std.proofs.lemmas.List.{append_cancel_left}
use Rattle.std.proofs.lemmas.Grind.{flat_map-append}
use Rattle.sc_definitions.specs.declared.interactions.Interaction.{Interaction}
use Rattle.sc_definitions.specs.declared.interactions.Kind.TheVariants.{Message, Challenge}
use Rattle.sc_definitions.specs.declared.interactions.Length.TheVariants.{Scalar, Fixed}
use Rattle.sc_definitions.specs.declared.interactions.Label.TheVariants.{RoundPoly, RoundChallenge}
use Rattle.sc_definitions.specs.declared.interactions.Protocol.TheVariants.{Quadratic}
use Rattle.sc_definitions.specs.Tables.{Basis, evaluation, projective}
use Rattle.sc_definitions.specs.Seeds.{step, label_text, protocol_name, eight_bytes, length_prefixed, length_bytes, step_bytes, separator, separator_bytes, nibbles, seed_words, pow_steps, round_steps, rounds_steps, basis_byte, quadratic_seed}
use Rattle.sc_table.specs.declared.strategy.Basis.{Basis as BasisTag}
use Rattle.sc_table.specs.declared.strategy.Basis.TheVariants.{Evaluation, Projective}
use Rattle.sc_table.specs.Strategy.{basis_of}
use Rattle.sc_transcript.specs.declared.transcript.SumcheckShape.{SumcheckShape}
use Rattle.sc_transcript.specs.Shapes.{seed_of}

-- two words tell their byte
pub nibbles-same : (bs cs : List ℕ) → nibbles bs ≡ nibbles cs → bs ≡ cs
unfolding nibbles
nibbles-same [] [] e = refl
nibbles-same [] (c ∷ cs) e = cc
nibbles-same (b ∷ bs) [] e = cc
nibbles-same (b ∷ bs) (c ∷ cs) e =
    let high : b / 16 ≡ c / 16 = ap (λ l. get_or l 0 0) e in
    let low : b % 16 ≡ c % 16 = ap (λ l. get_or l 1 0) e in
    let same : b ≡ c = omega (arith, high, low) in
    ap (λ x. x ∷ bs) same ∙ ap (λ t. c ∷ t) (nibbles-same bs cs (ap (λ l. drop 2 l) e))

-- 8 bytes tell a number below 2^64
pub eight-same : (a b : ℕ) → a < 2 ^ 64 → b < 2 ^ 64 → eight_bytes a ≡ eight_bytes b → a ≡ b
unfolding eight_bytes
eight-same a b small_a small_b e = sym (from_be_bytes-to_be_bytes_8 a small_a) ∙ ap (from_be_bytes w64) e ∙ from_be_bytes-to_be_bytes_8 b small_b

-- the bytes of the steps, and of the label after them
abbrev pub tail_of : List Interaction → List ℕ → List ℕ
tail_of steps label = flat_map step_bytes steps ++ length_prefixed label

-- equal seeds have these bytes in common: 1 + 8 + 21 + 8 bytes stand before them
tail-same : (steps steps' : List Interaction) (label label' : List ℕ) →
    seed_words (separator 1 Quadratic steps label) ≡ seed_words (separator 1 Quadratic steps' label') → tail_of steps label ≡ tail_of steps' label'
unfolding seed_words separator_bytes length_prefixed eight_bytes protocol_name
tail-same steps steps' label label' e =
    ap (drop 38) (nibbles-same (separator_bytes (separator 1 Quadratic steps label)) (separator_bytes (separator 1 Quadratic steps' label')) e)

-- the steps after the first message of some rounds
abbrev pub behind_message : ℕ → ℕ → ℕ → ℕ → List Interaction
behind_message degree width bits n = (pow_steps bits ++ step Challenge degree Scalar RoundChallenge ∷ []) ++ rounds_steps degree width bits n

-- the bytes after it tell the difficulty: the first of them whether it is positive, and further ones which it is
pub difficulty-same : (degree width bits bits' n n' : ℕ) (i i' : List ℕ) → bits < 2 ^ 64 → bits' < 2 ^ 64 →
    flat_map step_bytes (behind_message degree width bits n) ++ i ≡ flat_map step_bytes (behind_message degree width bits' n') ++ i' → bits ≡ bits'
unfolding step_bytes length_bytes length_prefixed eight_bytes label_text
difficulty-same degree width zero zero n n' i i' small small' e = refl
difficulty-same degree width zero (suc b') n n' i i' small small' e = let wrong : 2 ≡ 3 = ap (λ l. get_or l 0 0) e in absurd (omega (arith, wrong))
difficulty-same degree width (suc b) zero n n' i i' small small' e = let wrong : 3 ≡ 2 = ap (λ l. get_or l 0 0) e in absurd (omega (arith, wrong))
difficulty-same degree width (suc b) (suc b') n n' i i' small small' e = eight-same (suc b) (suc b') small small' (ap (λ l. take 8 (drop 10 l)) e)

-- the bytes of rounds tell their difficulty
pub bits-same : (degree width bits bits' n n' : ℕ) (i i' : List ℕ) → bits < 2 ^ 64 → bits' < 2 ^ 64 →
    flat_map step_bytes (rounds_steps degree width bits (suc n)) ++ i ≡ flat_map step_bytes (rounds_steps degree width bits' (suc n')) ++ i' → bits ≡ bits'
bits-same degree width bits bits' n n' i i' small small' e =
    let message = step_bytes (step Message degree (Fixed width) RoundPoly) in
    let rest = flat_map step_bytes (behind_message degree width bits n) in
    let rest' = flat_map step_bytes (behind_message degree width bits' n') in
    difficulty-same degree width bits bits' n n' i i' small small'
    (append_cancel_left message (rest ++ i) (rest' ++ i') (sym (append_assoc message rest i) ∙ e ∙ append_assoc message rest' i'))

-- the bytes of a round before those of others
round_first : (degree width bits n : ℕ) (i : List ℕ) →
    flat_map step_bytes (rounds_steps degree width bits (suc n)) ++ i ≡ flat_map step_bytes (round_steps degree width bits) ++ (flat_map step_bytes (rounds_steps degree width bits n) ++ i)
round_first degree width bits n i =
    let one = round_steps degree width bits in let others = rounds_steps degree width bits n in
    ap (λ t. t ++ i) (flat_map-append step_bytes one others) ∙ append_assoc (flat_map step_bytes one) (flat_map step_bytes others) i

-- rounds have a byte or more
rounds_long : (degree width bits n : ℕ) (i : List ℕ) → length i < length (flat_map step_bytes (rounds_steps degree width bits (suc n)) ++ i)
unfolding step_bytes
rounds_long degree width bits n i = omega (arith, length-append (flat_map step_bytes (rounds_steps degree width bits (suc n))) i)

-- of one difficulty the bytes tell the number of rounds, and what stands after them, where that has the same length
pub count-same : (degree width bits n n' : ℕ) (i i' : List ℕ) → length i ≡ length i' →
    flat_map step_bytes (rounds_steps degree width bits n) ++ i ≡ flat_map step_bytes (rounds_steps degree width bits n') ++ i' → (n ≡ n') × (i ≡ i')
count-same degree width bits zero zero i i' l e = (refl, e)
count-same degree width bits zero (suc n') i i' l e = absurd (omega (arith, l, ap length e, rounds_long degree width bits n' i'))
count-same degree width bits (suc n) zero i i' l e = absurd (omega (arith, l, ap length e, rounds_long degree width bits n i))
count-same degree width bits (suc n) (suc n') i i' l e =
    let one = flat_map step_bytes (round_steps degree width bits) in
    let both = count-same degree width bits n n' i i' l
    (append_cancel_left one (flat_map step_bytes (rounds_steps degree width bits n) ++ i) (flat_map step_bytes (rounds_steps degree width bits n') ++ i')
    (sym (round_first degree width bits n i) ∙ e ∙ round_first degree width bits n' i')) in
    (ap suc both.0, both.1)

byte-same : (basis basis' : Basis) → basis_byte basis ≡ basis_byte basis' → basis ≡ basis'
byte-same evaluation evaluation e = refl
byte-same evaluation projective e = absurd (omega (arith, e))
byte-same projective evaluation e = absurd (omega (arith, e))
byte-same projective projective e = refl

-- the label of one byte tells the basis
label-same : (basis basis' : Basis) → length_prefixed (basis_byte basis ∷ []) ≡ length_prefixed (basis_byte basis' ∷ []) → basis ≡ basis'
unfolding length_prefixed eight_bytes
label-same basis basis' e = byte-same basis basis' (ap (λ l. get_or l 8 0) e)

label_length : (basis basis' : Basis) → length (length_prefixed (basis_byte basis ∷ [])) ≡ length (length_prefixed (basis_byte basis' ∷ []))
unfolding length_prefixed eight_bytes
label_length basis basis' = refl

-- equal seeds of one round or more are of as many rounds, of one difficulty and of one basis
quadratic_seed-same : (degree : ℕ) (basis basis' : Basis) (bits bits' n n' : ℕ) → bits < 2 ^ 64 → bits' < 2 ^ 64 →
    quadratic_seed degree basis bits (suc n) ≡ quadratic_seed degree basis' bits' (suc n') → (suc n ≡ suc n') × (bits ≡ bits') × (basis ≡ basis')
unfolding quadratic_seed
quadratic_seed-same degree basis basis' bits bits' n n' small small' e =
    let i = length_prefixed (basis_byte basis ∷ []) in let i' = length_prefixed (basis_byte basis' ∷ []) in
    let bytes = tail-same (rounds_steps degree 2 bits (suc n)) (rounds_steps degree 2 bits' (suc n')) (basis_byte basis ∷ []) (basis_byte basis' ∷ []) e in
    let same_bits = bits-same degree 2 bits bits' n n' i i' small small' bytes in
    let both = count-same degree 2 bits (suc n) (suc n') i i' (label_length basis basis')
    (bytes ∙ ap (λ t. flat_map step_bytes (rounds_steps degree 2 t (suc n')) ++ i') (sym same_bits)) in
    (both.0, same_bits, label-same basis basis' both.1)

tag-same : (tag tag' : BasisTag) → basis_of tag ≡ basis_of tag' → tag ≡ tag'
tag-same Evaluation Evaluation e = refl
tag-same Evaluation Projective e = cc
tag-same Projective Evaluation e = cc
tag-same Projective Projective e = refl

-- the same of numbers of rounds that are positive, and of the bases of the code
seeds-same : (degree n n' bits bits' : ℕ) (tag tag' : BasisTag) → 1 ≤ n → 1 ≤ n' → bits < 2 ^ 64 → bits' < 2 ^ 64 →
    quadratic_seed degree (basis_of tag) bits n ≡ quadratic_seed degree (basis_of tag') bits' n' → (n ≡ n') × (bits ≡ bits') × (tag ≡ tag')
seeds-same degree zero n' bits bits' tag tag' some some' small small' e = absurd (omega (arith, some))
seeds-same degree (suc n) zero bits bits' tag tag' some some' small small' e = absurd (omega (arith, some'))
seeds-same degree (suc n) (suc n') bits bits' tag tag' some some' small small' e =
    let same = quadratic_seed-same degree (basis_of tag) (basis_of tag') bits bits' n n' small small' e in
    (same.0, same.1, tag-same tag tag' same.2)

-- the law of shapes
pub shape-same : (degree : ℕ) (s s' : SumcheckShape) → 1 ≤ s.num_rounds → 1 ≤ s'.num_rounds → s.pow_bits < 2 ^ 64 → s'.pow_bits < 2 ^ 64 →
    seed_of degree s ≡ seed_of degree s' → (s.num_rounds ≡ s'.num_rounds) × (s.pow_bits ≡ s'.pow_bits) × (s.basis ≡ s'.basis)
shape-same degree s s' some some' small small' e =
    seeds-same degree s.num_rounds s'.num_rounds s.pow_bits s'.pow_bits s.basis s'.basis some some' small small' e
