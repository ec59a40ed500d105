-- What the bytes of a masked batch's seed tell.
use Rattle.std.proofs.Common.{◌≡◌, ◌≢◌, ℕ, zero, suc, ◌^◌, ◌<◌, ◌≤◌, List, ◌++◌, length, get_or, take, drop, flat_map, refl, ap, sym, ◌∙◌, arith, append_assoc}
use Rattle.std.proofs.lemmas.List.{append_cancel_left}
use Rattle.std.proofs.lemmas.Grind.{flat_map-append}
use Rattle.sc_definitions.specs.Tables.{Basis}
use Rattle.sc_definitions.specs.Seeds.{protocol_name, eight_bytes, length_prefixed, length_bytes, step_bytes, separator_bytes, nibbles, seed_words, rounds_steps, degree_seed, quadratic_seed}
use Rattle.sc_transcript.proofs.SeedLaws.{nibbles-same, eight-same, bits-same, count-same}
use Rattle.sc_zk_definitions.specs.declared.prelude.ZkPrelude.{ZkPrelude}
use Rattle.sc_zk_definitions.specs.declared.prelude.ZkPrelude.TheVariants.{RecordedClaims, InheritedClaim}
use Rattle.sc_zk_definitions.specs.MaskedTranscripts.{Shape, wire_length, head_steps, masked_steps, masked_separator, masked_seed}
use Rattle.sc_zk_transcript.specs.Laws.{MaskedSeedsTell, SeedsDiffer}

-- ---- three protocols

-- The names have 16, 21 and 26 bytes: the last word of the length's 8 bytes tells them apart, and no rounds of the quadratic protocol have no word at all.
quadratic-differs : (parts : ℕ) (s : Shape) (basis : Basis) (bits rounds : ℕ) → masked_seed parts s ≢ quadratic_seed parts basis bits rounds
unfolding masked_seed quadratic_seed seed_words nibbles separator_bytes length_prefixed eight_bytes protocol_name
quadratic-differs parts s basis bits zero = λ e. let wrong : 1 ≡ 0 = ap (λ l. get_or l 16 0) e in omega (arith, wrong)
quadratic-differs parts s basis bits (suc n) = λ e. let wrong : 0 ≡ 5 = ap (λ l. get_or l 17 0) e in omega (arith, wrong)

degree-differs : (parts : ℕ) (s : Shape) (degree bits rounds : ℕ) → masked_seed parts s ≢ degree_seed parts degree bits rounds
unfolding masked_seed degree_seed seed_words nibbles separator_bytes length_prefixed eight_bytes protocol_name
degree-differs parts s degree bits rounds = λ e. let wrong : 0 ≡ 10 = ap (λ l. get_or l 17 0) e in omega (arith, wrong)

pub seeds-differ : SeedsDiffer
seeds-differ parts s = (quadratic-differs parts s, degree-differs parts s)

-- ---- the steps

-- the bytes of the rounds, and of the label after them
abbrev rounds_bytes : ℕ → Shape → List ℕ
rounds_bytes parts s = flat_map step_bytes (rounds_steps parts (wire_length s.mask_length) s.bits s.rounds) ++ length_prefixed (eight_bytes s.mask_length)

-- the bytes of all steps, and of the label
abbrev steps_bytes : ℕ → Shape → List ℕ
steps_bytes parts s = flat_map step_bytes (masked_steps parts s) ++ length_prefixed (eight_bytes s.mask_length)

-- equal seeds have these in common: 1 + 8 + 16 + 8 bytes stand before them
steps-same : (parts : ℕ) (s s' : Shape) → masked_seed parts s ≡ masked_seed parts s' → steps_bytes parts s ≡ steps_bytes parts s'
unfolding masked_seed seed_words separator_bytes length_prefixed eight_bytes protocol_name
steps-same parts s s' e = ap (drop 33) (nibbles-same (separator_bytes (masked_separator parts s)) (separator_bytes (masked_separator parts s')) e)

-- the first of them tells how the batch begins: a draw is of kind 2, a claim of kind 1
prelude-same : (parts : ℕ) (p p' : ZkPrelude) (rest rest' : List ℕ) →
    flat_map step_bytes (head_steps parts p) ++ rest ≡ flat_map step_bytes (head_steps parts p') ++ rest' → p ≡ p'
unfolding step_bytes
prelude-same parts RecordedClaims RecordedClaims rest rest' e = refl
prelude-same parts RecordedClaims InheritedClaim rest rest' e = let wrong : 2 ≡ 1 = ap (λ l. get_or l 0 0) e in absurd (omega (arith, wrong))
prelude-same parts InheritedClaim RecordedClaims rest rest' e = let wrong : 1 ≡ 2 = ap (λ l. get_or l 0 0) e in absurd (omega (arith, wrong))
prelude-same parts InheritedClaim InheritedClaim rest rest' e = refl

-- the head's steps before the others
head_first : (parts : ℕ) (s : Shape) → steps_bytes parts s ≡ flat_map step_bytes (head_steps parts s.prelude) ++ rounds_bytes parts s
head_first parts s =
    let rounds = rounds_steps parts (wire_length s.mask_length) s.bits s.rounds in
    let heads = head_steps parts s.prelude in
    ap (λ t. t ++ length_prefixed (eight_bytes s.mask_length)) (flat_map-append step_bytes heads rounds)
    ∙ append_assoc (flat_map step_bytes heads) (flat_map step_bytes rounds) (length_prefixed (eight_bytes s.mask_length))

-- the label tells the masks' length
label-same : (l l' : ℕ) → l < 2 ^ 64 → l' < 2 ^ 64 → length_prefixed (eight_bytes l) ≡ length_prefixed (eight_bytes l') → l ≡ l'
unfolding length_prefixed eight_bytes
label-same l l' small small' e = eight-same l l' small small' (ap (drop 8) e)

label_length : (l l' : ℕ) → length (length_prefixed (eight_bytes l)) ≡ length (length_prefixed (eight_bytes l'))
unfolding length_prefixed eight_bytes
label_length l l' = refl

-- the bytes of a round tell how long its wire is, which stands after 10 bytes
width-same : (parts width width' bits bits' n n' : ℕ) (i i' : List ℕ) → width < 2 ^ 64 → width' < 2 ^ 64 →
    flat_map step_bytes (rounds_steps parts width bits (suc n)) ++ i ≡ flat_map step_bytes (rounds_steps parts width' bits' (suc n')) ++ i' → width ≡ width'
unfolding step_bytes length_bytes eight_bytes
width-same parts width width' bits bits' n n' i i' small small' e = eight-same width width' small small' (ap (λ l. take 8 (drop 10 l)) e)

-- the bytes of rounds tell how many there are, the difficulty, and the label
numbers-same : (parts width width' bits bits' n n' : ℕ) (i i' : List ℕ) → width < 2 ^ 64 → width' < 2 ^ 64 → bits < 2 ^ 64 → bits' < 2 ^ 64 → length i ≡ length i' →
    flat_map step_bytes (rounds_steps parts width bits n) ++ i ≡ flat_map step_bytes (rounds_steps parts width' bits' n') ++ i' →
    (n ≡ n') × (i ≡ i') × (1 ≤ n → bits ≡ bits')
numbers-same parts width width' bits bits' zero zero i i' w w' b b' l e = (refl, e, λ some. absurd (omega (arith, some)))
numbers-same parts width width' bits bits' zero (suc n') i i' w w' b b' l e =
    let both = count-same parts width' bits' zero (suc n') i i' l e in absurd (omega (arith, both.0))
numbers-same parts width width' bits bits' (suc n) zero i i' w w' b b' l e =
    let both = count-same parts width bits (suc n) zero i i' l e in absurd (omega (arith, both.0))
numbers-same parts width width' bits bits' (suc n) (suc n') i i' w w' b b' l e =
    let same_width = width-same parts width width' bits bits' n n' i i' w w' e in
    let first = e ∙ ap (λ t. flat_map step_bytes (rounds_steps parts t bits' (suc n')) ++ i') (sym same_width) in
    let same_bits = bits-same parts width bits bits' n n' i i' b b' first in
    let both = count-same parts width bits (suc n) (suc n') i i' l (first ∙ ap (λ t. flat_map step_bytes (rounds_steps parts width t (suc n')) ++ i') (sym same_bits)) in
    (both.0, both.1, λ some. same_bits)

wire-small : (l : ℕ) → l < 2 ^ 64 → wire_length l < 2 ^ 64
wire-small l small = omega (arith, small)

-- a seed tells the shape
pub masked-same : MaskedSeedsTell
masked-same parts s s' small small' e =
    let bytes = sym (head_first parts s) ∙ steps-same parts s s' e ∙ head_first parts s' in
    let begun = prelude-same parts s.prelude s'.prelude (rounds_bytes parts s) (rounds_bytes parts s') bytes in
    let heads = flat_map step_bytes (head_steps parts s.prelude) in
    let rounds = append_cancel_left heads (rounds_bytes parts s) (rounds_bytes parts s')
    (bytes ∙ ap (λ p. flat_map step_bytes (head_steps parts p) ++ rounds_bytes parts s') (sym begun)) in
    let numbers = numbers-same parts (wire_length s.mask_length) (wire_length s'.mask_length) s.bits s'.bits s.rounds s'.rounds
    (length_prefixed (eight_bytes s.mask_length)) (length_prefixed (eight_bytes s'.mask_length))
    (wire-small s.mask_length small.mask_length) (wire-small s'.mask_length small'.mask_length) small.bits small'.bits
    (label_length s.mask_length s'.mask_length) rounds in
    record {
      prelude = begun;
      rounds = numbers.0;
      mask_length = label-same s.mask_length s'.mask_length small.mask_length small'.mask_length numbers.1;
      bits = numbers.2;
    }
