-- Shapes of rounds of any degree, by their seeds.
use Rattle.std.proofs.Common.{◌≡◌, ◌≢◌, ℕ, zero, suc, ◌^◌, ◌<◌, ◌≤◌, List, [], ◌++◌, get_or, take, drop, flat_map, refl, ap, sym, ◌∙◌, arith}
use Rattle.sc_definitions.specs.Tables.{Basis}
use Rattle.sc_definitions.specs.Seeds.{label_text, protocol_name, eight_bytes, length_prefixed, length_bytes, step_bytes, separator_bytes, nibbles, seed_words, rounds_steps, degree_separator, degree_seed, quadratic_seed}
use Rattle.sc_table.specs.Strategy.{basis_of}
use Rattle.sc_transcript.specs.declared.transcript.SumcheckShape.{SumcheckShape}
use Rattle.sc_transcript.specs.Shapes.{seed_of}
use Rattle.sc_transcript.proofs.SeedLaws.{nibbles-same, eight-same, bits-same, count-same}
use Rattle.sc_degree.specs.declared.transcript.GenericDegreeShape.{GenericDegreeShape}
use Rattle.sc_degree.specs.Shapes.{generic_seed}

-- the bytes of rounds, and of the empty label after them
abbrev rounds_bytes : ℕ → ℕ → ℕ → ℕ → List ℕ
rounds_bytes parts degree bits n = flat_map step_bytes (rounds_steps parts degree bits n) ++ length_prefixed []

-- equal seeds have these in common: 1 + 8 + 26 + 8 bytes stand before the claimed sum's step, which takes 37
rounds-same : (parts degree degree' bits bits' n n' : ℕ) → degree_seed parts degree bits n ≡ degree_seed parts degree' bits' n' →
    rounds_bytes parts degree bits n ≡ rounds_bytes parts degree' bits' n'
unfolding degree_seed seed_words separator_bytes step_bytes length_bytes length_prefixed eight_bytes protocol_name label_text
rounds-same parts degree degree' bits bits' n n' e =
    ap (drop 80) (nibbles-same (separator_bytes (degree_separator parts degree bits n)) (separator_bytes (degree_separator parts degree' bits' n')) e)

-- the bytes of rounds tell their degree, which stands after 10 bytes
degree-same : (parts degree degree' bits bits' n n' : ℕ) → degree < 2 ^ 64 → degree' < 2 ^ 64 →
    rounds_bytes parts degree bits (suc n) ≡ rounds_bytes parts degree' bits' (suc n') → degree ≡ degree'
unfolding step_bytes length_bytes eight_bytes
degree-same parts degree degree' bits bits' n n' small small' e = eight-same degree degree' small small' (ap (λ l. take 8 (drop 10 l)) e)

-- no rounds have fewer bytes than some
none-some : (parts degree degree' bits bits' n : ℕ) → rounds_bytes parts degree bits 0 ≡ rounds_bytes parts degree' bits' (suc n) → ⊥
unfolding step_bytes length_bytes length_prefixed eight_bytes label_text
none-some parts degree degree' bits bits' n e = let wrong : 0 ≡ 1 = ap (λ l. get_or l 0 0) e in absurd (omega (arith, wrong))

shapes-same : (parts degree degree' bits bits' n n' : ℕ) → bits < 2 ^ 64 → bits' < 2 ^ 64 → degree < 2 ^ 64 → degree' < 2 ^ 64 →
    rounds_bytes parts degree bits n ≡ rounds_bytes parts degree' bits' n' → (n ≡ n') × (1 ≤ n → (bits ≡ bits') × (degree ≡ degree'))
shapes-same parts degree degree' bits bits' zero zero b b' d d' e = (refl, λ some. absurd (omega (arith, some)))
shapes-same parts degree degree' bits bits' zero (suc n') b b' d d' e = absurd (none-some parts degree degree' bits bits' n' e)
shapes-same parts degree degree' bits bits' (suc n) zero b b' d d' e = absurd (none-some parts degree' degree bits' bits n (sym e))
shapes-same parts degree degree' bits bits' (suc n) (suc n') b b' d d' e =
    let same_degree = degree-same parts degree degree' bits bits' n n' d d' e in
    let first = e ∙ ap (λ t. rounds_bytes parts t bits' (suc n')) (sym same_degree) in
    let same_bits = bits-same parts degree bits bits' n n' (length_prefixed []) (length_prefixed []) b b' first in
    let both = count-same parts degree bits (suc n) (suc n') (length_prefixed []) (length_prefixed []) refl
    (first ∙ ap (λ t. rounds_bytes parts degree t (suc n')) (sym same_bits)) in
    (both.0, λ some. (same_bits, same_degree))

-- a seed tells the shape
pub shape-same : (parts : ℕ) (s s' : GenericDegreeShape) → s.pow_bits < 2 ^ 64 → s'.pow_bits < 2 ^ 64 → s.degree < 2 ^ 64 → s'.degree < 2 ^ 64 →
    generic_seed parts s ≡ generic_seed parts s' → (s.num_rounds ≡ s'.num_rounds) × (1 ≤ s.num_rounds → (s.pow_bits ≡ s'.pow_bits) × (s.degree ≡ s'.degree))
shape-same parts s s' b b' d d' e =
    shapes-same parts s.degree s'.degree s.pow_bits s'.pow_bits s.num_rounds s'.num_rounds b b' d d'
    (rounds-same parts s.degree s'.degree s.pow_bits s'.pow_bits s.num_rounds s'.num_rounds e)

-- the two protocols' names are of 26 and of 21 bytes
names-differ : (parts degree bits n : ℕ) (basis : Basis) (bits' n' : ℕ) → degree_seed parts degree bits n ≡ quadratic_seed parts basis bits' n' → ⊥
unfolding degree_seed quadratic_seed seed_words nibbles separator_bytes length_prefixed eight_bytes protocol_name
names-differ parts degree bits n basis bits' zero e = let wrong : 10 ≡ 0 = ap (λ l. get_or l 17 0) e in absurd (omega (arith, wrong))
names-differ parts degree bits n basis bits' (suc n') e = let wrong : 10 ≡ 5 = ap (λ l. get_or l 17 0) e in absurd (omega (arith, wrong))

pub protocols-differ : (parts : ℕ) (s : GenericDegreeShape) (q : SumcheckShape) → generic_seed parts s ≢ seed_of parts q
protocols-differ parts s q = λ e. names-differ parts s.degree s.pow_bits s.num_rounds (basis_of q.basis) q.pow_bits q.num_rounds e
