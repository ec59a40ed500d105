-- Worked figures of seeds, by computation.
use Rattle.std.proofs.Common.{◌≡◌, ℕ, List, [], ◌∷◌, length, map, take, drop, refl}
use Rattle.sc_definitions.specs.declared.interactions.Kind.TheVariants.{Pow}
use Rattle.sc_definitions.specs.declared.interactions.Length.TheVariants.{Fixed}
use Rattle.sc_definitions.specs.declared.interactions.Label.TheVariants.{ClaimedSum, RoundPoly, RoundPow, RoundChallenge, ClaimBatching, JointClaim, MaskCommitment, MuTilde, MaskCombination}
use Rattle.sc_definitions.specs.declared.interactions.Protocol.TheVariants.{Quadratic, GenericDegree, Hvzk}
use Rattle.sc_definitions.specs.Tables.{evaluation, projective}
use Rattle.sc_definitions.specs.Seeds.{separator, step, label_text, protocol_name, eight_bytes, length_prefixed, length_bytes, step_bytes, separator_bytes, nibbles, seed_words, quadratic_seed}

abbrev one_round : List ℕ
one_round = quadratic_seed 1 evaluation 0 1

-- One round without grinding, over a field as its own extension, in the evaluation basis: 1 + 8 + 21 + 8 + 36 + 41 + 8 + 1 bytes, of two
-- words each. Its start: the version 1, the name's length 21, and the letters p, 3 and -. From word 74 on: two steps, of which the
-- first is a message whose values have one part; and its length is fixed, two values. From word 144 on: the letters l and y, and
-- then the second step, a challenge. Its end: the label is one byte, 0.
one_round-words :
    (length one_round ≡ 248)
    × (take 24 one_round ≡ 0 ∷ 1 ∷ 0 ∷ 0 ∷ 0 ∷ 0 ∷ 0 ∷ 0 ∷ 0 ∷ 0 ∷ 0 ∷ 0 ∷ 0 ∷ 0 ∷ 0 ∷ 0 ∷ 1 ∷ 5 ∷ 7 ∷ 0 ∷ 3 ∷ 3 ∷ 2 ∷ 13 ∷ [])
    × (take 20 (drop 74 one_round) ≡ 0 ∷ 2 ∷ 0 ∷ 1 ∷ 0 ∷ 0 ∷ 0 ∷ 0 ∷ 0 ∷ 0 ∷ 0 ∷ 0 ∷ 0 ∷ 0 ∷ 0 ∷ 0 ∷ 0 ∷ 0 ∷ 0 ∷ 1 ∷ [])
    × (take 18 (drop 94 one_round) ≡ 0 ∷ 1 ∷ 0 ∷ 0 ∷ 0 ∷ 0 ∷ 0 ∷ 0 ∷ 0 ∷ 0 ∷ 0 ∷ 0 ∷ 0 ∷ 0 ∷ 0 ∷ 0 ∷ 0 ∷ 2 ∷ [])
    × (take 6 (drop 144 one_round) ≡ 6 ∷ 12 ∷ 7 ∷ 9 ∷ 0 ∷ 2 ∷ [])
    × (drop 244 one_round ≡ 0 ∷ 1 ∷ 0 ∷ 0 ∷ [])
unfolding quadratic_seed seed_words nibbles separator_bytes step_bytes length_bytes length_prefixed eight_bytes protocol_name label_text
one_round-words = (refl, refl, refl, refl, refl, refl)

-- No rounds have no seed; each further round adds 36 + 41 bytes. A difficulty of 16 bits adds a step of 35 bytes after a round's message,
-- which is a witness, before the challenge, whose elements have two parts here. The label of the projective basis is the byte 1.
other_rounds :
    (quadratic_seed 1 evaluation 0 0 ≡ [])
    × (length (quadratic_seed 1 evaluation 0 2) ≡ 402)
    × (length (quadratic_seed 2 projective 16 1) ≡ 318)
    × (take 2 (drop 148 (quadratic_seed 2 projective 16 1)) ≡ 0 ∷ 3 ∷ [])
    × (take 18 (drop 218 (quadratic_seed 2 projective 16 1)) ≡ 0 ∷ 2 ∷ 0 ∷ 0 ∷ 0 ∷ 0 ∷ 0 ∷ 0 ∷ 0 ∷ 0 ∷ 0 ∷ 0 ∷ 0 ∷ 0 ∷ 0 ∷ 0 ∷ 0 ∷ 2 ∷ [])
    × (drop 314 (quadratic_seed 2 projective 16 1) ≡ 0 ∷ 1 ∷ 0 ∷ 1 ∷ [])
unfolding quadratic_seed seed_words nibbles separator_bytes step_bytes length_bytes length_prefixed eight_bytes protocol_name label_text
other_rounds = (refl, refl, refl, refl, refl, refl)

-- the step of a difficulty of 16 bits
grinding_step :
    step_bytes (step Pow 1 (Fixed 16) RoundPow)
    ≡ 3 ∷ 0 ∷ 0 ∷ 0 ∷ 0 ∷ 0 ∷ 0 ∷ 0 ∷ 1 ∷ 1 ∷ 0 ∷ 0 ∷ 0 ∷ 0 ∷ 0 ∷ 0 ∷ 0 ∷ 16 ∷ 0 ∷ 0 ∷ 0 ∷ 0 ∷ 0 ∷ 0 ∷ 0 ∷ 9
    ∷ 114 ∷ 111 ∷ 117 ∷ 110 ∷ 100 ∷ 95 ∷ 112 ∷ 111 ∷ 119 ∷ []
unfolding step_bytes length_bytes length_prefixed eight_bytes label_text
grinding_step = refl

-- no steps and a label of one byte, 171: two words for each byte, the higher four bits first
no_steps :
    (length (seed_words (separator 1 GenericDegree [] (171 ∷ []))) ≡ 104)
    × (drop 100 (seed_words (separator 1 GenericDegree [] (171 ∷ []))) ≡ 0 ∷ 1 ∷ 10 ∷ 11 ∷ [])
unfolding seed_words nibbles separator_bytes step_bytes length_bytes length_prefixed eight_bytes protocol_name label_text
no_steps = (refl, refl)

-- how long the texts are
text_lengths :
    (map (λ l. length (label_text l)) (ClaimedSum ∷ RoundPoly ∷ RoundPow ∷ RoundChallenge ∷ ClaimBatching ∷ JointClaim ∷ MaskCommitment ∷ MuTilde ∷ MaskCombination ∷ [])
    ≡ 11 ∷ 10 ∷ 9 ∷ 15 ∷ 14 ∷ 11 ∷ 15 ∷ 8 ∷ 16 ∷ [])
    × (map (λ p. length (protocol_name p)) (Quadratic ∷ GenericDegree ∷ Hvzk ∷ []) ≡ 21 ∷ 26 ∷ 16 ∷ [])
unfolding label_text protocol_name
text_lengths = (refl, refl)
