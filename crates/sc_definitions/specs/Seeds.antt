-- The bytes of a protocol's separator, and the words of its seed.
use Rattle.std.specs.Prelude.{ℕ, zero, suc, ◌/◌, ◌%◌, List, [], ◌∷◌, ◌++◌, length, codes, flat_map}
use Rattle.std.specs.Int.{w64, to_be_bytes}
use Rattle.sc_definitions.specs.declared.interactions.Interaction.{Interaction}
use Rattle.sc_definitions.specs.declared.interactions.Kind.{Kind}
use Rattle.sc_definitions.specs.declared.interactions.Kind.TheVariants.{Message, Challenge, Pow}
use Rattle.sc_definitions.specs.declared.interactions.Length.{Length}
use Rattle.sc_definitions.specs.declared.interactions.Length.TheVariants.{Scalar, Fixed}
use Rattle.sc_definitions.specs.declared.interactions.Label.{Label}
use Rattle.sc_definitions.specs.declared.interactions.Label.TheVariants.{ClaimedSum, RoundPoly, RoundPow, RoundChallenge, ClaimBatching, JointClaim, MaskCommitment, MuTilde, MaskCombination}
use Rattle.sc_definitions.specs.declared.interactions.Protocol.{Protocol}
use Rattle.sc_definitions.specs.declared.interactions.Protocol.TheVariants.{Quadratic, GenericDegree, Hvzk}
use Rattle.sc_definitions.specs.Tables.{Basis, evaluation, projective}

-- What a seed tells apart: the version of the format, the protocol, its steps in order, and a label for what they do not show.
pub record Separator : Type 0 where
  pub version : ℕ
  pub protocol : Protocol
  pub steps : List Interaction
  pub label : List ℕ

-- the separator of these four
abbrev pub separator : ℕ → Protocol → List Interaction → List ℕ → Separator
separator version protocol steps label = record { version = version; protocol = protocol; steps = steps; label = label }

-- the step of these four
abbrev pub step : Kind → ℕ → Length → Label → Interaction
step kind parts length label = record { kind = kind; parts = parts; length = length; label = label }

-- the text of a step's label
unfoldable pub label_text : Label → List ℕ
label_text ClaimedSum = codes "claimed_sum"
label_text RoundPoly = codes "round_poly"
label_text RoundPow = codes "round_pow"
label_text RoundChallenge = codes "round_challenge"
label_text ClaimBatching = codes "claim_batching"
label_text JointClaim = codes "joint_claim"
label_text MaskCommitment = codes "mask_commitment"
label_text MuTilde = codes "mu_tilde"
label_text MaskCombination = codes "mask_combination"

-- a protocol's name
unfoldable pub protocol_name : Protocol → List ℕ
protocol_name Quadratic = codes "p3-sumcheck-quadratic"
protocol_name GenericDegree = codes "p3-sumcheck-generic-degree"
protocol_name Hvzk = codes "p3-sumcheck-hvzk"

-- a number as 8 bytes, the highest first
unfoldable pub eight_bytes : ℕ → List ℕ
eight_bytes n = to_be_bytes w64 n

-- a text after its length
unfoldable pub length_prefixed : List ℕ → List ℕ
length_prefixed text = eight_bytes (length text) ++ text

-- the byte of a step's kind
abbrev pub kind_byte : Kind → ℕ
kind_byte Message = 1
kind_byte Challenge = 2
kind_byte Pow = 3

-- the bytes of a length: 0 for one value and 1 for a fixed number, and then how many
unfoldable pub length_bytes : Length → List ℕ
length_bytes Scalar = 0 ∷ eight_bytes 1
length_bytes (Fixed n) = 1 ∷ eight_bytes n

-- the bytes of a step: its kind, the parts of a value, its length, and its label's text after the text's length
unfoldable pub step_bytes : Interaction → List ℕ
step_bytes s = kind_byte s.kind ∷ [] ++ eight_bytes s.parts ++ length_bytes s.length ++ length_prefixed (label_text s.label)

-- the bytes of a separator: the version, the protocol's name after its length, how many steps there are, the steps, and the
-- label after its length
unfoldable pub separator_bytes : Separator → List ℕ
separator_bytes s =
    s.version ∷ [] ++ length_prefixed (protocol_name s.protocol) ++ eight_bytes (length s.steps) ++ flat_map step_bytes s.steps ++ length_prefixed s.label

-- two words for each byte: its higher four bits, and then its lower four
unfoldable pub nibbles : List ℕ → List ℕ
nibbles bytes = flat_map (λ b. b / 16 ∷ b % 16 ∷ []) bytes

-- the words of a separator's seed, each below 16
unfoldable pub seed_words : Separator → List ℕ
seed_words s = nibbles (separator_bytes s)

-- the step of a positive difficulty: its witness is a base element
abbrev pub pow_steps : ℕ → List Interaction
pow_steps zero = []
pow_steps (suc b) = step Pow 1 (Fixed (suc b)) RoundPow ∷ []

-- the steps of a round that sends `width` values of `degree` parts: the values, the witness of a positive difficulty, the challenge
abbrev pub round_steps : ℕ → ℕ → ℕ → List Interaction
round_steps degree width bits =
    step Message degree (Fixed width) RoundPoly ∷ [] ++ pow_steps bits ++ step Challenge degree Scalar RoundChallenge ∷ []

-- the steps of n rounds
abbrev pub rounds_steps : ℕ → ℕ → ℕ → ℕ → List Interaction
rounds_steps degree width bits zero = []
rounds_steps degree width bits (suc n) = round_steps degree width bits ++ rounds_steps degree width bits n

-- the byte that a basis has in the quadratic protocol's label
abbrev pub basis_byte : Basis → ℕ
basis_byte evaluation = 0
basis_byte projective = 1

-- the separator of quadratic rounds, which send two values each
abbrev pub quadratic_separator : ℕ → Basis → ℕ → ℕ → Separator
quadratic_separator degree basis bits rounds = separator 1 Quadratic (rounds_steps degree 2 bits rounds) (basis_byte basis ∷ [])

-- the seed of quadratic rounds over an extension of a degree, at a difficulty of so many bits; none for no rounds
unfoldable pub quadratic_seed : ℕ → Basis → ℕ → ℕ → List ℕ
quadratic_seed degree basis bits zero = []
quadratic_seed degree basis bits (suc n) = seed_words (quadratic_separator degree basis bits (suc n))

-- the separator of rounds of any degree, which send as many values each as the degree is: the claimed sum comes before the rounds
abbrev pub degree_separator : ℕ → ℕ → ℕ → ℕ → Separator
degree_separator parts degree bits rounds =
    separator 1 GenericDegree (step Message parts Scalar ClaimedSum ∷ [] ++ rounds_steps parts degree bits rounds) []

-- the seed of such rounds, over an extension whose elements have so many parts, of a degree, at a difficulty of so many bits
unfoldable pub degree_seed : ℕ → ℕ → ℕ → ℕ → List ℕ
degree_seed parts degree bits rounds = seed_words (degree_separator parts degree bits rounds)
