-- The masks of a job, and how they are committed to.
use Rattle.std.specs.Prelude.{ℕ, ◌+◌, ◌*◌, List, ◌++◌, min, replicate}
use Rattle.rand_core.specs.Stream.{Stream}
use Rattle.rand_core.specs.Steps.{stream_of, steps_u32}
use Rattle.rand_chacha.specs.ChaCha.{next_word, of_seed}
use Rattle.sc_definitions.specs.Ring.{Ops}
use Rattle.sc_definitions.specs.Seeds.{eight_bytes, nibbles}
use Rattle.sc_commitments.specs.Draws.{draws_from, masks_from}
use Rattle.sc_commitments.specs.Codes.{node_matrix}
use Rattle.sc_commitments.specs.Hashed.{digest_of}
use Rattle.sc_zk_rounds.specs.Handoffs.{AskedMasks, asked_masks}
use Rattle.sc_zk_rounds.specs.Views.{Coded}
use Rattle.sumcheck_veil.specs.declared.job.WrittenMasks.{WrittenMasks}
use Rattle.sumcheck_veil.specs.declared.job.DrawnMasks.{DrawnMasks}
use Rattle.sumcheck_veil.specs.declared.job.Masks.{Masks}
use Rattle.sumcheck_veil.specs.declared.job.Masks.TheVariants.{Written, Drawn}
use Rattle.sumcheck_veil.specs.VeilJob.{randomness_length, first_mask_length}

-- the bytes of a seed: a number as 8 bytes, the highest first, and 24 zeros
abbrev pub seed_bytes : ℕ → List ℕ
seed_bytes number = eight_bytes number ++ replicate 24 0

-- what the generator of this seed answers, which is ChaCha of eight rounds
abbrev pub stream_from : ℕ → Stream
stream_from seed = stream_of (steps_u32 (next_word 4)) (of_seed (seed_bytes seed))

-- how many coefficients each mask has
abbrev pub mask_length : Masks → ℕ
mask_length (Written w) = first_mask_length w.messages
mask_length (Drawn d) = d.length

-- those that are written out
abbrev pub written_veils : WrittenMasks → Coded
written_veils w = record { masks = w.messages; randomness = w.randomness }

-- those that are drawn over a field of this size: the next draws of a generator, all masks before all randomness
abbrev pub drawn_veils : ℕ → ℕ → DrawnMasks → Coded
drawn_veils size rounds d =
    let made = masks_from (draws_from size d.length) (draws_from size randomness_length) rounds (stream_from d.seed) in
    record { masks = made.masks; randomness = made.randomness }

-- the masks of so many rounds
abbrev pub veils_of : ℕ → ℕ → Masks → Coded
veils_of size rounds (Written w) = written_veils w
veils_of size rounds (Drawn d) = drawn_veils size rounds d

-- How many positions a codeword has: twice as many as a mask and its randomness have elements, and in a field of fewer elements one for each of these. The
-- second is met over the field of 16 elements alone, where no mask is encoded.
abbrev pub codeword_length : ℕ → ℕ → ℕ
codeword_length size l = min (2 * (l + randomness_length)) size

-- the lengths of the code of masks of a length: of these, of randomness, and of a codeword
abbrev pub code_lengths : ℕ → ℕ → ℕ × ℕ × ℕ
code_lengths size l = (l, randomness_length, codeword_length size l)

-- Masks of a length as they are committed to, with aux: by the digest of the matrix of their codewords, which are values at nodes.
abbrev pub sealed_masks : Ops → ℕ → Coded → ℕ → AskedMasks
sealed_masks o l c aux = asked_masks l c.masks (nibbles (digest_of (node_matrix o (codeword_length o.size l) c.masks c.randomness))) aux
