-- Masked rounds move a prover state: what stays while a prover plays them on two tables, and what they
-- leave.
use Rattle.std.specs.Prelude.{◌≡◌, ℕ, zero, suc, ◌+◌, List, [], ◌∷◌, ◌++◌, length, drop, map, slice_index}
use Rattle.sc_definitions.specs.Ring.{Ops, IsRing, ◌+⟨◌⟩◌, ◌*⟨◌⟩◌}
use Rattle.sc_definitions.specs.Tables.{evaluation, IsOffered, rows_of, folded_in, folded_by}
use Rattle.sc_definitions.specs.Rounds.{next_claim}
use Rattle.sc_definitions.specs.Transcript.{Round, rounds_events, challenges}
use Rattle.sc_definitions.specs.Channels.{IsSent, NoWitnessFound, with_rounds, IsBuilt, verifier_state, IsReplayed}
use Rattle.sc_definitions.specs.ProverStates.{Setting, ProverState, entries_of, message_in, honest_in}
use Rattle.sc_definitions.specs.ProverViews.{ProverView, with_scaled}
use Rattle.sc_zk_definitions.specs.Masks.{masks_at, masks_total, endpoint, Piece, piece, pair_of, masked_round, wire_of, next_target, first_target, plain_after, aux_after}

-- What stays beside the setting: the masks, one for each round, the combination, and aux with one
-- half.
pub record Masking : Type 0 where
  pub masks : List (List ℕ)
  pub eps : ℕ
  pub half : ℕ
  pub aux : ℕ

-- ---- what each round sends, by the challenges before it and the number of variables after it

-- the piece of a message of two values
abbrev pub piece_of : List ℕ → Piece
piece_of message = piece (slice_index message 0) (slice_index message 1)

-- the plain piece of an honest round
abbrev pub piece_in : Setting → ProverState → List ℕ → ℕ → Piece
piece_in s t rs m = piece_of (honest_in s t rs m)

-- a piece of the round after so many others, with what is left of aux then in its constant
abbrev pub piece_with : Ops → Masking → ℕ → Piece → Piece
piece_with o k before p = piece (p.constant +⟨ o ⟩ aux_after o k.half k.aux (suc before)) p.leading

-- the wire of a round, of which these masks are its own and those after it, and `done` is the sum
-- of the earlier ones at their challenges
abbrev pub wire_from : Ops → ℕ → ℕ → List (List ℕ) → Piece → List ℕ
wire_from o eps done [] p = []
wire_from o eps done (s ∷ ss) p = wire_of (masked_round o eps done s (map (endpoint o) ss) p)

-- the wire of the round after the challenges rs, by its plain piece
abbrev pub wire_after : Ops → Masking → List ℕ → Piece → List ℕ
wire_after o k rs p = wire_from o k.eps (masks_at o k.masks rs) (drop (length rs) k.masks) (piece_with o k (length rs) p)

-- what an honest masked round sends
abbrev pub masked_in : Setting → ProverState → Masking → List ℕ → ℕ → List ℕ
masked_in s t k rs m = wire_after s.ops k rs (piece_in s t rs m)

-- What a function of the challenges before a round and of the number of variables after it gives
-- for each round, where n variables are left and the challenges are these.
abbrev pub along : {X : Type 0} → (List ℕ → ℕ → X) → List ℕ → ℕ → List ℕ → List X
along f before n [] = []
along f before zero (r ∷ rs) = []
along f before (suc n) (r ∷ rs) = f before n ∷ along f (before ++ r ∷ []) n rs

-- ---- rounds

-- Masked rounds with the challenges rs: what the tables before them make under the masks is put on
-- the wire, both tables are bound at rs, and the plain claim is folded along the plain messages.
pub record IsMasked (s : Setting) (k : Masking) (before after : ProverState) (rs : List ℕ) : Type 0 where
  pub rounds : List Round
  pub built : IsBuilt (masked_in s before k) s.channel before.history [] before.variables rounds
  pub count : before.variables ≡ length rounds + after.variables
  pub drawn : rs ≡ challenges s.channel.rules s.channel.extension s.channel.bits before.history rounds
  pub history : after.history ≡ before.history ++ rounds_events s.channel.extension s.channel.bits rounds
  pub wire : after.wire ≡ with_rounds s.channel.bits before.wire rounds
  pub evals : after.evals ≡ entries_of after.variables (folded_by s.basis s.order s.ops rs after.variables (rows_of before.evals))
  pub weights : after.weights ≡ entries_of after.variables (folded_by s.basis s.order s.ops rs after.variables (rows_of before.weights))
  pub claim : after.claim ≡ plain_after s.ops before.claim (along (piece_in s before) [] before.variables rs) rs

-- One round, after others with the challenges rs: the message of the tables is put under the masks
-- and sent with the first witness, both tables are bound at r, and the plain claim is what the
-- message sends there.
pub record IsMaskedRound (s : Setting) (k : Masking) (before after : ProverState) (rs : List ℕ) (r : ℕ) : Type 0 where
  pub round : Round
  pub fewer : before.variables ≡ suc after.variables
  pub values : round.values ≡ wire_after s.ops k rs (piece_of (message_in s before))
  pub sent : IsSent s.channel before.history round r after.history
  pub wire : after.wire ≡ with_rounds s.channel.bits before.wire (round ∷ [])
  pub evals : after.evals ≡ entries_of after.variables (folded_in s.basis s.order s.ops after.variables r (rows_of before.evals))
  pub weights : after.weights ≡ entries_of after.variables (folded_in s.basis s.order s.ops after.variables r (rows_of before.weights))
  pub claim : after.claim ≡ next_claim evaluation s.ops before.claim (pair_of (piece_of (message_in s before))) r

-- Masked rounds, with some challenges, and nothing of another one.
pub record IsMaskedInPart (s : Setting) (k : Masking) (before after : ProverState) : Type 0 where
  pub rs : List ℕ
  pub played : IsMasked s k before after rs

-- Masked rounds, with some challenges, and then one for which no witness was found: the history
-- ends with its wire.
pub record IsMaskedWithoutWitness (s : Setting) (k : Masking) (before after : ProverState) : Type 0 where
  pub rs : List ℕ
  pub last : ProverState
  pub played : IsMasked s k before last rs
  pub left : ℕ
  pub more : last.variables ≡ suc left
  pub none : NoWitnessFound s.channel last.history (masked_in s before k rs left) after.history
  pub kept : after ≡ record last { history = after.history }

-- ---- the residual

-- What a replay of the wires leaves of the first target: the combination times the plain residual
-- with what is left of aux, and the masks at their challenges.
abbrev pub residual_of : Ops → Masking → ℕ → List ℕ → ℕ
residual_of o k residual rs = k.eps *⟨ o ⟩ (residual +⟨ o ⟩ aux_after o k.half k.aux (length rs)) +⟨ o ⟩ masks_at o k.masks rs

-- where the replay begins, a claim being greater by aux
abbrev pub target_of : Ops → Masking → ℕ → ℕ
target_of o k claim = first_target o k.eps (claim +⟨ o ⟩ k.aux) (masks_total o k.masks)

-- what is handed on: the tables and the claim, with one side and the claim times the combination
abbrev pub handed : Ops → Masking → ProverView → ProverView
handed o k s = with_scaled o s k.eps

-- ---- laws

-- two being one and one, this is its inverse
abbrev pub IsHalf : Ops → ℕ → Type 0
IsHalf o half = (1 +⟨ o ⟩ 1) *⟨ o ⟩ half ≡ 1

-- Masked rounds, one for each mask, can be replayed with their challenges, from the first target to
-- the residual.
abbrev pub RunsReplay : Type 0
RunsReplay =
    (s : Setting) (k : Masking) (before after : ProverState) (rs : List ℕ) →
    IsRing s.ops → IsHalf s.ops k.half → length k.masks ≡ length rs →
    (p : IsMasked s k before after rs) →
    IsReplayed (next_target s.ops) s.channel (verifier_state before.history (target_of s.ops k before.claim))
    (verifier_state after.history (residual_of s.ops k after.claim rs)) p.rounds rs

-- A masked round after masked rounds makes one more.
abbrev pub RunsGrow : Type 0
RunsGrow =
    (s : Setting) (k : Masking) (start before after : ProverState) (rs : List ℕ) (r : ℕ) →
    IsRing s.ops → IsOffered s.basis s.order →
    IsMasked s k start before rs → IsMaskedRound s k before after rs r → IsMasked s k start after (rs ++ r ∷ [])
