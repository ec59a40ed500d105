-- The message of two tables is what an honest first round sends, and what it sends is the round's polynomial.
use Rattle.std.proofs.Common.{◌≡◌, ℕ, suc, ◌*◌, ◌/◌, ◌^◌, List, [], ◌∷◌, ◌++◌, sym, ◌∙◌, ap, arith}
use Rattle.std.proofs.Math.Nat.{pow-suc}
use Rattle.sc_definitions.specs.Ring.{Ops, IsRing}
use Rattle.sc_definitions.specs.Tables.{Basis, Order, IsOffered, folded_by}
use Rattle.sc_definitions.specs.Messages.{message_first, message_leading, message_of}
use Rattle.sc_definitions.specs.Rounds.{true_claim, honest_message, next_claim}
use Rattle.sc_definitions.proofs.RoundLaws.{honest_message-message, true_claim-next}

module _ (basis : Basis) (order : Order) (offered : IsOffered basis order) (o : Ops) (ring : IsRing o) (f w : ℕ → ℕ) (m : ℕ) where
  -- before any challenge, m variables being left after the round's
  pub honest_message-first : honest_message basis order o f w [] m ≡ message_of basis order o (2 ^ m) f w
  unfolding folded_by
  honest_message-first = honest_message-message o ring basis order offered f w [] m

  -- the same, of the message of tables of so many rows
  pub message-honest : (rows c q : ℕ) → rows ≡ 2 ^ suc m →
      c ≡ message_first basis order o (rows / 2) f w → q ≡ message_leading basis order o (rows / 2) f w →
      c ∷ q ∷ [] ≡ honest_message basis order o f w [] m
  message-honest rows c q size c_is q_is =
      let twice : rows ≡ 2 ^ m * 2 = size ∙ pow-suc 2 m in
      let half : rows / 2 ≡ 2 ^ m = omega arith in
      ap (λ k. k ∷ q ∷ []) (c_is ∙ ap (λ n. message_first basis order o n f w) half)
      ∙ ap (λ k. message_first basis order o (2 ^ m) f w ∷ k ∷ []) (q_is ∙ ap (λ n. message_leading basis order o n f w) half)
      ∙ sym honest_message-first

-- what an honest message sends under the true claim is the value of the round's polynomial
pub sent-honest : (basis : Basis) (o : Ops) → IsRing o → (claim : ℕ) (pair : List ℕ) (r result : ℕ) →
    result ≡ next_claim basis o claim pair r →
    (order : Order) → IsOffered basis order → (f w : ℕ → ℕ) (rs : List ℕ) (m : ℕ) →
    pair ≡ honest_message basis order o f w rs m → claim ≡ true_claim basis order o f w rs (suc m) →
    result ≡ true_claim basis order o f w (rs ++ r ∷ []) m
sent-honest basis o ring claim pair r result is order offered f w rs m pair_is claim_is =
    is
    ∙ ap (λ k. next_claim basis o k pair r) claim_is
    ∙ ap (λ p. next_claim basis o (true_claim basis order o f w rs (suc m)) p r) pair_is
    ∙ sym (true_claim-next o ring basis order offered f w rs r m)
