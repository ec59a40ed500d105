-- Rounds on tables that agree at each row.
use Rattle.std.proofs.Common.{◌≡◌, ℕ, zero, suc, ◌+◌, ◌*◌, ◌^◌, ◌<◌, List, [], ◌∷◌, ◌++◌, length, sym, ◌∙◌, arith, length-append}
use Rattle.std.proofs.Math.Nat.{pow-suc}
use Rattle.sc_definitions.specs.declared.events.Event.{Event}
use Rattle.sc_definitions.specs.Ring.{Ops, IsRing}
use Rattle.sc_definitions.specs.Tables.{Basis, Order, IsOffered, folded_in, folded_by, inner_product}
use Rattle.sc_definitions.specs.Rounds.{honest_message}
use Rattle.sc_definitions.specs.Transcript.{Round, round_events, challenge}
use Rattle.sc_definitions.specs.Channels.{Channel, IsBuilt}
use Rattle.sc_definitions.proofs.Sums.{sum-same}
use Rattle.sc_definitions.proofs.PlayedLaws.{message-same, folded_in-same}
use Rattle.sc_definitions.proofs.RoundLaws.{honest_message-message}

-- the tables agree at each row of n variables
abbrev pub Agree : ℕ → (ℕ → ℕ) → (ℕ → ℕ) → Type 0
Agree n f g = (b : ℕ) → b < 2 ^ n → f b ≡ g b

-- so do the sums of their products
pub inner_product-same : (o : Ops) (n : ℕ) (f g w v : ℕ → ℕ) → ((b : ℕ) → b < 2 ^ n → f b ≡ g b) → ((b : ℕ) → b < 2 ^ n → w b ≡ v b) → inner_product o n f w ≡ inner_product o n g v
unfolding inner_product
inner_product-same o n f g w v evals weights = sum-same o (2 ^ n) _ _ (λ b low. cc (evals b low, weights b low))

module _ (basis : Basis) (order : Order) (o : Ops) where
  pub folded_by-same : (rs : List ℕ) (left : ℕ) (f g : ℕ → ℕ) → Agree (length rs + left) f g → Agree left (folded_by basis order o rs left f) (folded_by basis order o rs left g)
  unfolding folded_by
  folded_by-same [] left f g same b low = let none : length {A = ℕ} [] + left ≡ left = omega arith in same b (rw none low)
  folded_by-same (r ∷ rs) left f g same b low =
      let more : length (r ∷ rs) + left ≡ suc (length rs + left) = omega arith in
      folded_by-same rs left (folded_in basis order o (length rs + left) r f) (folded_in basis order o (length rs + left) r g)
      (λ k below. folded_in-same basis order o (length rs + left) r k f g below (λ j under. same j (rw more under))) b low

  module _ (ring : IsRing o) (offered : IsOffered basis order) (n : ℕ) (f g w v : ℕ → ℕ) (evals : Agree n f g) (weights : Agree n w v) where
    pub honest-same : (rs : List ℕ) (m : ℕ) → length rs + suc m ≡ n → honest_message basis order o f w rs m ≡ honest_message basis order o g v rs m
    honest-same rs m whole =
        let twice : 2 ^ suc m ≡ 2 ^ m * 2 = pow-suc 2 m in
        let f_at : Agree (length rs + suc m) f g = rw whole evals in
        let w_at : Agree (length rs + suc m) w v = rw whole weights in
        honest_message-message o ring basis order offered f w rs m
        ∙ message-same basis order o (2 ^ m) _ _ _ _
        (λ b low. folded_by-same rs (suc m) f g f_at b (omega (arith, low, twice)))
        (λ b low. folded_by-same rs (suc m) w v w_at b (omega (arith, low, twice)))
        ∙ sym (honest_message-message o ring basis order offered g v rs m)

    pub built-same : (c : Channel) (h : List Event) (rs : List ℕ) (k : ℕ) (rounds : List Round) → length rs + k ≡ n →
        IsBuilt (honest_message basis order o f w) c h rs k rounds → IsBuilt (honest_message basis order o g v) c h rs k rounds
    built-same c h rs k [] whole b = tt
    built-same c h rs zero (r ∷ rounds) whole b = b
    built-same c h rs (suc k) (r ∷ rounds) whole b =
        let x = challenge c.rules c.extension c.bits h r in (
          b.0 ∙ honest-same rs k whole,
          b.1,
          built-same c (h ++ round_events c.extension c.bits r) (rs ++ x ∷ []) k rounds (omega (arith, whole, length-append rs (x ∷ []))) b.2,
        )
