-- A round on a pair of which a challenge may be held, by what it shows.
use Rattle.std.proofs.Common.{◌≡◌, ℕ, suc, ◌+◌, ◌-◌, ◌^◌, ◌<◌, List, [], ◌∷◌, map, refl, ap, sym, ◌∙◌, subst, arith}
use Rattle.std.proofs.lemmas.List.{length-map}
use Rattle.sc_definitions.specs.declared.events.Event.{Event}
use Rattle.sc_definitions.specs.Ring.{Ops, IsRing, IsRingMap}
use Rattle.sc_definitions.specs.Tables.{rows_of, folded_in}
use Rattle.sc_definitions.specs.Messages.{message_of}
use Rattle.sc_definitions.specs.Rounds.{next_claim}
use Rattle.sc_definitions.specs.Transcript.{round_of}
use Rattle.sc_definitions.specs.Channels.{Channel, Wire, IsSent, with_rounds}
use Rattle.sc_definitions.specs.ProverStates.{half_rows, entries_of, IsRound}
use Rattle.sc_definitions.proofs.ProverStateLaws.{length-entries_of, rows-entries_of}
use Rattle.sc_definitions.specs.ProverViews.{ProverView, imaged, message_shown, with_bound, setting_at, prover_state_at}
use Rattle.sc_definitions.proofs.MappedRounds.{image_rows, image_message, image_bound, image_next}
use Rattle.sc_definitions.proofs.PairMoves.{moves}

-- A message of two values below the ring's size, the two of what is shown, and their images.
pub record SendsImages (a : Ops) (h : ℕ → ℕ) (s : ProverView) (values : List ℕ) : Type 0 where
  pub first : ℕ
  pub leading : ℕ
  pub first_below : first < a.size
  pub leading_below : leading < a.size
  pub are : first ∷ leading ∷ [] ≡ message_shown a s
  pub images : values ≡ h first ∷ h leading ∷ []

-- what is shown has elements alone
pub record IsBelow (a : Ops) (s : ProverView) : Type 0 where
  pub evals : (k : ℕ) → rows_of s.evals k < a.size
  pub weights : (k : ℕ) → rows_of s.weights k < a.size
  pub claim : s.claim < a.size

module _ (a b : Ops) (ra : IsRing a) (rb : IsRing b) (h : ℕ → ℕ) (image : IsRingMap a b h) (s : ProverView) (low : IsBelow a s) where
  -- the images are the message of the images
  pub sent_images : (values : List ℕ) → SendsImages a h s values → values ≡ message_shown b (imaged h s)
  sent_images values m =
      m.images ∙ image_message a b ra rb h image s.basis s.order (half_rows s.variables) low.evals low.weights
      (image_rows a b ra rb h image s.evals) (image_rows a b ra rb h image s.weights) refl refl m.are

  -- the round on the images
  pub image_round : {c : Channel} {hist hist' : List Event} {w w' : Wire} {values : List ℕ} (witness r t : ℕ) → SendsImages a h s values →
      0 < s.variables → r < a.size → h r ≡ t → IsSent c hist (round_of values witness) t hist' → w' ≡ with_rounds c.bits w (round_of values witness ∷ []) →
      IsRound (setting_at c b s) (prover_state_at (imaged h s) hist w) (prover_state_at (imaged h (with_bound a s r)) hist' w') t
  image_round {c} {hist} {hist'} {w} {w'} {values} witness r t m left r_low r_is sent wire =
      let n = s.variables - 1 in
      let more : s.variables ≡ n + 1 = omega (arith, left) in
      let next : s.variables ≡ suc n = omega (arith, left) in
      let u = with_bound a s r in
      let bound : (xs : List ℕ) → ((k : ℕ) → rows_of xs k < a.size) → (k : ℕ) → k < 2 ^ n →
      rows_of (map h (entries_of n (folded_in s.basis s.order a n r (rows_of xs)))) k ≡ folded_in s.basis s.order b n t (rows_of (map h xs)) k =
      λ xs below. image_bound a b ra rb h image s.basis s.order n r t (rows_of xs) (rows_of (entries_of n (folded_in s.basis s.order a n r (rows_of xs)))) _ _ below r_low r_is
      (image_rows a b ra rb h image xs) (image_rows a b ra rb h image (entries_of n (folded_in s.basis s.order a n r (rows_of xs)))) (rows-entries_of n _) in
      let claim : h u.claim ≡ next_claim s.basis b (h s.claim) values t =
      image_next a b ra rb h image s.basis r t low.claim m.first_below m.leading_below r_low refl refl r_is
      (ap (λ v. next_claim s.basis a s.claim v r) (sym m.are))
      ∙ ap (λ v. next_claim s.basis b (h s.claim) v t) (sym m.images) in
      moves (setting_at c b s) (prover_state_at (imaged h s) hist w) (prover_state_at (imaged h u) hist' w') values witness t sent wire more
      (record { evals = length-map _ h ∙ length-entries_of n _; weights = length-map _ h ∙ length-entries_of n _ })
      (sent_images values m ∙ ap (λ k. message_of s.basis s.order b (half_rows k) (rows_of (map h s.evals)) (rows_of (map h s.weights))) next)
      (bound s.evals low.evals) (bound s.weights low.weights) claim

-- a round between what is shown by other names
pub round_as : (o : Ops) (h : ℕ → ℕ) {c : Channel} {hist hist' : List Event} {w w' : Wire} (t : ℕ) (s : ProverView) {s' : ProverView} (u : ProverView) {u' : ProverView} → s ≡ s' → u ≡ u' →
    IsRound (setting_at c o s) (prover_state_at (imaged h s) hist w) (prover_state_at (imaged h u) hist' w') t →
    IsRound (setting_at c o s') (prover_state_at (imaged h s') hist w) (prover_state_at (imaged h u') hist' w') t
round_as o h {c} {hist} {hist'} {w} {w'} t s {s'} u es eu p =
    subst (λ v. IsRound (setting_at c o s') (prover_state_at (imaged h s') hist w) (prover_state_at (imaged h v) hist' w') t) eu
    (subst (λ v. IsRound (setting_at c o v) (prover_state_at (imaged h v) hist w) (prover_state_at (imaged h u) hist' w') t) es p)
