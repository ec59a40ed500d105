-- Rounds that a prover plays under its true claim leave its true claim.
use Rattle.std.proofs.Common.{◌≡◌, ℕ, zero, suc, ◌+◌, ◌<◌, ◌≤◌, List, [], ◌∷◌, ◌++◌, length, sym, ◌∙◌, ap, arith, append_assoc, length-append}
use Rattle.std.proofs.lemmas.List.{append-nil}
use Rattle.sc_definitions.specs.declared.events.Event.{Event}
use Rattle.sc_definitions.specs.Ring.{Ops, IsField}
use Rattle.sc_definitions.specs.Interpolation.{node_values, next_through}
use Rattle.sc_definitions.specs.Rounds.{claim_along}
use Rattle.sc_definitions.specs.Transcript.{Round, messages_of, round_events, challenge, challenges}
use Rattle.sc_definitions.specs.Channels.{Channel, Wire, IsBuilt}
use Rattle.sc_definitions.proofs.InterpolationLaws.{next-honest}
use Rattle.sc_degree.specs.Provers.{Prover, IsTied, sent_after, Play, EndsPlay}

module _ (o : Ops) (field : IsField o) (p : Prover) (tied : IsTied o p) (some : 1 ≤ p.degree) (few : p.degree < o.size) where
  -- one round
  claim-next : (rs : List ℕ) (r : ℕ) → length rs < p.variables → next_through o (p.claim rs) (node_values o p.degree (p.polynomial rs)) r ≡ p.claim (rs ++ r ∷ [])
  claim-next rs r left = go p.degree some few (tied.coefficients rs left) where
    go : (d : ℕ) → 1 ≤ d → d < o.size → length (p.polynomial rs) ≡ suc d → next_through o (p.claim rs) (node_values o d (p.polynomial rs)) r ≡ p.claim (rs ++ r ∷ [])
    go zero one below long = absurd (omega (arith, one))
    go (suc d) one below long = next-honest o field d (p.claim rs) r (p.polynomial rs) long below (sym (tied.sum rs left)) ∙ tied.next rs r left

  -- and all of them
  pub claim-along : (c : Channel) (h : List Event) (before : List ℕ) (n : ℕ) (rounds : List Round) → length before + n ≡ p.variables →
      IsBuilt (sent_after o p) c h before n rounds →
      claim_along (next_through o) (p.claim before) (messages_of rounds) (challenges c.rules c.extension c.bits h rounds)
      ≡ p.claim (before ++ challenges c.rules c.extension c.bits h rounds)
  unfolding claim_along
  claim-along c h before n [] left built = ap p.claim (sym (append-nil before))
  claim-along c h before zero (r ∷ rounds) left built = absurd built
  claim-along c h before (suc n) (r ∷ rounds) left built =
      let x = challenge c.rules c.extension c.bits h r in
      let h' = h ++ round_events c.extension c.bits r in
      let rs = challenges c.rules c.extension c.bits h' rounds in
      ap (λ k. claim_along (next_through o) k (messages_of rounds) rs)
      (ap (λ v. next_through o (p.claim before) v x) built.0 ∙ claim-next before x (omega (arith, left)))
      ∙ claim-along c h' (before ++ x ∷ []) n rounds (omega (arith, left, length-append before (x ∷ []))) built.2
      ∙ ap p.claim (append_assoc before (x ∷ []) rs)

-- a play that ends leaves the prover's true claim of it, where the claimed sum is the true one
pub play-leaves : (q : Play) → IsField q.ops → (before after : Prover) → IsTied q.ops before → 1 ≤ before.degree → before.degree < q.ops.size → (came : Wire) (rs : List ℕ) (h' : List Event) →
    EndsPlay q before after came rs h' → q.claimed ≡ before.claim [] → claim_along (next_through q.ops) q.claimed came.messages rs ≡ before.claim rs
play-leaves q field before after tied some few came rs h' ends true_claim =
    ap (λ (w : Wire). claim_along (next_through q.ops) q.claimed w.messages rs) ends.wire
    ∙ ap (λ k. claim_along (next_through q.ops) k (messages_of ends.rounds) rs) true_claim
    ∙ ap (claim_along (next_through q.ops) (before.claim []) (messages_of ends.rounds)) ends.plays.drawn
    ∙ claim-along q.ops field before tied some few q.channel _ [] before.variables ends.rounds (omega arith) ends.plays.built
    ∙ ap before.claim (sym ends.plays.drawn)
