-- Masked rounds, as they are played, and their replay.
use Rattle.std.proofs.Common.{◌≡◌, ℕ, zero, suc, ◌≤◌, true, List, [], ◌∷◌, ◌++◌, length, map, drop, sym, ◌∙◌, ap, refl, arith, length-append}
use Rattle.std.specs.Prelude.{slice_index_or}
use Rattle.sc_definitions.specs.declared.events.Event.{Event}
use Rattle.sc_definitions.specs.Ring.{Ops, IsRing, plus, times, power}
use Rattle.sc_definitions.specs.Tables.{Basis, evaluation, projective}
use Rattle.sc_definitions.specs.Polynomials.{poly_at}
use Rattle.sc_definitions.specs.Rounds.{honest_message}
use Rattle.sc_definitions.specs.Events.{Rules, Extension}
use Rattle.sc_definitions.specs.Transcript.{Round, messages_of, round_events, challenge, challenges, HasFirstWitness}
use Rattle.sc_definitions.specs.Replays.{round_passes, AllPass}
use Rattle.sc_definitions.specs.Channels.{Channel, IsBuilt}
use Rattle.sc_definitions.specs.ProverStates.{Setting, ProverState, honest_in}
use Rattle.sc_definitions.proofs.BuiltLaws.{length-challenges}
use Rattle.sc_definitions.proofs.Identity.{atom, nought, unit, ◌⊕◌, ◌⊗◌, Agree, identity}
use Rattle.sc_zk_definitions.specs.Masks.{masks_at, endpoint, piece, pair_of, masked_round, masked_rounds, wire_of, target_after, plain_after, with_aux, aux_after}
use Rattle.sc_zk_definitions.specs.MaskedRuns.{Masking, piece_in, piece_with, wire_from, masked_in, along, IsMasked, residual_of, target_of, IsHalf, RunsReplay}
use Rattle.sc_zk_definitions.specs.MaskedBatches.{after_head, SimulationsReplay}
use Rattle.sc_zk_definitions.proofs.AuxLaws.{honest_run}

-- ---- what rounds give along their challenges

-- the messages of built rounds
pub messages-along : (f : List ℕ → ℕ → List ℕ) (c : Channel) (h : List Event) (rs : List ℕ) (n : ℕ) (rounds : List Round) → IsBuilt f c h rs n rounds →
    messages_of rounds ≡ along f rs n (challenges c.rules c.extension c.bits h rounds)
messages-along f c h rs n [] b = refl
messages-along f c h rs zero (r ∷ rounds) b = absurd b
messages-along f c h rs (suc n) (r ∷ rounds) b =
    let x = challenge c.rules c.extension c.bits h r in
    let h' = h ++ round_events c.extension c.bits r in
    ap (λ v. v ∷ messages_of rounds) b.0
    ∙ ap (λ t. f rs n ∷ t) (messages-along f c h' (rs ++ x ∷ []) n rounds b.2)

-- built rounds are no more than there are variables
built-count : (f : List ℕ → ℕ → List ℕ) (c : Channel) (h : List Event) (rs : List ℕ) (n : ℕ) (rounds : List Round) → IsBuilt f c h rs n rounds → length rounds ≤ n
built-count f c h rs n [] b = omega arith
built-count f c h rs zero (r ∷ rounds) b = absurd b
built-count f c h rs (suc n) (r ∷ rounds) b =
    let more = built-count f c (h ++ round_events c.extension c.bits r) (rs ++ challenge c.rules c.extension c.bits h r ∷ []) n rounds b.2 in omega (arith, more)

pub length-along : {X : Type 0} (f : List ℕ → ℕ → X) (before : List ℕ) (n : ℕ) (rs : List ℕ) → length rs ≤ n → length (along f before n rs) ≡ length rs
length-along f before n [] low = refl
length-along f before zero (r ∷ rs) low = absurd (omega arith)
length-along f before (suc n) (r ∷ rs) low = ap suc (length-along f (before ++ r ∷ []) n rs (omega arith))

-- an honest round sends its piece
piece-of_basis : (b : Basis) (s : Setting) (t : ProverState) (rs : List ℕ) (m : ℕ) →
    pair_of (piece_in (record s { basis = b }) t rs m) ≡ honest_in (record s { basis = b }) t rs m
unfolding honest_message
piece-of_basis evaluation s t rs m = refl
piece-of_basis projective s t rs m = refl

pub honest-piece : (s : Setting) (t : ProverState) (rs : List ℕ) (m : ℕ) → pair_of (piece_in s t rs m) ≡ honest_in s t rs m
honest-piece s t rs m = piece-of_basis s.basis s t rs m

-- ---- masks, one after the other

drop-next : (j : ℕ) (all ss : List (List ℕ)) (s : List ℕ) → drop j all ≡ s ∷ ss → drop (suc j) all ≡ ss
drop-next zero [] ss s e = ap (drop 1) e
drop-next zero (t ∷ all) ss s e = ap (drop 1) e
drop-next (suc j) [] ss s e = ap (drop 1) e
drop-next (suc j) (t ∷ all) ss s e = drop-next j all ss s e

no_cons : {s : List ℕ} {ss : List (List ℕ)} → [] ≡ s ∷ ss → ⊥
no_cons e = let wrong = ap length e in absurd (omega (arith, wrong))

first_of : List (List ℕ) → List ℕ
first_of [] = []
first_of (s ∷ ss) = s

first_same : {s t : List ℕ} {ss ts : List (List ℕ)} → s ∷ ss ≡ t ∷ ts → s ≡ t
unfolding first_of
first_same e = ap (λ l. first_of l) e

module _ (o : Ops) (ring : IsRing o) where
  pub masks_at-none : (ss : List (List ℕ)) → masks_at o ss [] ≡ 0
  unfolding masks_at
  masks_at-none [] = refl
  masks_at-none (s ∷ ss) = refl

  -- one mask more
  pub masks_at-next : (all ss : List (List ℕ)) (s : List ℕ) (before : List ℕ) (r : ℕ) → drop (length before) all ≡ s ∷ ss →
      masks_at o all (before ++ r ∷ []) ≡ plus o (masks_at o all before) (poly_at o s r)
  unfolding masks_at Agree
  masks_at-next [] ss s [] r e = absurd (no_cons e)
  masks_at-next (t ∷ all) ss s [] r e =
      ap (plus o (poly_at o t r)) (masks_at-none all)
      ∙ ap (λ u. plus o (poly_at o u r) 0) (first_same e)
      ∙ identity o ring (poly_at o s r ∷ []) (atom 0 ⊕ nought) (nought ⊕ atom 0) tt tt refl
  masks_at-next [] ss s (b ∷ before) r e = absurd (no_cons e)
  masks_at-next (t ∷ all) ss s (b ∷ before) r e =
      ap (plus o (poly_at o t b)) (masks_at-next all ss s before r e)
      ∙ identity o ring (poly_at o t b ∷ masks_at o all before ∷ poly_at o s r ∷ []) (atom 0 ⊕ (atom 1 ⊕ atom 2)) ((atom 0 ⊕ atom 1) ⊕ atom 2) tt tt refl

  -- the wires of rounds along their challenges are those of the masked rounds
  wires-along : (s : Setting) (t : ProverState) (k : Masking) (a : ℕ) (ss : List (List ℕ)) (before : List ℕ) (n : ℕ) (rs : List ℕ) → s.ops ≡ o →
      drop (length before) k.masks ≡ ss → times o k.half a ≡ aux_after o k.half k.aux (suc (length before)) → length ss ≡ length rs → length rs ≤ n →
      along (masked_in s t k) before n rs
      ≡ map wire_of (masked_rounds o k.eps (masks_at o k.masks before) ss rs (with_aux o k.half a (along (piece_in s t) before n rs)))
  unfolding masked_rounds with_aux power Agree
  wires-along s t k a [] before n [] same masks left count low = refl
  wires-along s t k a (m ∷ ss) before n [] same masks left count low = absurd (omega arith)
  wires-along s t k a [] before n (r ∷ rs) same masks left count low = absurd (omega arith)
  wires-along s t k a (m ∷ ss) before zero (r ∷ rs) same masks left count low = absurd (omega arith)
  wires-along s t k a (m ∷ ss) before (suc n) (r ∷ rs) same masks left count low =
      let j = length before in
      let p = piece_in s t before n in
      let more = length-append before (r ∷ []) in
      let one_more : length (before ++ r ∷ []) ≡ suc j = omega (arith, more) in
      let done = masks_at o k.masks before in
      let first : masked_in s t k before n ≡ wire_of (masked_round o k.eps done m (map (endpoint o) ss) (piece (plus o p.constant (times o k.half a)) p.leading)) =
      ap (λ q. wire_from q k.eps (masks_at q k.masks before) (drop j k.masks) (piece_with q k j p)) same
      ∙ ap (λ ms. wire_from o k.eps done ms (piece_with o k j p)) masks
      ∙ ap (λ x. wire_of (masked_round o k.eps done m (map (endpoint o) ss) (piece (plus o p.constant x) p.leading))) (sym left) in
      let next_left : times o k.half (times o k.half a) ≡ aux_after o k.half k.aux (suc (length (before ++ r ∷ []))) =
      ap (times o k.half) left
      ∙ identity o ring (k.half ∷ power o k.half j ∷ k.aux ∷ []) (atom 0 ⊗ ((atom 0 ⊗ atom 1) ⊗ atom 2)) ((atom 0 ⊗ (atom 0 ⊗ atom 1)) ⊗ atom 2) tt tt refl
      ∙ ap (λ i. aux_after o k.half k.aux (suc i)) (sym one_more) in
      let rest = wires-along s t k (times o k.half a) ss (before ++ r ∷ []) n rs same (ap (λ i. drop i k.masks) one_more ∙ drop-next j k.masks ss m masks) next_left (omega arith) (omega arith) in
      ap (λ w. w ∷ along (masked_in s t k) (before ++ r ∷ []) n rs) first
      ∙ ap (λ ws. wire_of (masked_round o k.eps done m (map (endpoint o) ss) (piece (plus o p.constant (times o k.half a)) p.leading)) ∷ ws)
      (rest ∙ ap (λ d. map wire_of (masked_rounds o k.eps d ss rs (with_aux o k.half (times o k.half a) (along (piece_in s t) (before ++ r ∷ []) n rs)))) (masks_at-next k.masks ss m before r masks))

-- ---- the replay

passes_first : (R : Rules) (E : Extension) (bits : ℕ) (h : List Event) (r : Round) → HasFirstWitness R E bits h r → round_passes R E bits h r ≡ true
unfolding HasFirstWitness round_passes
passes_first R E zero h r w = refl
passes_first R E (suc bits) h r w = w.passes

all_pass : (honest : List ℕ → ℕ → List ℕ) (c : Channel) (h : List Event) (rs : List ℕ) (n : ℕ) (rounds : List Round) →
    IsBuilt honest c h rs n rounds → AllPass c.rules c.extension c.bits h rounds
all_pass honest c h rs n [] b = tt
all_pass honest c h rs zero (q ∷ rounds) b = absurd b
all_pass honest c h rs (suc n) (q ∷ rounds) b =
    let R = c.rules in
    let E = c.extension in
    let bits = c.bits in
    (passes_first R E bits h q b.1, all_pass honest c (h ++ round_events E bits q) (rs ++ challenge R E bits h q ∷ []) n rounds b.2)

-- the residual of masked rounds, one for each mask
pub run-residual : (s : Setting) (k : Masking) (t u : ProverState) (rs : List ℕ) → IsRing s.ops → IsHalf s.ops k.half → length k.masks ≡ length rs →
    (p : IsMasked s k t u rs) → target_after s.ops (target_of s.ops k t.claim) (messages_of p.rounds) rs ≡ residual_of s.ops k u.claim rs
unfolding power masks_at Agree
run-residual s k t u rs ring half count p =
    let o = s.ops in
    let size : length rs ≡ length p.rounds = ap length p.drawn ∙ length-challenges s.channel.rules s.channel.extension s.channel.bits t.history p.rounds in
    let few = built-count (masked_in s t k) s.channel t.history [] t.variables p.rounds p.built in
    let low : length rs ≤ t.variables = omega (arith, size, few) in
    let pieces = along (piece_in s t) [] t.variables rs in
    let as_many = length-along (piece_in s t) [] t.variables rs low in
    let left : times o k.half k.aux ≡ aux_after o k.half k.aux 1 = identity o ring (k.half ∷ k.aux ∷ []) (atom 0 ⊗ atom 1) ((atom 0 ⊗ unit) ⊗ atom 1) tt tt refl in
    let wires : messages_of p.rounds ≡ map wire_of (masked_rounds o k.eps 0 k.masks rs (with_aux o k.half k.aux pieces)) =
    messages-along (masked_in s t k) s.channel t.history [] t.variables p.rounds p.built
    ∙ ap (along (masked_in s t k) [] t.variables) (sym p.drawn)
    ∙ wires-along o ring s t k k.aux k.masks [] t.variables rs refl refl left count low
    ∙ ap (λ d. map wire_of (masked_rounds o k.eps d k.masks rs (with_aux o k.half k.aux pieces))) (masks_at-none o ring k.masks) in
    ap (λ ws. target_after o (target_of o k t.claim) ws rs) wires
    ∙ honest_run o ring k.half half k.eps t.claim k.aux k.masks rs pieces count (count ∙ sym as_many)
    ∙ ap (λ n. plus o (times o k.eps (plus o (plain_after o t.claim pieces rs) (aux_after o k.half k.aux n))) (masks_at o k.masks rs)) as_many
    ∙ ap (λ x. plus o (times o k.eps (plus o x (aux_after o k.half k.aux (length rs)))) (masks_at o k.masks rs)) (sym p.claim)

pub runs_replay : RunsReplay
runs_replay s k t u rs ring half count p = record {
  history = p.history;
  drawn = p.drawn;
  claim = sym (run-residual s k t u rs ring half count p) ∙ ap (target_after s.ops (target_of s.ops k t.claim) (messages_of p.rounds)) p.drawn;
  passes = all_pass (masked_in s t k) s.channel t.history [] t.variables p.rounds p.built;
}

pub simulations_replay : SimulationsReplay
simulations_replay o b ws rounds rs h p = (
  _,
  record {
    history = p.history;
    drawn = p.drawn;
    claim = refl;
    passes = all_pass (λ rs m. slice_index_or ws (length rs) []) b.channel (after_head b) [] (length ws) rounds p.sent.1;
  },
)
