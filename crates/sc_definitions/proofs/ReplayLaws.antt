-- One more round of a replay.
use Rattle.std.proofs.Common.{◌≡◌, ℕ, zero, suc, ◌+◌, ◌<◌, true, List, [], ◌∷◌, ◌++◌, take, length, get_or, refl, ap, sym, ◌∙◌, append_assoc, arith}
use Rattle.std.proofs.Math.Seq.{take-length}
use Rattle.std.proofs.lemmas.List.{take_more, append-nil, map-append}
use Rattle.std.proofs.lemmas.Grind.{flat_map-append}
use Rattle.sc_definitions.specs.declared.events.Event.{Event}
use Rattle.sc_definitions.specs.Rounds.{claim_along}
use Rattle.sc_definitions.specs.Events.{Rules, Extension, words}
use Rattle.sc_definitions.specs.Transcript.{Round, round_of, messages_of, sent, round_events, rounds_events, challenge, challenges}
use Rattle.sc_definitions.specs.Replays.{round_passes, AllPass, given_rounds}
use Rattle.sc_definitions.specs.Channels.{Channel, VerifierState, IsTaken, IsReplayed}
use Rattle.sc_definitions.proofs.BuiltLaws.{challenges-append, length-challenges, length-messages, claim_along-append}

pub AllPass-append : (R : Rules) (E : Extension) (bits : ℕ) (h : List Event) (rs : List Round) (r : Round) →
    AllPass R E bits h rs → round_passes R E bits (h ++ rounds_events E bits rs) r ≡ true → AllPass R E bits h (rs ++ r ∷ [])
AllPass-append R E bits h [] r a p = (rw append-nil at p, tt)
AllPass-append R E bits h (q ∷ rs) r a p =
    (a.0, AllPass-append R E bits (h ++ round_events E bits q) rs r a.1 (rw (append_assoc h (round_events E bits q) (rounds_events E bits rs)) p))

pub rounds_events_take : (E : Extension) (bits : ℕ) (rs : List Round) (i : ℕ) (d : Round) → i < length rs →
    rounds_events E bits (take (i + 1) rs) ≡ rounds_events E bits (take i rs) ++ round_events E bits (get_or rs i d)
rounds_events_take E bits rs i d lt = rw (take_more rs i d lt) (flat_map-append (round_events E bits) (take i rs) (get_or rs i d ∷ []) ∙ rw append-nil)

pub challenges_take : (R : Rules) (E : Extension) (bits : ℕ) (h : List Event) (rs : List Round) (i : ℕ) (d : Round) → i < length rs →
    challenges R E bits h (take (i + 1) rs) ≡ challenges R E bits h (take i rs) ++ challenge R E bits (h ++ rounds_events E bits (take i rs)) (get_or rs i d) ∷ []
challenges_take R E bits h rs i d lt = rw (take_more rs i d lt) (challenges-append R E bits h (take i rs) (get_or rs i d ∷ []))

pub claim_take : (next : ℕ → List ℕ → ℕ → ℕ) (R : Rules) (E : Extension) (bits : ℕ) (h : List Event) (c : ℕ) (rs : List Round) (i : ℕ) (d : Round) → i < length rs →
    claim_along next c (messages_of (take (i + 1) rs)) (challenges R E bits h (take (i + 1) rs))
    ≡ next (claim_along next c (messages_of (take i rs)) (challenges R E bits h (take i rs))) (get_or rs i d).values (challenge R E bits (h ++ rounds_events E bits (take i rs)) (get_or rs i d))
claim_take next R E bits h c rs i d lt =
    ap (λ t. claim_along next c (messages_of t) (challenges R E bits h (take (i + 1) rs))) (take_more rs i d lt)
    ∙ ap (λ t. claim_along next c t (challenges R E bits h (take (i + 1) rs))) (map-append (λ r. r.values) (take i rs) (get_or rs i d ∷ []))
    ∙ ap (claim_along next c (messages_of (take i rs) ++ (get_or rs i d).values ∷ [])) (challenges_take R E bits h rs i d lt)
    ∙ claim_along-append next c (messages_of (take i rs)) (challenges R E bits h (take i rs)) (get_or rs i d).values (challenge R E bits (h ++ rounds_events E bits (take i rs)) (get_or rs i d))
    (length-messages (take i rs) ∙ sym (length-challenges R E bits h (take i rs)))

pub AllPass_take : (R : Rules) (E : Extension) (bits : ℕ) (h : List Event) (rs : List Round) (i : ℕ) (d : Round) → i < length rs →
    AllPass R E bits h (take i rs) → round_passes R E bits (h ++ rounds_events E bits (take i rs)) (get_or rs i d) ≡ true → AllPass R E bits h (take (i + 1) rs)
AllPass_take R E bits h rs i d lt a p = rw (take_more rs i d lt) (AllPass-append R E bits h (take i rs) (get_or rs i d) a p)

-- ---- a replay

-- no round yet
pub replayed-none : (next : ℕ → List ℕ → ℕ → ℕ) (c : Channel) (before : VerifierState) → IsReplayed next c before before [] []
unfolding claim_along
replayed-none next c before = record { history = sym (append-nil before.history); drawn = refl; claim = refl; passes = tt }

-- one round more
pub replayed-more : (next : ℕ → List ℕ → ℕ → ℕ) (c : Channel) (before at after : VerifierState) (rounds : List Round) (i : ℕ) (r : Round) (rs : List ℕ) (x : ℕ) →
    i < length rounds → get_or rounds i r ≡ r → IsReplayed next c before at (take i rounds) rs →
    IsTaken c at.history r x after.history → after.claim ≡ next at.claim r.values x → IsReplayed next c before after (take (i + 1) rounds) (rs ++ x ∷ [])
replayed-more next c before at after rounds i r rs x lt is p q claimed =
    let R = c.rules in
    let E = c.extension in
    let bits = c.bits in
    let h = before.history in
    let hx : x ≡ challenge R E bits (h ++ rounds_events E bits (take i rounds)) r = q.drawn ∙ ap (λ t. challenge R E bits t r) p.history in
    record {
      history = q.history ∙ rw p.history (append_assoc h (rounds_events E bits (take i rounds)) (round_events E bits r) ∙ sym (rw (rounds_events_take E bits rounds i r lt, is)));
      drawn = rw (p.drawn, hx) (sym (rw (challenges_take R E bits h rounds i r lt, is)));
      claim = claimed ∙ rw (p.claim, hx) (sym (rw (claim_take next R E bits h before.claim rounds i r lt, is)));
      passes = AllPass_take R E bits h rounds i r lt p.passes (rw (is, ← p.history) q.passes);
    }

pub take_whole : (rs : List Round) (i : ℕ) → i ≡ length rs → take i rs ≡ rs
take_whole rs i e = rw e (take-length rs)

-- ---- rounds that are handed in

pub length-given_rounds : (ms : List (List ℕ)) (ws : List ℕ) → length (given_rounds ms ws) ≡ length ms
length-given_rounds [] ws = refl
length-given_rounds (m ∷ ms) [] = ap suc (length-given_rounds ms [])
length-given_rounds (m ∷ ms) (w ∷ ws) = ap suc (length-given_rounds ms ws)

pub get_or-given_rounds : (ms : List (List ℕ)) (ws : List ℕ) (i : ℕ) (m : List ℕ) (d : Round) → i < length ms → m ≡ get_or ms i m →
    get_or (given_rounds ms ws) i d ≡ round_of m (get_or ws i 0)
get_or-given_rounds [] ws i m d lt e = absurd (omega arith)
get_or-given_rounds (q ∷ ms) [] zero m d lt e = ap (λ x. round_of x 0) (sym e)
get_or-given_rounds (q ∷ ms) (w ∷ ws) zero m d lt e = ap (λ x. round_of x w) (sym e)
get_or-given_rounds (q ∷ ms) [] (suc i) m d lt e = get_or-given_rounds ms [] i m d (omega arith) e
get_or-given_rounds (q ∷ ms) (w ∷ ws) (suc i) m d lt e = get_or-given_rounds ms ws i m d (omega arith) e

pub messages-given_rounds : (ms : List (List ℕ)) (ws : List ℕ) → messages_of (given_rounds ms ws) ≡ ms
messages-given_rounds [] ws = refl
messages-given_rounds (m ∷ ms) [] = ap (λ t. m ∷ t) (messages-given_rounds ms [])
messages-given_rounds (m ∷ ms) (w ∷ ws) = ap (λ t. m ∷ t) (messages-given_rounds ms ws)

-- ---- a pair's words

pub sent-pair : (E : Extension) (c q : ℕ) → sent E (c ∷ q ∷ []) ≡ words (E.parts c) ++ words (E.parts q)
unfolding sent
sent-pair E c q = ap (λ t. words (E.parts c ++ t)) (append-nil (E.parts q)) ∙ map-append _ (E.parts c) (E.parts q)
