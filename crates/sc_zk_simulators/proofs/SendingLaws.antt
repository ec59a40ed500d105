-- Wires that are drawn, and rounds of them, one after the other.
use Rattle.std.proofs.Common.{◌≡◌, ℕ, zero, suc, ◌+◌, ◌-◌, ◌<◌, ◌≤◌, List, [], ◌∷◌, ◌++◌, length, get_or, Result, Ok, Err, OnErr, refl, ap, sym, subst, ◌∙◌, append_assoc, length-append, arith, ⊎_elim}
use Rattle.std.proofs.lemmas.List.{append-nil, get_or_append_left}
use Rattle.std.proofs.lemmas.Grind.{flat_map-append}
use Rattle.std.proofs.lemmas.Bool.{cases_lt}
use Rattle.rand_core.specs.Stream.{Stream}
use Rattle.sc_definitions.specs.declared.events.Event.{Event}
use Rattle.sc_definitions.specs.Transcript.{Round, round_of, round_events, rounds_events, challenge, HasFirstWitness}
use Rattle.sc_definitions.specs.Channels.{Channel, Wire, empty_wire, with_rounds, IsSent, NoWitnessFound}
use Rattle.sc_definitions.proofs.BuiltLaws.{IsBuilt-append, challenges-append, length-challenges}
use Rattle.sc_definitions.proofs.ProverStateLaws.{with_more}
use Rattle.sc_commitments.specs.Draws.{draws_from, lists_from, SomeDrawn}
use Rattle.sc_transcript.specs.declared.error.SumcheckError.{SumcheckError}
use Rattle.sc_transcript.specs.declared.error.SumcheckError.TheVariants as errors
use Rattle.sc_transcript.specs.Drivers.{IsRefused}
use Rattle.sc_zk_transcript.specs.Causes.{masked_cause}
use Rattle.sc_zk_definitions.specs.MaskedTranscripts.{wire_length}
use Rattle.sc_zk_simulators.specs.Drafts.{wires_from}
use Rattle.sc_zk_simulators.specs.Sendings.{Sending, IsSentInPart, IsUnderWay, SendsAll, wire_at}

-- ---- lists that are drawn

pub length-lists : (from : Stream → List ℕ × Stream) (n : ℕ) (s : Stream) → length (lists_from from n s).0 ≡ n
unfolding lists_from
length-lists from zero s = refl
length-lists from (suc n) s = length-append (lists_from from n s).0 _ ∙ ap (λ k. k + 1) (length-lists from n s) ∙ omega arith

last-of : (xs : List (List ℕ)) (x : List ℕ) → get_or (xs ++ x ∷ []) (length xs) [] ≡ x
last-of [] x = refl
last-of (y ∷ xs) x = last-of xs x

next : (from : Stream → List ℕ × Stream) (n : ℕ) (s : Stream) →
    lists_from from (n + 1) s ≡ ((lists_from from n s).0 ++ (from (lists_from from n s).1).0 ∷ [], (from (lists_from from n s).1).1)
unfolding lists_from
next from n s = let e : n + 1 ≡ suc n = omega arith in ap (λ k. lists_from from k s) e

-- one of them
pub list-at : (from : Stream → List ℕ × Stream) (n i : ℕ) (s : Stream) → i < n → get_or (lists_from from n s).0 i [] ≡ (from (lists_from from i s).1).0
unfolding lists_from
list-at from zero i s low = absurd (omega (arith, low))
list-at from (suc n) i s low =
    let before = lists_from from n s in
    let size : length before.0 ≡ n = length-lists from n s in
    ⊎_elim
    (λ below. get_or_append_left before.0 _ [] i (omega (arith, size, below)) ∙ list-at from n i s below)
    (λ above.
    let same : i ≡ n = omega (arith, above, low) in
    let end : i ≡ length before.0 = omega (arith, same, size) in
    ap (λ k. get_or (before.0 ++ (from before.1).0 ∷ []) k []) end ∙ last-of before.0 (from before.1).0 ∙ ap (λ k. (from (lists_from from k s).1).0) (sym same))
    (cases_lt i n)

-- how many elements are drawn
length-draws : (size n : ℕ) (s : Stream) → length (draws_from size n s).0 ≡ n
unfolding draws_from
length-draws size zero s = refl
length-draws size (suc n) s = length-append (draws_from size n s).0 _ ∙ ap (λ k. k + 1) (length-draws size n s) ∙ omega arith

-- each wire that is drawn has as many values as a round sends
pub wires-wide : (size l n : ℕ) (s : Stream) (i : ℕ) → i < length (wires_from size l n s).0 → length (get_or (wires_from size l n s).0 i []) ≡ wire_length l
wires-wide size l n s i low =
    let from = draws_from size (wire_length l) in
    let count : length (wires_from size l n s).0 ≡ n = length-lists from n s in
    ap length (list-at from n i s (omega (arith, low, count))) ∙ length-draws size (wire_length l) (lists_from from i s).1

-- one list more is drawn
pub one-more : (from : Stream → List ℕ × Stream) (n : ℕ) (s s' t : Stream) (xs ys : List (List ℕ)) → ys ≡ xs ++ (from s').0 ∷ [] → xs ≡ (lists_from from n s).0 → s' ≡ (lists_from from n s).1 →
    t ≡ (from s').1 → (ys ≡ (lists_from from (n + 1) s).0) × (t ≡ (lists_from from (n + 1) s).1)
one-more from n s s' t xs ys put so_far at left = (
  put ∙ ap (λ l. l ++ (from s').0 ∷ []) so_far ∙ ap (λ u. (lists_from from n s).0 ++ (from u).0 ∷ []) at ∙ sym (ap (λ p. p.0) (next from n s)),
  left ∙ ap (λ u. (from u).1) at ∙ sym (ap (λ p. p.1) (next from n s)),
)

-- one was drawn
pub one-drawn : {T E : Type 0} (result : Result T E) (from : Stream → List ℕ × Stream) (s after : Stream) → after ≡ (from s).1 → OnErr result (SomeDrawn from 1 s after)
unfolding lists_from
one-drawn (Ok x) from s after is = _
one-drawn (Err e) from s after is = record { count = 1; most = omega arith; left = is }

-- where one more at most was drawn after i of n, at most n were
pub one-at-most : (from : Stream → List ℕ × Stream) (n i : ℕ) (s now after : Stream) → now ≡ (lists_from from i s).1 → i < n → SomeDrawn from 1 now after → SomeDrawn from n s after
unfolding lists_from
one-at-most from n i s now after at low some = cases some.count some.most some.left where
  cases : (k : ℕ) → k ≤ 1 → after ≡ (lists_from from k now).1 → SomeDrawn from n s after
  cases zero most left = record { count = i; most = omega (arith, low); left = left ∙ at }
  cases (suc zero) most left = record { count = i + 1; most = omega (arith, low); left = left ∙ ap (λ u. (from u).1) at ∙ sym (ap (λ p. p.1) (next from i s)) }
  cases (suc (suc k)) most left = absurd (omega (arith, most))

-- ---- rounds

-- no wire was sent yet
pub none-sent : (s : Sending) (rs : List ℕ) (sent : Wire) (h : List Event) → h ≡ s.start → rs ≡ [] → sent ≡ empty_wire → IsUnderWay s rs sent h
none-sent s rs sent h begun none empty = record {
  part = record { rounds = []; built = tt; history = begun ∙ sym (append-nil s.start) };
  drawn = none;
  wire = empty ∙ empty-with s.channel.bits;
} where
  empty-with : (bits : ℕ) → empty_wire ≡ with_rounds bits empty_wire []
  empty-with zero = refl
  empty-with (suc bits) = refl

-- how many were sent
pub count-sent : (s : Sending) (rs : List ℕ) (sent : Wire) (h : List Event) → (p : IsUnderWay s rs sent h) → length p.part.rounds ≡ length rs
count-sent s rs sent h p = sym (ap length p.drawn ∙ length-challenges s.channel.rules s.channel.extension s.channel.bits s.start p.part.rounds)

-- one wire more
pub one-sent : (s : Sending) (rs : List ℕ) (sent sent' : Wire) (h h' : List Event) (values : List ℕ) (witness r : ℕ) → length rs < length s.wires → values ≡ get_or s.wires (length rs) [] →
    IsSent s.channel h (round_of values witness) r h' → sent' ≡ with_rounds s.channel.bits sent (round_of values witness ∷ []) → IsUnderWay s rs sent h → IsUnderWay s (rs ++ r ∷ []) sent' h'
one-sent s rs sent sent' h h' values witness r low is put wire p =
    let R = s.channel.rules in
    let E = s.channel.extension in
    let bits = s.channel.bits in
    let rounds = p.part.rounds in
    let so_far = rounds_events E bits rounds in
    let last : Round = round_of values witness in
    let size : length rounds ≡ length rs = count-sent s rs sent h p in
    let left = length s.wires - length rounds - 1 in
    let count : length s.wires ≡ length rounds + suc left = omega (arith, size, low) in
    let witnessed : HasFirstWitness R E bits (s.start ++ so_far) last = subst (λ x. HasFirstWitness R E bits x last) p.part.history put.witness in
    record {
      part = record {
        rounds = rounds ++ last ∷ [];
        built = IsBuilt-append (wire_at s.wires) s.channel s.start [] (length s.wires) rounds last left p.part.built count (is ∙ ap (λ l. get_or s.wires (length l) []) p.drawn) witnessed;
        history = put.history ∙ ap (λ x. x ++ round_events E bits last) p.part.history
            ∙ append_assoc s.start so_far (round_events E bits last)
            ∙ ap (λ x. s.start ++ x) (sym (flat_map-append (round_events E bits) rounds (last ∷ []) ∙ ap (λ x. so_far ++ x) (append-nil (round_events E bits last))));
      };
      drawn = ap (λ x. rs ++ x ∷ []) (put.drawn ∙ ap (λ x. challenge R E bits x last) p.part.history)
          ∙ ap (λ x. x ++ challenge R E bits (s.start ++ so_far) last ∷ []) p.drawn ∙ sym (challenges-append R E bits s.start rounds (last ∷ []));
      wire = wire ∙ ap (λ w. with_rounds bits w (last ∷ [])) p.wire ∙ with_more bits empty_wire rounds last;
    }

-- a round that is refused stops them
pub stops-sending : {X : Type 0} (s : Sending) {c : Channel} (rs rs' : List ℕ) (sent sent' : Wire) (h h' : List Event) (values : List ℕ) (i : ℕ) (e : SumcheckError) (result : Result X SumcheckError) →
    c ≡ s.channel → length rs ≡ i → i < length s.wires → values ≡ get_or s.wires i [] → IsUnderWay s rs sent h → IsRefused c i h values h' (masked_cause e) → result ≡ Err e →
    SendsAll s rs' sent' h' result
stops-sending {X} s {c} rs rs' sent sent' h h' values i e result same size low made p why is =
    subst (SendsAll s rs' sent' h') (sym is) (cases e (subst (λ k. IsRefused k i h values h' (masked_cause e)) same why)) where
      cases : (e : SumcheckError) → IsRefused s.channel i h values h' (masked_cause e) → SendsAll {X = X} s rs' sent' h' (Err e)
      cases errors.NoMemory why = subst (IsSentInPart s) (sym why) p.part
      cases (errors.NoWitness j) why = record {
        low = subst (λ k. k < length s.wires) (sym why.0) low;
        last = h;
        part = p.part;
        count = count-sent s rs sent h p ∙ size ∙ sym why.0;
        none = subst (λ v. NoWitnessFound s.channel h v h') (made ∙ ap (λ k. get_or s.wires k []) (sym why.0)) why.1;
      }
      cases e why = absurd why
