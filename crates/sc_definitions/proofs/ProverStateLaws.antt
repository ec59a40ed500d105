-- Rounds that move a prover state, one after the other.
use Rattle.std.proofs.Common.{◌≡◌, ℕ, zero, suc, ◌+◌, ◌^◌, ◌<◌, List, [], ◌∷◌, ◌++◌, length, refl, ap, sym, ◌∙◌, subst, arith, append_assoc, length-append, zero-add}
use Rattle.std.proofs.Math.Nat.{pow-suc}
use Rattle.std.proofs.lemmas.List.{append-nil, map-append}
use Rattle.std.proofs.lemmas.List.FromFn.{length-map-range_with_len, get_or-map-range_with_len}
use Rattle.std.proofs.lemmas.Grind.{same_number_lists, flat_map-append}
use Rattle.sc_definitions.specs.Ring.{IsRing}
use Rattle.sc_definitions.specs.Tables.{IsOffered, rows_of, folded_in, folded_by}
use Rattle.sc_definitions.specs.Rounds.{next_claim, claim_along}
use Rattle.sc_definitions.specs.Transcript.{Round, messages_of, round_events, rounds_events, challenge, challenges, HasFirstWitness}
use Rattle.sc_definitions.specs.Channels.{Wire, with_rounds, witnesses_of}
use Rattle.sc_definitions.specs.ProverStates.{Setting, ProverState, entries_of, message_in, honest_in, IsRound, IsPlayed}
use Rattle.sc_definitions.proofs.PlacedLaws.{folded_by-append}
use Rattle.sc_definitions.proofs.RoundLaws.{honest_message-message}
use Rattle.sc_definitions.proofs.BuiltLaws.{messages-append, length-messages, challenges-append, length-challenges, claim_along-append, IsBuilt-append}
use Rattle.sc_definitions.proofs.PlayedLaws.{message-same, folded_in-same}

-- ---- the entries of tables

pub length-entries_of : (m : ℕ) (f : ℕ → ℕ) → length (entries_of m f) ≡ 2 ^ m
length-entries_of m f = length-map-range_with_len f 0 (2 ^ m)

pub rows-entries_of : (m : ℕ) (f : ℕ → ℕ) (b : ℕ) → b < 2 ^ m → rows_of (entries_of m f) b ≡ f b
unfolding rows_of
rows-entries_of m f b low = get_or-map-range_with_len f 0 (2 ^ m) b b 0 low (zero-add b)

-- a list with these entries is they
pub entries-is : (m : ℕ) (xs : List ℕ) (f : ℕ → ℕ) → length xs ≡ 2 ^ m → ((b : ℕ) → b < 2 ^ m → rows_of xs b ≡ f b) → xs ≡ entries_of m f
unfolding rows_of
entries-is m xs f size same =
    same_number_lists xs (entries_of m f) (size ∙ sym (length-entries_of m f))
    (λ b low. same b (rw size at low) ∙ sym (get_or-map-range_with_len f 0 (2 ^ m) b b 0 (rw size at low) (zero-add b)))

-- ---- what is put on the wire

no_witnesses : (bits : ℕ) → witnesses_of bits [] ≡ []
no_witnesses zero = refl
no_witnesses (suc bits) = refl

witnesses-append : (bits : ℕ) (rounds : List Round) (q : Round) → witnesses_of bits (rounds ++ q ∷ []) ≡ witnesses_of bits rounds ++ witnesses_of bits (q ∷ [])
witnesses-append zero rounds q = refl
witnesses-append (suc bits) rounds q = map-append (λ r. r.witness) rounds (q ∷ [])

pub with_none : (bits : ℕ) (w : Wire) → w ≡ with_rounds bits w []
with_none bits w = sym (rw (no_witnesses bits, append-nil, append-nil) refl)

pub with_more : (bits : ℕ) (w : Wire) (rounds : List Round) (q : Round) → with_rounds bits (with_rounds bits w rounds) (q ∷ []) ≡ with_rounds bits w (rounds ++ q ∷ [])
with_more bits w rounds q =
    let messages : w.messages ++ messages_of rounds ++ q.values ∷ [] ≡ w.messages ++ messages_of (rounds ++ q ∷ []) =
    append_assoc w.messages (messages_of rounds) (q.values ∷ []) ∙ ap (λ t. w.messages ++ t) (sym (messages-append rounds q)) in
    let witnesses : w.witnesses ++ witnesses_of bits rounds ++ witnesses_of bits (q ∷ []) ≡ w.witnesses ++ witnesses_of bits (rounds ++ q ∷ []) =
    append_assoc w.witnesses (witnesses_of bits rounds) (witnesses_of bits (q ∷ [])) ∙ ap (λ t. w.witnesses ++ t) (sym (witnesses-append bits rounds q)) in
    rw (messages, witnesses) refl

-- ---- rounds

-- as many entries as rows
pub record IsSized (t : ProverState) : Type 0 where
  pub evals : length t.evals ≡ 2 ^ t.variables
  pub weights : length t.weights ≡ 2 ^ t.variables

-- the tables after a batch, row by row
module _ (s : Setting) (t u : ProverState) (rs : List ℕ) (p : IsPlayed s t u rs) where
  pub evals_at : (b : ℕ) → b < 2 ^ u.variables → rows_of u.evals b ≡ folded_by s.basis s.order s.ops rs u.variables (rows_of t.evals) b
  evals_at b low = ap (λ xs. rows_of xs b) p.evals ∙ rows-entries_of u.variables _ b low

  pub weights_at : (b : ℕ) → b < 2 ^ u.variables → rows_of u.weights b ≡ folded_by s.basis s.order s.ops rs u.variables (rows_of t.weights) b
  weights_at b low = ap (λ xs. rows_of xs b) p.weights ∙ rows-entries_of u.variables _ b low

-- no round was played yet
pub played_none : (s : Setting) (t : ProverState) → IsSized t → IsPlayed s t t []
unfolding folded_by claim_along
played_none s t sized = record {
  rounds = [];
  built = tt;
  count = omega arith;
  drawn = refl;
  history = sym (append-nil t.history);
  wire = with_none s.channel.bits t.wire;
  evals = entries-is t.variables t.evals _ sized.evals (λ b low. refl);
  weights = entries-is t.variables t.weights _ sized.weights (λ b low. refl);
  claim = refl;
}

-- a table bound at one challenge more
bound_more : (s : Setting) (rs : List ℕ) (r n m : ℕ) (f : ℕ → ℕ) (xs ys : List ℕ) → n ≡ suc m →
    xs ≡ entries_of n (folded_by s.basis s.order s.ops rs n f) → ys ≡ entries_of m (folded_in s.basis s.order s.ops m r (rows_of xs)) →
    ys ≡ entries_of m (folded_by s.basis s.order s.ops (rs ++ r ∷ []) m f)
bound_more s rs r n m f xs ys fewer p q =
    let at : (k : ℕ) → k < 2 ^ suc m → rows_of xs k ≡ folded_by s.basis s.order s.ops rs (suc m) f k =
    λ k low. ap (λ t. rows_of t k) (subst (λ v. xs ≡ entries_of v (folded_by s.basis s.order s.ops rs v f)) fewer p) ∙ rows-entries_of (suc m) _ k low in
    entries-is m ys _ (ap length q ∙ length-entries_of m _)
    (λ b low. ap (λ t. rows_of t b) q ∙ rows-entries_of m _ b low ∙ folded_in-same s.basis s.order s.ops m r b (rows_of xs) _ low at
    ∙ sym (ap (λ g. g b) (folded_by-append s.basis s.order s.ops rs r m f)))

-- the message of tables that were bound is what an honest prover sends
pub message_honest : (s : Setting) → IsRing s.ops → IsOffered s.basis s.order → (t u : ProverState) (rs : List ℕ) (m : ℕ) → IsPlayed s t u rs → u.variables ≡ suc m →
    message_in s u ≡ honest_in s t rs m
message_honest s ring offered t u rs m p fewer =
    let twice : 2 ^ suc m ≡ 2 ^ m + 2 ^ m = pow-suc 2 m ∙ omega arith in
    let far : (k : ℕ) → k < 2 ^ m + 2 ^ m → k < 2 ^ u.variables = λ k low. subst (λ n. k < 2 ^ n) (sym fewer) (omega (arith, low, twice)) in
    ap (λ n. message_in s (record u { variables = n })) fewer
    ∙ message-same s.basis s.order s.ops (2 ^ m) (rows_of u.evals) (folded_by s.basis s.order s.ops rs (suc m) (rows_of t.evals))
    (rows_of u.weights) (folded_by s.basis s.order s.ops rs (suc m) (rows_of t.weights))
    (λ k low. evals_at s t u rs p k (far k low) ∙ ap (λ n. folded_by s.basis s.order s.ops rs n (rows_of t.evals) k) fewer)
    (λ k low. weights_at s t u rs p k (far k low) ∙ ap (λ n. folded_by s.basis s.order s.ops rs n (rows_of t.weights) k) fewer)
    ∙ sym (honest_message-message s.ops ring s.basis s.order offered (rows_of t.evals) (rows_of t.weights) rs m)

module _ (s : Setting) (ring : IsRing s.ops) (offered : IsOffered s.basis s.order) (t u v : ProverState) (rs : List ℕ) (r : ℕ) (p : IsPlayed s t u rs) (q : IsRound s u v r) where
  -- one round more
  pub played_more : IsPlayed s t v (rs ++ r ∷ [])
  played_more =
      let R = s.channel.rules in
      let E = s.channel.extension in
      let bits = s.channel.bits in
      let h = t.history in
      let so_far = rounds_events E bits p.rounds in
      let last = q.round in
      let next = next_claim s.basis s.ops in
      let witnessed : HasFirstWitness R E bits (h ++ so_far) last = subst (λ x. HasFirstWitness R E bits x last) p.history q.sent.witness in
      let honest : last.values ≡ honest_in s t (challenges R E bits h p.rounds) v.variables = q.message ∙ message_honest s ring offered t u rs v.variables p q.fewer ∙ ap (λ x. honest_in s t x v.variables) p.drawn in
      let count : t.variables ≡ length p.rounds + suc v.variables = p.count ∙ ap (λ n. length p.rounds + n) q.fewer in
      record {
        rounds = p.rounds ++ last ∷ [];
        built = IsBuilt-append (honest_in s t) s.channel h [] t.variables p.rounds last v.variables p.built count honest witnessed;
        count = count ∙ sym (omega (arith, length-append p.rounds (last ∷ [])));
        drawn = ap (λ x. rs ++ x ∷ []) (q.sent.drawn ∙ ap (λ x. challenge R E bits x last) p.history)
            ∙ ap (λ x. x ++ challenge R E bits (h ++ so_far) last ∷ []) p.drawn ∙ sym (challenges-append R E bits h p.rounds (last ∷ []));
        history = q.sent.history ∙ ap (λ x. x ++ round_events E bits last) p.history
            ∙ append_assoc h so_far (round_events E bits last)
            ∙ ap (λ x. h ++ x) (sym (flat_map-append (round_events E bits) p.rounds (last ∷ []) ∙ ap (λ x. so_far ++ x) (append-nil (round_events E bits last))));
        wire = q.wire ∙ ap (λ w. with_rounds bits w (last ∷ [])) p.wire ∙ with_more bits t.wire p.rounds last;
        evals = bound_more s rs r u.variables v.variables (rows_of t.evals) u.evals v.evals q.fewer p.evals q.evals;
        weights = bound_more s rs r u.variables v.variables (rows_of t.weights) u.weights v.weights q.fewer p.weights q.weights;
        claim = q.claim ∙ ap (λ c. next c last.values r) p.claim
            ∙ sym (ap (λ x. claim_along next t.claim x (rs ++ r ∷ [])) (messages-append p.rounds last)
            ∙ claim_along-append next t.claim (messages_of p.rounds) rs last.values r
            (length-messages p.rounds ∙ sym (ap length p.drawn ∙ length-challenges R E bits h p.rounds)));
      }
