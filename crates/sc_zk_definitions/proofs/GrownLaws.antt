-- One masked round more.
use Rattle.std.proofs.Common.{◌≡◌, ℕ, zero, suc, ◌+◌, ◌^◌, ◌<◌, List, [], ◌∷◌, ◌++◌, length, map, refl, ap, sym, ◌∙◌, subst, arith, append_assoc, length-append}
use Rattle.std.proofs.Math.Nat.{pow-suc}
use Rattle.std.proofs.lemmas.List.{append-nil, map-append}
use Rattle.std.proofs.lemmas.Grind.{flat_map-append}
use Rattle.sc_definitions.specs.Ring.{IsRing}
use Rattle.sc_definitions.specs.Tables.{evaluation, IsOffered, rows_of, folded_in, folded_by}
use Rattle.sc_definitions.specs.Rounds.{next_claim, claim_along}
use Rattle.sc_definitions.specs.Transcript.{round_events, rounds_events, challenge, challenges, HasFirstWitness}
use Rattle.sc_definitions.specs.Channels.{with_rounds}
use Rattle.sc_definitions.specs.ProverStates.{Setting, ProverState, entries_of, message_in, honest_in}
use Rattle.sc_definitions.proofs.PlacedLaws.{folded_by-append}
use Rattle.sc_definitions.proofs.RoundLaws.{honest_message-message}
use Rattle.sc_definitions.proofs.PlayedLaws.{message-same, folded_in-same}
use Rattle.sc_definitions.proofs.BuiltLaws.{challenges-append, length-challenges, claim_along-append, IsBuilt-append}
use Rattle.sc_definitions.proofs.ProverStateLaws.{length-entries_of, rows-entries_of, entries-is, with_more}
use Rattle.sc_zk_definitions.specs.Masks.{Piece, pair_of, plain_after}
use Rattle.sc_zk_definitions.specs.MaskedRuns.{piece_of, piece_in, wire_after, masked_in, along, RunsGrow}
use Rattle.sc_zk_definitions.proofs.MaskedLaws.{length-along}

-- one more along challenges
pub along-more : {X : Type 0} (f : List ℕ → ℕ → X) (before : List ℕ) (n m : ℕ) (rs : List ℕ) (r : ℕ) → n ≡ length rs + suc m →
    along f before n (rs ++ r ∷ []) ≡ along f before n rs ++ f (before ++ rs) m ∷ []
along-more f before zero m rs r e = absurd (omega (arith, e))
along-more f before (suc n) m [] r e =
    let same : n ≡ m = omega (arith, e) in ap (λ b. f b n ∷ []) (sym (append-nil before)) ∙ ap (λ j. f (before ++ []) j ∷ []) same
along-more f before (suc n) m (q ∷ rs) r e =
    ap (λ t. f before n ∷ t)
    (along-more f (before ++ q ∷ []) n m rs r (omega (arith, e)) ∙ ap (λ b. along f (before ++ q ∷ []) n rs ++ f b m ∷ []) (append_assoc before (q ∷ []) rs))

-- the plain claim after one piece more
plain_after-more : (s : Setting) (claim : ℕ) (ps : List Piece) (rs : List ℕ) (p : Piece) (r : ℕ) → length ps ≡ length rs →
    plain_after s.ops claim (ps ++ p ∷ []) (rs ++ r ∷ []) ≡ next_claim evaluation s.ops (plain_after s.ops claim ps rs) (pair_of p) r
plain_after-more s claim ps rs p r e =
    ap (λ ms. claim_along (next_claim evaluation s.ops) claim ms (rs ++ r ∷ [])) (map-append pair_of ps (p ∷ []))
    ∙ claim_along-append (next_claim evaluation s.ops) claim (map pair_of ps) rs (pair_of p) r (length-map_pair ps ∙ e) where
      length-map_pair : (qs : List Piece) → length (map pair_of qs) ≡ length qs
      length-map_pair [] = refl
      length-map_pair (q ∷ qs) = ap suc (length-map_pair qs)

-- a table bound at one challenge more
bound_more : (s : Setting) (rs : List ℕ) (r n m : ℕ) (f : ℕ → ℕ) (xs ys : List ℕ) → n ≡ suc m →
    xs ≡ entries_of n (folded_by s.basis s.order s.ops rs n f) → ys ≡ entries_of m (folded_in s.basis s.order s.ops m r (rows_of xs)) →
    ys ≡ entries_of m (folded_by s.basis s.order s.ops (rs ++ r ∷ []) m f)
bound_more s rs r n m f xs ys fewer p q =
    let at : (k : ℕ) → k < 2 ^ suc m → rows_of xs k ≡ folded_by s.basis s.order s.ops rs (suc m) f k =
    λ k low. ap (λ t. rows_of t k) (subst (λ v. xs ≡ entries_of v (folded_by s.basis s.order s.ops rs v f)) fewer p) ∙ rows-entries_of (suc m) _ k low in
    entries-is m ys _ (ap length q ∙ length-entries_of m _)
    (λ b low. ap (λ t. rows_of t b) q ∙ rows-entries_of m _ b low ∙ folded_in-same s.basis s.order s.ops m r b (rows_of xs) _ low at
    ∙ sym (ap (λ g. g b) (folded_by-append s.basis s.order s.ops rs r m f)))

-- the message of tables that were bound is what an honest prover sends
pub message_honest : (s : Setting) → IsRing s.ops → IsOffered s.basis s.order → (t u : ProverState) (rs : List ℕ) (m : ℕ) → u.variables ≡ suc m →
    u.evals ≡ entries_of u.variables (folded_by s.basis s.order s.ops rs u.variables (rows_of t.evals)) →
    u.weights ≡ entries_of u.variables (folded_by s.basis s.order s.ops rs u.variables (rows_of t.weights)) →
    message_in s u ≡ honest_in s t rs m
message_honest s ring offered t u rs m fewer evals weights =
    let twice : 2 ^ suc m ≡ 2 ^ m + 2 ^ m = pow-suc 2 m ∙ omega arith in
    let far : (k : ℕ) → k < 2 ^ m + 2 ^ m → k < 2 ^ u.variables = λ k low. subst (λ n. k < 2 ^ n) (sym fewer) (omega (arith, low, twice)) in
    ap (λ n. message_in s (record u { variables = n })) fewer
    ∙ message-same s.basis s.order s.ops (2 ^ m) (rows_of u.evals) (folded_by s.basis s.order s.ops rs (suc m) (rows_of t.evals))
    (rows_of u.weights) (folded_by s.basis s.order s.ops rs (suc m) (rows_of t.weights))
    (λ k low. ap (λ xs. rows_of xs k) evals ∙ rows-entries_of u.variables _ k (far k low) ∙ ap (λ n. folded_by s.basis s.order s.ops rs n (rows_of t.evals) k) fewer)
    (λ k low. ap (λ xs. rows_of xs k) weights ∙ rows-entries_of u.variables _ k (far k low) ∙ ap (λ n. folded_by s.basis s.order s.ops rs n (rows_of t.weights) k) fewer)
    ∙ sym (honest_message-message s.ops ring s.basis s.order offered (rows_of t.evals) (rows_of t.weights) rs m)

pub runs_grow : RunsGrow
runs_grow s k t u v rs r ring offered p q =
    let R = s.channel.rules in
    let E = s.channel.extension in
    let bits = s.channel.bits in
    let h = t.history in
    let so_far = rounds_events E bits p.rounds in
    let last = q.round in
    let m = v.variables in
    let witnessed : HasFirstWitness R E bits (h ++ so_far) last = subst (λ x. HasFirstWitness R E bits x last) p.history q.sent.witness in
    let message : message_in s u ≡ honest_in s t rs m = message_honest s ring offered t u rs m q.fewer p.evals p.weights in
    let honest : last.values ≡ masked_in s t k (challenges R E bits h p.rounds) m =
    q.values ∙ ap (λ x. wire_after s.ops k rs (piece_of x)) message ∙ ap (λ x. masked_in s t k x m) p.drawn in
    let size : length rs ≡ length p.rounds = ap length p.drawn ∙ length-challenges R E bits h p.rounds in
    let count : t.variables ≡ length p.rounds + suc m = p.count ∙ ap (λ n. length p.rounds + n) q.fewer in
    let count_too : t.variables ≡ length rs + suc m = count ∙ ap (λ n. n + suc m) (sym size) in
    record {
      rounds = p.rounds ++ last ∷ [];
      built = IsBuilt-append (masked_in s t k) s.channel h [] t.variables p.rounds last m p.built count honest witnessed;
      count = count ∙ sym (omega (arith, length-append p.rounds (last ∷ [])));
      drawn = ap (λ x. rs ++ x ∷ []) (q.sent.drawn ∙ ap (λ x. challenge R E bits x last) p.history)
          ∙ ap (λ x. x ++ challenge R E bits (h ++ so_far) last ∷ []) p.drawn ∙ sym (challenges-append R E bits h p.rounds (last ∷ []));
      history = q.sent.history ∙ ap (λ x. x ++ round_events E bits last) p.history
          ∙ append_assoc h so_far (round_events E bits last)
          ∙ ap (λ x. h ++ x) (sym (flat_map-append (round_events E bits) p.rounds (last ∷ []) ∙ ap (λ x. so_far ++ x) (append-nil (round_events E bits last))));
      wire = q.wire ∙ ap (λ w. with_rounds bits w (last ∷ [])) p.wire ∙ with_more bits t.wire p.rounds last;
      evals = bound_more s rs r u.variables v.variables (rows_of t.evals) u.evals v.evals q.fewer p.evals q.evals;
      weights = bound_more s rs r u.variables v.variables (rows_of t.weights) u.weights v.weights q.fewer p.weights q.weights;
      claim = q.claim ∙ ap (λ x. next_claim evaluation s.ops u.claim (pair_of (piece_of x)) r) message
          ∙ ap (λ c. next_claim evaluation s.ops c (pair_of (piece_in s t rs m)) r) p.claim
          ∙ sym (ap (λ ps. plain_after s.ops t.claim ps (rs ++ r ∷ [])) (along-more (piece_in s t) [] t.variables m rs r count_too)
          ∙ plain_after-more s t.claim (along (piece_in s t) [] t.variables rs) rs (piece_in s t rs m) r (length-along (piece_in s t) [] t.variables rs (omega (arith, count_too))));
    }
