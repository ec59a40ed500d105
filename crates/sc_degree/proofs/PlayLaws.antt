-- Rounds that are played one after the other.
use Rattle.std.proofs.Common.{◌≡◌, ℕ, zero, suc, ◌+◌, ◌<◌, ◌≤◌, List, [], ◌∷◌, ◌++◌, length, map, All, Result, Err, inl, inr, refl, ap, sym, ◌∙◌, subst, arith, append_assoc, length-append}
use Rattle.std.proofs.lemmas.List.{append-nil, length-map}
use Rattle.std.proofs.lemmas.List.Elements.{All-map}
use Rattle.std.proofs.lemmas.List.FromFn.{length-map-range_with_len}
use Rattle.std.proofs.lemmas.Grind.{flat_map-append}
use Rattle.sc_definitions.specs.declared.events.Event.{Event}
use Rattle.sc_definitions.specs.Ring.{Ops}
use Rattle.sc_definitions.specs.Transcript.{round_events, rounds_events, challenge, challenges, HasFirstWitness}
use Rattle.sc_definitions.specs.Interpolation.{node_values}
use Rattle.sc_definitions.specs.Channels.{Channel, Wire, empty_wire, with_rounds, NoWitnessFound, IsBuilt}
use Rattle.sc_definitions.proofs.BuiltLaws.{challenges-append, length-challenges, IsBuilt-append}
use Rattle.sc_definitions.proofs.ProverStateLaws.{with_none, with_more}
use Rattle.sc_transcript.specs.Drivers.{Driver, IsRefused}
use Rattle.sc_degree.specs.declared.error.GenericDegreeError.{GenericDegreeError}
use Rattle.sc_degree.specs.declared.error.GenericDegreeError.TheVariants.{NoWitness, NoMemory}
use Rattle.sc_degree.specs.declared.played.Played.{Played}
use Rattle.sc_degree.specs.declared.proof.GenericDegreeProof.{GenericDegreeProof}
use Rattle.sc_degree.specs.Provers.{Prover, IsFolded, sent_after, Play, begun, history_after, PlaysRounds, EndsPlay, LeavesPlay}
use Rattle.sc_degree.specs.Causes.{generic_cause}
use Rattle.sc_degree.specs.Plays.{Progress, playing, HasNoRound, next_values, PlaysOne, Progresses, StopsAfter}

-- ---- challenges that are folded in

pub folded-none : (p : Prover) → IsFolded [] p p
folded-none p = record { degree = refl; variables = omega arith; polynomial = λ qs low. refl; claim = λ qs low. refl }

pub folded-more : (rs : List ℕ) (r : ℕ) (p s t : Prover) → IsFolded rs p s → IsFolded (r ∷ []) s t → IsFolded (rs ++ r ∷ []) p t
folded-more rs r p s t many one = record {
  degree = one.degree ∙ many.degree;
  variables = omega (arith, many.variables, one.variables, length-append rs (r ∷ []));
  polynomial = λ qs low.
      one.polynomial qs low ∙ many.polynomial (r ∷ qs) (omega (arith, low, one.variables)) ∙ ap p.polynomial (sym (append_assoc rs (r ∷ []) qs));
  claim = λ qs low.
      one.claim qs low ∙ many.claim (r ∷ qs) (omega (arith, low, one.variables)) ∙ ap p.claim (sym (append_assoc rs (r ∷ []) qs));
}

-- ---- rounds

pub played-none : (o : Ops) (c : Channel) (s : Progress) → HasNoRound s → Progresses o c s s
played-none o c s fresh = record {
  rounds = [];
  built = tt;
  are_drawn = fresh.drawn;
  folded = subst (λ rs. IsFolded rs s.prover s.prover) (sym fresh.drawn) (folded-none s.prover);
  history = sym (append-nil s.history);
  wire = fresh.wire ∙ with_none c.bits empty_wire;
  claimed = refl;
}

module _ (o : Ops) (c : Channel) (start s : Progress) (so_far : Progresses o c start s) where
  -- as many challenges as rounds
  pub drawn-length : length s.drawn ≡ length so_far.rounds
  drawn-length = ap length so_far.are_drawn ∙ length-challenges c.rules c.extension c.bits start.history so_far.rounds

  -- what is sent next is what is sent after these challenges
  pub next-is : 0 < s.prover.variables → next_values o s.prover ≡ node_values o start.prover.degree (start.prover.polynomial s.drawn)
  next-is some =
      ap (λ d. node_values o d (s.prover.polynomial [])) so_far.folded.degree
      ∙ ap (node_values o start.prover.degree) (so_far.folded.polynomial [] some ∙ ap start.prover.polynomial (append-nil s.drawn))

  -- one round more
  pub played-more : (t : Progress) → PlaysOne o c s t → Progresses o c start t
  played-more t one =
      let R = c.rules in
      let E = c.extension in
      let bits = c.bits in
      let h = start.history in
      let p = start.prover in
      let before = rounds_events E bits so_far.rounds in
      let last = one.round in
      let some : 0 < s.prover.variables = omega (arith, one.folded.variables) in
      let witnessed : HasFirstWitness R E bits (h ++ before) last = subst (λ x. HasFirstWitness R E bits x last) so_far.history one.sent.witness in
      let left : p.variables ≡ length so_far.rounds + suc t.prover.variables = omega (arith, drawn-length, so_far.folded.variables, one.folded.variables) in
      let values : last.values ≡ sent_after o p ([] ++ challenges R E bits h so_far.rounds) t.prover.variables =
      one.values ∙ next-is some ∙ ap (λ rs. node_values o p.degree (p.polynomial rs)) so_far.are_drawn in
      let all_drawn : t.drawn ≡ challenges R E bits h (so_far.rounds ++ last ∷ []) =
      one.drawn ∙ ap (λ rs. rs ++ one.r ∷ []) so_far.are_drawn
      ∙ ap (λ x. challenges R E bits h so_far.rounds ++ x ∷ []) (one.sent.drawn ∙ ap (λ x. challenge R E bits x last) so_far.history)
      ∙ sym (challenges-append R E bits h so_far.rounds (last ∷ [])) in
      let appended : rounds_events E bits (so_far.rounds ++ last ∷ []) ≡ before ++ round_events E bits last =
      flat_map-append (round_events E bits) so_far.rounds (last ∷ []) ∙ ap (λ x. before ++ x) (append-nil (round_events E bits last)) in
      record {
        rounds = so_far.rounds ++ last ∷ [];
        built = IsBuilt-append (sent_after o p) c h [] p.variables so_far.rounds last t.prover.variables so_far.built left values witnessed;
        are_drawn = all_drawn;
        folded = subst (λ rs. IsFolded rs p t.prover) (sym one.drawn) (folded-more s.drawn one.r p s.prover t.prover so_far.folded one.folded);
        history = one.sent.history ∙ ap (λ x. x ++ round_events E bits last) so_far.history ∙ append_assoc h before (round_events E bits last)
            ∙ ap (λ x. h ++ x) (sym appended);
        wire = one.wire ∙ ap (λ w. with_rounds bits w (last ∷ [])) so_far.wire ∙ with_more bits empty_wire so_far.rounds last;
        claimed = one.claimed ∙ so_far.claimed;
      }

-- the same over a channel by another name
pub more_at : {o : Ops} {c c₁ : Channel} {start s t : Progress} → c₁ ≡ c → Progresses o c start s → PlaysOne o c₁ s t → Progresses o c start t
more_at {o} {c} {start} {s} {t} same so_far one = played-more o c start s so_far t (subst (λ ch. PlaysOne o ch s t) same one)

-- ---- what a loop over the rounds needs

-- as many values are sent as the degree is
pub sent_width : {X : Type 0} (number : X → ℕ) (o : Ops) (d : ℕ) (cs : List ℕ) (xs : List X) → map number xs ≡ node_values o d cs → length xs ≡ d
unfolding node_values
sent_width number o d cs xs is = sym (length-map _ _) ∙ ap length is ∙ many d where
  many : (n : ℕ) → length (node_values o n cs) ≡ n
  many zero = refl
  many (suc n) = ap suc (length-map-range_with_len _ 2 n)

-- a variable is left of as many as rounds
pub some_left : {played total left : ℕ} → played < total → total ≤ left + played → 0 < left
some_left low enough = omega arith

-- the next round is refused
pub stops_after : {F EF K : Type 0} (base : F → ℕ) (number : EF → ℕ) (o : Ops) {c c₁ : Channel} {total : ℕ} {start after : Progress} (d : Driver K) (p : Prover) (played : Played F EF) (e : GenericDegreeError) →
    c₁ ≡ c → ((w : F) → base w < c.base_size) → Progresses o c start (playing base number d p played) → length (map number played.challenges.items) ≡ d.played → d.played < total →
    (after.prover ≡ p) × IsRefused c₁ d.played d.history (next_values o p) after.history (generic_cause c₁.bits e) → StopsAfter o c total start after e
stops_after base number o {c} {c₁} {total} {after} d p played e same low so_far count few left = record {
  last = playing base number d p played;
  so_far = so_far;
  few = subst (λ k. k < total) (sym count) few;
  low = All-map (λ w. w < c.base_size) base played.proof.pow_witnesses.items (λ k w within. low _);
  kept = left.0;
  why = subst (λ (ch : Channel). IsRefused ch (length (map number played.challenges.items)) d.history (next_values o p) after.history (generic_cause ch.bits e)) same
      (subst (λ k. IsRefused c₁ k d.history (next_values o p) after.history (generic_cause c₁.bits e)) (sym count) left.1);
}

-- ---- by the result

module _ (q : Play) (start : Progress) (begins : start.history ≡ begun q) where
  plays_rounds : (s : Progress) (after : Prover) (b : Progresses q.ops q.channel start s) → after ≡ s.prover → PlaysRounds q start.prover after b.rounds s.drawn
  plays_rounds s after b kept = record {
    built = subst (λ h. IsBuilt (sent_after q.ops start.prover) q.channel h [] start.prover.variables b.rounds) begins b.built;
    drawn = b.are_drawn ∙ ap (λ h. challenges q.channel.rules q.channel.extension q.channel.bits h b.rounds) begins;
    folded = subst (IsFolded s.drawn start.prover) (sym kept) b.folded;
  }

  ends_after : (s : Progress) (b : Progresses q.ops q.channel start s) → s.history ≡ history_after q b.rounds
  ends_after s b = b.history ∙ ap (λ h. h ++ rounds_events q.channel.extension q.channel.bits b.rounds) begins

  -- in the channel by another name
  pub all_played : {c : Channel} → c ≡ q.channel → (s : Progress) (rs : List ℕ) (h' : List Event) → Progresses q.ops c start s → length s.drawn ≡ q.shape.num_rounds →
      rs ≡ s.drawn → h' ≡ s.history → EndsPlay q start.prover s.prover s.wire rs h'
  all_played same s rs h' so_far count is left =
      let b = subst (λ ch. Progresses q.ops ch start s) same so_far in
      record {
        rounds = b.rounds;
        plays = subst (PlaysRounds q start.prover s.prover b.rounds) (sym is) (plays_rounds s s.prover b refl);
        count = sym (drawn-length q.ops q.channel start s b) ∙ count;
        history = left ∙ ends_after s b;
        wire = b.wire;
      }

  stopped : {F EF : Type 0} (base : F → ℕ) (number : EF → ℕ) (after : Progress) (h' : List Event) (e : GenericDegreeError) → q.shape.num_rounds ≤ start.prover.variables →
      StopsAfter q.ops q.channel q.shape.num_rounds start after e → h' ≡ after.history → LeavesPlay base number q start.prover after.prover (Err e) h'
  stopped base number after h' NoMemory enough b left =
      let last = b.last in
      let l = drawn-length q.ops q.channel start last b.so_far in
      let few = b.few in
      inr (record {
        rounds = b.so_far.rounds;
        rs = last.drawn;
        plays = plays_rounds last after.prover b.so_far b.kept;
        few = omega (arith, l, few);
        history = left ∙ b.why ∙ ends_after last b.so_far;
      })
  stopped base number after h' (NoWitness i) enough b left =
      let last = b.last in
      let p = start.prover in
      let l = drawn-length q.ops q.channel start last b.so_far in
      let few = b.few in
      let some : 0 < last.prover.variables = omega (arith, few, b.so_far.folded.variables, enough) in
      let none = subst (λ h. NoWitnessFound q.channel h (next_values q.ops last.prover) after.history) (ends_after last b.so_far) b.why.1 in
      let none' = subst (λ v. NoWitnessFound q.channel (history_after q b.so_far.rounds) v after.history) (next-is q.ops q.channel start last b.so_far some) none in
      record {
        rounds = b.so_far.rounds;
        rs = last.drawn;
        plays = plays_rounds last after.prover b.so_far b.kept;
        count = sym l ∙ sym b.why.0;
        low = subst (λ (w : Wire). All (λ x. x < q.channel.base_size) w.witnesses) b.so_far.wire b.low;
        some = subst (λ k. k < q.shape.num_rounds) (sym b.why.0) few;
        none = subst (NoWitnessFound q.channel (history_after q b.so_far.rounds) (node_values q.ops p.degree (p.polynomial last.drawn))) (sym left) none';
      }
  stopped base number after h' e enough b left = absurd b.why

  pub stopped_at : {F EF : Type 0} (base : F → ℕ) (number : EF → ℕ) {c : Channel} {n : ℕ} → c ≡ q.channel → n ≡ q.shape.num_rounds → (after : Progress) (h' : List Event) (e : GenericDegreeError) →
      q.shape.num_rounds ≤ start.prover.variables → StopsAfter q.ops c n start after e → h' ≡ after.history → LeavesPlay base number q start.prover after.prover (Err e) h'
  stopped_at base number {c} {n} same size after h' e enough b left =
      stopped base number after h' e enough (subst (λ k. StopsAfter q.ops q.channel k start after e) size (subst (λ ch. StopsAfter q.ops ch n start after e) same b)) left

-- nothing was begun
pub never_begun : {F EF : Type 0} (base : F → ℕ) (number : EF → ℕ) (q : Play) {p after : Prover} {result : Result (GenericDegreeProof F EF × List EF) GenericDegreeError} {h' : List Event} →
    result ≡ Err NoMemory → after ≡ p → h' ≡ q.history → LeavesPlay base number q p after result h'
never_begun base number q is kept left = rw is (inl (kept, left))
