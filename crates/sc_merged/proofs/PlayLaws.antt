-- Rounds that are played one after the other on tables with weights.
use Rattle.std.proofs.Common.{◌≡◌, ℕ, suc, ◌+◌, ◌-◌, ◌<◌, List, [], ◌∷◌, ◌++◌, length, map, Err, refl, ap, sym, ◌∙◌, subst, arith, append_assoc, length-append}
use Rattle.std.proofs.lemmas.List.{append-nil}
use Rattle.std.proofs.lemmas.Grind.{flat_map-append}
use Rattle.sc_definitions.specs.Ring.{Ops, IsRing}
use Rattle.sc_definitions.specs.Transcript.{round_events, rounds_events, challenge, challenges, HasFirstWitness}
use Rattle.sc_definitions.specs.Channels.{Channel, with_rounds, NoWitnessFound}
use Rattle.sc_definitions.specs.ProverStates.{half_rows}
use Rattle.sc_definitions.proofs.BuiltLaws.{challenges-append, length-challenges, IsBuilt-append}
use Rattle.sc_definitions.proofs.ProverStateLaws.{with_none, with_more}
use Rattle.sc_transcript.specs.declared.error.SumcheckError.{SumcheckError}
use Rattle.sc_transcript.specs.declared.error.SumcheckError.TheVariants.{NoWitness, NoMemory}
use Rattle.sc_soundness.specs.Merged.{honest_merged, merged_message, bound_table}
use Rattle.sc_merged.specs.SameRows.{HaveSameRows}
use Rattle.sc_merged.specs.MergedPlays.{MergedState, next_message, IsMergedRound, IsHalted, ArePlayed, LeaveRounds}
use Rattle.sc_merged.proofs.SameRowsLaws.{rows-self, bound-nothing, bound-next, honest-stands}

-- no round yet
pub played-none : (o : Ops) (c : Channel) (s : MergedState) → ArePlayed o c s s []
played-none o c s = record {
  rounds = [];
  built = tt;
  drawn = refl;
  left = omega arith;
  bound = subst (HaveSameRows s.variables s.pairs) (sym (bound-nothing o s.variables s.pairs)) (rows-self s.variables s.pairs);
  history = sym (append-nil s.history);
  wire = with_none c.bits s.wire;
}

module _ (o : Ops) (ring : IsRing o) (c : Channel) (start s : MergedState) (rs : List ℕ) (so_far : ArePlayed o c start s rs) where
  -- as many challenges as rounds
  pub drawn-length : length rs ≡ length so_far.rounds
  drawn-length = ap length so_far.drawn ∙ length-challenges c.rules c.extension c.bits start.history so_far.rounds

  -- what is sent next is what an honest prover of the first tables sends
  pub next-is : (m : ℕ) → s.variables ≡ suc m → next_message o s ≡ honest_merged o start.pairs rs m
  next-is m some =
      ap (λ n. merged_message o (half_rows n) s.pairs) some
      ∙ honest-stands o ring start.pairs s.pairs rs m (subst (λ n. HaveSameRows n s.pairs (map (bound_table o rs n) start.pairs)) some so_far.bound)

  -- one round more
  pub played-more : (t : MergedState) (r : ℕ) → IsMergedRound o c s t r → ArePlayed o c start t (rs ++ r ∷ [])
  played-more t r one =
      let R = c.rules in
      let E = c.extension in
      let bits = c.bits in
      let h = start.history in
      let m = t.variables in
      let before = rounds_events E bits so_far.rounds in
      let last = one.round in
      let witnessed : HasFirstWitness R E bits (h ++ before) last = subst (λ x. HasFirstWitness R E bits x last) so_far.history one.sent.witness in
      let whole : start.variables ≡ length so_far.rounds + suc m = omega (arith, so_far.left, one.fewer) in
      let values : last.values ≡ honest_merged o start.pairs ([] ++ challenges R E bits h so_far.rounds) m =
      one.values ∙ next-is m one.fewer ∙ ap (λ qs. honest_merged o start.pairs qs m) so_far.drawn in
      let appended : rounds_events E bits (so_far.rounds ++ last ∷ []) ≡ before ++ round_events E bits last =
      flat_map-append (round_events E bits) so_far.rounds (last ∷ []) ∙ ap (λ x. before ++ x) (append-nil (round_events E bits last)) in
      record {
        rounds = so_far.rounds ++ last ∷ [];
        built = IsBuilt-append (honest_merged o start.pairs) c h [] start.variables so_far.rounds last m so_far.built whole values witnessed;
        drawn = ap (λ qs. qs ++ r ∷ []) so_far.drawn
            ∙ ap (λ x. challenges R E bits h so_far.rounds ++ x ∷ []) (one.sent.drawn ∙ ap (λ x. challenge R E bits x last) so_far.history)
            ∙ sym (challenges-append R E bits h so_far.rounds (last ∷ []));
        left = omega (arith, length-append so_far.rounds (last ∷ []), whole);
        bound = bound-next o rs r m start.pairs s.pairs t.pairs (subst (λ n. HaveSameRows n s.pairs (map (bound_table o rs n) start.pairs)) one.fewer so_far.bound) one.bound;
        history = one.sent.history ∙ ap (λ x. x ++ round_events E bits last) so_far.history ∙ append_assoc h before (round_events E bits last)
            ∙ ap (λ x. h ++ x) (sym appended);
        wire = one.wire ∙ ap (λ w. with_rounds bits w (last ∷ [])) so_far.wire ∙ with_more bits start.wire so_far.rounds last;
      }

  -- the next round is refused
  pub stopped : (X : Type 0) (after : MergedState) (i : ℕ) (e : SumcheckError) → length rs ≡ i → i < start.variables → IsHalted o c s after i e →
      LeaveRounds {X = X} o c start after rs (Err e)
  stopped X after i (NoWitness j) count few why =
      let m = start.variables - suc j in
      let at : j ≡ i = why.0 in
      let some : s.variables ≡ suc m = omega (arith, so_far.left, drawn-length, count, few, at) in
      record {
        last = s;
        rs = rs;
        played = so_far;
        count = count ∙ sym at;
        some = omega (arith, few, at);
        kept = why.1.kept;
        none = subst (λ v. NoWitnessFound c s.history v after.history) (next-is m some) why.1.none;
      }
  stopped X after i NoMemory count few why = subst (λ t. ArePlayed o c start t rs) (sym why) so_far
  stopped X after i e count few why = absurd why
