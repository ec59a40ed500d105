-- Of stages the first of which has a false claim and the last of which ends right, a challenge is lucky, and certified.
use Rattle.std.proofs.Common.{◌≡◌, ◌≢◌, ◌⊎◌, inl, inr, ℕ, suc, All, List, [], ◌∷◌, length, if◌then◌else◌, Option, Some, None, sym, ◌∙◌, ap, refl, arith, ⊎_elim, eq-eqb, ne_eqb}
use Rattle.std.specs.Prelude.{option_map}
use Rattle.std.specs.List.{slice_get}
use Rattle.std.proofs.lemmas.Bool.{cases_eq}
use Rattle.sc_definitions.specs.Ring.{Ops, IsField, element}
use Rattle.sc_definitions.specs.Rounds.{claim_along}
use Rattle.sc_definitions.specs.Polynomials.{AllZero}
use Rattle.sc_definitions.specs.Roots.{root_count}
use Rattle.sc_definitions.specs.Lucky.{Course, Turn, first_turn, IsTurn, LuckyChallenge, in_batch, luck_in, luck_of, IsRoundLuck}
use Rattle.sc_definitions.proofs.LuckyLaws.{certifies, first-certified, turns}
use Rattle.sc_soundness.specs.Courses.{IsSound}
use Rattle.sc_soundness.specs.Stages.{Stage, stage_residual, true_stage_residual, stage_luck, StageLuck, luck_or_later, stages_luck, IsCertifiedIn, IsCertifiedAmong, IsStage, AreLinked, AuditsAreStages}
use Rattle.sc_soundness.proofs.CourseLaws.{minus-same, sound-certifies, all_send}

-- ---- the rounds of a course

module _ (o : Ops) (k : Course) (count width : ℕ) (s : IsSound o k count width) (claim : ℕ) (messages : List (List ℕ)) (rs : List ℕ)
    (same : length messages ≡ length rs) (wide : All (λ values. length values ≡ count) messages)
    (wrong : element o claim ≢ k.true_after [] (length messages)) where
  by_turn : (found : Option Turn) → first_turn k 0 claim messages [] rs ≡ found →
      ((t : Turn) × (first_turn k 0 claim messages [] rs ≡ Some t) × IsTurn o width 0 rs t)
      ⊎ ((first_turn k 0 claim messages [] rs ≡ None) × (claim_along k.next claim messages rs ≢ k.true_after rs 0))
  by_turn None e =
      let c = sound-certifies o k count width s in
      inr (
        e,
        λ right.
            let found = turns o k (λ message. length message ≡ count) width c 0 claim messages [] rs same (all_send count messages wide) wrong right in
            let bad : Some found.0 ≡ None = sym found.1 ∙ e in cc,
      )
  by_turn (Some t) e =
      let c = sound-certifies o k count width s in
      inl (t, e, first-certified o k (λ message. length message ≡ count) width c 0 claim messages [] rs t (all_send count messages wide) wrong e)

  -- a false claim is turned by a round, which certifies it, or what the rounds leave of it is false
  turned_or_false : ((t : Turn) × (first_turn k 0 claim messages [] rs ≡ Some t) × IsTurn o width 0 rs t)
      ⊎ ((first_turn k 0 claim messages [] rs ≡ None) × (claim_along k.next claim messages rs ≢ k.true_after rs 0))
  turned_or_false = by_turn (first_turn k 0 claim messages [] rs) refl

-- ---- a stage

module _ (o : Ops) (field : IsField o) where
  -- a stage whose claim was false before the challenge was drawn has a lucky challenge, certified, or leaves a false claim
  pub lucky_or_false : (s : Stage) → IsStage o s → (AllZero o s.excess → ⊥) →
      ((l : LuckyChallenge) × (stage_luck o s ≡ Some l) × IsCertifiedIn o s l) ⊎ ((stage_luck o s ≡ None) × (stage_residual s ≢ true_stage_residual s))
  unfolding stage_luck
  lucky_or_false s is some =
      let batch = in_batch s.excess (root_count o s.excess) in
      let rest = option_map (luck_in o) (first_turn s.course 0 s.claim s.messages [] s.challenges) in
      ⊎_elim
      (λ same. inl (
        batch,
        ap (λ b. if b then Some batch else rest) (eq-eqb _ _ same),
        (certifies o field s.drawn s.excess some (is.at ∙ minus-same o field.ring _ _ same), refl),
      ))
      (λ other.
      ⊎_elim
      (λ found.
      let turn = found.2 in
      let at : found.0.round ≡ turn.place = turn.round ∙ omega arith in
      let shown : IsRoundLuck o s.challenges found.0.round found.0.polynomial (root_count o found.0.polynomial) = record {
        challenge = turn.challenge;
        drawn = ap (slice_get s.challenges) at ∙ turn.drawn;
        certificate = turn.certificate;
        three = turn.coefficients;
      } in
      inl (luck_in o found.0, ap (λ b. if b then Some batch else rest) (ne_eqb _ _ other) ∙ ap (option_map (luck_in o)) found.1, shown))
      (λ none. inr (ap (λ b. if b then Some batch else rest) (ne_eqb _ _ other) ∙ ap (option_map (luck_in o)) none.0, none.1))
      (turned_or_false o s.course 2 3 is.sound s.claim s.messages s.challenges is.count is.pairs
      (λ e. other (sym is.small ∙ e ∙ sym is.true_is))))
      (cases_eq s.claim s.truth)

  -- ---- several stages

  later_stage : (i : ℕ) (s : Stage) (ss : List Stage) (l : StageLuck) → IsCertifiedAmong o (suc i) ss l → IsCertifiedAmong o i (s ∷ ss) l
  later_stage i s ss l later = record { place = suc later.place; number = omega (arith, later.number); stage = later.stage; is = later.is; certified = later.certified }

  pub stages-sound : (i : ℕ) (s : Stage) (ts : List Stage) → IsStage o s → (AllZero o s.excess → ⊥) → AreLinked o s ts →
      (l : StageLuck) × (stages_luck o i (s ∷ ts) ≡ Some l) × IsCertifiedAmong o i (s ∷ ts) l
  unfolding stages_luck
  stages-sound i s [] is some linked =
      ⊎_elim
      (λ found. (
        record { stage = i; luck = found.0 },
        ap (λ x. luck_or_later i x None) found.1,
        record { place = 0; number = omega arith; stage = s; is = refl; certified = found.2 },
      ))
      (λ none. absurd (none.1 linked))
      (lucky_or_false s is some)
  stages-sound i s (t ∷ ts) is some linked =
      let later = stages_luck o (suc i) (t ∷ ts) in
      ⊎_elim
      (λ found. (
        record { stage = i; luck = found.0 },
        ap (λ x. luck_or_later i x later) found.1,
        record { place = 0; number = omega arith; stage = s; is = refl; certified = found.2 },
      ))
      (λ none.
      let found = stages-sound (suc i) t ts linked.0 (linked.1 none.1) linked.2 in
      (found.0, ap (λ x. luck_or_later i x later) none.0 ∙ found.1, later_stage i s (t ∷ ts) found.0 found.2))
      (lucky_or_false s is some)

pub audits-are_stages : (o : Ops) → AuditsAreStages o
unfolding luck_of stage_luck
audits-are_stages o p messages rs = refl
