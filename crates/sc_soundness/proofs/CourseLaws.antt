-- A round of a sumcheck that turns a false claim into the true one certifies its challenge; honest rounds keep a claim true.
use Rattle.std.proofs.Common.{◌≡◌, ◌≢◌, ℕ, zero, suc, All, List, [], ◌∷◌, ◌++◌, length, sym, ◌∙◌, ap, subst, arith, append_assoc}
use Rattle.std.proofs.lemmas.List.{append-nil}
use Rattle.sc_definitions.specs.Ring.{Ops, IsRing, IsField, element, plus, minus}
use Rattle.sc_definitions.specs.Polynomials.{poly_at, poly_minus, AllZero}
use Rattle.sc_definitions.specs.Roots.{root_count}
use Rattle.sc_definitions.specs.Rounds.{honest_message, claim_along}
use Rattle.sc_definitions.specs.Transcript.{messages_of, round_events, challenge, challenges}
use Rattle.sc_definitions.specs.Tables.{IsOffered}
use Rattle.sc_definitions.specs.TwoTables.{TwoTables}
use Rattle.sc_definitions.specs.Lucky.{IsCertificate, Course, course_on}
use Rattle.sc_definitions.proofs.RingLaws.{element-element, plus-opposite}
use Rattle.sc_definitions.proofs.PolyLaws.{poly_at-minus, length-minus}
use Rattle.sc_definitions.proofs.RootLaws.{element-poly_at}
use Rattle.sc_definitions.proofs.InterpolationLaws.{same_value}
use Rattle.sc_definitions.proofs.RoundLaws.{true_claim-next}
use Rattle.sc_definitions.proofs.LuckyLaws.{AllSend, Certifies, certifies, pairs_certify}
use Rattle.sc_soundness.specs.Courses.{AreSumcheckRounds, IsSound, KeepsTrue, HonestRoundsEndTrue, course_without_rounds}

pub minus-same : (o : Ops) → IsRing o → (x y : ℕ) → x ≡ y → minus o x y ≡ 0
minus-same o ring x y e = ap (minus o x) (sym e) ∙ plus-opposite o ring x

module _ (o : Ops) (field : IsField o) (k : Course) (count width : ℕ) (c : AreSumcheckRounds o k count width) where
  -- where what is sent exceeds the true polynomial nowhere the claim is the true one
  same_claim : (claim : ℕ) (message rs : List ℕ) (m : ℕ) → length message ≡ count → AllZero o (k.excess claim message rs m) →
      element o claim ≡ k.true_after rs (suc m)
  same_claim claim message rs m wide zeros =
      let S = c.sent claim message in
      let T = c.polynomial rs m in
      let long : length S ≡ length T = c.sent_width claim message wide ∙ sym (c.true_width rs m) in
      let none : AllZero o (poly_minus o S T) = subst (AllZero o) (c.excess_is claim message rs m) zeros in
      sym (c.sent_sum claim message wide)
      ∙ ap (λ a. plus o a (poly_at o S 1)) (same_value o field S T 0 long none)
      ∙ ap (plus o (poly_at o T 0)) (same_value o field S T 1 long none)
      ∙ sym (c.true_sum rs m)

  turned : (claim : ℕ) (message rs : List ℕ) (m r : ℕ) → length message ≡ count → element o claim ≢ k.true_after rs (suc m) →
      k.next claim message r ≡ k.true_after (rs ++ r ∷ []) m →
      IsCertificate o r (k.excess claim message rs m) (root_count o (k.excess claim message rs m)) × (length (k.excess claim message rs m) ≡ width)
  turned claim message rs m r wide wrong right =
      let S = c.sent claim message in
      let T = c.polynomial rs m in
      let long : length S ≡ length T = c.sent_width claim message wide ∙ sym (c.true_width rs m) in (
        certifies o field r (k.excess claim message rs m) (λ zeros. wrong (same_claim claim message rs m wide zeros))
            (ap (λ p. poly_at o p r) (c.excess_is claim message rs m) ∙ poly_at-minus o field.ring S T r long
            ∙ ap (minus o (poly_at o S r)) (c.true_at rs m r) ∙ minus-same o field.ring _ _ (sym (c.next_is claim message r) ∙ right)),
        ap length (c.excess_is claim message rs m) ∙ length-minus o field.ring S T long ∙ c.true_width rs m,
      )

  pub rounds-sound : IsSound o k count width
  rounds-sound = record {
    next_element = λ claim message r.
        ap (element o) (c.next_is claim message r) ∙ element-poly_at o field.ring (c.sent claim message) r ∙ sym (c.next_is claim message r);
    true_element = c.true_element;
    certifies = turned;
  }

-- rounds on two tables
pub two_tables-sound : (o : Ops) → IsField o → (t : TwoTables) → IsOffered t.basis t.order → IsSound o (course_on o t) 2 3
two_tables-sound o field t offered =
    let c = pairs_certify o field t offered in
    record { next_element = c.next_element; true_element = c.true_element; certifies = c.round }

pub two_tables-keep : (o : Ops) → IsRing o → (t : TwoTables) → IsOffered t.basis t.order → KeepsTrue (course_on o t) (honest_message t.basis t.order o t.table t.weights)
two_tables-keep o ring t offered = record { next = λ rs m r. sym (true_claim-next o ring t.basis t.order offered t.table t.weights rs r m) }

-- a claim on which no rounds are played is turned by none
pub no_rounds-sound : (o : Ops) → IsField o → (truth count width : ℕ) → IsSound o (course_without_rounds o truth) count width
no_rounds-sound o field truth count width = record {
  next_element = λ claim message r. element-element o field.ring claim;
  true_element = λ rs m. element-element o field.ring truth;
  certifies = λ claim message rs m r wide wrong right. absurd (wrong right);
}

-- ---- turns of rounds that are sound

pub sound-certifies : (o : Ops) (k : Course) (count width : ℕ) → IsSound o k count width → Certifies o k (λ message. length message ≡ count) width
sound-certifies o k count width s = record { next_element = s.next_element; true_element = s.true_element; round = s.certifies }

pub all_send : (count : ℕ) (messages : List (List ℕ)) → All (λ values. length values ≡ count) messages → AllSend (λ message. length message ≡ count) messages
all_send count [] all = tt
all_send count (m ∷ ms) all = (all 0 [] (omega arith), all_send count ms (λ k d less. all (suc k) d (omega (arith, less))))

-- ---- honest rounds

pub honest-end_true : HonestRoundsEndTrue
unfolding claim_along
honest-end_true k honest keeps c h before zero [] whole built = ap (λ l. k.true_after l 0) (sym (append-nil before))
honest-end_true k honest keeps c h before (suc n) [] whole built = absurd (omega (arith, whole))
honest-end_true k honest keeps c h before zero (r ∷ rounds) whole built = absurd built
honest-end_true k honest keeps c h before (suc n) (r ∷ rounds) whole built =
    let x = challenge c.rules c.extension c.bits h r in
    let h' = h ++ round_events c.extension c.bits r in
    let rs = challenges c.rules c.extension c.bits h' rounds in
    ap (λ t. claim_along k.next t (messages_of rounds) rs) (ap (λ v. k.next (k.true_after before (suc n)) v x) built.0 ∙ keeps.next before n x)
    ∙ honest-end_true k honest keeps c h' (before ++ x ∷ []) n rounds (omega (arith, whole)) built.2
    ∙ ap (λ l. k.true_after l 0) (append_assoc before (x ∷ []) rs)
