-- What is found of one stage; and where its rounds leave the true claim although something that is claimed is false, a challenge is named lucky, and certified.
use Rattle.std.proofs.Common.{◌≡◌, Bool, true, false, [], if◌then◌else◌, Option, Some, None, Result, Ok, Err, sym, ◌∙◌, ap, refl, subst, ⊎_elim, eq-eqb, ne_eqb}
use Rattle.std.specs.Prelude.{IfOk, option_map}
use Rattle.std.proofs.lemmas.Option.{same_Some}
use Rattle.sc_definitions.specs.Ring.{Ops, IsField}
use Rattle.sc_definitions.specs.Polynomials.{AllZero}
use Rattle.sc_definitions.specs.Roots.{root_count}
use Rattle.sc_definitions.specs.Lucky.{Turn, LuckyChallenge, in_batch, luck_in, first_turn}
use Rattle.sc_audit_errors.specs.Findings.{holds, lucky, named}
use Rattle.sc_soundness.specs.Stages.{Stage, stage_residual, true_stage_residual, stage_luck, IsCertifiedIn, IsStage}
use Rattle.sc_soundness.proofs.StageLaws.{lucky_or_false}
use Rattle.sc_merge_definitions.specs.QuadraticPlays.{finding_where}

lucky_where : {X : Type 0} (matched : Bool) (fault : Option X) (luck : Option LuckyChallenge) (l : LuckyChallenge) → finding_where matched fault luck ≡ lucky l →
    (matched ≡ true) × (fault ≡ None → ⊥) × (luck ≡ Some l)
lucky_where false fault luck l e = cc
lucky_where true None luck l e = cc
lucky_where true (Some x) None l e = cc
lucky_where true (Some x) (Some k) l e = let same : k ≡ l = cc in (refl, (λ none. cc), ap (λ v. Some v) same)

named_where : {X : Type 0} (fault : Option X) (luck : Option LuckyChallenge) (l : LuckyChallenge) → (fault ≡ None → ⊥) → luck ≡ Some l → finding_where true fault luck ≡ lucky l
named_where None luck l some e = absurd (some refl)
named_where (Some x) luck l some e = ap named e

module _ (o : Ops) (field : IsField o) (s : Stage) (is : IsStage o s) {X : Type 0} (matched : Bool) (fault : Option X)
    (right : matched ≡ true → stage_residual s ≡ true_stage_residual s) (some : (fault ≡ None → ⊥) → AllZero o s.excess → ⊥) where
  found : matched ≡ true → (fault ≡ None → ⊥) → (l : LuckyChallenge) × (stage_luck o s ≡ Some l) × IsCertifiedIn o s l
  found is_matched false_one =
      ⊎_elim (λ luck. luck) (λ none. absurd (none.1 (right is_matched))) (lucky_or_false o field s is (some false_one))

  -- a challenge that is named is certified
  pub named-certified : (l : LuckyChallenge) → finding_where matched fault (stage_luck o s) ≡ lucky l → IsCertifiedIn o s l
  named-certified l e =
      let by = lucky_where matched fault (stage_luck o s) l e in
      let luck = found by.0 by.1 in
      subst (IsCertifiedIn o s) (same_Some _ _ (sym luck.1 ∙ by.2)) luck.2

  -- and one is named
  pub one-named : matched ≡ true → (fault ≡ None → ⊥) → (l : LuckyChallenge) × (finding_where matched fault (stage_luck o s) ≡ lucky l)
  one-named is_matched false_one =
      let luck = found is_matched false_one in
      (luck.0, ap (λ b. finding_where b fault (stage_luck o s)) is_matched ∙ named_where fault (stage_luck o s) luck.0 false_one luck.1)

pub holds_where : {X : Type 0} (matched : Bool) (fault : Option X) (luck : Option LuckyChallenge) → matched ≡ true → fault ≡ None → finding_where matched fault luck ≡ holds
holds_where matched fault luck m f = ap (λ b. finding_where b fault luck) m ∙ ap (λ x. finding_where true x luck) f

-- ---- what is found

pub finding-named : {X : Type 0} (matched : Bool) {fault : Option X} (luck : Option LuckyChallenge) {x : X} → matched ≡ true → fault ≡ Some x → named luck ≡ finding_where matched fault luck
finding-named matched {fault = fault} luck m f = sym (ap (λ b. finding_where b fault luck) m ∙ ap (λ y. finding_where true y luck) f)

-- what is told of an answer tells this too
pub ok-then : {X E : Type 0} {P Q : X → Type 0} (r : Result X E) → IfOk r P → ((x : X) → P x → Q x) → IfOk r Q
ok-then (Ok x) p f = f x p
ok-then (Err e) p f = tt

-- the first lucky challenge of a stage
module _ (o : Ops) (s : Stage) where
  abbrev luck_by : Bool → Option LuckyChallenge
  luck_by same =
      if same then Some (in_batch s.excess (root_count o s.excess)) else option_map (luck_in o) (first_turn s.course 0 s.claim s.messages [] s.challenges)

  -- is the drawn one, where the claim is true
  pub luck-drawn : s.claim ≡ s.truth → stage_luck o s ≡ Some (in_batch s.excess (root_count o s.excess))
  unfolding stage_luck
  luck-drawn same = ap luck_by (eq-eqb _ _ same)

  -- or that of a round
  pub luck-round : (s.claim ≡ s.truth → ⊥) → {t : Option Turn} → t ≡ first_turn s.course 0 s.claim s.messages [] s.challenges → stage_luck o s ≡ option_map (luck_in o) t
  unfolding stage_luck
  luck-round other is = ap luck_by (ne_eqb _ _ other) ∙ ap (option_map (luck_in o)) (sym is)
