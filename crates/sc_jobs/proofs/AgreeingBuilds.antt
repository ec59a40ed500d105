-- Rounds that are built are determined, so that builds agree whatever their strategies.
use Rattle.std.proofs.Common.{◌≡◌, ℕ, zero, suc, ◌<◌, true, false, List, [], ◌∷◌, ◌++◌, length, ⊎_elim, sym, ◌∙◌, ap, refl, subst, arith}
use Rattle.std.proofs.lemmas.Bool.{cases_lt}
use Rattle.sc_definitions.specs.declared.events.Event.{Event}
use Rattle.sc_definitions.specs.Events.{Rules, Extension, IsFirstWitness}
use Rattle.sc_definitions.specs.Transcript.{Round, round_of, sent, round_events, rounds_events, challenge, HasFirstWitness}
use Rattle.sc_definitions.specs.Channels.{Channel, IsBuilt}
use Rattle.sc_definitions.specs.Problem.{honest_of}
use Rattle.sc_jobs.specs.Cases.{start_of}
use Rattle.sc_jobs.specs.Audits.{figures_from}
use Rattle.sc_jobs.specs.Laws.{BuildsAgree}

-- of two numbers that pass neither is below the other
not_below : (R : Rules) (h : List Event) (bits a b : ℕ) → IsFirstWitness R h bits a → IsFirstWitness R h bits b → a < b → ⊥
not_below R h bits a b p q low = (let clash : true ≡ false = sym p.passes ∙ q.least a low in cc)

first_unique : (R : Rules) (h : List Event) (bits a b : ℕ) → IsFirstWitness R h bits a → IsFirstWitness R h bits b → a ≡ b
first_unique R h bits a b p q =
    ⊎_elim (λ low. absurd (not_below R h bits a b p q low))
    (λ least. ⊎_elim (λ low. absurd (not_below R h bits b a q p low)) (λ most. omega arith) (cases_lt b a))
    (cases_lt a b)

witness_unique : (R : Rules) (E : Extension) (bits : ℕ) (h : List Event) (values : List ℕ) (a b : ℕ) →
    HasFirstWitness R E bits h (round_of values a) → HasFirstWitness R E bits h (round_of values b) → a ≡ b
unfolding HasFirstWitness
witness_unique R E zero h values a b p q = p ∙ sym q
witness_unique R E (suc bits) h values a b p q = first_unique R (h ++ sent E values) (suc bits) a b p q

-- one round
same_round : (R : Rules) (E : Extension) (bits : ℕ) (h : List Event) (values : List ℕ) (r q : Round) → r.values ≡ values → q.values ≡ values →
    HasFirstWitness R E bits h r → HasFirstWitness R E bits h q → r ≡ q
same_round R E bits h values r q rv qv p p' =
    let P : List ℕ → ℕ → Type 0 = λ vs w. HasFirstWitness R E bits h (round_of vs w) in
    let one : P values r.witness = subst (λ vs. P vs r.witness) rv p in
    let other : P values q.witness = subst (λ vs. P vs q.witness) qv p' in
    ap (λ vs. round_of vs r.witness) rv ∙ ap (round_of values) (witness_unique R E bits h values r.witness q.witness one other) ∙ ap (λ vs. round_of vs q.witness) (sym qv)

-- all rounds
same_rounds : (honest : List ℕ → ℕ → List ℕ) (c : Channel) (h : List Event) (rs : List ℕ) (n : ℕ) (rounds others : List Round) →
    length rounds ≡ n → length others ≡ n → IsBuilt honest c h rs n rounds → IsBuilt honest c h rs n others → rounds ≡ others
same_rounds honest c h rs zero [] [] e f p q = refl
same_rounds honest c h rs zero [] (s ∷ others) e f p q = absurd q
same_rounds honest c h rs zero (r ∷ rounds) others e f p q = absurd p
same_rounds honest c h rs (suc n) [] others e f p q = absurd (omega (arith, e))
same_rounds honest c h rs (suc n) (r ∷ rounds) [] e f p q = absurd (omega (arith, f))
same_rounds honest c h rs (suc n) (r ∷ rounds) (s ∷ others) e f p q =
    let R = c.rules in
    let E = c.extension in
    let bits = c.bits in
    let same : r ≡ s = same_round R E bits h (honest rs n) r s p.0 q.0 p.1 q.1 in
    let P : Round → Type 0 = λ t. IsBuilt honest c (h ++ round_events E bits t) (rs ++ challenge R E bits h t ∷ []) n others in
    let rest : rounds ≡ others =
    same_rounds honest c (h ++ round_events E bits r) (rs ++ challenge R E bits h r ∷ []) n rounds others (omega (arith, e)) (omega (arith, f)) p.2 (subst P (sym same) q.2) in
    ap (λ t. t ∷ rounds) same ∙ ap (λ t. s ∷ t) rest

pub builds_agree : BuildsAgree
builds_agree q one other report report' h₁ h₂ x y =
    let h = (start_of q).history in
    let a = x.played in
    let b = y.played in
    let same : a.rounds ≡ b.rounds = same_rounds (honest_of q.ops q.case.problem) q.channel h [] q.case.problem.variables a.rounds b.rounds a.count b.count a.are b.are in
    (a.is ∙ ap (figures_from q) same ∙ sym b.is, a.history ∙ ap (λ rounds. h ++ rounds_events q.channel.extension q.channel.bits rounds) same ∙ sym b.history)
