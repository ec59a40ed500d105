-- What a walk over the gates has added to a table.
use Rattle.std.proofs.Common.{◌≡◌, ℕ, suc, ◌+◌, ◌<◌, ◌≤◌, ◌==◌, Bool, true, false, List, length, drop, get_or, set, if◌then◌else◌, sym, ◌∙◌, ap, refl, arith, inl, inr, drop-cons}
use Rattle.std.proofs.Math.ListN.{drop_of_length-le}
use Rattle.std.proofs.lemmas.Bool.Decides.{eqb_tells}
use Rattle.sc_definitions.specs.Ring.{Ops, IsRing, plus}
use Rattle.sc_definitions.specs.Tables.{entries}
use Rattle.sc_definitions.proofs.RingLaws.{plus_assoc, plus-zero, element-small}
use Rattle.sc_field.proofs.EntryLaws.{entry-set_same, entry-set_other, entry-below}
use Rattle.sc_circuit_definitions.specs.declared.gate.Gate.{Gate}
use Rattle.sc_circuit_definitions.specs.LayerPhases.{shares_at}

none-either : (b : Bool) → ◌≡◌ {A = ℕ} (if b then 0 else 0) 0
none-either true = refl
none-either false = refl

module _ (o : Ops) (ring : IsRing o) where
  -- ---- one gate

  module _ {X : Type 0} (number : X → ℕ) (small : (x : X) → number x < o.size) (xs : List X) where
    nothing : (x : ℕ) → plus o (entries number xs x) 0 ≡ entries number xs x
    nothing x = plus-zero o ring (entries number xs x) ∙ element-small o ring (entries number xs x) (entry-below o number ring small xs x)

    -- what is written at a place is what stood there and what is given
    pub given-at : (place : ℕ) (y : X) (given : ℕ) → place < length xs → number y ≡ plus o (entries number xs place) given →
        (x : ℕ) → entries number (set xs place y) x ≡ plus o (entries number xs x) (if x == place then given else 0)
    given-at place y given inside is x = elim (eqb_tells x place) [
      | inl t ↦ ap (entries number (set xs place y)) t.1 ∙ entry-set_same number xs place y inside ∙ is
          ∙ ap (λ i. plus o (entries number xs i) given) (sym t.1)
          ∙ ap (λ b. plus o (entries number xs x) (if b then given else 0)) (sym t.0)
      | inr t ↦ entry-set_other number xs place x y t.1 ∙ sym (nothing x)
          ∙ ap (λ b. plus o (entries number xs x) (if b then given else 0)) (sym t.0)
    ]

    -- and where nothing is given nothing is written
    pub given-nothing : (place x : ℕ) → entries number xs x ≡ plus o (entries number xs x) (if x == place then 0 else 0)
    given-nothing place x = sym (nothing x) ∙ ap (plus o (entries number xs x)) (sym (none-either (x == place)))
    -- ---- all gates

module _ (o : Ops) (ring : IsRing o) (place : Gate → ℕ) (share : ℕ → Gate → ℕ) (gates : List Gate) (n : ℕ) where
  -- With the shares of the first i gates added to it, a table lacks those of the others.
  pub record IsWalked (i : ℕ) (before now : ℕ → ℕ) : Type 0 where
    pub so_far : (x : ℕ) → x < n →
        plus o (before x) (shares_at o place share 0 gates x) ≡ plus o (now x) (shares_at o place share i (drop i gates) x)

  pub walked-none : (f : ℕ → ℕ) → IsWalked 0 f f
  walked-none f = record { so_far = λ x low. refl }

  pub walked-more : (i : ℕ) (d : Gate) (before now later : ℕ → ℕ) → i < length gates → IsWalked i before now →
      ((x : ℕ) → x < n → later x ≡ plus o (now x) (if x == place (get_or gates i d) then share i (get_or gates i d) else 0)) → IsWalked (i + 1) before later
  unfolding shares_at
  walked-more i d before now later inside walked given = record {
    so_far = λ x low.
        let one : suc i ≡ i + 1 = omega arith in
        let gate = get_or gates i d in
        let S = shares_at o place share (suc i) (drop (suc i) gates) x in
        walked.so_far x low
        ∙ ap (λ gs. plus o (now x) (shares_at o place share i gs x)) (drop-cons gates i d inside)
        ∙ sym (plus_assoc o ring (now x) (if x == place gate then share i gate else 0) S)
        ∙ ap (λ y. plus o y S) (sym (given x low))
        ∙ ap (λ k. plus o (later x) (shares_at o place share k (drop k gates) x)) one;
  }

  pub walked-all : (i : ℕ) (before now : ℕ → ℕ) → length gates ≤ i → ((x : ℕ) → now x < o.size) → IsWalked i before now →
      (x : ℕ) → x < n → now x ≡ plus o (before x) (shares_at o place share 0 gates x)
  unfolding shares_at
  walked-all i before now past small walked x low =
      sym (element-small o ring (now x) (small x)) ∙ sym (plus-zero o ring (now x))
      ∙ ap (λ gs. plus o (now x) (shares_at o place share i gs x)) (sym (drop_of_length-le gates past))
      ∙ sym (walked.so_far x low)
