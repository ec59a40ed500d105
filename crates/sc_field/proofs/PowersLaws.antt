-- Powers of sums of exponents and of products, and the items of an iterator of powers.
use Rattle.std.proofs.Common.{◌≡◌, ℕ, zero, suc, ◌<◌, List, [], ◌∷◌, map, sym, ◌∙◌, ap, refl, arith}
use Rattle.std.specs.Iterator.{Yields}
use Rattle.sc_definitions.specs.Ring.{Ops, IsRing, times, power}
use Rattle.sc_definitions.proofs.RingLaws.{element-small, times_assoc, times-one}
use Rattle.sc_definitions.proofs.Identity.{atom, ◌⊗◌, Agree, identity}
use Rattle.sc_definitions.proofs.Power.{power-zero, element-power}
pub use Rattle.sc_definitions.proofs.Power.{power-plus}
use Rattle.sc_field.specs.declared.powers.Powers.{Powers}
use Rattle.sc_field.specs.Powers.{base_of, start_of, GivesPower, ArePowers}

module _ (o : Ops) (ring : IsRing o) where
  pub power-times : (x y n : ℕ) → power o (times o x y) n ≡ times o (power o x n) (power o y n)
  unfolding power Agree
  power-times x y zero = sym (times-one o ring 1 ∙ element-power o ring x 0)
  power-times x y (suc n) =
      let X = atom 0 in let Y = atom 1 in let P = atom 2 in let Q = atom 3 in
      ap (times o (times o x y)) (power-times x y n)
      ∙ identity o ring (x ∷ y ∷ power o x n ∷ power o y n ∷ []) (X ⊗ Y ⊗ (P ⊗ Q)) (X ⊗ P ⊗ (Y ⊗ Q)) tt tt refl

  -- start · base · base^i is start · base^(i + 1)
  power_on : (start base i : ℕ) → times o (times o start base) (power o base i) ≡ times o start (power o base (suc i))
  unfolding power
  power_on start base i = times_assoc o ring start base (power o base i)

  module _ {F : Type 0} (number : F → ℕ) (low : (x : F) → number x < o.size) where
    pub items_are_powers : (s t : Powers F) (xs : List F) → Yields (GivesPower o number) s xs t →
        ArePowers o (number (start_of s)) (number (base_of s)) (map number xs)
    items_are_powers s t [] run i h = absurd (omega arith)
    items_are_powers s t (x ∷ xs) run zero h =
        let given = run.1 in
        given.0 ∙ sym (element-small o ring (number (start_of s)) (low (start_of s))) ∙ sym (times-one o ring (number (start_of s)))
        ∙ ap (times o (number (start_of s))) (sym (power-zero o ring (number (base_of s))))
    items_are_powers s t (x ∷ xs) run (suc i) h =
        let j = run.0 in let given = run.1 in
        items_are_powers j t xs run.2 i (omega (arith, h))
        ∙ ap (λ n. times o n (power o (number (base_of j)) i)) given.1
        ∙ ap (λ n. times o (times o (number (start_of s)) (number (base_of s))) (power o n i)) given.2
        ∙ power_on (number (start_of s)) (number (base_of s)) i
