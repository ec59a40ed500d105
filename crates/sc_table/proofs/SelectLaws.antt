-- The value at a point of a table of powers, one coordinate after the other, the last one first.
use Rattle.std.proofs.Common.{◌≡◌, ℕ, ◌^◌, ◌<◌, List, [], ◌∷◌, ◌++◌, length, map, sym, ◌∙◌, ap, arith, append_assoc}
use Rattle.std.proofs.lemmas.List.{length-map, append-nil}
use Rattle.sc_definitions.specs.Ring.{Ops, IsRing, plus, times, minus, power}
use Rattle.sc_definitions.specs.Tables.{value}
use Rattle.sc_definitions.proofs.RingLaws.{element-small, times-one}
use Rattle.sc_definitions.proofs.Power.{power-plus}
use Rattle.sc_definitions.proofs.TableLaws.{two_halves}
use Rattle.sc_definitions.proofs.ValueLaws.{value-power_none, value-power_more}

-- The value is that at the last coordinates; `rest` are the coordinates before those. The power is that of the next digit's row.
pub record IsSelected {X : Type 0} (number : X → ℕ) (o : Ops) (z : ℕ) (all rest : List X) (value_so_far power_so_far : ℕ) : Type 0 where
  pub done : List X
  pub parts : all ≡ rest ++ done
  pub value_is : value_so_far ≡ value o (power o z) (map number done)
  pub power_is : power_so_far ≡ power o z (2 ^ length done)

module _ {X : Type 0} (number : X → ℕ) (o : Ops) (ring : IsRing o) (z : ℕ) (all : List X) where
  pub selected-none : (rest : List X) (v p : ℕ) → rest ≡ all → z < o.size → v ≡ 1 → p ≡ z → IsSelected number o z all rest v p
  unfolding power
  selected-none rest v p same low v_is p_is = record {
    done = [];
    parts = sym same ∙ sym (append-nil rest);
    value_is = v_is ∙ sym (value-power_none o ring z);
    power_is = p_is ∙ sym (times-one o ring z ∙ element-small o ring z low);
  }

  pub selected-more : (rest : List X) (x : X) (v p v' p' : ℕ) → IsSelected number o z all (rest ++ x ∷ []) v p →
      v' ≡ times o (plus o 1 (times o (number x) (minus o p 1))) v → p' ≡ times o p p → IsSelected number o z all rest v' p'
  selected-more rest x v p v' p' so_far v_is p_is =
      let done = so_far.done in
      let size : 2 ^ length (map number done) ≡ 2 ^ length done = ap (λ k. 2 ^ k) (length-map done number) in
      record {
        done = x ∷ done;
        parts = so_far.parts ∙ append_assoc rest (x ∷ []) done;
        value_is = v_is ∙ ap (times o (plus o 1 (times o (number x) (minus o p 1)))) so_far.value_is
            ∙ ap (λ k. times o (plus o 1 (times o (number x) (minus o k 1))) (value o (power o z) (map number done))) (so_far.power_is ∙ ap (power o z) (sym size))
            ∙ sym (value-power_more o ring z (number x) (map number done));
        power_is = p_is ∙ ap (λ k. times o k k) so_far.power_is ∙ sym (power-plus o ring z (2 ^ length done) (2 ^ length done))
            ∙ ap (power o z) (sym (two_halves (length done)));
      }

  pub selected-all : (rest : List X) (v p : ℕ) → length rest ≡ 0 → IsSelected number o z all rest v p → v ≡ value o (power o z) (map number all)
  selected-all [] v p none so_far = so_far.value_is ∙ ap (λ l. value o (power o z) (map number l)) (sym so_far.parts)
  selected-all (x ∷ rest) v p none so_far = absurd (omega (arith, none))
