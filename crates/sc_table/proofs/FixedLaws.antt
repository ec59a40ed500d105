-- Tables of which each row was bound.
use Rattle.std.proofs.Common.{◌≡◌, ℕ, ◌+◌, ◌^◌, ◌<◌, length, sym, ◌∙◌, ap, subst}
use Rattle.sc_definitions.specs.Ring.{Ops, IsRing}
use Rattle.sc_definitions.specs.Tables.{prefix, suffix, bound, bound_low}
use Rattle.sc_definitions.proofs.TableLaws.{value-bound, value-same}
use Rattle.sc_definitions.proofs.SuffixLaws.{value-bound_low}
use Rattle.sc_table.specs.declared.poly.Poly.{Poly}
use Rattle.sc_table.specs.Polys.{variables_of, table_of, IsFixed}

module _ {A : Type 0} (o : Ops) (ring : IsRing o) (number : A → ℕ) (r : ℕ) (old new : Poly A) (fewer : variables_of old ≡ variables_of new + 1) where
  pub fixed-prefix : ((b : ℕ) → b < 2 ^ variables_of new → table_of number new b ≡ bound o (2 ^ variables_of new) r (table_of number old) b) →
      IsFixed prefix o number r old new
  fixed-prefix rows = record {
    fewer = fewer;
    rows = rows;
    values = λ zs size.
        let same : 2 ^ variables_of new ≡ 2 ^ length zs = ap (λ k. 2 ^ k) (sym size) in
        value-same o _ _ zs (λ b low. rows b (subst (λ k. b < k) (sym same) low) ∙ ap (λ k. bound o k r (table_of number old) b) same)
        ∙ sym (value-bound o ring (table_of number old) r zs);
  }

  pub fixed-suffix : ((b : ℕ) → b < 2 ^ variables_of new → table_of number new b ≡ bound_low o r (table_of number old) b) → IsFixed suffix o number r old new
  fixed-suffix rows = record {
    fewer = fewer;
    rows = rows;
    values = λ zs size.
        let same : 2 ^ variables_of new ≡ 2 ^ length zs = ap (λ k. 2 ^ k) (sym size) in
        value-same o _ _ zs (λ b low. rows b (subst (λ k. b < k) (sym same) low))
        ∙ sym (value-bound_low o ring (table_of number old) zs r);
  }
