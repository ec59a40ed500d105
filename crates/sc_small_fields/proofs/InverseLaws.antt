-- The descent to an inverse modulo a prime number.
use Rattle.std.proofs.Common.{◌≡◌, ◌≢◌, ℕ, ◌+◌, ◌-◌, ◌*◌, ◌/◌, ◌%◌, ◌<◌, [], ◌∷◌, sym, ◌∙◌, ap, refl, arith}
use Rattle.std.proofs.Math.Nat.{mod-lt, mod-mod, div-add-mod'}
use Rattle.sc_definitions.specs.Ring.{IsRing, times, opposite}
use Rattle.sc_definitions.specs.Residues.{residues, IsPrime}
use Rattle.sc_definitions.proofs.RingLaws.{times-one, element-small}
use Rattle.sc_definitions.proofs.Identity.{atom, ◌⊗◌, neg, Agree, identity}
use Rattle.sc_field.specs.PrimeLaws.{residues_ring, times_modulo, opposite_modulo, opposite_rest}

-- value times factor is a rest that is not 0
pub record IsDescent (p value factor rest : ℕ) : Type 0 where
  pub factor_below : factor < p
  pub rest_positive : 0 < rest
  pub rest_below : rest < p
  pub product : times (residues p) value factor ≡ rest

module _ (p : ℕ) (prime : IsPrime p) where
  ring : IsRing (residues p)
  ring = residues_ring p prime.at_least_two

  pub descent-none : (value : ℕ) → 0 < value → value < p → IsDescent p value 1 value
  descent-none value least low = record {
    factor_below = omega (arith, prime.at_least_two);
    rest_positive = least;
    rest_below = low;
    product = times-one (residues p) ring value ∙ element-small (residues p) ring value low;
  }

  step : (x f q r rest : ℕ) → times (residues p) x f ≡ rest → q * rest + r ≡ p → r < p →
      times (residues p) x (opposite (residues p) (times (residues p) q f)) ≡ r
  unfolding Agree
  step x f q r rest is e low =
      let o = residues p in
      let X = atom 0 in let F = atom 1 in let Q = atom 2 in
      identity o ring (x ∷ f ∷ q ∷ []) (X ⊗ neg (Q ⊗ F)) (neg (Q ⊗ (X ⊗ F))) tt tt refl
      ∙ ap (λ k. opposite o (times o q k)) is
      ∙ opposite_rest p prime q rest r e low

  pub descent-more : (value factor rest : ℕ) → IsDescent p value factor rest → rest ≢ 1 →
      IsDescent p value ((p - ((p / rest) * factor) % p) % p) (p % rest)
  descent-more value factor rest d not_one =
      let q = p / rest in
      let turned : opposite (residues p) (times (residues p) q factor) ≡ (p - (q * factor) % p) % p =
      opposite_modulo p (times (residues p) q factor)
      ∙ ap (λ k. (p - k % p) % p) (times_modulo p q factor)
      ∙ ap (λ k. (p - k) % p) (mod-mod (q * factor) p) in
      let low : p % rest < rest = mod-lt p d.rest_positive in
      record {
        factor_below = mod-lt _ (omega (arith, prime.at_least_two));
        rest_positive = prime.undivided rest (omega (arith, d.rest_positive, not_one)) d.rest_below;
        rest_below = omega (arith, low, d.rest_below);
        product = ap (times (residues p) value) (sym turned)
            ∙ step value factor q (p % rest) rest d.product (div-add-mod' p rest) (omega (arith, low, d.rest_below));
      }
