-- The least number that passes a test: it passes, and none before it does.
use Rattle.std.proofs.Common.{◌≡◌, ℕ, zero, suc, ◌<◌, Bool, true, false, if◌then◌else◌, Option, Some, None, refl, ap, ◌∙◌, subst, arith}
use Rattle.std.specs.Option.{option_map}
use Rattle.std.proofs.lemmas.Option.{same_Some}
use Rattle.sc_definitions.specs.Least.{least_below}

-- it passes, and none before it does
abbrev pub IsFirst : (ℕ → Bool) → ℕ → Type 0
IsFirst test w = (test w ≡ true) × ((k : ℕ) → k < w → test k ≡ false)

pub least_below-first : (n : ℕ) (test : ℕ → Bool) (w : ℕ) → w < n → test w ≡ true → ((k : ℕ) → k < w → test k ≡ false) → least_below n test ≡ Some w
unfolding least_below
least_below-first zero test w low passes least = absurd (omega (arith, low))
least_below-first (suc n) test zero low passes least = ap (λ b. if b then Some 0 else option_map suc (least_below n (λ k. test (suc k)))) passes
least_below-first (suc n) test (suc w) low passes least =
    ap (λ b. if b then Some 0 else option_map suc (least_below n (λ k. test (suc k)))) (least 0 (omega arith))
    ∙ ap (option_map suc) (least_below-first n (λ k. test (suc k)) w (omega (arith, low)) passes (λ k less. least (suc k) (omega (arith, less))))

pub least_below-none : (n : ℕ) (test : ℕ → Bool) → ((k : ℕ) → k < n → test k ≡ false) → least_below n test ≡ None
unfolding least_below
least_below-none zero test fail = refl
least_below-none (suc n) test fail =
    ap (λ b. if b then Some 0 else option_map suc (least_below n (λ k. test (suc k)))) (fail 0 (omega arith))
    ∙ ap (option_map suc) (least_below-none n (λ k. test (suc k)) (λ k less. fail (suc k) (omega (arith, less))))

none_before : (test : ℕ → Bool) (v : ℕ) → test 0 ≡ false → ((k : ℕ) → k < v → test (suc k) ≡ false) → (k : ℕ) → k < suc v → test k ≡ false
none_before test v first rest zero less = first
none_before test v first rest (suc k) less = rest k (omega (arith, less))

first_later : (test : ℕ → Bool) (w : ℕ) (found : Option ℕ) → test 0 ≡ false → ((v : ℕ) → found ≡ Some v → IsFirst (λ k. test (suc k)) v) → option_map suc found ≡ Some w → IsFirst test w
first_later test w None fails rest is = cc
first_later test w (Some v) fails rest is =
    let later = rest v refl in
    subst (IsFirst test) (same_Some _ _ is) (later.0, none_before test v fails later.1)

first_step : (n : ℕ) (test : ℕ → Bool) (w : ℕ) (b : Bool) → test 0 ≡ b → ((v : ℕ) → least_below n (λ k. test (suc k)) ≡ Some v → IsFirst (λ k. test (suc k)) v) →
    (if b then Some 0 else option_map suc (least_below n (λ k. test (suc k)))) ≡ Some w → IsFirst test w
first_step n test w true here rest is = subst (IsFirst test) (same_Some _ _ is) (here, λ k less. absurd (omega (arith, less)))
first_step n test w false here rest is = first_later test w (least_below n (λ k. test (suc k))) here rest is

pub least_below-some : (n : ℕ) (test : ℕ → Bool) (w : ℕ) → least_below n test ≡ Some w → IsFirst test w
unfolding least_below
least_below-some zero test w is = cc
least_below-some (suc n) test w is = first_step n test w (test 0) refl (least_below-some n (λ k. test (suc k))) is
