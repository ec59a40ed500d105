-- The numbers that words write.
use Rattle.std.proofs.Common.{◌≡◌, ◌≢◌, ℕ, zero, suc, ◌^◌, ◌<◌, ◌≤◌, min, Bool, true, false, List, Option, Some, None, if◌then◌else◌, refl, sym, ap, subst, ◌∙◌, ◌==◌, arith}
use Rattle.std.specs.Prelude.{bytes_eq, codes, decimal}
use Rattle.std.specs.Option.{option_map}
use Rattle.std.proofs.lemmas.Option.{same_Some}
use Rattle.std.proofs.lemmas.Bool.{false_from_ne_true}
use Rattle.std.proofs.lemmas.Slice.Eq.{bytes_eq-Decides}
use Rattle.std.proofs.lemmas.Fmt.{decimal_injective}
use Rattle.sc_table.specs.declared.strategy.Strategy.{Strategy}
use Rattle.sc_table.specs.declared.strategy.Strategy.TheVariants.{Plain, Represented, SmallValue}
use Rattle.sumcheck_make.specs.declared.recipe.Recipe.{Recipe}
use Rattle.sc_definitions.specs.Least.{least_below}
use Rattle.sumcheck_run.specs.Words.{written_below, recipe_by, recipe_of}
use Rattle.sumcheck_make.specs.Recipes.{most_small, IsNamed, IsMade}
use Rattle.sc_definitions.proofs.LeastLaws.{least_below-first, least_below-none}

unequal : (xs ys : List ℕ) → xs ≢ ys → bytes_eq xs ys ≡ false
unequal xs ys differ = false_from_ne_true (bytes_eq xs ys) (λ is. differ ((bytes_eq-Decides xs ys).0 is))

-- a number's own spelling writes it, and no number before it
pub written-is : (bound n : ℕ) (word : List ℕ) → bound < 2 ^ 64 → n < bound → word ≡ decimal n → written_below bound word ≡ Some n
unfolding written_below
written-is bound n word fits low is =
    least_below-first bound (λ k. bytes_eq word (decimal k)) n low ((bytes_eq-Decides word (decimal n)).1 is)
    (λ k less. unequal word (decimal k) (λ other.
    let same : k ≡ n = decimal_injective k n (omega arith) (omega arith) (sym other ∙ is) in
    absurd (omega arith)))

-- a word that is no number's own spelling writes none
pub written-none : (bound : ℕ) (word : List ℕ) → ((n : ℕ) → n < bound → word ≢ decimal n) → written_below bound word ≡ None
unfolding written_below
written-none bound word none = least_below-none bound (λ k. bytes_eq word (decimal k)) (λ k less. unequal word (decimal k) (none k less))

-- nor does one of a number that is not below the bound
pub written-past : (bound n : ℕ) (word : List ℕ) → n < 2 ^ 64 → bound ≤ n → word ≡ decimal n → written_below bound word ≡ None
written-past bound n word fits past is =
    written-none bound word (λ k low other. let same : k ≡ n = decimal_injective k n (omega arith) fits (sym other ∙ is) in absurd (omega arith))

-- ---- a recipe that is read

low_later : (n w : ℕ) (found : Option ℕ) → ((v : ℕ) → found ≡ Some v → v < n) → option_map suc found ≡ Some w → w < suc n
low_later n w None rest is = cc
low_later n w (Some v) rest is =
    let low : v < n = rest v refl in
    let same : suc v ≡ w = same_Some _ _ is in
    omega arith

low_step : (n w : ℕ) (b : Bool) (found : Option ℕ) → ((v : ℕ) → found ≡ Some v → v < n) → (if b then Some 0 else option_map suc found) ≡ Some w → w < suc n
low_step n w true found rest is = let same : 0 ≡ w = same_Some _ _ is in omega arith
low_step n w false found rest is = low_later n w found rest is

least_below-low : (n : ℕ) (test : ℕ → Bool) (w : ℕ) → least_below n test ≡ Some w → w < n
unfolding least_below
least_below-low zero test w is = cc
least_below-low (suc n) test w is = low_step n w (test 0) (least_below n (λ k. test (suc k))) (least_below-low n (λ k. test (suc k))) is

written-low : (bound : ℕ) (word : List ℕ) (n : ℕ) → written_below bound word ≡ Some n → n < bound
unfolding written_below
written-low bound word n is = least_below-low bound (λ k. bytes_eq word (decimal k)) n is

named_by : (n : ℕ) (plain represented small : Bool) (s : Strategy) →
    (if plain then Some Plain else (if represented then Some Represented else (if small then Some (SmallValue (min n most_small)) else None))) ≡ Some s → IsNamed n s
named_by n true represented small s is = subst (IsNamed n) (same_Some Plain s is) tt
named_by n false true small s is = subst (IsNamed n) (same_Some Represented s is) tt
named_by n false false true s is = subst (IsNamed n) (same_Some (SmallValue (min n most_small)) s is) refl
named_by n false false false s is = cc

not_zero : (n : ℕ) → (suc n == 0) ≡ false
not_zero n = grind arith

made_with : (n number : ℕ) (found : Option Strategy) (r : Recipe) → suc n < 25 → number < 65537 → ((s : Strategy) → found ≡ Some s → IsNamed (suc n) s) →
    option_map (λ s. record { variables = suc n; number = number; strategy = s }) found ≡ Some r → IsMade r
made_with n number None r few low named is = cc
made_with n number (Some s) r few low named is =
    subst IsMade (same_Some (record { variables = suc n; number = number; strategy = s }) r is)
    (record { some = omega arith; few = omega (arith, few); number = low; strategy = named s refl })

made_by : (variables number : Option ℕ) (strategy : ℕ → Option Strategy) (r : Recipe) → ((n : ℕ) → variables ≡ Some n → n < 25) → ((n : ℕ) → number ≡ Some n → n < 65537) →
    ((n : ℕ) (s : Strategy) → strategy n ≡ Some s → IsNamed n s) → recipe_by variables number strategy ≡ Some r → IsMade r
made_by None number strategy r few low named is = cc
made_by (Some n) None strategy r few low named is = cc
made_by (Some zero) (Some number) strategy r few low named is = cc
made_by (Some (suc n)) (Some number) strategy r few low named is =
    made_with n number (strategy (suc n)) r (few (suc n) refl) (low number refl) (named (suc n))
    (sym (ap (λ b. if b then None else option_map (λ s. record { variables = suc n; number = number; strategy = s }) (strategy (suc n))) (not_zero n)) ∙ is)

-- a recipe that words write makes a job
pub recipe-made : (variables number strategy : List ℕ) (r : Recipe) → recipe_of variables number strategy ≡ Some r → IsMade r
recipe-made variables number strategy r is =
    made_by _ _ _ r (written-low 25 variables) (written-low 65537 number)
    (λ n. named_by n (bytes_eq strategy (codes "plain")) (bytes_eq strategy (codes "represented")) (bytes_eq strategy (codes "small-value"))) is
