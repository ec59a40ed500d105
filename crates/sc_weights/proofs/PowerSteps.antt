-- Powers that are added to rows, one row after the other, and sums of entries times powers.
use Rattle.std.proofs.Common.{◌≡◌, ℕ, zero, suc, ◌+◌, ◌-◌, ◌*◌, ◌^◌, ◌<◌, ◌≤◌, List, [], ◌∷◌, ◌++◌, length, set, sym, ◌∙◌, ap, refl, arith, ⊎_elim, append_assoc, pow-add}
use Rattle.std.proofs.lemmas.List.{append-nil}
use Rattle.std.proofs.lemmas.Bool.{cases_eq}
use Rattle.sc_definitions.specs.Ring.{Ops, IsRing, plus, times, power}
use Rattle.sc_definitions.specs.Tables.{entries, sum_below}
use Rattle.sc_definitions.proofs.RingLaws.{element-small, times-one, times_comm, times_assoc}
use Rattle.sc_definitions.proofs.Power.{power-zero, power-plus}
use Rattle.sc_definitions.proofs.Identity.{atom, unit, ◌⊕◌, ◌⊗◌, Agree, identity}
use Rattle.sc_definitions.proofs.Sums.{sum-zero, sum-same, sum-split, times-sum}
use Rattle.sc_definitions.proofs.SuccessorLaws.{sum-first}
use Rattle.sc_definitions.proofs.TableLaws.{two_halves}
use Rattle.sc_table.proofs.EntryLaws.{entry-set_same, entry-set_other}

-- The first i rows have their powers added, the others are as they were, and `next` is what row i gains.
pub record IsAdded (o : Ops) (scale z i : ℕ) (old now : ℕ → ℕ) (next : ℕ) : Type 0 where
  pub passed : (b : ℕ) → b < i → now b ≡ plus o (old b) (times o scale (power o z b))
  pub left : (b : ℕ) → i ≤ b → now b ≡ old b
  pub next_is : next ≡ times o scale (power o z i)

module _ (o : Ops) (ring : IsRing o) (scale z : ℕ) where
  pub added-none : (old : ℕ → ℕ) (next : ℕ) → scale < o.size → next ≡ scale → IsAdded o scale z 0 old old next
  added-none old next low is = record {
    passed = λ b below. absurd (omega (arith, below));
    left = λ b _. refl;
    next_is = is ∙ sym (ap (times o scale) (power-zero o ring z) ∙ times-one o ring scale ∙ element-small o ring scale low);
  }

  next_power : (i : ℕ) → times o (times o scale (power o z i)) z ≡ times o scale (power o z (i + 1))
  unfolding power Agree
  next_power i =
      let e : i + 1 ≡ suc i = omega arith in
      identity o ring (scale ∷ z ∷ power o z i ∷ []) ((atom 0 ⊗ atom 2) ⊗ atom 1) (atom 0 ⊗ (atom 1 ⊗ atom 2)) tt tt refl ∙ ap (λ k. times o scale (power o z k)) (sym e)

  pub added-more : {X : Type 0} (number : X → ℕ) (rows : List X) (i : ℕ) (old : ℕ → ℕ) (x : X) (next next' : ℕ) → IsAdded o scale z i old (entries number rows) next →
      i < length rows → number x ≡ plus o (entries number rows i) next → next' ≡ times o next z → IsAdded o scale z (i + 1) old (entries number (set rows i x)) next'
  added-more number rows i old x next next' so_far low x_is next_is = record {
    passed = λ b below. ⊎_elim
        (λ same. let back : i ≡ b = sym same in
        sym (ap (entries number (set rows i x)) back) ∙ entry-set_same number rows i x low ∙ x_is
        ∙ ap (λ k. plus o k next) (so_far.left i (omega arith)) ∙ ap (plus o (old i)) so_far.next_is
        ∙ ap (λ k. plus o (old k) (times o scale (power o z k))) back)
        (λ apart. entry-set_other number rows i b x apart ∙ so_far.passed b (omega (arith, below, apart)))
        (cases_eq b i);
    left = λ b above. entry-set_other number rows i b x (λ e. omega (arith, e, above)) ∙ so_far.left b (omega (arith, above));
    next_is = next_is ∙ ap (λ k. times o k z) so_far.next_is ∙ next_power i;
  }

-- ---- sums of entries times powers, the last entry first

-- The sum is that over the last entries; `rest` are those before them.
pub record IsSummed {X : Type 0} (number : X → ℕ) (o : Ops) (z : ℕ) (all rest : List X) (sum : ℕ) : Type 0 where
  pub done : List X
  pub parts : all ≡ rest ++ done
  pub sum_is : sum ≡ sum_below o (length done) (λ b. times o (entries number done b) (power o z b))

module _ (o : Ops) (ring : IsRing o) (z : ℕ) {X : Type 0} (number : X → ℕ) where
  next_entry : (x : X) (xs : List X) (b : ℕ) → entries number (x ∷ xs) (b + 1) ≡ entries number xs b
  unfolding entries
  next_entry x xs b = let e : b + 1 ≡ suc b = omega arith in ap (entries number (x ∷ xs)) e

  first_entry : (x : X) (xs : List X) → entries number (x ∷ xs) 0 ≡ number x
  unfolding entries
  first_entry x xs = refl

  power_next : (b : ℕ) → power o z (b + 1) ≡ times o z (power o z b)
  unfolding power
  power_next b = let e : b + 1 ≡ suc b = omega arith in ap (power o z) e

  -- one entry more before the others
  sum-entry : (x : X) (xs : List X) → sum_below o (suc (length xs)) (λ b. times o (entries number (x ∷ xs) b) (power o z b))
      ≡ plus o (times o (sum_below o (length xs) (λ b. times o (entries number xs b) (power o z b))) z) (number x)
  unfolding Agree
  sum-entry x xs =
      let n = length xs in
      let term : ℕ → ℕ = λ b. times o (entries number xs b) (power o z b) in
      let S = sum_below o n term in
      sum-first o ring n (λ b. times o (entries number (x ∷ xs) b) (power o z b))
      ∙ ap (λ k. plus o (times o k (power o z 0)) (sum_below o n (λ b. times o (entries number (x ∷ xs) (b + 1)) (power o z (b + 1))))) (first_entry x xs)
      ∙ ap (λ k. plus o (times o (number x) k) (sum_below o n (λ b. times o (entries number (x ∷ xs) (b + 1)) (power o z (b + 1))))) (power-zero o ring z)
      ∙ ap (plus o (times o (number x) 1)) (sum-same o n _ (λ b. times o z (term b)) (λ b _.
      ap (λ k. times o k (power o z (b + 1))) (next_entry x xs b) ∙ ap (times o (entries number xs b)) (power_next b)
      ∙ identity o ring (entries number xs b ∷ z ∷ power o z b ∷ []) (atom 0 ⊗ (atom 1 ⊗ atom 2)) (atom 1 ⊗ (atom 0 ⊗ atom 2)) tt tt refl)
      ∙ sym (times-sum o ring z n term))
      ∙ identity o ring (number x ∷ z ∷ S ∷ []) (atom 0 ⊗ unit ⊕ atom 1 ⊗ atom 2) (atom 2 ⊗ atom 1 ⊕ atom 0) tt tt refl

  pub summed-none : (all rest : List X) (sum : ℕ) → rest ≡ all → sum ≡ 0 → IsSummed number o z all rest sum
  summed-none all rest sum same is = record {
    done = [];
    parts = sym same ∙ sym (append-nil rest);
    sum_is = is ∙ sym (sum-zero o (λ b. times o (entries number [] b) (power o z b)));
  }

  pub summed-more : (all rest : List X) (x : X) (sum sum' : ℕ) → IsSummed number o z all (rest ++ x ∷ []) sum → sum' ≡ plus o (times o sum z) (number x) → IsSummed number o z all rest sum'
  summed-more all rest x sum sum' so_far is = record {
    done = x ∷ so_far.done;
    parts = so_far.parts ∙ append_assoc rest (x ∷ []) so_far.done;
    sum_is = is ∙ ap (λ k. plus o (times o k z) (number x)) so_far.sum_is ∙ sym (sum-entry x so_far.done);
  }

  pub summed-all : (all rest : List X) (sum : ℕ) → length rest ≡ 0 → IsSummed number o z all rest sum → sum ≡ sum_below o (length all) (λ b. times o (entries number all b) (power o z b))
  summed-all all [] sum none so_far = so_far.sum_is ∙ ap (λ l. sum_below o (length l) (λ b. times o (entries number l b) (power o z b))) (sym so_far.parts)
  summed-all all (x ∷ rest) sum none so_far = absurd (omega (arith, none))

-- ---- halves of rows

module _ (o : Ops) (ring : IsRing o) (z : ℕ) where
  -- the powers after p rows
  pub power-behind : (scale p k : ℕ) → times o (times o scale (power o z p)) (power o z k) ≡ times o scale (power o z (p + k))
  power-behind scale p k = times_assoc o ring scale (power o z p) (power o z k) ∙ ap (times o scale) (sym (power-plus o ring z p k))

  -- the power after the last of n rows
  pub power-after : (n : ℕ) → 0 < n → times o (power o z (n - 1)) z ≡ power o z n
  unfolding power
  power-after zero some = absurd (omega (arith, some))
  power-after (suc n) some =
      let back : suc n - 1 ≡ n = omega arith in
      ap (λ k. times o (power o z k) z) back ∙ times_comm o ring (power o z n) z

  -- the sum over both halves of p rows
  pub powers-halves : (f low high : ℕ → ℕ) (p rows lo hi between : ℕ) → rows ≡ p + p → ((b : ℕ) → b < p → low b ≡ f b) → ((b : ℕ) → b < p → high b ≡ f (p + b)) →
      lo ≡ sum_below o p (λ b. times o (low b) (power o z b)) → hi ≡ sum_below o p (λ b. times o (high b) (power o z b)) → between ≡ power o z p →
      plus o lo (times o between hi) ≡ sum_below o rows (λ b. times o (f b) (power o z b))
  unfolding Agree
  powers-halves f low high p rows lo hi between size low_is high_is lo_is hi_is is =
      let term : ℕ → ℕ = λ b. times o (f b) (power o z b) in
      let lower : lo ≡ sum_below o p term = lo_is ∙ sum-same o p _ _ (λ b below. ap (λ k. times o k (power o z b)) (low_is b below)) in
      let upper : times o between hi ≡ sum_below o p (λ b. term (p + b)) =
      ap (λ k. times o k hi) is ∙ ap (times o (power o z p)) hi_is ∙ times-sum o ring (power o z p) p (λ b. times o (high b) (power o z b))
      ∙ sum-same o p _ _ (λ b below.
      ap (λ k. times o (power o z p) (times o k (power o z b))) (high_is b below)
      ∙ identity o ring (power o z p ∷ f (p + b) ∷ power o z b ∷ []) (atom 0 ⊗ (atom 1 ⊗ atom 2)) (atom 1 ⊗ (atom 0 ⊗ atom 2)) tt tt refl
      ∙ ap (times o (f (p + b))) (sym (power-plus o ring z p b))) in
      ap (λ k. plus o k (times o between hi)) lower ∙ ap (plus o (sum_below o p term)) upper ∙ sym (sum-split o ring p p term) ∙ ap (λ k. sum_below o k term) (sym size)

-- a table that is halved once more
pub half-rows : (halvings n rows : ℕ) → 0 < halvings → rows ≡ 2 ^ halvings * n → rows ≡ 2 ^ (halvings - 1) * n + 2 ^ (halvings - 1) * n
half-rows zero n rows some size = absurd (omega (arith, some))
half-rows (suc h) n rows some size =
    let back : suc h - 1 ≡ h = omega arith in
    size ∙ ap (λ k. k * n) (two_halves h) ∙ omega arith ∙ ap (λ k. 2 ^ k * n + 2 ^ k * n) (sym back)

-- blocks of 256 rows
pub block-halvings : (variables n rows : ℕ) → 8 ≤ variables → n ≡ 256 → rows ≡ 2 ^ variables → rows ≡ 2 ^ (variables - 8) * n
block-halvings variables n rows long many size =
    let whole : variables ≡ variables - 8 + 8 = omega (arith, long) in
    size ∙ ap (λ k. 2 ^ k) whole ∙ pow-add 2 (variables - 8) 8 ∙ ap (λ k. 2 ^ (variables - 8) * k) (sym many)
