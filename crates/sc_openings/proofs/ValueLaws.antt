-- Claimed and true values, openings, and the first that is false.
use Rattle.std.proofs.Common.{◌≡◌, ℕ, zero, suc, ◌+◌, ◌*◌, ◌%◌, ◌^◌, ◌<◌, ◌≤◌, true, false, List, [], ◌∷◌, ◌++◌, length, map, take, drop, get_or, if◌then◌else◌, Option, Some, None, ⊎_elim, refl, sym, ◌∙◌, ap, subst, arith, eq-eqb, ne_eqb}
use Rattle.std.specs.Prelude.{◌&&◌, nat_eq, option_map, Vec}
use Rattle.std.specs.Global.{Global}
use Rattle.std.specs.Cmp.Lexicographic.{pointwise}
use Rattle.std.proofs.lemmas.Nat.{mod-mul-add}
use Rattle.std.proofs.lemmas.Bool.{cases_eq}
use Rattle.std.proofs.lemmas.List.{length-map, map-append, take_all}
use Rattle.sc_definitions.specs.declared.false_claim.FalseClaim.{FalseClaim}
use Rattle.sc_definitions.specs.Ring.{Ops, IsRing, plus, times}
use Rattle.sc_definitions.specs.Tables.{prefix, entries, rows_of, sum_below, inner_product, equality_weight}
use Rattle.sc_definitions.specs.Statements.{successor, successor_weight, slot_weight, weight_of, true_value, is_true_of, claimed_values}
use Rattle.sc_definitions.proofs.RingLaws.{plus_comm, plus-zero, times_comm, times-one, element-times}
use Rattle.sc_definitions.proofs.Sums.{sum-same, sum-split, element-sum}
use Rattle.sc_definitions.proofs.FindLaws.{take-next, drop-none}
use Rattle.sc_field.specs.Products.{products}
use Rattle.sc_field.proofs.EntryLaws.{entry-embedded}
use Rattle.sc_soundness.specs.Differences.{Difference, first_difference}
use Rattle.sc_merge_definitions.proofs.PlaceLaws.{both-next}
use Rattle.sc_merge_definitions.specs.Openings.{TableClaim, OpeningsCase, statements_of, table_at, true_claim_value, first_false_table_claim, products_sum}
use Rattle.sc_openings.specs.OpeningsJobs.{table_of_entries}
use Rattle.sc_openings.specs.declared.claimed.ClaimedValues.{ClaimedValues}
use Rattle.sc_openings.specs.ClaimedValues.{AreValues, difference_of}

-- ---- a list that is made one by one

-- one more
pub made-next : {X Y : Type 0} (number : Y → ℕ) (of : X → ℕ) (xs : List X) (i : ℕ) (x : X) (done new : List Y) (y : Y) → i < length xs → x ≡ get_or xs i x →
    map number done ≡ take i (map of xs) → number y ≡ of x → new ≡ done ++ y ∷ [] → map number new ≡ take (i + 1) (map of xs)
made-next number of xs i x done new y low at so_far is more =
    ap (map number) more ∙ map-append number done (y ∷ []) ∙ ap (λ l. l ++ number y ∷ []) so_far ∙ ap (λ v. take i (map of xs) ++ v ∷ []) is ∙ sym (take-next of xs i x low at)

-- all of them
pub made-all : {X Y : Type 0} (number : Y → ℕ) (of : X → ℕ) (xs : List X) (i : ℕ) (done : List Y) → length xs ≤ i → map number done ≡ take i (map of xs) → map number done ≡ map of xs
made-all number of xs i done all is = is ∙ take_all i (map of xs) (omega (arith, length-map xs of, all))

-- ---- tables and true values

rows_is : {X : Type 0} (number : X → ℕ) (xs : List X) (b : ℕ) → entries number xs b ≡ rows_of (map number xs) b
unfolding entries rows_of
rows_is number xs b = refl

-- a table of a job is that of its entries' images
pub table-is : {F : Type 0} (emb : ℕ → ℕ) (base : F → ℕ) → emb 0 ≡ 0 → (ts : List (Vec F Global)) (j : ℕ) (d : Vec F Global) → j < length ts →
    entries (λ x. emb (base x)) (get_or ts j d).items ≡ table_at (map (table_of_entries emb) (map (λ t. map base t.items) ts)) j
table-is emb base none [] j d low = absurd (omega (arith, low))
table-is emb base none (t ∷ ts) zero d low = (λ i b. (entry-embedded emb base t.items b none ∙ ap emb (rows_is base t.items b)) i)
table-is emb base none (t ∷ ts) (suc j) d low = table-is emb base none ts j d (omega (arith, low))

-- next rows weigh what their equality weights do
pub slot-plain : (o : Ops) → IsRing o → (zs : List ℕ) (b : ℕ) → b < 2 ^ length zs → slot_weight prefix o [] zs b ≡ successor_weight o zs b
unfolding slot_weight equality_weight successor_weight
slot-plain o ring zs b low =
    let n = 2 ^ length zs in
    let none : 0 * n + b ≡ b = omega arith in
    let at : b % n ≡ b = ap (λ k. k % n) (sym none) ∙ mod-mul-add 0 n b low in
    times_comm o ring 1 (successor_weight o zs (b % n)) ∙ times-one o ring (successor_weight o zs (b % n)) ∙ element-sum o ring n _ ∙ ap (successor_weight o zs) at

pub true-next : {X Y : Type 0} (o : Ops) → IsRing o → (image : X → ℕ) (number : Y → ℕ) (xs : List X) (ws : List Y) (zs : List ℕ) (n : ℕ) → length zs ≡ n → length xs ≡ 2 ^ n →
    ((b : ℕ) → b < 2 ^ n → entries number ws b ≡ successor_weight o zs b) →
    products o (length xs) (entries image xs) (entries number ws) ≡ true_value o n (entries image xs) (successor prefix [] zs)
unfolding products true_value inner_product weight_of
true-next o ring image number xs ws zs n arity size weights =
    ap (λ k. sum_below o k (λ b. times o (entries image xs b) (entries number ws b))) size
    ∙ sum-same o (2 ^ n) _ _ (λ b low. ap (times o (entries image xs b)) (weights b low ∙ sym (slot-plain o ring zs b (subst (λ k. b < 2 ^ k) (sym arity) low))))

-- ---- the sum of the openings times the weights

weigh-more : {X : Type 0} (o : Ops) → IsRing o → (number : X → ℕ) (xs ys : List X) → length xs ≡ length ys →
    sum_below o (length xs) (λ b. times o (entries number xs b) (entries number ys b)) ≡ products_sum o (map number xs) (map number ys)
unfolding sum_below products_sum entries
weigh-more o ring number [] ys same = refl
weigh-more o ring number (x ∷ xs) [] same = absurd (omega (arith, same))
weigh-more o ring number (x ∷ xs) (y ∷ ys) same =
    let f : ℕ → ℕ = λ b. times o (entries number (x ∷ xs) b) (entries number (y ∷ ys) b) in
    let first : 1 + length xs ≡ suc (length xs) = omega arith in
    ap (λ n. sum_below o n f) (sym first) ∙ sum-split o ring 1 (length xs) f
    ∙ ap (λ t. plus o t (sum_below o (length xs) (λ k. f (1 + k)))) (plus_comm o ring 0 (f 0) ∙ plus-zero o ring (f 0) ∙ element-times o ring (number x) (number y))
    ∙ ap (plus o (times o (number x) (number y))) (sum-same o (length xs) (λ k. f (1 + k)) (λ k. f (suc k)) (λ k low. let up : 1 + k ≡ suc k = omega arith in ap f up)
    ∙ weigh-more o ring number xs ys (omega (arith, same)))

pub weigh-is : {X : Type 0} (o : Ops) → IsRing o → (number : X → ℕ) (xs ys : List X) → length xs ≡ length ys →
    products o (length xs) (entries number xs) (entries number ys) ≡ products_sum o (map number xs) (map number ys)
unfolding products
weigh-is o ring number xs ys same = weigh-more o ring number xs ys same

-- ---- lists that are compared one by one

module _ {X : Type 0} (number : X → ℕ) (i : ℕ) (xs ys : List X) where
  module _ {x y : X} (in_xs : i < length xs) (in_ys : i < length ys) (x_is : x ≡ get_or xs i x) (y_is : y ≡ get_or ys i y) where
    pub same-next : number x ≡ number y →
        pointwise nat_eq (drop i (map number xs)) (drop i (map number ys)) ≡ pointwise nat_eq (drop (i + 1) (map number xs)) (drop (i + 1) (map number ys))
    same-next same =
        both-next number i xs ys in_xs in_ys x_is y_is (pointwise nat_eq)
        ∙ ap (λ b. b && pointwise nat_eq (drop (i + 1) (map number xs)) (drop (i + 1) (map number ys))) (eq-eqb _ _ same)

    pub same-other : (number x ≡ number y → ⊥) → pointwise nat_eq (drop i (map number xs)) (drop i (map number ys)) ≡ false
    same-other other =
        both-next number i xs ys in_xs in_ys x_is y_is (pointwise nat_eq)
        ∙ ap (λ b. b && pointwise nat_eq (drop (i + 1) (map number xs)) (drop (i + 1) (map number ys))) (ne_eqb _ _ other)

  pub same-end : length xs ≤ i → length ys ≤ i → pointwise nat_eq (drop i (map number xs)) (drop i (map number ys)) ≡ true
  same-end all too =
      ap (λ l. pointwise nat_eq l (drop i (map number ys))) (drop-none (map number xs) i (omega (arith, length-map xs number, all)))
      ∙ ap (pointwise nat_eq []) (drop-none (map number ys) i (omega (arith, length-map ys number, too)))

-- ---- the first that is false

-- the first false claim is where claimed and true values differ first
pub claims-differ : (q : OpeningsCase) (i : ℕ) (cs : List TableClaim) →
    first_difference i (claimed_values (statements_of cs)) (map (true_claim_value q) cs) ≡ option_map difference_of (first_false_table_claim q i cs)
unfolding first_difference first_false_table_claim is_true_of
claims-differ q i [] = refl
claims-differ q i (c ∷ cs) =
    let here : FalseClaim = record { statement = i; claimed = c.statement.claimed; actual = true_claim_value q c } in
    let rest = first_false_table_claim q (suc i) cs in
    let later = first_difference (suc i) (claimed_values (statements_of cs)) (map (true_claim_value q) cs) in
    ⊎_elim
    (λ same. ap (λ b. if b then later else Some (difference_of here)) (eq-eqb _ _ same) ∙ claims-differ q (suc i) cs
    ∙ ap (option_map difference_of) (sym (ap (λ b. if b then rest else Some here) (eq-eqb _ _ (sym same)))))
    (λ other. ap (λ b. if b then later else Some (difference_of here)) (ne_eqb _ _ other)
    ∙ ap (option_map difference_of) (sym (ap (λ b. if b then rest else Some here) (ne_eqb _ _ (λ e. other (sym e))))))
    (cases_eq c.statement.claimed (true_claim_value q c))

-- what differs tells the claim
abbrev claim_of : Difference → FalseClaim
claim_of d = record { statement = d.place; claimed = d.claimed; actual = d.actual }

back : (x : Option FalseClaim) → option_map claim_of (option_map difference_of x) ≡ x
back None = refl
back (Some c) = refl

same-claim : (x y : Option FalseClaim) → option_map difference_of x ≡ option_map difference_of y → x ≡ y
same-claim x y is = sym (back x) ∙ ap (option_map claim_of) is ∙ back y

pub told-claim : {EF : Type 0} {q : OpeningsCase} {number : EF → ℕ} {values : ClaimedValues EF} {xs ys : List EF} {found : Option FalseClaim} → AreValues number q values →
    xs ≡ values.claimed.items → ys ≡ values.truths.items → option_map difference_of found ≡ first_difference 0 (map number xs) (map number ys) →
    found ≡ first_false_table_claim q 0 q.claims
told-claim {q = q} {number = number} {ys = ys} {found = found} are claimed truths is =
    same-claim found (first_false_table_claim q 0 q.claims)
    (is ∙ ap (λ l. first_difference 0 l (map number ys)) (ap (map number) claimed ∙ are.claimed)
    ∙ ap (first_difference 0 (claimed_values (statements_of q.claims))) (ap (map number) truths ∙ are.truths) ∙ claims-differ q 0 q.claims)
