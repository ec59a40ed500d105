-- The weights of claims that are added one by one.
use Rattle.std.proofs.Common.{◌≡◌, ℕ, zero, suc, ◌+◌, ◌^◌, ◌<◌, ◌≤◌, List, [], ◌∷◌, ◌++◌, length, map, take, get_or, set, if◌then◌else◌, refl, sym, ◌∙◌, ap, subst, arith, ⊎_elim, eq-eqb, ne_eqb, length-set}
use Rattle.std.specs.Prelude.{slice_index}
use Rattle.std.proofs.lemmas.Bool.{cases_eq}
use Rattle.std.proofs.lemmas.List.{length-map, map-append, get_or-set_other}
use Rattle.std.proofs.lemmas.Grind.{get_or-set_at}
use Rattle.sc_definitions.specs.Ring.{Ops, IsRing, plus, times, power}
use Rattle.sc_definitions.specs.Tables.{entries}
use Rattle.sc_definitions.specs.Statements.{weight_of, batched_by_powers}
use Rattle.sc_definitions.proofs.RingLaws.{plus-zero, times-zero}
use Rattle.sc_definitions.proofs.StatementLaws.{element-batched_by_powers, batched_by_powers-append}
use Rattle.sc_soundness.specs.Merged.{WeightedTable}
use Rattle.sc_merge_definitions.specs.Openings.{TableClaim, weight_on, merging_weights, weighted_from, table_at}
use Rattle.sc_merged.specs.declared.weighted.WeightedPoly.{WeightedPoly}
use Rattle.sc_merged.specs.SameRows.{HasSameRows, HaveSameRows}
use Rattle.sc_merged.specs.WeightedPolys.{arity_in, table_in, weights_in, weighted_in}
use Rattle.sc_openings.specs.ClaimedValues.{IsWeighted, AreWeighted}

-- ---- a list that is made one by one

-- one more has what is said of its place
pub each-more : {X : Type 0} (P : ℕ → X → Type 0) (xs : List X) (y : X) → ((j : ℕ) (d : X) → j < length xs → P j (get_or xs j d)) → P (length xs) y →
    (j : ℕ) (d : X) → j < length xs + 1 → P j (get_or (xs ++ y ∷ []) j d)
each-more P [] y so_far here zero d low = here
each-more P [] y so_far here (suc j) d low = absurd (omega (arith, low))
each-more P (x ∷ xs) y so_far here zero d low = so_far 0 d (omega arith)
each-more P (x ∷ xs) y so_far here (suc j) d low =
    each-more (λ k z. P (suc k) z) xs y (λ k e less. so_far (suc k) e (omega (arith, less))) here j d (omega (arith, low))

-- the first ones and the next
pub take-more : {X Y : Type 0} (of : X → Y) (xs : List X) (i : ℕ) (x : X) → i < length xs → x ≡ get_or xs i x → take (i + 1) (map of xs) ≡ take i (map of xs) ++ of x ∷ []
take-more of [] i x low is = absurd (omega (arith, low))
take-more of (y ∷ xs) zero x low is = ap (λ z. of z ∷ []) (sym is)
take-more of (y ∷ xs) (suc i) x low is =
    let next : suc i + 1 ≡ suc (i + 1) = omega arith in
    ap (λ k. take k (map of (y ∷ xs))) next ∙ ap (λ l. of y ∷ l) (take-more of xs i x (omega (arith, low)) is)

pub length-take : {X Y : Type 0} (of : X → Y) (xs : List X) (i : ℕ) → i ≤ length xs → length (take i (map of xs)) ≡ i
length-take of xs zero few = refl
length-take of [] (suc i) few = absurd (omega (arith, few))
length-take of (x ∷ xs) (suc i) few = ap suc (length-take of xs i (omega (arith, few)))

-- ---- the weights of one claim more

module _ (o : Ops) (ring : IsRing o) (c : ℕ) where
  weights_next : (cs : List TableClaim) (x : TableClaim) (j b : ℕ) →
      merging_weights o c (cs ++ x ∷ []) j b ≡ plus o (merging_weights o c cs j b) (times o (power o c (length cs)) (weight_on o j b x))
  unfolding merging_weights
  weights_next cs x j b =
      let ws = map (weight_on o j b) cs in
      ap (batched_by_powers o c 0) (map-append (weight_on o j b) cs (x ∷ [])) ∙ batched_by_powers-append o ring c 0 ws (weight_on o j b x)
      ∙ ap (λ k. plus o (batched_by_powers o c 0 ws) (times o (power o c k) (weight_on o j b x))) (omega (arith, length-map cs (weight_on o j b)))

  -- on its table
  pub weights-here : (cs : List TableClaim) (x : TableClaim) (j b : ℕ) → x.table ≡ j →
      merging_weights o c (cs ++ x ∷ []) j b ≡ plus o (merging_weights o c cs j b) (times o (power o c (length cs)) (weight_of o x.statement.kind b))
  unfolding weight_on
  weights-here cs x j b is =
      weights_next cs x j b
      ∙ ap (λ t. plus o (merging_weights o c cs j b) (times o (power o c (length cs)) (if t then weight_of o x.statement.kind b else 0))) (eq-eqb _ _ is)

  -- on another one
  pub weights-kept : (cs : List TableClaim) (x : TableClaim) (j b : ℕ) → (x.table ≡ j → ⊥) → merging_weights o c (cs ++ x ∷ []) j b ≡ merging_weights o c cs j b
  unfolding weight_on merging_weights
  weights-kept cs x j b other =
      let before = batched_by_powers o c 0 (map (weight_on o j b) cs) in
      weights_next cs x j b
      ∙ ap (λ t. plus o before (times o (power o c (length cs)) (if t then weight_of o x.statement.kind b else 0))) (ne_eqb _ _ other)
      ∙ ap (plus o before) (times-zero o ring (power o c (length cs))) ∙ plus-zero o ring before ∙ element-batched_by_powers o ring c 0 (map (weight_on o j b) cs)

  module _ {EF : Type 0} (number : EF → ℕ) (n many : ℕ) (fs : List (ℕ → ℕ)) where
    -- tables with the weights of claims
    abbrev pub weighted_by : List TableClaim → ℕ → WeightedTable
    weighted_by cs j = record { table = table_at fs j; weights = merging_weights o c cs j }

    -- no claims weigh nothing
    pub none-weighted : (ws : List (WeightedPoly EF)) → AreWeighted number n many (λ j. record { table = table_at fs j; weights = λ b. 0 }) ws → AreWeighted number n many (weighted_by []) ws
    unfolding merging_weights batched_by_powers
    none-weighted ws is = record {
      count = is.count;
      each = λ j d low. (let w = is.each j d low in record { variables = w.variables; rows = record { table = w.rows.table; weights = λ b less. w.rows.weights b less } });
    }

    -- one claim more
    pub more-weighted : (cs : List TableClaim) (x : TableClaim) (ws : List (WeightedPoly EF)) (old new : WeightedPoly EF) → AreWeighted number n many (weighted_by cs) ws → x.table < many →
        old ≡ get_or ws x.table old → arity_in new ≡ arity_in old → table_in number new ≡ table_in number old →
        ((b : ℕ) → b < 2 ^ arity_in old → weights_in number new b ≡ plus o (weights_in number old b) (times o (power o c (length cs)) (weight_of o x.statement.kind b))) →
        AreWeighted number n many (weighted_by (cs ++ x ∷ [])) (set ws x.table new)
    more-weighted cs x ws old new are low at arity table weights = record {
      count = length-set ws x.table new ∙ are.count;
      each = λ j d below. ⊎_elim
          (λ same. subst (IsWeighted number n (weighted_by (cs ++ x ∷ []) j)) (sym (get_or-set_at ws x.table j new d same (subst (λ k. x.table < k) (sym are.count) low))) (here j same))
          (λ other. subst (IsWeighted number n (weighted_by (cs ++ x ∷ []) j)) (sym (get_or-set_other ws x.table j new d other)) (there j d below other))
          (cases_eq j x.table);
    } where
      was : IsWeighted number n (weighted_by cs x.table) old
      was = subst (IsWeighted number n (weighted_by cs x.table)) (sym at) (are.each x.table old low)

      here : (j : ℕ) → j ≡ x.table → IsWeighted number n (weighted_by (cs ++ x ∷ []) j) new
      here j same = subst (λ k. IsWeighted number n (weighted_by (cs ++ x ∷ []) k) new) (sym same)
          (record {
            variables = arity ∙ was.variables;
            rows = record {
              table = λ b less. ap (λ f. f b) table ∙ was.rows.table b less;
              weights = λ b less. weights b (subst (λ k. b < 2 ^ k) (sym was.variables) less)
                  ∙ ap (λ t. plus o t (times o (power o c (length cs)) (weight_of o x.statement.kind b))) (was.rows.weights b less) ∙ sym (weights-here cs x x.table b refl);
            };
          })

      there : (j : ℕ) (d : WeightedPoly EF) → j < many → (j ≡ x.table → ⊥) → IsWeighted number n (weighted_by (cs ++ x ∷ []) j) (get_or ws j d)
      there j d below other =
          let w = are.each j d below in
          record {
            variables = w.variables;
            rows = record { table = w.rows.table; weights = λ b less. w.rows.weights b less ∙ sym (weights-kept cs x j b (λ e. other (sym e))) };
          }

-- ---- all tables with their weights

from_each : {EF : Type 0} (number : EF → ℕ) (n : ℕ) (o : Ops) (c : ℕ) (cs : List TableClaim) (k : ℕ) (ws : List (WeightedPoly EF)) (fs : List (ℕ → ℕ)) → length ws ≡ length fs →
    ((j : ℕ) (d : WeightedPoly EF) → j < length fs → HasSameRows n (weighted_in number (get_or ws j d)) (record { table = table_at fs j; weights = merging_weights o c cs (k + j) })) →
    HaveSameRows n (map (weighted_in number) ws) (weighted_from o c cs k fs)
from_each number n o c cs k [] [] same each = tt
from_each number n o c cs k [] (f ∷ fs) same each = absurd (omega (arith, same))
from_each number n o c cs k (w ∷ ws) [] same each = absurd (omega (arith, same))
from_each number n o c cs k (w ∷ ws) (f ∷ fs) same each =
    let first = each 0 w (omega arith) in
    let here : k + 0 ≡ k = omega arith in (
      subst (λ i. HasSameRows n (weighted_in number w) (record { table = f; weights = merging_weights o c cs i })) here first,
      from_each number n o c cs (suc k) ws fs (omega (arith, same))
          (λ j d low. let next : k + suc j ≡ suc k + j = omega arith in
          subst (λ i. HasSameRows n (weighted_in number (get_or ws j d)) (record { table = table_at fs j; weights = merging_weights o c cs i })) next (each (suc j) d (omega (arith, low)))),
    )

pub from-weighted : {EF : Type 0} (number : EF → ℕ) (n many : ℕ) (o : Ops) (c : ℕ) (cs : List TableClaim) (fs : List (ℕ → ℕ)) (ws : List (WeightedPoly EF)) → length fs ≡ many →
    AreWeighted number n many (λ j. record { table = table_at fs j; weights = merging_weights o c cs j }) ws → HaveSameRows n (map (weighted_in number) ws) (weighted_from o c cs 0 fs)
from-weighted number n many o c cs fs ws size are =
    from_each number n o c cs 0 ws fs (are.count ∙ sym size)
    (λ j d low. let none : j ≡ 0 + j = omega arith in
    subst (λ i. HasSameRows n (weighted_in number (get_or ws j d)) (record { table = table_at fs j; weights = merging_weights o c cs i })) none (are.each j d (subst (λ k. j < k) size low)).rows)

-- entries by their numbers
pub entries-same : {X Y : Type 0} (number : Y → ℕ) (image : X → ℕ) (ys : List Y) (xs : List X) → map number ys ≡ map image xs → entries number ys ≡ entries image xs
unfolding entries
entries-same number image ys xs is = (λ i b. slice_index (is i) b)
