-- Statements of several groups that claim other values, one group after the other.
use Rattle.std.proofs.Common.{◌≡◌, ℕ, zero, suc, ◌+◌, ◌-◌, ◌<◌, ◌≤◌, All, List, [], ◌∷◌, ◌++◌, length, get_or, set, take, drop, sym, ◌∙◌, ap, refl, arith, add-one}
use Rattle.std.specs.List.{flat_map}
use Rattle.std.proofs.lemmas.List.{append-nil, length-append, length-take, length-drop, map-append, get_or-drop, take_more_set, take_all, drop-set-lt}
use Rattle.std.proofs.lemmas.List.Concat.{flat_map-append}
use Rattle.std.proofs.lemmas.List.Folds.{length-flat_map-take}
use Rattle.std.proofs.Math.Seq.{take-add}
use Rattle.std.proofs.lemmas.List.Elements.{All-set}
use Rattle.sc_definitions.specs.Ring.{Ops}
use Rattle.sc_definitions.specs.Statements.{Statement}
use Rattle.sc_statements.specs.Claimed.{with_values, stated_truly, all_stated_truly}
use Rattle.sc_constraints.proofs.GroupSteps.{groups-more}
use Rattle.sc_statements.proofs.ClaimLaws.{with_values-append}

drop_later : {X : Type 0} (xs : List X) (i : ℕ) → drop (suc i) xs ≡ drop 1 (drop i xs)
drop_later [] zero = refl
drop_later [] (suc i) = refl
drop_later (x ∷ xs) zero = refl
drop_later (x ∷ xs) (suc i) = drop_later xs i

-- The groups before a place have these statements now; those from it on are as they were.
pub record IsUnderWay {G : Type 0} (statements_of : G → List Statement) (arity : G → ℕ) (n : ℕ) (old now : List G) (i : ℕ) (done : List Statement) : Type 0 where
  pub statements : flat_map statements_of (take i now) ≡ done
  pub rest : drop i now ≡ drop i old
  pub fits : All (λ y. arity y ≡ n) now

module _ {G : Type 0} (statements_of : G → List Statement) (arity : G → ℕ) (n : ℕ) (old : List G) where
  pub none_yet : All (λ y. arity y ≡ n) old → IsUnderWay statements_of arity n old old 0 []
  none_yet fits = record { statements = refl; rest = refl; fits = fits }

  module _ (now : List G) (i : ℕ) (done : List Statement) (so_far : IsUnderWay statements_of arity n old now i done) where
    -- no group is left
    pub all-done : length now ≤ i → flat_map statements_of now ≡ done
    all-done past = ap (flat_map statements_of) (sym (take_all i now past)) ∙ so_far.statements

    -- the groups before the place were all
    pub all-old : length now ≤ i → take i old ≡ old
    all-old past =
        let none : length (drop i now) ≡ 0 = length-drop i now ∙ omega (arith, past) in
        let left : length old - i ≡ 0 = sym (length-drop i old) ∙ ap length (sym so_far.rest) ∙ none in
        take_all i old (omega (arith, left))

    module _ (x : G) (low : i < length now) (at : x ≡ get_or now i x) where
      pub inside : i < length old
      inside =
          let same : length now - i ≡ length old - i = sym (length-drop i now) ∙ ap length so_far.rest ∙ length-drop i old in
          omega (arith, same, low)

      pub at-old : x ≡ get_or old i x
      at-old =
          let none : i + 0 ≡ i = omega arith in
          at ∙ sym (ap (λ k. get_or now k x) none) ∙ sym (get_or-drop i now 0 x) ∙ ap (λ l. get_or l 0 x) so_far.rest
          ∙ get_or-drop i old 0 x ∙ ap (λ k. get_or old k x) none

      pub more-old : flat_map statements_of (take (i + 1) old) ≡ flat_map statements_of (take i old) ++ statements_of x
      more-old = groups-more statements_of old i x inside at-old

      pub arity-here : arity x ≡ n
      arity-here = ap arity at ∙ so_far.fits i x low

      -- one group more
      pub one-more : (y : G) (longer new : List Statement) → statements_of y ≡ new → arity y ≡ arity x → longer ≡ done ++ new → IsUnderWay statements_of arity n old (set now i y) (i + 1) longer
      one-more y longer new is kept split = record {
        statements = ap (flat_map statements_of) (take_more_set now i y low) ∙ flat_map-append statements_of (take i now) (y ∷ [])
            ∙ ap (λ l. flat_map statements_of (take i now) ++ l) (append-nil (statements_of y) ∙ is) ∙ ap (λ l. l ++ new) so_far.statements ∙ sym split;
        rest = ap (λ k. drop k (set now i y)) (add-one i) ∙ drop-set-lt (suc i) now i y (omega arith) ∙ drop_later now i ∙ ap (drop 1) so_far.rest
            ∙ sym (drop_later old i) ∙ ap (λ k. drop k old) (sym (add-one i));
        fits = All-set (λ z. arity z ≡ n) now i y (kept ∙ arity-here) so_far.fits;
      }

-- ---- true values

-- one group more claims its true values
pub truth-more : {G : Type 0} (statements_of : G → List Statement) (arity : G → ℕ) (o : Ops) (n : ℕ) (f : ℕ → ℕ) (old now : List G) (i : ℕ) (x y : G) →
    IsUnderWay statements_of arity n old now i (all_stated_truly o n f (flat_map statements_of (take i old))) → i < length now → x ≡ get_or now i x →
    statements_of y ≡ all_stated_truly o (arity x) f (statements_of x) → arity y ≡ arity x →
    IsUnderWay statements_of arity n old (set now i y) (i + 1) (all_stated_truly o n f (flat_map statements_of (take (i + 1) old)))
truth-more statements_of arity o n f old now i x y so_far low at is kept =
    let done = all_stated_truly o n f (flat_map statements_of (take i old)) in
    one-more statements_of arity n old now i done so_far x low at y _ (all_stated_truly o n f (statements_of x))
    (is ∙ ap (λ k. all_stated_truly o k f (statements_of x)) (arity-here statements_of arity n old now i done so_far x low at)) kept
    (ap (all_stated_truly o n f) (more-old statements_of arity n old now i done so_far x low at)
    ∙ map-append (stated_truly o n f) (flat_map statements_of (take i old)) (statements_of x))

-- ---- given values

-- as many values were taken as the groups before a place have statements, which claim them
pub record AreClaimed {G : Type 0} (statements_of : G → List Statement) (arity : G → ℕ) (n : ℕ) (old now : List G) (i from : ℕ) (values : List ℕ) : Type 0 where
  pub way : IsUnderWay statements_of arity n old now i (with_values (flat_map statements_of (take i old)) (take from values))
  pub count : from ≡ length (flat_map statements_of (take i old))

module _ {G : Type 0} (statements_of : G → List Statement) (arity : G → ℕ) (n : ℕ) (old now : List G) (i from : ℕ) (values : List ℕ) (so_far : AreClaimed statements_of arity n old now i from values)
    (same : length values ≡ length (flat_map statements_of old)) where
  module _ (x : G) (low : i < length now) (at : x ≡ get_or now i x) where
    -- there is a value for each statement of the next group
    pub claimed-within : (count : ℕ) → count ≡ length (statements_of x) → from + count ≤ length values
    claimed-within count is =
        let done = with_values (flat_map statements_of (take i old)) (take from values) in
        let here : length (statements_of x) ≡ length (statements_of (get_or old i x)) =
        ap (λ y. length (statements_of y)) (at-old statements_of arity n old now i done so_far.way x low at) in
        omega (
          arith,
          length-flat_map-take statements_of old i x (inside statements_of arity n old now i done so_far.way x low at),
          here,
          is,
          same,
          so_far.count,
        )

    -- one group more claims those that stand at its places
    pub claimed-more : (count : ℕ) (part : List ℕ) (y : G) → count ≡ length (statements_of x) → part ≡ take count (drop from values) → statements_of y ≡ with_values (statements_of x) part → arity y ≡ arity x →
        AreClaimed statements_of arity n old (set now i y) (i + 1) (from + count) values
    claimed-more count part y is cut are kept =
        let passed = flat_map statements_of (take i old) in
        let done = with_values passed (take from values) in
        let more = more-old statements_of arity n old now i done so_far.way x low at in
        let size : length (take from values) ≡ length passed = length-take from values ∙ omega (arith, claimed-within count is, so_far.count) in
        record {
          way = one-more statements_of arity n old now i done so_far.way x low at y _ (with_values (statements_of x) part) are kept
              (ap (λ l. with_values l (take (from + count) values)) more ∙ ap (with_values (passed ++ statements_of x)) (take-add from count values ∙ ap (λ l. take from values ++ l) (sym cut))
              ∙ with_values-append passed (statements_of x) (take from values) part size);
          count = omega (arith, ap length more, length-append passed (statements_of x), is, so_far.count);
        }

  -- no group is left
  pub claimed-all : length now ≤ i → flat_map statements_of now ≡ with_values (flat_map statements_of old) values
  claimed-all past =
      let done = with_values (flat_map statements_of (take i old)) (take from values) in
      let whole = all-old statements_of arity n old now i done so_far.way past in
      let enough : length values ≤ from = omega (arith, same, so_far.count, ap (λ l. length (flat_map statements_of l)) whole) in
      all-done statements_of arity n old now i done so_far.way past ∙ ap (λ l. with_values (flat_map statements_of l) (take from values)) whole
      ∙ ap (with_values (flat_map statements_of old)) (take_all from values enough)
