-- What statements claim, less their true values, one after the other.
use Rattle.std.proofs.Common.{◌≡◌, ℕ, ◌+◌, ◌<◌, ◌≤◌, List, [], ◌∷◌, ◌++◌, length, map, take, slice_index, refl, sym, ◌∙◌, ap, arith, length-append}
use Rattle.std.proofs.lemmas.List.{append-nil, append_assoc, map-append, length-map, take-map, take_all}
use Rattle.sc_definitions.specs.Ring.{Ops, minus}
use Rattle.sc_definitions.specs.Statements.{Statement, true_value, true_values, claimed_values}
use Rattle.sc_definitions.specs.Lucky.{excess}
use Rattle.sc_statements.specs.Gains.{GainsFirst}
use Rattle.sc_statements.proofs.Places.{at-place, taken-at, read-at}

module _ {X : Type 0} (number : X → ℕ) (o : Ops) (n : ℕ) (f : ℕ → ℕ) (ss : List Statement) where
  -- A list is what it was, and after it stand the excesses of the first i statements.
  pub record HasGained (i : ℕ) (old new : List X) : Type 0 where
    pub added : List X
    pub count : length added ≡ i
    pub kept : new ≡ old ++ added
    pub are : map number added ≡ map (excess o n f) (take i ss)

  -- of no statement
  pub gained-none : (old : List X) → HasGained 0 old old
  gained-none old = record { added = []; count = refl; kept = sym (append-nil old); are = refl }

  -- that of one statement more
  pub gained-more : (i : ℕ) → i < length ss → (old now new : List X) (x : X) (claimed actual : ℕ) → HasGained i old now → new ≡ now ++ x ∷ [] →
      number x ≡ minus o claimed actual → claimed ≡ slice_index (claimed_values ss) i → actual ≡ slice_index (true_values o n f ss) i → HasGained (i + 1) old new
  unfolding excess
  gained-more i low old now new x claimed actual so_far pushed is claims truly =
      let there = at-place ss i low in
      let s = there.0 in
      let value : number x ≡ excess o n f s =
      is ∙ ap (λ c. minus o c actual) (claims ∙ read-at (λ t. t.claimed) ss i s there.1)
      ∙ ap (minus o s.claimed) (truly ∙ read-at (λ t. true_value o n f t.kind) ss i s there.1) in
      record {
        added = so_far.added ++ x ∷ [];
        count = length-append so_far.added (x ∷ []) ∙ ap (λ k. k + 1) so_far.count;
        kept = pushed ∙ ap (λ l. l ++ x ∷ []) so_far.kept ∙ append_assoc old so_far.added (x ∷ []);
        are = map-append number so_far.added (x ∷ []) ∙ ap (λ l. l ++ number x ∷ []) so_far.are ∙ ap (λ v. map (excess o n f) (take i ss) ++ v ∷ []) value
            ∙ sym (map-append (excess o n f) (take i ss) (s ∷ [])) ∙ ap (map (excess o n f)) (sym (taken-at ss i s there.1));
      }

  -- of all
  pub gained-all : (i : ℕ) → length ss ≤ i → (old new : List X) → HasGained i old new → map number new ≡ map number old ++ map (excess o n f) ss
  gained-all i past old new gained =
      ap (map number) gained.kept ∙ map-append number old gained.added
      ∙ ap (λ l. map number old ++ l) (gained.are ∙ ap (map (excess o n f)) (take_all i ss past))

  -- of fewer than all
  pub gained-some : (i : ℕ) → i < length ss → (old now new : List X) → HasGained i old now → new ≡ now → GainsFirst number (map (excess o n f) ss) old new
  gained-some i low old now new gained same = record {
    added = gained.added;
    few = omega (arith, low, gained.count, length-map ss (excess o n f));
    kept = same ∙ gained.kept;
    are = gained.are ∙ sym (take-map (excess o n f) i ss) ∙ ap (λ k. take k (map (excess o n f) ss)) (sym gained.count);
  }
