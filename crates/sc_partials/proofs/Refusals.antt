-- What a refusal leaves of a list that tables of rounds are appended to.
use Rattle.std.proofs.Common.{◌≡◌, ℕ, ◌<◌, ◌≤◌, List, [], ◌∷◌, ◌++◌, Result, Ok, Err, OnErr, sym, ◌∙◌, ap, arith, append_assoc, length-append}
use Rattle.std.proofs.lemmas.List.{append-nil}
use Rattle.sc_definitions.specs.Ring.{Ops}
use Rattle.sc_definitions.specs.Tables.{Order}
use Rattle.sc_definitions.proofs.PartialLaws.{partials_of-none}
use Rattle.sc_definitions.proofs.NextPartialLaws.{next_partials_of-none}
use Rattle.sc_partials.specs.declared.partials.EqPartials.{EqPartials}
use Rattle.sc_partials.specs.declared.next_partials.NextPartials.{NextPartials}
use Rattle.sc_partials.specs.Partials.{rounds_in, opened, Leaves, LeavesSome, GrowsBy}
use Rattle.sc_partials.specs.NextPartials.{next_rounds_in, NextLeaves, NextLeavesSome}

-- what holds anyway holds on an error
pub on-refusal : {T E : Type 0} (r : Result T E) (P : Type 0) → P → OnErr r P
on-refusal (Ok x) P p = tt
on-refusal (Err e) P p = p

-- ---- a list that grows

-- by more than it need be
pub grows-fewer : {X : Type 0} (n l : ℕ) (old less new : List X) → n ≤ l → GrowsBy n old less → new ≡ less → GrowsBy l old new
grows-fewer n l old less new low grown same = record { added = grown.added; few = omega (arith, grown.few, low); kept = same ∙ grown.kept }

-- by one item more
pub grows-more : {X : Type 0} (n l : ℕ) (old less new : List X) (x : X) → n < l → GrowsBy n old less → new ≡ less ++ x ∷ [] → GrowsBy l old new
grows-more n l old less new x low grown more = record {
  added = grown.added ++ x ∷ [];
  few = omega (arith, grown.few, low, length-append grown.added (x ∷ []));
  kept = more ∙ ap (λ xs. xs ++ x ∷ []) grown.kept ∙ append_assoc old grown.added (x ∷ []);
}

-- ---- partial tables

module _ {EF : Type 0} (o : Ops) (number : EF → ℕ) (f : ℕ → ℕ) (zs : List ℕ) (order : Order) where
  -- none was appended
  pub some-none : (l : ℕ) (old : List (EqPartials EF)) → 0 < l → LeavesSome o number (opened order f zs) l old old
  some-none l old some = record {
    count = 0;
    few = some;
    rounds = sym (ap (λ t. rounds_in number old ++ t) (partials_of-none order o f zs) ∙ append-nil (rounds_in number old));
  }

  -- some of fewer were
  pub some-fewer : (n l : ℕ) (old new : List (EqPartials EF)) → n < l → LeavesSome o number (opened order f zs) n old new → LeavesSome o number (opened order f zs) l old new
  some-fewer n l old new low left = record { count = left.count; few = omega (arith, left.few, low); rounds = left.rounds }

  -- all but the last were
  pub some-cut : (n l : ℕ) (old less new : List (EqPartials EF)) (x : EF) → n < l → Leaves o number (opened order f zs) n old less x → new ≡ less →
      LeavesSome o number (opened order f zs) l old new
  some-cut n l old less new x low left same = record { count = n; few = low; rounds = ap (rounds_in number) same ∙ left.rounds }

  -- ---- the tables of a successor

  pub next-some_none : (l : ℕ) (old : List (NextPartials EF)) → 0 < l → NextLeavesSome o number (opened order f zs) l old old
  next-some_none l old some = record {
    count = 0;
    few = some;
    rounds = sym (ap (λ t. next_rounds_in number old ++ t) (next_partials_of-none order o f zs) ∙ append-nil (next_rounds_in number old));
  }

  pub next-some_fewer : (n l : ℕ) (old new : List (NextPartials EF)) → n < l → NextLeavesSome o number (opened order f zs) n old new →
      NextLeavesSome o number (opened order f zs) l old new
  next-some_fewer n l old new low left = record { count = left.count; few = omega (arith, left.few, low); rounds = left.rounds }

  pub next-some_cut : (n l : ℕ) (old less new : List (NextPartials EF)) (x : EF) → n < l → NextLeaves o number (opened order f zs) n old less x → new ≡ less →
      NextLeavesSome o number (opened order f zs) l old new
  next-some_cut n l old less new x low left same = record { count = n; few = low; rounds = ap (next_rounds_in number) same ∙ left.rounds }
