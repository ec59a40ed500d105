-- The values of openings are the true ones.
use mathlib.Core.Path.{fun_ext}
use Rattle.std.specs.Prelude.{OnOk, OnErr}
use Rattle.std.proofs.Common.{Result, Ok, Err, ◌≡◌, ℕ, ◌+◌, All, List, [], ◌∷◌, ◌++◌, length, map, replicate, refl, ap, sym, subst, ◌∙◌}
use Rattle.std.proofs.lemmas.List.{map-append, replicate-append-replicate}
use Rattle.std.proofs.lemmas.List.Elements.{All-nil, All-cons, All-append}
use Rattle.sc_definitions.specs.Ring.{Ops, IsRing}
use Rattle.sc_definitions.specs.Tables.{Order, prefix, entries}
use Rattle.sc_definitions.specs.Statements.{Kind, true_value, weight_of, successor_weight}
use Rattle.sc_definitions.proofs.SameTables.{inner_product-same}
use Rattle.sc_definitions.proofs.PartLaws.{successor-kind}
use Rattle.sc_definitions.proofs.StatementLaws.{true_value-equality}
use Rattle.sc_table.proofs.EntryLaws.{entry-embedded}
use Rattle.sc_statements.specs.declared.claim.Claim.{Claim}
use Rattle.sc_partials.specs.Partials.{partial_sums_of}
use Rattle.sc_partials.specs.NextPartials.{next_sums_of}
use Rattle.sc_layout.specs.Openings.{current_at, next_at}

module _ (o : Ops) (ring : IsRing o) (order : Order) (f : ℕ → ℕ) (zs : List ℕ) (l : ℕ) where
  -- what is answered with partial tables
  pub current-value : (v : ℕ) → v ≡ (partial_sums_of order o f zs l).value → v ≡ true_value o (length zs) f (current_at zs)
  unfolding partial_sums_of
  current-value v is = is ∙ sym (true_value-equality o f zs)

  -- and with those of a successor
  pub next-value : (v : ℕ) → v ≡ (next_sums_of order o f zs l).value → v ≡ true_value o (length zs) f (next_at zs)
  unfolding next_sums_of true_value
  next-value v is = is ∙ inner_product-same o (length zs) f f (successor_weight o zs) (weight_of o (next_at zs)) (λ b _. refl) (λ b low. sym (successor-kind o ring prefix zs b low))

-- one value more
pub claims-more : {EF P D : Type 0} (number : EF → ℕ) (v i : ℕ) (cs ds : List (Claim EF P D)) (c : Claim EF P D) → number c.eval ≡ v →
    map (λ k. number k.eval) cs ≡ replicate i v → ds ≡ cs ++ c ∷ [] → map (λ k. number k.eval) ds ≡ replicate (i + 1) v
claims-more number v i cs ds c is before put =
    ap (map (λ k. number k.eval)) put ∙ map-append (λ k. number k.eval) cs (c ∷ []) ∙ ap (λ l. l ++ number c.eval ∷ []) before ∙ ap (λ x. replicate i v ++ x ∷ []) is
    ∙ replicate-append-replicate i 1 v

-- what holds of all items, and of one more
pub all-more : {X : Type 0} (P : X → Type 0) (xs ys : List X) (x : X) → P x → All P xs → ys ≡ xs ++ x ∷ [] → All P ys
all-more P xs ys x is before put = subst (All P) (sym put) (All-append P xs (x ∷ []) before (All-cons P x [] is (All-nil P)))

-- by the answer of a call that adds the item, or adds none
pub all-added : {X Y E : Type 0} (P : X → Type 0) (xs ys : List X) (x : X) (result : Result Y E) → P x → All P xs → OnOk result (ys ≡ xs ++ x ∷ []) → OnErr result (ys ≡ xs) → All P ys
all-added P xs ys x (Ok y) is before put same = all-more P xs ys x is before put
all-added P xs ys x (Err r) is before put same = subst (All P) (sym same) before

-- the entries of a table's images are the images of its entries
pub images : {X : Type 0} (h : ℕ → ℕ) (number : X → ℕ) (xs : List X) (t : ℕ → ℕ) → h 0 ≡ 0 → entries number xs ≡ t → entries (λ x. h (number x)) xs ≡ (λ b. h (t b))
images h number xs t kept is = fun_ext (λ b. entry-embedded h number xs b kept ∙ ap (λ f. h (f b)) is)

-- the true value at a point, by other names of the table, the point and their number of variables
pub value-as : (kind : List ℕ → Kind) (o : Ops) (n : ℕ) (f f' : ℕ → ℕ) (ys zs : List ℕ) → f ≡ f' → ys ≡ zs → length zs ≡ n →
    true_value o (length ys) f (kind ys) ≡ true_value o n f' (kind zs)
value-as kind o n f f' ys zs same_table same_point size =
    ap (λ l. true_value o (length l) f (kind l)) same_point ∙ ap (λ k. true_value o k f (kind zs)) size ∙ ap (λ t. true_value o n t (kind zs)) same_table
