-- What a book has recorded: its values, and statements that are put between others.
use Rattle.std.proofs.Common.{◌≡◌, ℕ, zero, suc, ◌+◌, ◌<◌, All, List, [], ◌∷◌, ◌++◌, length, map, take, get_or, flat_map, replicate, sym, ◌∙◌, ap, refl, append-nil}
use Rattle.std.proofs.lemmas.List.{take_more, map-append, append_assoc}
use Rattle.std.proofs.lemmas.Grind.{flat_map-append}
use Rattle.std.proofs.lemmas.List.Elements.{All-nil, All-cons, All-head, All-tail, All-append}
use Rattle.sc_definitions.specs.Ring.{Ops}
use Rattle.sc_definitions.specs.Statements.{Kind, Statement, claims, claimed_values, batched_by_powers, batched_claim}
use Rattle.sc_statements.specs.declared.claim.Claim.{Claim}
use Rattle.sc_layout.specs.declared.book.Book.{Book}
use Rattle.sc_layout.specs.Books.{recorded_by, virtual_statements}
use Rattle.sc_layout.specs.Openings.{Opened, opened_statements, current_at, next_at, statements_of}

-- ---- the values that are claimed

-- those of one opening, in order
abbrev pub opened_values : Opened → List ℕ
opened_values x = x.current ++ x.next

pub claimed-at : (k : Kind) (vs : List ℕ) → claimed_values (map (claims k) vs) ≡ vs
claimed-at k [] = refl
claimed-at k (v ∷ vs) = ap (λ l. v ∷ l) (claimed-at k vs)

pub claimed-opened : (x : Opened) → claimed_values (opened_statements x) ≡ opened_values x
claimed-opened x =
    map-append (λ (s : Statement). s.claimed) (map (claims (current_at x.point)) x.current) (map (claims (next_at x.point)) x.next)
    ∙ ap (λ l. l ++ claimed_values (map (claims (next_at x.point)) x.next)) (claimed-at (current_at x.point) x.current)
    ∙ ap (λ l. x.current ++ l) (claimed-at (next_at x.point) x.next)

pub claimed-concrete : {M : Type 0} (of : M → Opened) (ms : List M) →
    claimed_values (flat_map opened_statements (map of ms)) ≡ flat_map (λ m. opened_values (of m)) ms
claimed-concrete of [] = refl
claimed-concrete of (m ∷ ms) =
    map-append (λ (s : Statement). s.claimed) (opened_statements (of m)) (flat_map opened_statements (map of ms))
    ∙ ap (λ l. l ++ claimed_values (flat_map opened_statements (map of ms))) (claimed-opened (of m))
    ∙ ap (λ l. opened_values (of m) ++ l) (claimed-concrete of ms)

pub claimed-virtual : {EF : Type 0} (number : EF → ℕ) (cs : List (Claim EF (List EF) Unit)) → claimed_values (virtual_statements number cs) ≡ map (λ c. number c.eval) cs
claimed-virtual number [] = refl
claimed-virtual number (c ∷ cs) = ap (λ l. number c.eval ∷ l) (claimed-virtual number cs)

-- one opening more
pub flat-more : {M Y : Type 0} (f : M → List Y) (ms : List M) (i : ℕ) (m : M) → i < length ms → m ≡ get_or ms i m →
    flat_map f (take (i + 1) ms) ≡ flat_map f (take i ms) ++ f m
flat-more f ms i m low is =
    ap (flat_map f) (take_more ms i m low ∙ ap (λ y. take i ms ++ y ∷ []) (sym is)) ∙ flat_map-append f (take i ms) (m ∷ [])
    ∙ ap (λ l. flat_map f (take i ms) ++ l) (append-nil (f m))

-- a batch of all values is that of the book's statements
pub batched-book : {M EF : Type 0} (o : Ops) (number : EF → ℕ) (a : ℕ) (of : M → Opened) (b : Book M EF) →
    batched_by_powers o a 0 (flat_map (λ m. opened_values (of m)) b.concrete.items ++ map (λ c. number c.eval) b.virtual_claims.items)
    ≡ batched_claim o a 0 (statements_of (recorded_by of number b))
unfolding batched_claim
batched-book o number a of b =
    ap (batched_by_powers o a 0) (sym (map-append (λ (t : Statement). t.claimed) (flat_map opened_statements (map of b.concrete.items)) (virtual_statements number b.virtual_claims.items)
    ∙ ap (λ l. l ++ claimed_values (virtual_statements number b.virtual_claims.items)) (claimed-concrete of b.concrete.items)
    ∙ ap (λ l. flat_map (λ m. opened_values (of m)) b.concrete.items ++ l) (claimed-virtual number b.virtual_claims.items)))

-- ---- statements that are put between others

module _ (P : Statement → Type 0) where
  pub all-between : (ss ts us : List Statement) → All P (ss ++ us) → All P ts → All P (ss ++ ts ++ us)
  all-between [] ts us a b = All-append P ts us b a
  all-between (s ∷ ss) ts us a b = All-cons P s (ss ++ ts ++ us) (All-head P s (ss ++ us) a) (all-between ss ts us (All-tail P s (ss ++ us) a) b)

  -- the same claim of values that are all one
  pub all-claims : (k : Kind) (v m : ℕ) → P (claims k v) → All P (map (claims k) (replicate m v))
  all-claims k v zero is = All-nil P
  all-claims k v (suc m) is = All-cons P (claims k v) (map (claims k) (replicate m v)) is (all-claims k v m is)

-- the statements of a book with one concrete claim more
pub concrete-more : (cs : List Opened) (x : Opened) (vs : List Statement) →
    flat_map opened_statements (cs ++ x ∷ []) ++ vs ≡ flat_map opened_statements cs ++ opened_statements x ++ vs
concrete-more cs x vs =
    ap (λ l. l ++ vs) (flat_map-append opened_statements cs (x ∷ []) ∙ ap (λ l. flat_map opened_statements cs ++ l) (append-nil (opened_statements x)))

-- and with one virtual claim more
pub virtual-more : (cs : List Opened) (vs : List Statement) (s : Statement) → flat_map opened_statements cs ++ (vs ++ s ∷ []) ≡ flat_map opened_statements cs ++ vs ++ s ∷ []
virtual-more cs vs s = sym (append_assoc (flat_map opened_statements cs) vs (s ∷ []))
