-- Lists that are joined, and draws, one more at a time.
use Rattle.std.proofs.Common.{◌≡◌, ℕ, zero, suc, ◌+◌, ◌*◌, ◌/◌, ◌%◌, ◌<◌, ◌==◌, if◌then◌else◌, List, [], ◌∷◌, ◌++◌, length, map, take, get_or, Vec, Result, Ok, Err, OnErr, inr, refl, ap, sym, ◌∙◌, arith, length-append, subst, All}
use Rattle.std.proofs.Math.Nat.{zero-mul, suc-mul, add_comm}
use Rattle.std.proofs.lemmas.List.{take_more, map-append, length-take-le, length-map, append-nil}
use Rattle.std.proofs.lemmas.List.Elements.{All-nil, All-push}
use Rattle.std.proofs.lemmas.Grind.{flat_map-append}
use Rattle.std.specs.List.{range_with_len, flat_map}
use Rattle.rand_core.specs.Stream.{Stream, next_u64}
use Rattle.sc_commitments.specs.Draws.{draws_from, lists_from, masks_from, Drawn, drawn, SomeDrawn, SomeMasksDrawn}
use Rattle.sc_commitments.specs.Codes.{joined, values_at}
use Rattle.sc_definitions.specs.Ring.{Ops}
use Rattle.sc_definitions.specs.Polynomials.{poly_at}
use Rattle.sc_commitments.specs.Matrices.{Matrix, rows_in, numbers_in, lists_in}
use Rattle.sc_commitments.specs.Hashed.{matrix_bytes}
use Rattle.sc_definitions.specs.Seeds.{eight_bytes}

-- one list more of each
pub joined-more : (ms rs : List (List ℕ)) (m r : List ℕ) → length ms ≡ length rs → joined (ms ++ m ∷ []) (rs ++ r ∷ []) ≡ joined ms rs ++ (m ++ r) ∷ []
joined-more [] [] m r e = refl
joined-more [] (q ∷ rs) m r e = absurd (omega (arith, e))
joined-more (p ∷ ms) [] m r e = absurd (omega (arith, e))
joined-more (p ∷ ms) (q ∷ rs) m r e = ap (λ t. (p ++ q) ∷ t) (joined-more ms rs m r (omega (arith, e)))

-- one draw more
draws-next : (size n : ℕ) (s : Stream) → draws_from size (n + 1) s ≡ ((draws_from size n s).0 ++ (next_u64 (draws_from size n s).1).0 % size ∷ [], (next_u64 (draws_from size n s).1).1)
unfolding draws_from
draws-next size n s = let e : n + 1 ≡ suc n = omega arith in ap (λ k. draws_from size k s) e

pub draws-none : (size : ℕ) (s : Stream) → draws_from size 0 s ≡ ([], s)
unfolding draws_from
draws-none size s = refl

pub draws-push : {X : Type 0} (number : X → ℕ) (size n : ℕ) (s s' t : Stream) (xs ys : List X) (x : X) → ys ≡ xs ++ x ∷ [] → map number xs ≡ (draws_from size n s).0 →
    s' ≡ (draws_from size n s).1 → number x ≡ (next_u64 s').0 % size → t ≡ (next_u64 s').1 →
    (map number ys ≡ (draws_from size (n + 1) s).0) × (t ≡ (draws_from size (n + 1) s).1)
draws-push number size n s s' t xs ys x put so_far at drawn left = (
  ap (map number) put ∙ map-append number xs (x ∷ []) ∙ ap (λ l. l ++ number x ∷ []) so_far
      ∙ ap (λ v. (draws_from size n s).0 ++ v ∷ []) (drawn ∙ ap (λ u. (next_u64 u).0 % size) at) ∙ sym (ap (λ p. p.0) (draws-next size n s)),
  left ∙ ap (λ u. (next_u64 u).1) at ∙ sym (ap (λ p. p.1) (draws-next size n s)),
)

-- one list more is drawn
lists-next : (from : Stream → List ℕ × Stream) (n : ℕ) (s : Stream) →
    lists_from from (n + 1) s ≡ ((lists_from from n s).0 ++ (from (lists_from from n s).1).0 ∷ [], (from (lists_from from n s).1).1)
unfolding lists_from
lists-next from n s = let e : n + 1 ≡ suc n = omega arith in ap (λ k. lists_from from k s) e

pub lists-none : (from : Stream → List ℕ × Stream) (s : Stream) → lists_from from 0 s ≡ ([], s)
unfolding lists_from
lists-none from s = refl

-- nothing is drawn yet
pub none-drawn : {T E : Type 0} (result : Result T E) (from : Stream → List ℕ × Stream) (n : ℕ) (s : Stream) → OnErr result (SomeDrawn from n s s)
none-drawn (Ok made) from n s = _
none-drawn (Err error) from n s = record { count = 0; most = omega arith; left = sym (ap (λ p. p.1) (lists-none from s)) }

-- all masks and their randomness are drawn
pub masks-drawn : (message randomness : Stream → List ℕ × Stream) (n : ℕ) (before after : Stream) (masks rand : List (List ℕ)) →
    drawn masks rand after ≡ masks_from message randomness n before → SomeMasksDrawn message randomness n before after
masks-drawn message randomness n before after masks rand all = inr (record { count = n; most = omega arith; left = ap (λ (d : Drawn). d.left) all })

-- and where that is so anyway, it is so on a refusal
pub masks-drawn-refused : {T E : Type 0} (result : Result T E) (message randomness : Stream → List ℕ × Stream) (n : ℕ) (before after : Stream) (masks rand : List (List ℕ)) →
    drawn masks rand after ≡ masks_from message randomness n before → OnErr result (SomeMasksDrawn message randomness n before after)
masks-drawn-refused (Ok made) message randomness n before after masks rand all = _
masks-drawn-refused (Err error) message randomness n before after masks rand all = masks-drawn message randomness n before after masks rand all

pub lists-push : {X Z : Type 0} (number : X → ℕ) (from : Stream → List ℕ × Stream) (n : ℕ) (s s' t : Stream) (xs ys : List (Vec X Z)) (v : Vec X Z) →
    ys ≡ xs ++ v ∷ [] → lists_in number xs ≡ (lists_from from n s).0 → s' ≡ (lists_from from n s).1 → (numbers_in number v, t) ≡ from s' →
    (lists_in number ys ≡ (lists_from from (n + 1) s).0) × (t ≡ (lists_from from (n + 1) s).1)
lists-push number from n s s' t xs ys v put so_far at drawn = (
  ap (lists_in number) put ∙ map-append (numbers_in number) xs (v ∷ []) ∙ ap (λ l. l ++ numbers_in number v ∷ []) so_far
      ∙ ap (λ l. (lists_from from n s).0 ++ l ∷ []) (ap (λ p. p.0) drawn ∙ ap (λ u. (from u).0) at) ∙ sym (ap (λ p. p.0) (lists-next from n s)),
  ap (λ p. p.1) drawn ∙ ap (λ u. (from u).1) at ∙ sym (ap (λ p. p.1) (lists-next from n s)),
)

pub lengths-none : {X Z : Type 0} (k : ℕ) (xs : List (Vec X Z)) → xs ≡ [] → All (λ u. length u.items ≡ k) xs
lengths-none k xs none = subst (All (λ u. length u.items ≡ k)) (sym none) (All-nil (λ u. length u.items ≡ k))

pub lengths-push : {X Z : Type 0} (k : ℕ) (xs ys : List (Vec X Z)) (v : Vec X Z) → ys ≡ xs ++ v ∷ [] → All (λ u. length u.items ≡ k) xs →
    length v.items ≡ k → All (λ u. length u.items ≡ k) ys
lengths-push k xs ys v put so_far size = subst (All (λ u. length u.items ≡ k)) (sym put) (All-push (λ u. length u.items ≡ k) xs v so_far size)

-- one list more is joined
lists-take : {X Z : Type 0} (number : X → ℕ) (vs : List (Vec X Z)) (j : ℕ) (v : Vec X Z) → j < length vs → v ≡ get_or vs j v →
    lists_in number (take (j + 1) vs) ≡ lists_in number (take j vs) ++ numbers_in number v ∷ []
lists-take number vs j v low is =
    ap (lists_in number) (take_more vs j v low) ∙ map-append (numbers_in number) (take j vs) (get_or vs j v ∷ []) ∙ ap (λ u. lists_in number (take j vs) ++ numbers_in number u ∷ []) (sym is)

length-lists : {X Z : Type 0} (number : X → ℕ) (vs : List (Vec X Z)) → length (lists_in number vs) ≡ length vs
length-lists number [] = refl
length-lists number (v ∷ vs) = ap suc (length-lists number vs)

pub joined-push : {X Z : Type 0} (number : X → ℕ) (ms rs : List (Vec X Z)) (ls ls' : List (Vec X Z)) (j : ℕ) (m r l : Vec X Z) → j < length ms → length ms ≡ length rs →
    m ≡ get_or ms j m → r ≡ get_or rs j r → l.items ≡ m.items ++ r.items → ls' ≡ ls ++ l ∷ [] →
    lists_in number ls ≡ joined (lists_in number (take j ms)) (lists_in number (take j rs)) →
    lists_in number ls' ≡ joined (lists_in number (take (j + 1) ms)) (lists_in number (take (j + 1) rs))
joined-push number ms rs ls ls' j m r l low same is is' items put so_far =
    let size : length (lists_in number (take j ms)) ≡ length (lists_in number (take j rs)) =
    length-lists number (take j ms) ∙ length-take-le j ms (omega arith) ∙ sym (length-lists number (take j rs) ∙ length-take-le j rs (omega arith)) in
    ap (lists_in number) put ∙ map-append (numbers_in number) ls (l ∷ []) ∙ ap (λ t. t ++ numbers_in number l ∷ []) so_far
    ∙ ap (λ t. joined (lists_in number (take j ms)) (lists_in number (take j rs)) ++ t ∷ []) (ap (map number) items ∙ map-append number m.items r.items)
    ∙ sym (joined-more (lists_in number (take j ms)) (lists_in number (take j rs)) (numbers_in number m) (numbers_in number r) size)
    ∙ ap (λ t. joined t (lists_in number (take j rs) ++ numbers_in number r ∷ [])) (sym (lists-take number ms j m low is))
    ∙ ap (joined (lists_in number (take (j + 1) ms))) (sym (lists-take number rs j r (omega arith) is'))

-- one node more
range-more : (a n : ℕ) → range_with_len a (suc n) ≡ range_with_len a n ++ (a + n) ∷ []
range-more a zero = let e : a ≡ a + 0 = omega arith in ap (λ k. k ∷ []) e
range-more a (suc n) =
    let e : a + 1 + n ≡ a + suc n = omega arith in
    ap (λ t. a ∷ t) (range-more (a + 1) n ∙ ap (λ k. range_with_len (a + 1) n ++ k ∷ []) e)

pub rows-push : (f : ℕ → List ℕ) (n : ℕ) (xs ys : List ℕ) → ys ≡ xs ++ f n → xs ≡ flat_map f (range_with_len 0 n) → ys ≡ flat_map f (range_with_len 0 (n + 1))
rows-push f n xs ys put so_far =
    let e : n + 1 ≡ suc n = omega arith in
    let z : 0 + n ≡ n = omega arith in
    put ∙ ap (λ t. t ++ f n) so_far
    ∙ sym (ap (λ k. flat_map f (range_with_len 0 k)) e ∙ ap (flat_map f) (range-more 0 n) ∙ flat_map-append f (range_with_len 0 n) ((0 + n) ∷ [])
    ∙ ap (λ k. flat_map f (range_with_len 0 n) ++ flat_map f (k ∷ [])) z ∙ ap (λ t. flat_map f (range_with_len 0 n) ++ t) (append-nil (f n)))

-- as many lists as are joined
length-joined : (ms rs : List (List ℕ)) → length ms ≡ length rs → length (joined ms rs) ≡ length ms
length-joined [] rs e = refl
length-joined (m ∷ ms) [] e = absurd (omega (arith, e))
length-joined (m ∷ ms) (r ∷ rs) e = ap suc (length-joined ms rs (omega (arith, e)))

pub length-joined_lists : {X Z : Type 0} (number : X → ℕ) (ms rs : List (Vec X Z)) → length ms ≡ length rs →
    length (joined (lists_in number ms) (lists_in number rs)) ≡ length ms
length-joined_lists number ms rs e =
    length-joined (lists_in number ms) (lists_in number rs) (length-lists number ms ∙ e ∙ sym (length-lists number rs)) ∙ length-lists number ms

-- rows of one length
length-rows : (f : ℕ → List ℕ) (k : ℕ) → ((z : ℕ) → length (f z) ≡ k) → (a n : ℕ) → length (flat_map f (range_with_len a n)) ≡ n * k
length-rows f k same a zero = sym (zero-mul k)
length-rows f k same a (suc n) =
    length-append (f a) (flat_map f (range_with_len (a + 1) n)) ∙ ap (λ l. l + length (flat_map f (range_with_len (a + 1) n))) (same a)
    ∙ ap (λ l. k + l) (length-rows f k same (a + 1) n) ∙ add_comm k (n * k) ∙ sym (suc-mul n k)

-- as many values as there are nodes and polynomials
pub length-node_values : (o : Ops) (ps : List (List ℕ)) (n : ℕ) → length (flat_map (values_at o ps) (range_with_len 0 n)) ≡ n * length ps
length-node_values o ps n = length-rows (values_at o ps) (length ps) (λ z. length-map ps (λ cs. poly_at o cs z)) 0 n

-- the bytes that are hashed
pub bytes-are : (m : Matrix) → matrix_bytes m ≡ eight_bytes (rows_in m.values m.width) ++ eight_bytes m.width ++ flat_map eight_bytes m.values
unfolding matrix_bytes
bytes-are m = refl

-- there are as many rows of numbers
pub rows-map : {X : Type 0} (number : X → ℕ) (xs : List X) (width : ℕ) → rows_in xs width ≡ rows_in (map number xs) width
unfolding rows_in
rows-map number xs width = ap (λ n. if width == 0 then 0 else n / width) (sym (length-map xs number))
