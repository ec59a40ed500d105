-- Polynomials times lines, and the one through values.
use Rattle.std.proofs.Common.{◌≡◌, ℕ, zero, suc, ◌+◌, ◌<◌, ◌≤◌, List, [], ◌∷◌, ◌++◌, length, map, drop, get_or, sym, ◌∙◌, ap, refl, arith, append_assoc}
use Rattle.std.proofs.lemmas.List.{length-map, map-append}
use Rattle.std.proofs.lemmas.List.Elements.{All-map}
use Rattle.sc_definitions.specs.Ring.{Ops, IsRing, IsField, plus, times, minus}
use Rattle.sc_definitions.specs.Polynomials.{poly_at, poly_minus}
use Rattle.sc_definitions.specs.Interpolation.{through, sent_through, next_through}
use Rattle.sc_definitions.proofs.Identity.{atom, nought, unit, ◌⊕◌, ◌⊗◌, ◌⊖◌, Agree, identity}
use Rattle.sc_definitions.proofs.InterpolationLaws.{length-through, below-through, agree_everywhere, same_coefficients}
use Rattle.sc_degree.specs.Coefficients.{times_line, plus_multiple}
use Rattle.sc_degree.proofs.LagrangeLaws.{IsInterpolated, interpolated-none, interpolated-more}

-- what stands from an index on
pub drop-next : {X Y : Type 0} (number : X → Y) (xs : List X) (i : ℕ) (x : X) → i < length xs → x ≡ get_or xs i x →
    drop i (map number xs) ≡ number x ∷ drop (i + 1) (map number xs)
drop-next number [] i x low is = absurd (omega (arith, low))
drop-next number (y ∷ xs) zero x low is = ap (λ z. number z ∷ map number xs) (sym is)
drop-next number (y ∷ xs) (suc i) x low is =
    let next : suc (i + 1) ≡ suc i + 1 = omega arith in
    drop-next number xs i x (omega (arith, low)) is ∙ ap (λ k. number x ∷ drop k (map number (y ∷ xs))) next

pub drop-none : (xs : List ℕ) (i : ℕ) → length xs ≤ i → drop i xs ≡ []
drop-none [] zero low = refl
drop-none [] (suc i) low = refl
drop-none (x ∷ xs) zero low = absurd (omega (arith, low))
drop-none (x ∷ xs) (suc i) low = drop-none xs i (omega (arith, low))

module _ (o : Ops) where
  pub length-times_line : (at before : ℕ) (cs : List ℕ) → length (times_line o at before cs) ≡ suc (length cs)
  unfolding times_line
  length-times_line at before [] = refl
  length-times_line at before (c ∷ cs) = ap suc (length-times_line at c cs)

  pub length-plus_multiple : (share : ℕ) (cs ds : List ℕ) → length (plus_multiple o share cs ds) ≡ length cs
  unfolding plus_multiple
  length-plus_multiple share [] ds = refl
  length-plus_multiple share (c ∷ cs) [] = refl
  length-plus_multiple share (c ∷ cs) (d ∷ ds) = ap suc (length-plus_multiple share cs ds)

module _ (o : Ops) (ring : IsRing o) where
  pub times_line-at : (at before : ℕ) (cs : List ℕ) (x : ℕ) → poly_at o (times_line o at before cs) x ≡ plus o before (times o (minus o x at) (poly_at o cs x))
  unfolding times_line poly_at Agree
  times_line-at at before [] x =
      let B = atom 0 in let X = atom 1 in let A = atom 2 in
      identity o ring (before ∷ x ∷ at ∷ []) (B ⊕ X ⊗ nought) (B ⊕ (X ⊖ A) ⊗ nought) tt tt refl
  times_line-at at before (c ∷ cs) x =
      let B = atom 0 in let X = atom 1 in let A = atom 2 in let C = atom 3 in let P = atom 4 in
      ap (λ v. plus o (minus o before (times o at c)) (times o x v)) (times_line-at at c cs x)
      ∙ identity o ring (before ∷ x ∷ at ∷ c ∷ poly_at o cs x ∷ [])
      ((B ⊖ A ⊗ C) ⊕ X ⊗ (C ⊕ (X ⊖ A) ⊗ P)) (B ⊕ (X ⊖ A) ⊗ (C ⊕ X ⊗ P)) tt tt refl

  pub plus_multiple-at : (share : ℕ) (cs ds : List ℕ) (x : ℕ) → length cs ≡ length ds →
      poly_at o (plus_multiple o share cs ds) x ≡ plus o (poly_at o cs x) (times o share (poly_at o ds x))
  unfolding plus_multiple poly_at Agree
  plus_multiple-at share [] [] x same = identity o ring (share ∷ []) nought (nought ⊕ atom 0 ⊗ nought) tt tt refl
  plus_multiple-at share [] (d ∷ ds) x same = absurd (omega (arith, same))
  plus_multiple-at share (c ∷ cs) [] x same = absurd (omega (arith, same))
  plus_multiple-at share (c ∷ cs) (d ∷ ds) x same =
      let S = atom 0 in let C = atom 1 in let D = atom 2 in let X = atom 3 in let P = atom 4 in let Q = atom 5 in
      ap (λ v. plus o (plus o c (times o share d)) (times o x v)) (plus_multiple-at share cs ds x (omega (arith, same)))
      ∙ identity o ring (share ∷ c ∷ d ∷ x ∷ poly_at o cs x ∷ poly_at o ds x ∷ [])
      ((C ⊕ S ⊗ D) ⊕ X ⊗ (P ⊕ S ⊗ Q)) ((C ⊕ X ⊗ P) ⊕ S ⊗ (D ⊕ X ⊗ Q)) tt tt refl

-- the coefficients with the values that others have everywhere are those
pub sent-coefficients : {X : Type 0} (number : X → ℕ) (o : Ops) → IsField o → ((x : X) → number x < o.size) → (claim : ℕ) (values : List ℕ) (xs : List X) →
    0 < length values → length values < o.size → length xs ≡ length values + 1 →
    ((r : ℕ) → poly_at o (map number xs) r ≡ next_through o claim values r) → map number xs ≡ sent_through o claim values
unfolding next_through sent_through
sent-coefficients number o field low claim [] xs some few size same = absurd (omega (arith, some))
sent-coefficients number o field low claim (v ∷ vs) xs some few size same =
    let ys = v ∷ minus o claim v ∷ vs in
    let long : length (through o ys) ≡ length xs = length-through o field.ring v (minus o claim v ∷ vs) ∙ omega (arith, size) in
    let here : length (map number xs) ≡ length xs = length-map xs number in
    same_coefficients o field (map number xs) (through o ys) (here ∙ sym long)
    (All-map (λ c. c < o.size) number xs (λ k d within. low _)) (below-through o field.ring ys)
    (agree_everywhere o field (length xs) (map number xs) (through o ys) here long (omega (arith, size, few)) (λ x within. same x))

-- ---- the loops

-- a value more is put after others
pub pushed : {X : Type 0} (number : X → ℕ) (old new : List X) (x : X) (v : ℕ) (rest whole : List ℕ) → new ≡ old ++ x ∷ [] → number x ≡ v →
    map number old ++ v ∷ rest ≡ whole → map number new ++ rest ≡ whole
pushed number old new x v rest whole more is before =
    ap (λ l. map number l ++ rest) more ∙ ap (λ l. l ++ rest) (map-append number old (x ∷ []))
    ∙ append_assoc (map number old) (number x ∷ []) rest ∙ ap (λ k. map number old ++ k ∷ rest) is ∙ before

pub line-next : {X : Type 0} (o : Ops) (number : X → ℕ) (at before : ℕ) (cs : List X) (i : ℕ) (c : X) → i < length cs → c ≡ get_or cs i c →
    times_line o at before (drop i (map number cs)) ≡ minus o before (times o at (number c)) ∷ times_line o at (number c) (drop (i + 1) (map number cs))
unfolding times_line
line-next o number at before cs i c low is = ap (times_line o at before) (drop-next number cs i c low is)

pub line-last : (o : Ops) (at before : ℕ) (cs : List ℕ) (i : ℕ) → length cs ≤ i → times_line o at before (drop i cs) ≡ before ∷ []
unfolding times_line
line-last o at before cs i high = ap (times_line o at before) (drop-none cs i high)

pub multiple-next : {X : Type 0} (o : Ops) (number : X → ℕ) (share : ℕ) (cs ds : List X) (i : ℕ) (c d : X) → i < length cs → c ≡ get_or cs i c → i < length ds → d ≡ get_or ds i d →
    plus_multiple o share (drop i (map number cs)) (drop i (map number ds))
    ≡ plus o (number c) (times o share (number d)) ∷ plus_multiple o share (drop (i + 1) (map number cs)) (drop (i + 1) (map number ds))
unfolding plus_multiple
multiple-next o number share cs ds i c d low is low' is' =
    ap (λ l. plus_multiple o share l (drop i (map number ds))) (drop-next number cs i c low is)
    ∙ ap (plus_multiple o share (number c ∷ drop (i + 1) (map number cs))) (drop-next number ds i d low' is')

pub multiple-last : (o : Ops) (share : ℕ) (cs ds : List ℕ) (i : ℕ) → length cs ≤ i → plus_multiple o share (drop i cs) ds ≡ []
unfolding plus_multiple
multiple-last o share cs ds i high = ap (λ l. plus_multiple o share l ds) (drop-none cs i high)

pub difference-next : {X : Type 0} (o : Ops) (number : X → ℕ) (cs ds : List X) (i : ℕ) (c d : X) → i < length cs → c ≡ get_or cs i c → i < length ds → d ≡ get_or ds i d →
    poly_minus o (drop i (map number cs)) (drop i (map number ds))
    ≡ minus o (number c) (number d) ∷ poly_minus o (drop (i + 1) (map number cs)) (drop (i + 1) (map number ds))
unfolding poly_minus
difference-next o number cs ds i c d low is low' is' =
    ap (λ l. poly_minus o l (drop i (map number ds))) (drop-next number cs i c low is)
    ∙ ap (poly_minus o (number c ∷ drop (i + 1) (map number cs))) (drop-next number ds i d low' is')

pub difference-last : (o : Ops) (cs ds : List ℕ) (i : ℕ) → length cs ≤ i → poly_minus o (drop i cs) ds ≡ []
unfolding poly_minus
difference-last o cs ds i high = ap (λ l. poly_minus o l ds) (drop-none cs i high)

-- ---- node by node

pub longer : {X : Type 0} (number : X → ℕ) (o : Ops) (at before : ℕ) (old new : List X) → map number new ≡ times_line o at before (map number old) → length new ≡ length old + 1
longer number o at before old new is =
    sym (length-map new number) ∙ ap length is ∙ length-times_line o at before (map number old) ∙ omega (arith, length-map old number)

pub as_many : {X : Type 0} (number : X → ℕ) (o : Ops) (share : ℕ) (old others new : List X) →
    map number new ≡ plus_multiple o share (map number old) (map number others) → length new ≡ length old
as_many number o share old others new is =
    sym (length-map new number) ∙ ap length is ∙ length-plus_multiple o share (map number old) (map number others) ∙ length-map old number

module _ (o : Ops) (field : IsField o) (ys ws : ℕ → ℕ) where
  -- no node yet: one, and zero
  pub coefficients-none : (ps ss : List ℕ) → ps ≡ 1 ∷ [] → ss ≡ [] → (r : ℕ) → IsInterpolated o ys ws r 0 (poly_at o ps r) (poly_at o ss r)
  unfolding poly_at Agree
  coefficients-none ps ss one none r =
      interpolated-none o field ys ws r
      (ap (λ l. poly_at o l r) one ∙ identity o field.ring (r ∷ []) (unit ⊕ atom 0 ⊗ nought) unit tt tt refl)
      (ap (λ l. poly_at o l r) none)

  by_gap : (at : ℕ) (cs : List ℕ) (r n : ℕ) → at ≡ n → poly_at o (times_line o at 0 cs) r ≡ times o (poly_at o cs r) (minus o r n)
  unfolding Agree
  by_gap at cs r n is =
      times_line-at o field.ring at 0 cs r ∙ ap (λ a. plus o 0 (times o (minus o r a) (poly_at o cs r))) is
      ∙ identity o field.ring (minus o r n ∷ poly_at o cs r ∷ []) (nought ⊕ atom 0 ⊗ atom 1) (atom 1 ⊗ atom 0) tt tt refl

  -- a node more: both times the line of the node, and the sum with the node's share of the product
  pub coefficients-more : (n at share : ℕ) (ps ss ms ps' ss' : List ℕ) → at ≡ n → share ≡ times o (ys n) (ws n) → length ms ≡ length ps →
      ms ≡ times_line o at 0 ss → ss' ≡ plus_multiple o share ms ps → ps' ≡ times_line o at 0 ps →
      ((r : ℕ) → IsInterpolated o ys ws r n (poly_at o ps r) (poly_at o ss r)) → (r : ℕ) → IsInterpolated o ys ws r (n + 1) (poly_at o ps' r) (poly_at o ss' r)
  coefficients-more n at share ps ss ms ps' ss' at_is share_is same moved summed multiplied so_far r =
      interpolated-more o field ys ws r n (poly_at o ps r) (poly_at o ss r) (minus o r n) share (poly_at o ps' r) (poly_at o ss' r) (so_far r) refl share_is
      (ap (λ l. poly_at o l r) summed ∙ plus_multiple-at o field.ring share ms ps r same
      ∙ ap (λ v. plus o v (times o share (poly_at o ps r))) (ap (λ l. poly_at o l r) moved ∙ by_gap at ss r n at_is))
      (ap (λ l. poly_at o l r) multiplied ∙ by_gap at ps r n at_is)
