-- Views by the numbers of their elements, and the masks that explain them.
use Rattle.std.proofs.Common.{◌≡◌, ◌≢◌, ℕ, suc, ◌<◌, ◌≤◌, All, List, [], ◌∷◌, length, map, drop, get_or, Vec, sym, ◌∙◌, ap, refl, arith}
use Rattle.std.proofs.lemmas.List.{length-map}
use Rattle.std.proofs.lemmas.List.Elements.{All-nil, All-cons}
use Rattle.sc_definitions.specs.Ring.{Ops, IsField, plus, times, minus, power}
use Rattle.sc_definitions.specs.Polynomials.{poly_at}
use Rattle.sc_zk_definitions.specs.Masks.{Piece, sum_of, endpoint, masks_total, masked_rounds, wire_of}
use Rattle.sc_zk_definitions.specs.Views.{view_of, later_endpoints, AreListsOf}
use Rattle.sc_zk_definitions.specs.Explained.{Unmixing, explained, explained_mask, explained_masks, first_endpoint}
use Rattle.sc_zk_definitions.proofs.ToldLaws.{masks_are_told}
use Rattle.sc_zk_definitions.proofs.ExplainedLaws.{views_are_explained}
use Rattle.sc_commitments.specs.Matrices.{lists_in}
use Rattle.sc_zk_views.specs.declared.view.PlainPiece.{PlainPiece}
use Rattle.sc_zk_views.specs.declared.view.RealView.{RealView}
use Rattle.sc_zk_views.specs.Views.{ViewFits, pieces_in, rows_in, view_in, width_of}

-- a view, by its total and its wires
pub view-is : (o : Ops) (eps : ℕ) (ss : List (List ℕ)) (gs : List ℕ) (ps : List Piece) (mu : ℕ) (ws : List (List ℕ)) →
    mu ≡ masks_total o ss → ws ≡ map wire_of (masked_rounds o eps 0 ss gs ps) → record { mu = mu; wires = ws } ≡ view_of o eps ss gs ps
unfolding view_of
view-is o eps ss gs ps mu ws total wires = λ i. record { mu = total i; wires = wires i }

-- the first endpoint, as it is computed
pub first-endpoint-is : {X : Type 0} (o : Ops) (number : X → ℕ) (half mu first all sum scale h : ℕ) (es : List X) → first ≡ minus o all sum → all ≡ times o scale mu →
    scale ≡ power o h (length es) → h ≡ half → sum ≡ sum_of o (map number es) → first ≡ first_endpoint o half mu (map number es)
unfolding first_endpoint
first-endpoint-is o number half mu first all sum scale h es first_is all_is scale_is h_is sum_is =
    first_is ∙ ap (minus o all) sum_is ∙ ap (λ a. minus o a (sum_of o (map number es)))
    (all_is ∙ ap (λ s. times o s mu) (scale_is ∙ ap (λ x. power o x (length es)) h_is ∙ ap (power o half) (sym (length-map es number))))

-- what the endpoints of all masks sum up to
pub ends-all : {X Z : Type 0} (o : Ops) (number : X → ℕ) (vs : List (Vec X Z)) (v : Vec X Z) (first rest all : ℕ) → 1 ≤ length vs → v ≡ get_or vs 0 v →
    first ≡ endpoint o (map number v.items) → rest ≡ sum_of o (later_endpoints o (lists_in number vs)) → all ≡ plus o first rest →
    all ≡ sum_of o (map (endpoint o) (lists_in number vs))
unfolding sum_of
ends-all o number [] v first rest all some is first_is rest_is all_is = absurd (omega (arith, some))
ends-all o number (u ∷ us) v first rest all some is first_is rest_is all_is =
    all_is ∙ ap (λ f. plus o f rest) (first_is ∙ ap (λ w. endpoint o (map number w.items)) is)
    ∙ ap (plus o (endpoint o (map number u.items))) rest_is

-- there are as many masks as endpoints
masks-count : (o : Ops) (m : Unmixing) (done : ℕ) (es gs : List ℕ) (ps : List Piece) (ws : List (List ℕ)) → length es ≡ length gs → length es ≡ length ps → length es ≡ length ws →
    length (explained_masks o m done es gs ps ws) ≡ length es
unfolding explained_masks
masks-count o m done [] gs ps ws a b c = refl
masks-count o m done (e ∷ es) [] ps ws a b c = absurd (omega (arith, a))
masks-count o m done (e ∷ es) (g ∷ gs) [] ws a b c = absurd (omega (arith, b))
masks-count o m done (e ∷ es) (g ∷ gs) (p ∷ ps) [] a b c = absurd (omega (arith, c))
masks-count o m done (e ∷ es) (g ∷ gs) (p ∷ ps) (w ∷ ws) a b c = ap suc (masks-count o m (plus o done (poly_at o (explained_mask o m done e es p w) g)) es gs ps ws (omega (arith, a)) (omega (arith, b)) (omega (arith, c)))

module _ {X : Type 0} (o : Ops) (field : IsField o) (number : X → ℕ) (below : (x : X) → number x < o.size) where
  numbers-below : (xs : List X) → All (λ c. c < o.size) (map number xs)
  numbers-below [] = All-nil (λ c. c < o.size)
  numbers-below (x ∷ xs) = All-cons (λ c. c < o.size) (number x) (map number xs) (below x) (numbers-below xs)

  rows-are : (l : ℕ) (rows : List (List X)) → All (λ row. length row ≡ l) rows → AreListsOf o l (rows_in number rows)
  rows-are l [] same = tt
  rows-are l (row ∷ rows) same = (length-map row number ∙ same 0 [] (omega arith), numbers-below row, rows-are l rows (λ i d h. same (suc i) d (omega (arith, h))))

  module _ (two : plus o 1 1 ≢ 0) (eps : ℕ) (ps : List (PlainPiece X)) (gs : List X) (v : RealView X) (es : List X) (fit : ViewFits ps gs v es) where
    abbrev found : List (List ℕ)
    found = explained o eps (view_in number v) (map number es) (map number gs) (pieces_in number ps)

    wires-count : length (rows_in number v.wires) ≡ length v.wires
    wires-count = length-map v.wires (map number)

    challenges-count : length (map number gs) ≡ length gs
    challenges-count = length-map gs number

    pieces-count : length (pieces_in number ps) ≡ length ps
    pieces-count = length-map ps _

    ends-count : length (map number es) ≡ length es
    ends-count = length-map es number

    -- the masks that are found have the view and the endpoints
    pub found-explains : AreListsOf o (suc (width_of v.wires)) found × (view_of o eps found (map number gs) (pieces_in number ps) ≡ view_in number v)
        × (later_endpoints o found ≡ map number es)
    found-explains =
        views_are_explained o field eps (width_of v.wires) (view_in number v) (map number es) (map number gs) (pieces_in number ps) fit.long two (below v.mu_tilde)
        (numbers-below es) (rows-are (width_of v.wires) v.wires fit.same)
        (omega (arith, wires-count, ends-count, fit.ends)) (omega (arith, wires-count, challenges-count, fit.challenges)) (omega (arith, wires-count, pieces-count, fit.pieces))

    pub found-count : length found ≡ length v.wires
    found-count =
        masks-count o _ 0 _ (map number gs) (pieces_in number ps) (rows_in number v.wires)
        (omega (arith, ends-count, challenges-count, fit.ends, fit.challenges)) (omega (arith, ends-count, pieces-count, fit.ends, fit.pieces))
        (omega (arith, ends-count, wires-count, fit.ends))
        ∙ omega (arith, ends-count, fit.ends)

    -- and no others do
    pub found-only : (ts : List (List ℕ)) → length ts ≡ length v.wires → AreListsOf o (suc (width_of v.wires)) ts →
        view_of o eps ts (map number gs) (pieces_in number ps) ≡ view_in number v → later_endpoints o ts ≡ map number es → ts ≡ found
    found-only ts count are view ends =
        masks_are_told o field eps (suc (width_of v.wires)) ts found (map number gs) (pieces_in number ps) (omega (arith, fit.long)) two
        (omega (arith, count, challenges-count, fit.challenges)) (omega (arith, count, pieces-count, fit.pieces)) (omega (arith, count, found-count)) are found-explains.0
        (view ∙ sym found-explains.1) (ends ∙ sym found-explains.2)

-- lists of one length, written otherwise
pub lists-same : (o : Ops) (l : ℕ) (ss ts : List (List ℕ)) → ss ≡ ts → AreListsOf o l ss → AreListsOf o l ts
lists-same o l [] [] e are = tt
lists-same o l [] (t ∷ ts) e are = absurd (omega (arith, ap length e))
lists-same o l (s ∷ ss) [] e are = absurd (omega (arith, ap length e))
lists-same o l (s ∷ ss) (t ∷ ts) e are =
    let head : s ≡ t = ap (λ x. get_or x 0 []) e in
    (ap length (sym head) ∙ are.0, (λ i d h. below_too s t head are.1 i d h), lists-same o l ss ts (ap (drop 1) e) are.2) where
      below_too : (s t : List ℕ) → s ≡ t → All (λ c. c < o.size) s → All (λ c. c < o.size) t
      below_too [] [] e all = all
      below_too [] (y ∷ ys) e all = absurd (omega (arith, ap length e))
      below_too (x ∷ xs) [] e all = absurd (omega (arith, ap length e))
      below_too (x ∷ xs) (y ∷ ys) e all =
          let first : x < o.size = all 0 0 (omega arith) in
          All-cons (λ c. c < o.size) y ys (omega (arith, first, ap (λ l. get_or l 0 0) e)) (below_too xs ys (ap (drop 1) e) (λ i d h. all (suc i) d (omega (arith, h))))
