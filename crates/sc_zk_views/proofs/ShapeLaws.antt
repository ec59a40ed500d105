-- The shapes of views and of masks: what is made of the ones fits the others.
use Rattle.std.proofs.Common.{◌≡◌, ℕ, suc, ◌+◌, ◌-◌, ◌≤◌, All, List, [], ◌∷◌, length, map, drop, get_or, Vec, sym, ◌∙◌, ap, refl, length-drop, arith}
use Rattle.std.proofs.lemmas.List.{length-map}
use Rattle.std.proofs.lemmas.List.Elements.{All-nil, All-cons}
use Rattle.sc_definitions.specs.Ring.{Ops, IsRing, plus}
use Rattle.sc_definitions.specs.Polynomials.{poly_at}
use Rattle.sc_definitions.proofs.PolyLaws.{length-scaled}
use Rattle.sc_zk_definitions.specs.Masks.{Piece, two_power, endpoint, masked_round, masked_rounds, wire_of}
use Rattle.sc_zk_definitions.specs.Views.{later_endpoints, AreListsOf}
use Rattle.sc_zk_definitions.proofs.ToldLaws.{wire-parts}
use Rattle.sc_commitments.specs.Matrices.{numbers_in, lists_in}
use Rattle.sc_zk_rounds.specs.Values.{AreOfLength, first_length}
use Rattle.sc_zk_views.specs.declared.view.PlainPiece.{PlainPiece}
use Rattle.sc_zk_views.specs.declared.view.RealView.{RealView}
use Rattle.sc_zk_views.specs.Views.{MasksFit, ViewFits, pieces_in, rows_in, width_of}

-- one fewer than l
abbrev IsShorter : {X : Type 0} → ℕ → List X → Type 0
IsShorter l xs = length xs + 1 ≡ l

width-back : {X : Type 0} (l : ℕ) (rows : List (List X)) → 1 ≤ length rows → All (IsShorter l) rows → width_of rows + 1 ≡ l
width-back l [] some short = absurd (omega (arith, some))
width-back l (row ∷ rows) some short = short 0 row (omega arith)

module _ (o : Ops) (ring : IsRing o) where
  wire-shorter : (eps done l : ℕ) (s ends : List ℕ) (p : Piece) → 3 ≤ l → length s ≡ l → IsShorter l (wire_of (masked_round o eps done s ends p))
  wire-shorter eps done l [] ends p long is = absurd (omega (arith, long, is))
  wire-shorter eps done l (a ∷ []) ends p long is = absurd (omega (arith, long, is))
  wire-shorter eps done l (a ∷ b ∷ []) ends p long is = absurd (omega (arith, long, is))
  wire-shorter eps done l (a ∷ b ∷ c ∷ rest) ends p long is =
      omega (arith, is, ap length (wire-parts o ring eps done a b c rest ends p), length-scaled o ring (two_power o (length ends)) rest)

  wires-shorter : (eps done l : ℕ) (ss : List (List ℕ)) (gs : List ℕ) (ps : List Piece) → 3 ≤ l → All (λ s. length s ≡ l) ss →
      All (IsShorter l) (map wire_of (masked_rounds o eps done ss gs ps))
  unfolding masked_rounds
  wires-shorter eps done l [] gs ps long same = All-nil (IsShorter l)
  wires-shorter eps done l (s ∷ ss) [] ps long same = All-nil (IsShorter l)
  wires-shorter eps done l (s ∷ ss) (g ∷ gs) [] long same = All-nil (IsShorter l)
  wires-shorter eps done l (s ∷ ss) (g ∷ gs) (p ∷ ps) long same =
      All-cons (IsShorter l) (wire_of (masked_round o eps done s (map (endpoint o) ss) p)) (map wire_of (masked_rounds o eps (plus o done (poly_at o s g)) ss gs ps))
      (wire-shorter eps done l s (map (endpoint o) ss) p long (same 0 [] (omega arith)))
      (wires-shorter eps (plus o done (poly_at o s g)) l ss gs ps long (λ i d h. same (suc i) d (omega (arith, h))))

  wires-count : (eps done : ℕ) (ss : List (List ℕ)) (gs : List ℕ) (ps : List Piece) → length ss ≡ length gs → length ss ≡ length ps →
      length (map wire_of (masked_rounds o eps done ss gs ps)) ≡ length ss
  unfolding masked_rounds
  wires-count eps done [] gs ps a b = refl
  wires-count eps done (s ∷ ss) [] ps a b = absurd (omega (arith, a))
  wires-count eps done (s ∷ ss) (g ∷ gs) [] a b = absurd (omega (arith, b))
  wires-count eps done (s ∷ ss) (g ∷ gs) (p ∷ ps) a b = ap suc (wires-count eps (plus o done (poly_at o s g)) ss gs ps (omega (arith, a)) (omega (arith, b)))

module _ {X : Type 0} (number : X → ℕ) where
  -- rows, by the numbers of their elements
  rows-back : (l : ℕ) (rows : List (List X)) (wires : List (List ℕ)) → rows_in number rows ≡ wires → All (IsShorter l) wires → All (IsShorter l) rows
  rows-back l [] wires is short = All-nil (IsShorter l)
  rows-back l (row ∷ rows) [] is short = absurd (omega (arith, ap length is))
  rows-back l (row ∷ rows) (wire ∷ wires) is short =
      let head : length (map number row) ≡ length wire = ap (λ ws. length (get_or ws 0 [])) is in
      All-cons (IsShorter l) row rows (omega (arith, head, length-map row number, short 0 [] (omega arith)))
      (rows-back l rows wires (ap (drop 1) is) (λ i d h. short (suc i) d (omega (arith, h))))

module _ {X Z : Type 0} (number : X → ℕ) where
  -- lists, by the numbers of their elements
  lists-long : (l : ℕ) (vs : List (Vec X Z)) → AreOfLength l vs → All (λ s. length s ≡ l) (lists_in number vs)
  lists-long l [] same = All-nil (λ s. length s ≡ l)
  lists-long l (v ∷ vs) same =
      All-cons (λ s. length s ≡ l) (numbers_in number v) (lists_in number vs) (length-map v.items number ∙ same 0 v (omega arith))
      (lists-long l vs (λ i d h. same (suc i) d (omega (arith, h))))

  lists-back : (o : Ops) (l : ℕ) (vs : List (Vec X Z)) → AreListsOf o l (lists_in number vs) → AreOfLength l vs
  lists-back o l [] are = All-nil (λ v. length v.items ≡ l)
  lists-back o l (v ∷ vs) are =
      All-cons (λ u. length u.items ≡ l) v vs (sym (length-map v.items number) ∙ are.0) (lists-back o l vs are.2)

  first-back : (l : ℕ) (vs : List (Vec X Z)) → 1 ≤ length vs → AreOfLength l vs → first_length vs ≡ l
  first-back l [] some same = absurd (omega (arith, some))
  first-back l (v ∷ vs) some same = same 0 v (omega arith)

  -- the view of masks
  pub view-fits : (o : Ops) → IsRing o → (eps done : ℕ) (ps : List (PlainPiece X)) (gs : List X) (masks : List (Vec X Z)) (v : RealView X) (es : List X) → MasksFit ps gs masks →
      rows_in number v.wires ≡ map wire_of (masked_rounds o eps done (lists_in number masks) (map number gs) (pieces_in number ps)) →
      map number es ≡ later_endpoints o (lists_in number masks) → ViewFits ps gs v es
  view-fits o ring eps done ps gs masks v es fit wires ends =
      let ss = lists_in number masks in
      let l = first_length masks in
      let as_many : length ss ≡ length masks = length-map masks (numbers_in number) in
      let pieces : length (pieces_in number ps) ≡ length ps = length-map ps _ in
      let count : length v.wires ≡ length masks =
      sym (length-map v.wires (map number)) ∙ ap length wires
      ∙ wires-count o ring eps done ss (map number gs) (pieces_in number ps)
      (omega (arith, as_many, length-map gs number, fit.challenges)) (omega (arith, as_many, pieces, fit.pieces)) ∙ as_many in
      let short : All (IsShorter l) v.wires =
      rows-back number l v.wires _ wires (wires-shorter o ring eps done l ss (map number gs) (pieces_in number ps) fit.long (lists-long l masks fit.same)) in
      let width : width_of v.wires + 1 ≡ l = width-back l v.wires (omega (arith, count, fit.some)) short in
      let later : length (map number es) ≡ length masks - 1 =
      ap length ends ∙ length-map (drop 1 ss) (endpoint o) ∙ length-drop 1 ss ∙ ap (λ n. n - 1) as_many in
      record {
        some = omega (arith, count, fit.some);
        pieces = count ∙ fit.pieces;
        challenges = count ∙ fit.challenges;
        ends = omega (arith, count, later, length-map es number, fit.some);
        long = omega (arith, width, fit.long);
        same = λ i d h. omega (arith, width, short i d h);
      }

  -- the masks of a view
  pub masks-fit : (o : Ops) (ps : List (PlainPiece X)) (gs : List X) (masks : List (Vec X Z)) (v : RealView X) (es : List X) → ViewFits ps gs v es →
      length masks ≡ length v.wires → AreListsOf o (suc (width_of v.wires)) (lists_in number masks) → MasksFit ps gs masks
  masks-fit o ps gs masks v es fit count are =
      let l = suc (width_of v.wires) in
      let same : AreOfLength l masks = lists-back o l masks are in
      let first : first_length masks ≡ l = first-back l masks (omega (arith, count, fit.some)) same in
      record {
        some = omega (arith, count, fit.some);
        pieces = count ∙ fit.pieces;
        challenges = count ∙ fit.challenges;
        long = omega (arith, first, fit.long);
        same = λ i d h. same i d h ∙ sym first;
      }
