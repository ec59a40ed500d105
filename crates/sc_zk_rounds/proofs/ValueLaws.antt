-- The values of masks, one mask more at a time.
use Rattle.std.proofs.Common.{◌≡◌, ℕ, zero, suc, ◌+◌, ◌<◌, List, [], ◌∷◌, ◌++◌, length, map, take, drop, get_or, Vec, ap, sym, ◌∙◌, arith}
use Rattle.std.proofs.lemmas.List.{take_more, map-append, length-map, length-take-le}
use Rattle.std.proofs.lemmas.List.FromFn.{map-range_with_len_more}
use Rattle.sc_definitions.specs.Ring.{Ops, IsRing, plus, power}
use Rattle.sc_definitions.specs.Polynomials.{poly_at}
use Rattle.sc_zk_definitions.specs.Masks.{masks_at, powers_below}
use Rattle.sc_zk_definitions.proofs.MaskedLaws.{masks_at-next}
use Rattle.sc_commitments.specs.Matrices.{numbers_in, lists_in}

-- the lists from one on
lists-from : {X Z : Type 0} (number : X → ℕ) (vs : List (Vec X Z)) (i : ℕ) (v : Vec X Z) → i < length vs → v ≡ get_or vs i v →
    drop i (lists_in number vs) ≡ numbers_in number v ∷ drop (suc i) (lists_in number vs)
lists-from number [] i v low is = absurd (omega arith)
lists-from number (u ∷ vs) zero v low is = ap (λ w. numbers_in number w ∷ lists_in number vs) (sym is)
lists-from number (u ∷ vs) (suc i) v low is = lists-from number vs i v (omega arith) is

pub residual-push : {X Z : Type 0} (o : Ops) (ring : IsRing o) (number : X → ℕ) (vs : List (Vec X Z)) (gs : List X) (i : ℕ) (v : Vec X Z) (x : X) (before after at : ℕ) →
    i < length vs → i < length gs → v ≡ get_or vs i v → x ≡ get_or gs i x → before ≡ masks_at o (lists_in number vs) (map number (take i gs)) →
    after ≡ plus o before at → at ≡ poly_at o (numbers_in number v) (number x) → after ≡ masks_at o (lists_in number vs) (map number (take (i + 1) gs))
residual-push o ring number vs gs i v x before after at low low' is is' so_far added value =
    let size : length (map number (take i gs)) ≡ i = length-map (take i gs) number ∙ length-take-le i gs (omega arith) in
    let more : map number (take (i + 1) gs) ≡ map number (take i gs) ++ number x ∷ [] =
    ap (map number) (take_more gs i x low') ∙ map-append number (take i gs) (get_or gs i x ∷ []) ∙ ap (λ y. map number (take i gs) ++ number y ∷ []) (sym is') in
    added ∙ ap (λ b. plus o b at) so_far ∙ ap (plus o (masks_at o (lists_in number vs) (map number (take i gs)))) value
    ∙ sym (ap (masks_at o (lists_in number vs)) more
    ∙ masks_at-next o ring (lists_in number vs) (drop (suc i) (lists_in number vs)) (numbers_in number v) (map number (take i gs)) (number x)
    (ap (λ j. drop j (lists_in number vs)) size ∙ lists-from number vs i v low is))

-- one power more
pub powers-push : {X : Type 0} (o : Ops) (number : X → ℕ) (xs ys : List X) (y : X) (x n : ℕ) → ys ≡ xs ++ y ∷ [] → number y ≡ power o x n →
    map number xs ≡ powers_below o n x → map number ys ≡ powers_below o (n + 1) x
powers-push o number xs ys y x n put value so_far =
    ap (map number) put ∙ map-append number xs (y ∷ []) ∙ ap (λ t. t ++ number y ∷ []) so_far ∙ ap (λ v. powers_below o n x ++ v ∷ []) value
    ∙ sym (map-range_with_len_more (power o x) 0 n n (omega arith))
