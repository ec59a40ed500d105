-- What masks make of the rounds, one round after the other.
use Rattle.std.proofs.Common.{◌≡◌, ℕ, suc, ◌+◌, ◌<◌, List, [], ◌∷◌, ◌++◌, length, map, drop, get_or, Vec, sym, ◌∙◌, ap, refl, arith, length-append}
use Rattle.std.proofs.lemmas.List.{drop-drop, drop_all, drop_more}
use Rattle.sc_definitions.specs.Ring.{Ops, IsRing, element, plus, minus, times, power}
use Rattle.sc_definitions.specs.Polynomials.{poly_at}
use Rattle.sc_definitions.proofs.RingLaws.{element-plus, element-zero, plus_comm, plus-zero, times_comm, times-one, element-small}
use Rattle.sc_definitions.proofs.Power.{element-power}
use Rattle.sc_definitions.proofs.Identity.{atom, nought, unit, ◌⊕◌, ◌⊗◌, ◌⊖◌, Agree, identity}
use Rattle.sc_zk_definitions.specs.Masks.{masks_at, masks_total, two_power, sum_of, endpoint, total_of, Piece, piece, masked_round, wire_of, aux_after}
use Rattle.sc_zk_definitions.specs.MaskedRuns.{Masking, IsHalf, wire_from, wire_after}
use Rattle.sc_zk_definitions.proofs.MaskLaws.{total-endpoints, length-ends}
use Rattle.sc_zk_definitions.proofs.MaskedLaws.{masks_at-next}
use Rattle.sc_commitments.specs.Matrices.{lists_in}
use Rattle.sc_zk_rounds.specs.Assembled.{Assembles}

module _ (o : Ops) (ring : IsRing o) where
  element-sum_of : (xs : List ℕ) → element o (sum_of o xs) ≡ sum_of o xs
  unfolding sum_of
  element-sum_of [] = element-zero o ring
  element-sum_of (x ∷ xs) = element-plus o ring x (sum_of o xs)

  -- half of a power of two is the power before it
  pub half-power : (half n : ℕ) → IsHalf o half → times o (two_power o (suc n)) half ≡ two_power o n
  unfolding power Agree
  half-power half n is =
      let T = plus o 1 1 in
      let P = two_power o n in
      identity o ring (T ∷ P ∷ half ∷ []) ((atom 0 ⊗ atom 1) ⊗ atom 2) (atom 1 ⊗ (atom 0 ⊗ atom 2)) tt tt refl
      ∙ ap (times o P) is ∙ times-one o ring P ∙ element-power o ring T n

  -- the total of masks is half the power of two for as many, times the sum of their endpoints
  half-total : (half : ℕ) (es : List ℕ) → IsHalf o half → times o (times o (two_power o (length es)) half) (sum_of o es) ≡ total_of o es
  unfolding total_of sum_of power Agree
  half-total half [] is = identity o ring (half ∷ []) ((unit ⊗ atom 0) ⊗ nought) nought tt tt refl
  half-total half (e ∷ es) is = ap (λ p. times o p (sum_of o (e ∷ es))) (half-power half (length es) is)

  -- one endpoint fewer
  less : (e : ℕ) (es : List ℕ) → minus o (sum_of o (e ∷ es)) e ≡ sum_of o es
  unfolding sum_of Agree
  less e es =
      identity o ring (e ∷ sum_of o es ∷ []) ((atom 0 ⊕ atom 1) ⊖ atom 0) (nought ⊕ atom 1) tt tt refl
      ∙ plus_comm o ring 0 (sum_of o es) ∙ plus-zero o ring (sum_of o es) ∙ element-sum_of es

  module _ (k : Masking) (half_is : IsHalf o k.half) (rs mask : List ℕ) (later : List (List ℕ)) (next : drop (length rs) k.masks ≡ mask ∷ later) where
    pub factor-less : (f h : ℕ) → f ≡ two_power o (length (drop (length rs) k.masks)) → h ≡ k.half → times o f h ≡ two_power o (length later)
    factor-less f h f_is h_is =
        ap (λ x. times o x h) (f_is ∙ ap (λ ss. two_power o (length ss)) next) ∙ ap (times o (two_power o (suc (length later)))) h_is
        ∙ half-power k.half (length later) half_is

    pub ends-less : (s t : ℕ) → s ≡ sum_of o (map (endpoint o) (drop (length rs) k.masks)) → t ≡ endpoint o mask → minus o s t ≡ sum_of o (map (endpoint o) later)
    ends-less s t s_is t_is =
        ap (λ x. minus o x t) (s_is ∙ ap (λ ss. sum_of o (map (endpoint o) ss)) next) ∙ ap (minus o (sum_of o (endpoint o mask ∷ map (endpoint o) later))) t_is
        ∙ less (endpoint o mask) (map (endpoint o) later)

    pub aux-less : (a h : ℕ) → a ≡ aux_after o k.half k.aux (length rs) → h ≡ k.half → times o h a ≡ aux_after o k.half k.aux (suc (length rs))
    unfolding power Agree
    aux-less a h a_is h_is =
        ap (λ x. times o x a) h_is ∙ ap (times o k.half) a_is
        ∙ identity o ring (k.half ∷ power o k.half (length rs) ∷ k.aux ∷ []) (atom 0 ⊗ (atom 1 ⊗ atom 2)) ((atom 0 ⊗ atom 1) ⊗ atom 2) tt tt refl

    -- the masks after the next one
    pub rest-after : (r : ℕ) → drop (length (rs ++ r ∷ [])) k.masks ≡ later
    rest-after r =
        let more : length (rs ++ r ∷ []) ≡ length rs + 1 = length-append rs (r ∷ []) in
        ap (λ n. drop n k.masks) more ∙ sym (drop-drop 1 (length rs) k.masks) ∙ ap (drop 1) next

    -- the wire, as it is assembled
    pub wire-is : (f h done ends c eps c0 c_inf : ℕ) (wire : List ℕ) →
        f ≡ two_power o (length later) → h ≡ k.half → done ≡ masks_at o k.masks rs → ends ≡ sum_of o (map (endpoint o) later) →
        c ≡ plus o (times o f done) (times o (times o f h) ends) → k.eps ≡ eps → (p : Piece) →
        piece c0 c_inf ≡ piece (plus o p.constant (aux_after o k.half k.aux (suc (length rs)))) p.leading →
        Assembles o f c mask eps (piece c0 c_inf) wire → wire ≡ wire_after o k rs p
    wire-is f h done ends c eps c0 c_inf wire f_is h_is done_is ends_is c_is eps_is p p_is made =
        let es = map (endpoint o) later in
        let size : two_power o (length later) ≡ two_power o (length es) = ap (two_power o) (sym (length-ends o ring later)) in
        let total : c ≡ plus o (times o f (masks_at o k.masks rs)) (total_of o es) =
        c_is ∙ ap (λ x. plus o (times o f x) (times o (times o f h) ends)) done_is
        ∙ ap (plus o (times o f (masks_at o k.masks rs)))
        (ap (λ x. times o (times o f x) ends) h_is ∙ ap (times o (times o f k.half)) ends_is ∙ ap (λ x. times o (times o x k.half) (sum_of o es)) (f_is ∙ size)
        ∙ half-total k.half es half_is) in
        made (masks_at o k.masks rs) es (f_is ∙ size) total
        ∙ ap (λ x. wire_of (masked_round o x (masks_at o k.masks rs) mask es (piece c0 c_inf))) (sym eps_is)
        ∙ ap (λ q. wire_of (masked_round o k.eps (masks_at o k.masks rs) mask es q)) p_is
        ∙ ap (λ ss. wire_from o k.eps (masks_at o k.masks rs) ss (piece (plus o p.constant (aux_after o k.half k.aux (suc (length rs)))) p.leading)) (sym next)

    pub done-more : (d v r : ℕ) → d ≡ masks_at o k.masks rs → v ≡ poly_at o mask r → plus o d v ≡ masks_at o k.masks (rs ++ r ∷ [])
    done-more d v r d_is v_is =
        ap (λ x. plus o x v) d_is ∙ ap (plus o (masks_at o k.masks rs)) v_is ∙ sym (masks_at-next o ring k.masks later mask rs r next)

  -- all of aux is left before the first round
  pub aux-first : (half aux x : ℕ) → aux ≡ x → x < o.size → x ≡ aux_after o half aux 0
  unfolding power
  aux-first half aux x is below = sym (ap (times o 1) is ∙ times_comm o ring 1 x ∙ times-one o ring x ∙ element-small o ring x below)

  -- the total before the first round
  pub total-is : (half f e : ℕ) (ss : List (List ℕ)) → IsHalf o half → f ≡ two_power o (length ss) → e ≡ sum_of o (map (endpoint o) ss) →
      times o (times o f half) e ≡ masks_total o ss
  total-is half f e ss is f_is e_is =
      let es = map (endpoint o) ss in
      ap (λ x. times o (times o x half) e) (f_is ∙ ap (two_power o) (sym (length-ends o ring ss))) ∙ ap (times o (times o (two_power o (length es)) half)) e_is
      ∙ half-total half es is ∙ sym (total-endpoints o ring ss)

-- ---- by elements

module _ {X Z : Type 0} (number : X → ℕ) (o : Ops) where
  -- no masks
  pub ends-none : (vs : List (Vec X Z)) (v : ℕ) → v ≡ 0 → v ≡ sum_of o (map (endpoint o) (lists_in number (drop (length vs) vs)))
  unfolding sum_of
  ends-none vs v none = none ∙ sym (ap (λ l. sum_of o (map (endpoint o) (lists_in number l))) (drop_all (length vs) vs (omega arith)))

  -- one mask more at the front
  pub ends-more : (vs : List (Vec X Z)) (i : ℕ) (v : Vec X Z) (before after e : ℕ) → i < length vs → v ≡ get_or vs i v →
      before ≡ sum_of o (map (endpoint o) (lists_in number (drop (i + 1) vs))) → e ≡ endpoint o (map number v.items) → after ≡ plus o e before →
      after ≡ sum_of o (map (endpoint o) (lists_in number (drop i vs)))
  unfolding sum_of
  ends-more vs i v before after e inside is so_far e_is more =
      more ∙ ap (plus o e) so_far ∙ ap (λ x. plus o x (sum_of o (map (endpoint o) (lists_in number (drop (i + 1) vs))))) e_is
      ∙ ap (λ u. plus o (endpoint o (map number u.items)) (sum_of o (map (endpoint o) (lists_in number (drop (i + 1) vs))))) is
      ∙ sym (ap (λ l. sum_of o (map (endpoint o) (lists_in number l))) (drop_more vs i v inside))

module _ {X : Type 0} (number : X → ℕ) (o : Ops) where
  -- a mask's endpoint, by its first coefficient and the sum of all
  pub endpoint-is : (xs : List X) (x : X) (total v : ℕ) → 0 < length xs → x ≡ get_or xs 0 x → total ≡ sum_of o (map number xs) → v ≡ plus o (number x) total →
      v ≡ endpoint o (map number xs)
  unfolding endpoint
  endpoint-is [] x total v some is total_is v_is = absurd (omega (arith, some))
  endpoint-is (y ∷ ys) x total v some is total_is v_is =
      v_is ∙ ap (plus o (number x)) total_is ∙ ap (λ z. plus o (number z) (sum_of o (map number (y ∷ ys)))) is

  pub endpoint-none : (xs : List X) (v : ℕ) → length xs ≡ 0 → v ≡ 0 → v ≡ endpoint o (map number xs)
  unfolding endpoint
  endpoint-none [] v none is = is
  endpoint-none (x ∷ xs) v none is = absurd (omega (arith, none))
