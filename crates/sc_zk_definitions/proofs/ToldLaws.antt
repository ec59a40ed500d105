-- Masks are told by their view and the endpoints of all but the first.
use Rattle.std.proofs.Common.{◌≡◌, ℕ, zero, suc, ◌<◌, ◌≤◌, List, [], ◌∷◌, length, map, drop, get_or, All, sym, ◌∙◌, ap, refl, arith}
use Rattle.sc_definitions.specs.Ring.{Ops, IsRing, IsField, element, plus, times, minus, power}
use Rattle.sc_definitions.specs.Polynomials.{poly_at, poly_plus, poly_scaled}
use Rattle.sc_zk_definitions.specs.Masks.{Piece, two_power, sum_of, endpoint, total_of, masked_round, masked_rounds, wire_of}
use Rattle.sc_zk_definitions.specs.Views.{view_of, AreListsOf, MasksAreTold}
use Rattle.sc_definitions.proofs.RingLaws.{element-plus, element-times, element-small, element-zero, plus_cancel, times-one}
use Rattle.sc_definitions.proofs.RootLaws.{inverse_of}
use Rattle.sc_definitions.proofs.Identity.{atom, unit, ◌⊕◌, ◌⊗◌, ◌⊖◌, Agree, identity, same_element}
use Rattle.sc_zk_definitions.proofs.MaskLaws.{length-ends, total-endpoints}

first_of_lists : List (List ℕ) → List ℕ
first_of_lists [] = []
first_of_lists (l ∷ ls) = l

module _ (o : Ops) (ring : IsRing o) where
  -- a factor that has an inverse is cancelled
  pub factor_cancel : (p u x y : ℕ) → times o p u ≡ 1 → times o p x ≡ times o p y → element o x ≡ element o y
  unfolding Agree
  factor_cancel p u x y inv e =
      let back : (z : ℕ) → times o u (times o p z) ≡ element o z =
      λ z. identity o ring (p ∷ u ∷ z ∷ []) (atom 1 ⊗ (atom 0 ⊗ atom 2)) (atom 2 ⊗ (atom 0 ⊗ atom 1)) tt tt refl ∙ ap (times o z) inv ∙ times-one o ring z in
      sym (back x) ∙ ap (times o u) e ∙ back y

  -- the inverse of a power of two
  pub two_inverse : (y : ℕ) → times o (plus o 1 1) y ≡ 1 → (n : ℕ) → (u : ℕ) × (times o (two_power o n) u ≡ 1)
  unfolding power Agree
  two_inverse y e zero = (1, identity o ring [] (unit ⊗ unit) unit tt tt refl)
  two_inverse y e (suc n) =
      let found = two_inverse y e n in (
        times o y found.0,
        identity o ring (two_power o n ∷ y ∷ found.0 ∷ []) (((unit ⊕ unit) ⊗ atom 0) ⊗ (atom 1 ⊗ atom 2)) (((unit ⊕ unit) ⊗ atom 1) ⊗ (atom 0 ⊗ atom 2)) tt tt refl
            ∙ ap (λ z. times o z (times o (two_power o n) found.0)) e
            ∙ ap (times o 1) found.1
            ∙ identity o ring [] (unit ⊗ unit) unit tt tt refl,
      )

  pub numbers_same : (x y : ℕ) → x < o.size → y < o.size → element o x ≡ element o y → x ≡ y
  numbers_same x y h g e = sym (element-small o ring x h) ∙ e ∙ element-small o ring y g

  -- a coefficient of a wire tells the mask's
  coefficient_told : (p u c e x y : ℕ) → times o p u ≡ 1 → x < o.size → y < o.size →
      plus o (plus o (times o p x) c) e ≡ plus o (plus o (times o p y) c) e → x ≡ y
  coefficient_told p u c e x y inv h g same =
      let first : plus o (times o p x) c ≡ plus o (times o p y) c =
      sym (element-plus o ring (times o p x) c) ∙ plus_cancel o ring (plus o (times o p x) c) (plus o (times o p y) c) e same ∙ element-plus o ring (times o p y) c in
      let second : times o p x ≡ times o p y =
      sym (element-times o ring p x) ∙ plus_cancel o ring (times o p x) (times o p y) c first ∙ element-times o ring p y in
      numbers_same x y h g (factor_cancel p u x y inv second)

  leading_told : (p u e x y : ℕ) → times o p u ≡ 1 → x < o.size → y < o.size → plus o (times o p x) e ≡ plus o (times o p y) e → x ≡ y
  leading_told p u e x y inv h g same =
      let second : times o p x ≡ times o p y =
      sym (element-times o ring p x) ∙ plus_cancel o ring (times o p x) (times o p y) e same ∙ element-times o ring p y in
      numbers_same x y h g (factor_cancel p u x y inv second)

  rest_told : (p u : ℕ) (xs ys : List ℕ) → times o p u ≡ 1 → length xs ≡ length ys → All (λ c. c < o.size) xs → All (λ c. c < o.size) ys →
      poly_scaled o p xs ≡ poly_scaled o p ys → xs ≡ ys
  unfolding poly_scaled
  rest_told p u [] [] inv e h g same = refl
  rest_told p u [] (y ∷ ys) inv e h g same = absurd (omega arith)
  rest_told p u (x ∷ xs) [] inv e h g same = absurd (omega arith)
  rest_told p u (x ∷ xs) (y ∷ ys) inv e h g same =
      let head : x ≡ y = numbers_same x y (h 0 0 (omega arith)) (g 0 0 (omega arith)) (factor_cancel p u x y inv (ap (λ l. get_or l 0 0) same)) in
      let tail : xs ≡ ys = rest_told p u xs ys inv (omega arith) (λ k d low. h (suc k) d (omega arith)) (λ k d low. g (suc k) d (omega arith)) (ap (drop 1) same) in
      ap (λ z. z ∷ xs) head ∙ ap (λ zs. y ∷ zs) tail

  -- the endpoint tells the linear coefficient
  linear_told : (a x y r : ℕ) → x < o.size → y < o.size → plus o a (plus o a (plus o x r)) ≡ plus o a (plus o a (plus o y r)) → x ≡ y
  unfolding Agree
  linear_told a x y r h g same =
      let A = atom 0 in let X = atom 1 in let R = atom 2 in
      let back : (z : ℕ) → element o z ≡ element o (minus o (minus o (minus o (plus o a (plus o a (plus o z r))) a) a) r) =
      λ z. same_element o ring (a ∷ z ∷ r ∷ []) X ((((A ⊕ (A ⊕ (X ⊕ R))) ⊖ A) ⊖ A) ⊖ R) refl in
      numbers_same x y h g (back x ∙ ap (λ n. element o (minus o (minus o (minus o n a) a) r)) same ∙ sym (back y))

  pub plus-empty : (cs : List ℕ) → poly_plus o cs [] ≡ cs
  unfolding poly_plus
  plus-empty [] = refl
  plus-empty (c ∷ cs) = refl

  -- a wire over a mask of three coefficients or more
  pub wire-parts : (eps done : ℕ) (s0 s1 s2 : ℕ) (rest ends : List ℕ) (p : Piece) →
      let k = two_power o (length ends) in
      wire_of (masked_round o eps done (s0 ∷ s1 ∷ s2 ∷ rest) ends p)
      ≡ plus o (plus o (times o k s0) (plus o (times o k done) (total_of o ends))) (times o eps p.constant)
      ∷ plus o (times o k s2) (times o eps p.leading) ∷ poly_scaled o k rest
  unfolding masked_round poly_scaled poly_plus wire_of
  wire-parts eps done s0 s1 s2 rest ends p =
      let k = two_power o (length ends) in
      ap (λ l. plus o (plus o (times o k s0) (plus o (times o k done) (total_of o ends))) (times o eps p.constant)
      ∷ plus o (times o k s2) (times o eps p.leading) ∷ l) (plus-empty (poly_scaled o k rest))

  -- a mask is told by its wire and its endpoint
  mask_told : (eps done u : ℕ) (s t ends : List ℕ) (p : Piece) → 3 ≤ length s → length t ≡ length s →
      All (λ c. c < o.size) s → All (λ c. c < o.size) t → times o (two_power o (length ends)) u ≡ 1 →
      wire_of (masked_round o eps done s ends p) ≡ wire_of (masked_round o eps done t ends p) → endpoint o s ≡ endpoint o t → s ≡ t
  unfolding endpoint sum_of
  mask_told eps done u [] t ends p long same h g inv wires ends_same = absurd (omega arith)
  mask_told eps done u (s0 ∷ []) t ends p long same h g inv wires ends_same = absurd (omega arith)
  mask_told eps done u (s0 ∷ s1 ∷ []) t ends p long same h g inv wires ends_same = absurd (omega arith)
  mask_told eps done u (s0 ∷ s1 ∷ s2 ∷ sr) [] ends p long same h g inv wires ends_same = absurd (omega arith)
  mask_told eps done u (s0 ∷ s1 ∷ s2 ∷ sr) (t0 ∷ []) ends p long same h g inv wires ends_same = absurd (omega arith)
  mask_told eps done u (s0 ∷ s1 ∷ s2 ∷ sr) (t0 ∷ t1 ∷ []) ends p long same h g inv wires ends_same = absurd (omega arith)
  mask_told eps done u (s0 ∷ s1 ∷ s2 ∷ sr) (t0 ∷ t1 ∷ t2 ∷ tr) ends p long same h g inv wires ends_same =
      let k = two_power o (length ends) in
      let e0 = times o eps p.constant in let e2 = times o eps p.leading in
      let c = plus o (times o k done) (total_of o ends) in
      let whole : plus o (plus o (times o k s0) c) e0 ∷ plus o (times o k s2) e2 ∷ poly_scaled o k sr ≡ plus o (plus o (times o k t0) c) e0 ∷ plus o (times o k t2) e2 ∷ poly_scaled o k tr =
      sym (wire-parts eps done s0 s1 s2 sr ends p) ∙ wires ∙ wire-parts eps done t0 t1 t2 tr ends p in
      let first : s0 ≡ t0 = coefficient_told k u c e0 s0 t0 inv (h 0 0 (omega arith)) (g 0 0 (omega arith)) (ap (λ l. get_or l 0 0) whole) in
      let third : s2 ≡ t2 = leading_told k u e2 s2 t2 inv (h 2 0 (omega arith)) (g 2 0 (omega arith)) (ap (λ l. get_or l 1 0) whole) in
      let rest : sr ≡ tr = rest_told k u sr tr inv (omega arith) (λ i d low. h (suc (suc (suc i))) d (omega arith)) (λ i d low. g (suc (suc (suc i))) d (omega arith)) (ap (drop 2) whole) in
      let r = plus o t2 (sum_of o tr) in
      let ends_then : plus o t0 (plus o t0 (plus o s1 r)) ≡ plus o t0 (plus o t0 (plus o t1 r)) =
      ap (λ a. plus o a (plus o a (plus o s1 r))) (sym first)
      ∙ ap (λ b. plus o s0 (plus o s0 (plus o s1 (plus o b (sum_of o tr))))) (sym third)
      ∙ ap (λ l. plus o s0 (plus o s0 (plus o s1 (plus o s2 (sum_of o l))))) (sym rest)
      ∙ ends_same in
      let second : s1 ≡ t1 = linear_told t0 s1 t1 r (h 1 0 (omega arith)) (g 1 0 (omega arith)) ends_then in
      ap (λ a. a ∷ s1 ∷ s2 ∷ sr) first ∙ ap (λ b. t0 ∷ b ∷ s2 ∷ sr) second ∙ ap (λ b. t0 ∷ t1 ∷ b ∷ sr) third ∙ ap (λ l. t0 ∷ t1 ∷ t2 ∷ l) rest

  masks_told : (eps done l y : ℕ) (ss ts : List (List ℕ)) (gs : List ℕ) (ps : List Piece) → 3 ≤ l → times o (plus o 1 1) y ≡ 1 →
      length ss ≡ length gs → length ss ≡ length ps → length ts ≡ length ss → AreListsOf o l ss → AreListsOf o l ts →
      map wire_of (masked_rounds o eps done ss gs ps) ≡ map wire_of (masked_rounds o eps done ts gs ps) → map (endpoint o) ss ≡ map (endpoint o) ts → ss ≡ ts
  unfolding masked_rounds first_of_lists
  masks_told eps done l y [] [] gs ps long inv a b c are be wires ends = refl
  masks_told eps done l y [] (t ∷ ts) gs ps long inv a b c are be wires ends = absurd (omega arith)
  masks_told eps done l y (s ∷ ss) [] gs ps long inv a b c are be wires ends = absurd (omega arith)
  masks_told eps done l y (s ∷ ss) (t ∷ ts) [] ps long inv a b c are be wires ends = absurd (omega arith)
  masks_told eps done l y (s ∷ ss) (t ∷ ts) (g ∷ gs) [] long inv a b c are be wires ends = absurd (omega arith)
  masks_told eps done l y (s ∷ ss) (t ∷ ts) (g ∷ gs) (p ∷ ps) long inv a b c are be wires ends =
      let n : length ss ≡ length ts = omega arith in
      let later : map (endpoint o) ss ≡ map (endpoint o) ts = ap (drop 1) ends in
      let found = two_inverse y inv (length ss) in
      let s_long : 3 ≤ length s = omega (arith, are.0) in
      let s_same : length t ≡ length s = be.0 ∙ sym are.0 in
      let inverse_too : times o (two_power o (length (map (endpoint o) ss))) found.0 ≡ 1 = ap (λ j. times o (two_power o j) found.0) (length-ends o ring ss) ∙ found.1 in
      let wires_first : wire_of (masked_round o eps done s (map (endpoint o) ss) p) ≡ wire_of (masked_round o eps done t (map (endpoint o) ss) p) =
      ap (λ w. first_of_lists w) wires ∙ ap (λ es. wire_of (masked_round o eps done t es p)) (sym later) in
      let head : s ≡ t = mask_told eps done found.0 s t (map (endpoint o) ss) p s_long s_same are.1 be.1 inverse_too wires_first (ap (λ w. get_or w 0 0) ends) in
      let rest : map wire_of (masked_rounds o eps (plus o done (poly_at o s g)) ss gs ps) ≡ map wire_of (masked_rounds o eps (plus o done (poly_at o s g)) ts gs ps) =
      ap (drop 1) wires ∙ ap (λ z. map wire_of (masked_rounds o eps (plus o done (poly_at o z g)) ts gs ps)) (sym head) in
      let tail : ss ≡ ts = masks_told eps (plus o done (poly_at o s g)) l y ss ts gs ps long inv (omega arith) (omega arith) (omega arith) are.2 be.2 rest later in
      ap (λ z. z ∷ ss) head ∙ ap (λ zs. t ∷ zs) tail

module _ (o : Ops) (field : IsField o) where
  pub element-endpoint : (s : List ℕ) → element o (endpoint o s) ≡ endpoint o s
  unfolding endpoint
  element-endpoint [] = element-zero o field.ring
  element-endpoint (c ∷ cs) = element-plus o field.ring c (sum_of o (c ∷ cs))

  first_endpoint : (e f : ℕ) (es : List ℕ) (u : ℕ) → times o (two_power o (length es)) u ≡ 1 → element o e ≡ e → element o f ≡ f →
      total_of o (e ∷ es) ≡ total_of o (f ∷ es) → e ≡ f
  unfolding total_of sum_of
  first_endpoint e f es u inv small small' mu =
      let ring = field.ring in
      let inner_same : plus o e (sum_of o es) ≡ plus o f (sum_of o es) =
      sym (element-plus o ring e (sum_of o es))
      ∙ factor_cancel o ring (two_power o (length es)) u (plus o e (sum_of o es)) (plus o f (sum_of o es)) inv mu
      ∙ element-plus o ring f (sum_of o es) in
      sym small ∙ plus_cancel o ring e f (sum_of o es) inner_same ∙ small'

  pub masks_are_told : MasksAreTold o
  unfolding view_of
  masks_are_told eps l [] [] gs ps long two a b c are be view ends = refl
  masks_are_told eps l [] (t ∷ ts) gs ps long two a b c are be view ends = absurd (omega arith)
  masks_are_told eps l (s ∷ ss) [] gs ps long two a b c are be view ends = absurd (omega arith)
  masks_are_told eps l (s ∷ ss) (t ∷ ts) gs ps long two a b c are be view ends =
      let ring = field.ring in
      let later = map (endpoint o) ss in
      let found = inverse_of o field (plus o 1 1) (λ z. two (sym (element-plus o ring 1 1) ∙ z)) in
      let power_inverse = two_inverse o ring found.0 found.2 (length later) in
      let mu : total_of o (endpoint o s ∷ later) ≡ total_of o (endpoint o t ∷ later) =
      sym (total-endpoints o ring (s ∷ ss)) ∙ ap (λ v. v.mu) view ∙ total-endpoints o ring (t ∷ ts)
      ∙ ap (λ es. total_of o (endpoint o t ∷ es)) (sym ends) in
      let first : endpoint o s ≡ endpoint o t = first_endpoint (endpoint o s) (endpoint o t) later power_inverse.0 power_inverse.1 (element-endpoint s) (element-endpoint t) mu in
      let all : map (endpoint o) (s ∷ ss) ≡ map (endpoint o) (t ∷ ts) = ap (λ e. e ∷ map (endpoint o) ss) first ∙ ap (λ es. endpoint o t ∷ es) ends in
      masks_told o ring eps 0 l found.0 (s ∷ ss) (t ∷ ts) gs ps long found.2 a b c are be (ap (λ v. v.wires) view) all
