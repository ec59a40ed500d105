-- The wire of a round, value by value.
use Rattle.std.proofs.Common.{◌≡◌, ℕ, ◌+◌, ◌-◌, ◌<◌, ◌≤◌, List, [], ◌∷◌, ◌++◌, length, map, take, drop, get_or, refl, ap, sym, ◌∙◌, append_assoc, length-append, length-drop, arith}
use Rattle.std.proofs.lemmas.List.{take_more, map-append, append-nil, length-map}
use Rattle.sc_definitions.specs.Ring.{Ops, IsRing, plus, times}
use Rattle.sc_definitions.specs.Polynomials.{poly_scaled}
use Rattle.sc_definitions.proofs.PolyLaws.{length-scaled}
use Rattle.sc_zk_definitions.specs.Masks.{Piece, total_of}
use Rattle.sc_zk_definitions.proofs.ToldLaws.{wire-parts}
use Rattle.sc_zk_rounds.specs.Assembled.{Assembles}

scaled-append : (o : Ops) (k : ℕ) (xs ys : List ℕ) → poly_scaled o k (xs ++ ys) ≡ poly_scaled o k xs ++ poly_scaled o k ys
unfolding poly_scaled
scaled-append o k [] ys = refl
scaled-append o k (x ∷ xs) ys = ap (λ t. times o k x ∷ t) (scaled-append o k xs ys)

scaled-one : (o : Ops) (k x : ℕ) → poly_scaled o k (x ∷ []) ≡ times o k x ∷ []
unfolding poly_scaled
scaled-one o k x = refl

-- one value more
pub scaled-push : {X : Type 0} (o : Ops) (number : X → ℕ) (k : ℕ) (start before after vs : List X) (i : ℕ) (v y : X) → i < length vs → v ≡ get_or vs i v →
    after ≡ before ++ y ∷ [] → number y ≡ times o k (number v) →
    map number before ≡ map number start ++ poly_scaled o k (map number (take i vs)) → map number after ≡ map number start ++ poly_scaled o k (map number (take (i + 1) vs))
scaled-push o number k start before after vs i v y low is put value so_far =
    let more : map number (take (i + 1) vs) ≡ map number (take i vs) ++ number v ∷ [] =
    ap (map number) (take_more vs i v low) ∙ map-append number (take i vs) (get_or vs i v ∷ []) ∙ ap (λ u. map number (take i vs) ++ number u ∷ []) (sym is) in
    ap (map number) put ∙ map-append number before (y ∷ []) ∙ ap (λ t. t ++ number y ∷ []) so_far
    ∙ append_assoc (map number start) (poly_scaled o k (map number (take i vs))) (number y ∷ [])
    ∙ ap (λ t. map number start ++ (poly_scaled o k (map number (take i vs)) ++ t ∷ [])) value
    ∙ ap (λ t. map number start ++ (poly_scaled o k (map number (take i vs)) ++ t)) (sym (scaled-one o k (number v)))
    ∙ ap (λ t. map number start ++ t) (sym (scaled-append o k (map number (take i vs)) (number v ∷ [])))
    ∙ ap (λ t. map number start ++ poly_scaled o k t) (sym more)

-- the wire of a mask of three coefficients at least
pub assembled : (o : Ops) (ring : IsRing o) (k c : ℕ) (mask : List ℕ) (eps : ℕ) (p : Piece) → 3 ≤ length mask →
    Assembles o k c mask eps p
    (plus o (plus o (times o k (get_or mask 0 0)) c) (times o eps p.constant) ∷ plus o (times o k (get_or mask 2 0)) (times o eps p.leading) ∷ poly_scaled o k (drop 3 mask))
assembled o ring k c [] eps p long done ends factor constant = absurd (omega arith)
assembled o ring k c (s0 ∷ []) eps p long done ends factor constant = absurd (omega arith)
assembled o ring k c (s0 ∷ s1 ∷ []) eps p long done ends factor constant = absurd (omega arith)
assembled o ring k c (s0 ∷ s1 ∷ s2 ∷ rest) eps p long done ends factor constant =
    ap (λ x. plus o (plus o (times o k s0) x) (times o eps p.constant) ∷ plus o (times o k s2) (times o eps p.leading) ∷ poly_scaled o k rest) constant
    ∙ ap (λ q. plus o (plus o (times o q s0) (plus o (times o q done) (total_of o ends))) (times o eps p.constant) ∷ plus o (times o q s2) (times o eps p.leading) ∷ poly_scaled o q rest) factor
    ∙ sym (wire-parts o ring eps done s0 s1 s2 rest ends p)

pub scaled-none : (o : Ops) (k : ℕ) (xs : List ℕ) → xs ≡ xs ++ poly_scaled o k []
unfolding poly_scaled
scaled-none o k xs = sym (append-nil xs)

-- the same of elements, pushed one after the other
pub wire-made : {X : Type 0} (o : Ops) (ring : IsRing o) (number : X → ℕ) (k c eps : ℕ) (p : Piece) (mask : List X) (s0 s2 x y : X) (w₁ w₂ : List X) (w₃ : List ℕ) → 3 ≤ length mask →
    s0 ≡ get_or mask 0 s0 → s2 ≡ get_or mask 2 s2 → number x ≡ plus o (plus o (times o k (number s0)) c) (times o eps p.constant) →
    number y ≡ plus o (times o k (number s2)) (times o eps p.leading) → w₁ ≡ x ∷ [] → w₂ ≡ w₁ ++ y ∷ [] → w₃ ≡ map number w₂ ++ poly_scaled o k (map number (drop 3 mask)) →
    Assembles o k c (map number mask) eps p w₃
wire-made o ring number k c eps p [] s0 s2 x y w₁ w₂ w₃ long a b d e f g h done ends factor constant = absurd (omega arith)
wire-made o ring number k c eps p (m0 ∷ []) s0 s2 x y w₁ w₂ w₃ long a b d e f g h done ends factor constant = absurd (omega arith)
wire-made o ring number k c eps p (m0 ∷ m1 ∷ []) s0 s2 x y w₁ w₂ w₃ long a b d e f g h done ends factor constant = absurd (omega arith)
wire-made o ring number k c eps p (m0 ∷ m1 ∷ m2 ∷ rest) s0 s2 x y w₁ w₂ w₃ long a b d e f g h done ends factor constant =
    let cs = poly_scaled o k (map number rest) in
    h ∙ ap (λ w. map number w ++ cs) (g ∙ ap (λ w. w ++ y ∷ []) f)
    ∙ ap (λ v. v ∷ number y ∷ cs) (d ∙ ap (λ s. plus o (plus o (times o k (number s)) c) (times o eps p.constant)) a)
    ∙ ap (λ v. plus o (plus o (times o k (number m0)) c) (times o eps p.constant) ∷ v ∷ cs) (e ∙ ap (λ s. plus o (times o k (number s)) (times o eps p.leading)) b)
    ∙ assembled o ring k c (number m0 ∷ number m1 ∷ number m2 ∷ map number rest) eps p (omega arith) done ends factor constant

-- how many values a wire has
pub wire-length : {X : Type 0} (o : Ops) (ring : IsRing o) (number : X → ℕ) (k : ℕ) (mask : List X) (x y : X) (w₁ w₂ v : List X) → 3 ≤ length mask →
    w₁ ≡ x ∷ [] → w₂ ≡ w₁ ++ y ∷ [] → map number v ≡ map number w₂ ++ poly_scaled o k (map number (drop 3 mask)) → length v ≡ length mask - 1
wire-length o ring number k mask x y w₁ w₂ v long first second rest =
    let one : length w₁ ≡ 1 = ap length first in
    let two : length w₂ ≡ 2 = ap length second ∙ length-append w₁ (y ∷ []) ∙ omega (arith, one) in
    let others : length (poly_scaled o k (map number (drop 3 mask))) ≡ length mask - 3 =
    length-scaled o ring k (map number (drop 3 mask)) ∙ length-map (drop 3 mask) number ∙ length-drop 3 mask in
    let all : length (map number v) ≡ length w₂ + (length mask - 3) =
    ap length rest ∙ length-append (map number w₂) (poly_scaled o k (map number (drop 3 mask))) ∙ ap (λ n. n + length (poly_scaled o k (map number (drop 3 mask)))) (length-map w₂ number)
    ∙ ap (λ n. length w₂ + n) others in
    omega (arith, length-map v number, all, two, long)
