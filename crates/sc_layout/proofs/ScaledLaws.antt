-- Openings as claims of a small-value batch, one after the other.
use Rattle.std.proofs.Common.{◌≡◌, ℕ, suc, ◌+◌, Bool, true, false, flat_map, drop, get_or, List, [], ◌∷◌, ◌++◌, length, map, sym, ◌∙◌, ap, refl, arith, length-append}
use Rattle.std.proofs.lemmas.List.{map-append, length-map}
use Rattle.std.proofs.lemmas.List.Elements.{All-nil, All-cons, All-head, All-tail}
use Rattle.sc_definitions.specs.Ring.{Ops, IsRing, times, power}
use Rattle.sc_definitions.specs.Statements.{Kind, Statement, claims, arity_of}
use Rattle.sc_definitions.specs.Combined.{Scaled, scaled_from}
use Rattle.sc_definitions.proofs.RingLaws.{times_comm}
use Rattle.sc_svo.specs.declared.claims.SvoClaim.{SvoClaim}
use Rattle.sc_svo.specs.Claims.{kind_by, scaled_in, claims_in, AreOn}
use Rattle.sc_layout.specs.declared.scaled.ScaledClaims.{ScaledClaims}
use Rattle.sc_layout.specs.Openings.{HaveArity}
use Rattle.sc_layout.specs.Scaled.{AreScaled}

-- a kind with its coefficient
abbrev pub scaled : Kind → ℕ → Scaled
scaled k c = record { kind = k; coefficient = c }

-- one statement more at the end
pub scaled_from-append : (o : Ops) (c p : ℕ) (ss : List Statement) (s : Statement) → scaled_from o c p (ss ++ s ∷ []) ≡ scaled_from o c p ss ++ scaled s.kind (power o c (p + length ss)) ∷ []
unfolding scaled_from
scaled_from-append o c p [] s = let none : p ≡ p + 0 = omega arith in ap (λ k. scaled s.kind (power o c k) ∷ []) none
scaled_from-append o c p (t ∷ ss) s =
    let more : suc p + length ss ≡ p + suc (length ss) = omega arith in
    ap (λ l. scaled t.kind (power o c p) ∷ l) (scaled_from-append o c (suc p) ss s ∙ ap (λ k. scaled_from o c (suc p) ss ++ scaled s.kind (power o c k) ∷ []) more)

module _ {EF : Type 0} (o : Ops) (ring : IsRing o) (number : EF → ℕ) where
  pub scaled-none : (c : EF) (s : ScaledClaims EF) → s.claims.items ≡ [] → s.challenge ≡ c → number s.power ≡ 1 → AreScaled o number (number c) [] s
  unfolding power scaled_from
  scaled-none c s empty same one = record { challenge_is = ap number same; power_is = one; claims_are = ap (claims_in number) empty }

  pub scaled-more : (a : ℕ) (ss : List Statement) (v : ℕ) (k : SvoClaim EF) (s t : ScaledClaims EF) → t.claims.items ≡ s.claims.items ++ k ∷ [] → t.challenge ≡ s.challenge →
      number t.power ≡ times o (number s.power) (number s.challenge) → k.coefficient ≡ s.power → AreScaled o number a ss s →
      AreScaled o number a (ss ++ claims (kind_by k.successor (map number k.point)) v ∷ []) t
  unfolding power
  scaled-more a ss v k s t put same power_more coefficient before =
      let kind = kind_by k.successor (map number k.point) in
      let more : length (ss ++ claims kind v ∷ []) ≡ suc (length ss) = omega (arith, length-append ss (claims kind v ∷ [])) in
      let none : length ss ≡ 0 + length ss = omega arith in
      record {
        challenge_is = ap number same ∙ before.challenge_is;
        power_is = power_more ∙ ap (λ p. times o p (number s.challenge)) before.power_is ∙ ap (times o (power o a (length ss))) before.challenge_is
            ∙ times_comm o ring (power o a (length ss)) a ∙ ap (power o a) (sym more);
        claims_are = ap (claims_in number) put ∙ map-append (scaled_in number) s.claims.items (k ∷ []) ∙ ap (λ l. l ++ scaled_in number k ∷ []) before.claims_are
            ∙ ap (λ c. scaled_from o a 0 ss ++ scaled kind c ∷ []) (ap number coefficient ∙ before.power_is ∙ ap (power o a) none) ∙ sym (scaled_from-append o a 0 ss (claims kind v));
      }

-- ---- all openings of a book

pub flat-is : {X Y Z : Type 0} (g : Y → List Z) (f : X → Y) (xs : List X) → flat_map g (map f xs) ≡ flat_map (λ x. g (f x)) xs
flat-is g f [] = refl
flat-is g f (x ∷ xs) = ap (λ l. g (f x) ++ l) (flat-is g f xs)

-- a claim of such a kind is at a point of as many coordinates
kind-on : (n : ℕ) (successor : Bool) (zs : List ℕ) → arity_of n (kind_by successor zs) ≡ n → length zs ≡ n
kind-on n true zs is = omega (arith, is)
kind-on n false zs is = is

-- claims that are statements on tables of n variables
pub scaled-on : {EF : Type 0} (o : Ops) (number : EF → ℕ) (a p n : ℕ) (cs : List (SvoClaim EF)) (ss : List Statement) →
    claims_in number cs ≡ scaled_from o a p ss → HaveArity n ss → AreOn n cs
unfolding scaled_from
scaled-on o number a p n [] ss is on = All-nil (λ (c : SvoClaim _). length c.point ≡ n)
scaled-on o number a p n (c ∷ cs) [] is on = absurd (omega (arith, ap length is))
scaled-on o number a p n (c ∷ cs) (s ∷ ss) is on =
    let d = scaled s.kind (power o a p) in
    let here : kind_by c.successor (map number c.point) ≡ s.kind = ap (λ l. (get_or l 0 d).kind) is in
    let arity : arity_of n (kind_by c.successor (map number c.point)) ≡ n = ap (arity_of n) here ∙ All-head (λ (t : Statement). arity_of n t.kind ≡ n) s ss on in
    All-cons (λ (c : SvoClaim _). length c.point ≡ n) c cs (sym (length-map c.point number) ∙ kind-on n c.successor (map number c.point) arity)
    (scaled-on o number a (suc p) n cs ss (ap (drop 1) is) (All-tail (λ (t : Statement). arity_of n t.kind ≡ n) s ss on))
