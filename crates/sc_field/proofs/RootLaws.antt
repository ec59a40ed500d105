-- The loops of values and of counted roots.
use Rattle.std.proofs.Common.{◌≡◌, ℕ, zero, suc, ◌+◌, ◌-◌, ◌*◌, ◌/◌, ◌<◌, ◌≤◌, subst, ◌==◌, List, [], ◌∷◌, length, map, drop, get_or, if◌then◌else◌, Bool, sym, ◌∙◌, ap, refl, arith}
use Rattle.sc_definitions.specs.Ring.{Ops, IsRing, plus, times}
use Rattle.sc_definitions.specs.Polynomials.{poly_at}
use Rattle.sc_definitions.specs.Roots.{count_below, root_count}
use Rattle.sc_definitions.proofs.RingLaws.{plus_comm, times_comm}

-- the value of the coefficients after one place is told by the value of those after the next
pub value-before : {X : Type 0} (o : Ops) (number : X → ℕ) (cs : List X) (k x : ℕ) (c : X) → k < length cs → c ≡ get_or cs k c →
    poly_at o (drop k (map number cs)) x ≡ plus o (number c) (times o x (poly_at o (drop (suc k) (map number cs)) x))
unfolding poly_at
value-before o number [] k x c low is = absurd (omega (arith, low))
value-before o number (d ∷ cs) zero x c low is = ap (λ e. plus o (number e) (times o x (poly_at o (map number cs) x))) (sym is)
value-before o number (d ∷ cs) (suc k) x c low is = value-before o number cs k x c (omega (arith, low)) is

pub value-none : (o : Ops) (k : ℕ) (cs : List ℕ) (x : ℕ) → length cs ≡ k → poly_at o (drop k cs) x ≡ 0
unfolding poly_at
value-none o zero [] x e = refl
value-none o zero (c ∷ cs) x e = absurd (omega (arith, e))
value-none o (suc k) [] x e = absurd (omega (arith, e))
value-none o (suc k) (c ∷ cs) x e = value-none o k cs x (omega (arith, e))

-- one step of Horner's rule: the coefficient before those of a value joins them
pub horner : {X : Type 0} (o : Ops) (ring : IsRing o) (number : X → ℕ) (cs : List X) (i x before after : ℕ) (a : X) → i < length cs →
    a ≡ get_or cs (length cs - 1 - i) a → before ≡ poly_at o (drop (length cs - i) (map number cs)) x →
    after ≡ plus o (times o before x) (number a) → after ≡ poly_at o (drop (length cs - (i + 1)) (map number cs)) x
horner o ring number cs i x before after a low is at step =
    let k = length cs - (i + 1) in
    let here : length cs - 1 - i ≡ k = omega (arith, low) in
    let next : length cs - i ≡ suc k = omega (arith, low) in
    let rest = poly_at o (drop (suc k) (map number cs)) x in
    step
    ∙ ap (λ v. plus o v (number a)) (ap (λ v. times o v x) (at ∙ ap (λ j. poly_at o (drop j (map number cs)) x) next) ∙ times_comm o ring rest x)
    ∙ plus_comm o ring (times o x rest) (number a)
    ∙ sym (value-before o number cs k x a (omega (arith, low)) (subst (λ j. a ≡ get_or cs j a) here is))

pub value-all : (o : Ops) (cs : List ℕ) (x v k : ℕ) → v ≡ poly_at o (drop k cs) x → k ≡ 0 → v ≡ poly_at o cs x
value-all o cs x v k is none = is ∙ ap (λ j. poly_at o (drop j cs) x) none

-- how many there are below the next number
counted : (n k v : ℕ) (test : ℕ → Bool) → v ≡ (if test n then 1 else 0) → k ≡ count_below n test → v + k ≡ count_below (suc n) test
unfolding count_below
counted n k v test one below = ap (λ u. u + k) one ∙ ap (λ u. (if test n then 1 else 0) + u) below

-- one element more is tried
pub counted-next : (o : Ops) (cs : List ℕ) (n before v : ℕ) → before ≡ count_below n (λ x. poly_at o cs x == 0) →
    v ≡ (if poly_at o cs n == 0 then 1 else 0) → before + v ≡ count_below (n + 1) (λ x. poly_at o cs x == 0)
counted-next o cs n before v below one =
    let swap : before + v ≡ v + before = omega arith in
    let next : suc n ≡ n + 1 = omega arith in
    swap ∙ counted n before v (λ x. poly_at o cs x == 0) one below ∙ ap (λ k. count_below k (λ x. poly_at o cs x == 0)) next

-- four elements more
pub counted-four : (o : Ops) (cs : List ℕ) (n a b c d : ℕ) → a ≡ (if poly_at o cs n == 0 then 1 else 0) →
    b ≡ (if poly_at o cs (n + 1) == 0 then 1 else 0) → c ≡ (if poly_at o cs (n + 2) == 0 then 1 else 0) →
    d ≡ (if poly_at o cs (n + 3) == 0 then 1 else 0) →
    count_below (n + 4) (λ x. poly_at o cs x == 0) ≡ a + b + c + d + count_below n (λ x. poly_at o cs x == 0)
counted-four o cs n a b c d first second third fourth =
    let test : ℕ → Bool = λ x. poly_at o cs x == 0 in
    let below = count_below n test in
    let two : n + 1 + 1 ≡ n + 2 = omega arith in
    let three : n + 2 + 1 ≡ n + 3 = omega arith in
    let four : n + 3 + 1 ≡ n + 4 = omega arith in
    let one-more = counted-next o cs n below a refl first in
    let two-more = counted-next o cs (n + 1) (below + a) b one-more second ∙ ap (λ k. count_below k test) two in
    let three-more = counted-next o cs (n + 2) (below + a + b) c two-more third ∙ ap (λ k. count_below k test) three in
    let four-more = counted-next o cs (n + 3) (below + a + b + c) d three-more fourth ∙ ap (λ k. count_below k test) four in
    let order : below + a + b + c + d ≡ a + b + c + d + below = omega arith in
    sym four-more ∙ order

pub counted-all : (o : Ops) (cs : List ℕ) (n v : ℕ) → v ≡ count_below n (λ x. poly_at o cs x == 0) → n ≡ o.size → v ≡ root_count o cs
unfolding root_count
counted-all o cs n v is all = is ∙ ap (λ k. count_below k (λ x. poly_at o cs x == 0)) all

-- the last element is reached after the fours
pub all-tried : (n size end i : ℕ) → n ≡ size → end ≡ size → end ≤ i → (4 * (n / 4) ≤ end → i ≤ end) → i ≡ size
all-tried n size end i first second past short =
    let fours : 4 * (n / 4) ≤ end = omega (arith, first, second) in
    let least = short fours in
    omega (arith, past, least, second)
