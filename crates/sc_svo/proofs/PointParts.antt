-- Points in two parts: the coordinates of the variables that are bound first, and the others.
use Rattle.std.proofs.Common.{Result, Ok, Err, IfOk, ◌≡◌, ℕ, ◌+◌, ◌-◌, ◌*◌, ◌^◌, ◌<◌, List, ◌++◌, length, map, take, drop, sym, ◌∙◌, ap, refl, subst, arith, length-append}
use Rattle.std.proofs.Math.Seq.{take-append_seam, drop-append_seam}
use Rattle.std.proofs.lemmas.List.{map-append}
use Rattle.sc_definitions.specs.Ring.{Ops, IsRing, times}
use Rattle.sc_definitions.specs.Tables.{Order, prefix, suffix, sum_below, equality_weight, eq_product, value, digits}
use Rattle.sc_definitions.specs.Partials.{summed_first, summed_last, partial}
use Rattle.sc_definitions.proofs.RingLaws.{times_comm, times-one}
use Rattle.sc_definitions.proofs.Sums.{sum-same}
use Rattle.sc_definitions.proofs.Lengths.{pow-same}
use Rattle.sc_definitions.proofs.TableLaws.{value-digits, length-digits}
use Rattle.sc_definitions.proofs.ValueLaws.{value-weight}
use Rattle.sc_definitions.proofs.BlockLaws.{equality_weight-append, value-product}
use Rattle.sc_definitions.proofs.SuccessorLaws.{element-weight}
use Rattle.sc_table.specs.declared.poly.Poly.{Poly}
use Rattle.sc_table.specs.Polys.{variables_of, table_of}
use Rattle.sc_partials.specs.Partials.{joined, IsPartial}

pub length-joined : (order : Order) (near far : List ℕ) → length (joined order near far) ≡ length near + length far
length-joined prefix near far = length-append near far
length-joined suffix near far = length-append far near ∙ omega arith

-- the numbers of two parts that are joined
pub joined-numbers : {X : Type 0} (number : X → ℕ) (order : Order) (near far whole : List X) → joined order near far ≡ whole →
    joined order (map number near) (map number far) ≡ map number whole
joined-numbers number prefix near far whole is = sym (map-append number near far) ∙ ap (map number) is
joined-numbers number suffix near far whole is = sym (map-append number far near) ∙ ap (map number) is

pub parts-few : {X : Type 0} (order : Order) (near far whole : List X) → joined order near far ≡ whole → length near + length far ≡ length whole
parts-few prefix near far whole is = sym (length-append near far) ∙ ap length is
parts-few suffix near far whole is = omega (arith, length-append far near, ap length is)

module _ (o : Ops) (ring : IsRing o) where
  -- weights times one
  pub equality_weight-once : (zs : List ℕ) (b one w : ℕ) → one ≡ 1 → w ≡ times o one (equality_weight o zs b) → w ≡ equality_weight o zs b
  equality_weight-once zs b one w is e =
      e ∙ ap (λ x. times o x (equality_weight o zs b)) is ∙ times_comm o ring 1 (equality_weight o zs b) ∙ times-one o ring (equality_weight o zs b) ∙ element-weight o ring zs b

  -- the equality weight of the first part and one of a row are the value of the weights of the whole point where the two are joined
  pub equality_weight-joined : (order : Order) (near far rs : List ℕ) (b : ℕ) → length rs ≡ length near → b < 2 ^ length far →
      times o (eq_product o near rs) (equality_weight o far b) ≡ value o (equality_weight o (joined order near far)) (joined order rs (digits (length far) b))
  equality_weight-joined prefix near far rs b same low =
      let ds = digits (length far) b in
      let size : length ds ≡ length far = length-digits o ring (length far) b in
      sym (value-product o ring (equality_weight o (near ++ far)) (equality_weight o near) (equality_weight o far) rs ds
      (λ a c la lc. ap (λ n. equality_weight o (near ++ far) (a * 2 ^ n + c)) size ∙ equality_weight-append o ring near far a c (rw same at la) (rw size at lc))
      ∙ ap (λ x. times o x (value o (equality_weight o far) ds)) (value-weight o ring near rs (sym same))
      ∙ ap (times o (eq_product o near rs)) (value-digits o ring (equality_weight o far) (length far) b low ∙ element-weight o ring far b))
  equality_weight-joined suffix near far rs b same low =
      let ds = digits (length far) b in
      let size : length ds ≡ length far = length-digits o ring (length far) b in
      sym (value-product o ring (equality_weight o (far ++ near)) (equality_weight o far) (equality_weight o near) ds rs
      (λ a c la lc. ap (λ n. equality_weight o (far ++ near) (a * 2 ^ n + c)) same ∙ equality_weight-append o ring far near a c (rw size at la) (rw same at lc))
      ∙ ap (λ x. times o x (value o (equality_weight o near) rs)) (value-digits o ring (equality_weight o far) (length far) b low ∙ element-weight o ring far b)
      ∙ ap (times o (equality_weight o far b)) (value-weight o ring near rs (sym same))
      ∙ times_comm o ring (equality_weight o far b) (eq_product o near rs))

module _ {EF : Type 0} (o : Ops) (number : EF → ℕ) (f w : ℕ → ℕ) (near far : List ℕ) (rows k : ℕ) (p : Poly EF)
    (whole : rows ≡ 2 ^ (length near + length far)) (size : rows ≡ 2 ^ (k + variables_of p)) (many : k ≡ length far)
    (weights : (b : ℕ) → b < 2 ^ length far → w b ≡ equality_weight o far b) where
  kept_variables : variables_of p ≡ length near
  kept_variables = let same = pow-same (k + variables_of p) (length near + length far) (sym size ∙ whole) in omega (arith, same, many)

  -- summed over its last variables, a table is the partial one that keeps the first
  pub partial-prefix : ((a : ℕ) → a < 2 ^ variables_of p → table_of number p a ≡ summed_last o k w f a) → IsPartial prefix o number f (near ++ far) near p
  unfolding summed_last partial
  partial-prefix rows_are = record {
    others = far;
    whole = refl;
    variables = kept_variables;
    rows = λ a low.
        let left : length (near ++ far) - length near ≡ length far = omega (arith, length-append near far) in
        let behind : drop (length near) (near ++ far) ≡ far = drop-append_seam near far in
        rows_are a (subst (λ n. a < 2 ^ n) (sym kept_variables) low)
        ∙ ap (λ n. sum_below o (2 ^ n) (λ c. times o (f (a * 2 ^ n + c)) (w c))) many
        ∙ sum-same o (2 ^ length far) _ (λ c. times o (f (a * 2 ^ length far + c)) (equality_weight o far c)) (λ c lc. ap (times o (f (a * 2 ^ length far + c))) (weights c lc))
        ∙ ap (λ n. sum_below o (2 ^ n) (λ c. times o (f (a * 2 ^ n + c)) (equality_weight o far c))) (sym left)
        ∙ ap (λ zs. sum_below o (2 ^ (length (near ++ far) - length near)) (λ c. times o (f (a * 2 ^ (length (near ++ far) - length near) + c)) (equality_weight o zs c))) (sym behind);
  }

  -- summed over its first variables, it is the one that keeps the last
  pub partial-suffix : ((a : ℕ) → a < 2 ^ variables_of p → table_of number p a ≡ summed_first o k (variables_of p) w f a) → IsPartial suffix o number f (far ++ near) near p
  unfolding summed_first partial
  partial-suffix rows_are = record {
    others = far;
    whole = refl;
    variables = kept_variables;
    rows = λ a low.
        let left : length (far ++ near) - length near ≡ length far = omega (arith, length-append far near) in
        let behind : take (length (far ++ near) - length near) (far ++ near) ≡ far = ap (λ n. take n (far ++ near)) left ∙ take-append_seam far near in
        rows_are a (subst (λ n. a < 2 ^ n) (sym kept_variables) low)
        ∙ ap (λ n. sum_below o (2 ^ k) (λ c. times o (f (c * 2 ^ n + a)) (w c))) kept_variables
        ∙ ap (λ n. sum_below o (2 ^ n) (λ c. times o (f (c * 2 ^ length near + a)) (w c))) many
        ∙ sum-same o (2 ^ length far) _ (λ c. times o (f (c * 2 ^ length near + a)) (equality_weight o far c)) (λ c lc. ap (times o (f (c * 2 ^ length near + a))) (weights c lc))
        ∙ ap (λ n. sum_below o (2 ^ n) (λ c. times o (f (c * 2 ^ length near + a)) (equality_weight o far c))) (sym left)
        ∙ ap (λ zs. sum_below o (2 ^ (length (far ++ near) - length near)) (λ c. times o (f (c * 2 ^ length near + a)) (equality_weight o zs c))) (sym behind);
  }

-- what follows of an answer from two things
pub if_ok_both : {T E : Type 0} (r : Result T E) (P Q R : T → Type 0) → ((x : T) → P x → Q x → R x) → IfOk r P → IfOk r Q → IfOk r R
if_ok_both (Ok x) P Q R both p q = both x p q
if_ok_both (Err e) P Q R both p q = tt

-- a table that keeps the parts of a point in an order that is known
pub partial-in : {EF : Type 0} (order known : Order) (o : Ops) (number : EF → ℕ) (f : ℕ → ℕ) (near far : List ℕ) (p : Poly EF) → order ≡ known →
    IsPartial known o number f (joined known near far) near p → IsPartial order o number f (joined order near far) near p
partial-in order known o number f near far p same is = subst (λ t. IsPartial t o number f (joined t near far) near p) (sym same) is
