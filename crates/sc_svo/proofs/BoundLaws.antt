-- Tables with the variables of small-value rounds bound.
use Rattle.std.proofs.Common.{◌≡◌, ℕ, ◌+◌, ◌*◌, ◌^◌, ◌<◌, List, [], ◌∷◌, ◌++◌, length, take, get_or, reverse, refl, sym, ◌∙◌, ap, subst, arith}
use Rattle.std.proofs.lemmas.List.{append-nil}
use Rattle.sc_definitions.specs.Ring.{Ops, IsRing, element, plus, times}
use Rattle.sc_definitions.specs.Tables.{Order, prefix, suffix, evaluation, sum_below, entries, equality_weight, value, digits, placed, point_of, folded_by}
use Rattle.sc_definitions.specs.Statements.{weight_of}
use Rattle.sc_definitions.specs.Rounds.{partial_value}
use Rattle.sc_definitions.specs.Partials.{summed_first, summed_last}
use Rattle.sc_definitions.specs.Combined.{Scaled, combined_weight}
use Rattle.sc_definitions.proofs.RingLaws.{plus_comm, plus_below}
use Rattle.sc_definitions.proofs.Lengths.{pow-same}
use Rattle.sc_definitions.proofs.Sums.{sum-same}
use Rattle.sc_definitions.proofs.PlacedLaws.{partial_value-folded_by}
use Rattle.sc_definitions.proofs.PlacedSums.{folded_by-summed_first, folded_by-summed_last, folded_by-sum_element, folded_by-combined_none, element-folded_by}
use Rattle.sc_table.specs.declared.poly.Poly.{Poly}
use Rattle.sc_table.specs.Polys.{variables_of, table_of}
use Rattle.sc_partials.specs.Partials.{joined}
use Rattle.sc_svo.specs.declared.claims.SvoClaim.{SvoClaim}
use Rattle.sc_svo.specs.Claims.{scaled_in, scaled_value, claims_in, AddsRows}
use Rattle.sc_svo.specs.Bound.{IsBoundTable}
use Rattle.sc_svo.proofs.BatchLaws.{combined-append, claims-next}

module _ {EF : Type 0} (o : Ops) (ring : IsRing o) (number : EF → ℕ) (f w : ℕ → ℕ) (rows k : ℕ) (point rs : List ℕ) (p : Poly EF)
    (below : (b : ℕ) → f b < o.size) (many : k ≡ length rs) (size : rows ≡ 2 ^ (k + variables_of p)) (weights : (b : ℕ) → b < 2 ^ k → w b ≡ equality_weight o point b) where
  whole : rows ≡ 2 ^ (length rs + variables_of p)
  whole = size ∙ ap (λ n. 2 ^ (n + variables_of p)) many

  -- summed over its first variables under the weights of challenges, it is the table that they leave in prefix order
  pub bound-first : (order : Order) → order ≡ prefix → point ≡ point_of order rs →
      ((c : ℕ) → c < 2 ^ variables_of p → table_of number p c ≡ summed_first o k (variables_of p) w f c) → IsBoundTable o number order f rows rs p
  unfolding summed_first
  bound-first order is point_is rows_are =
      let m = variables_of p in
      let same : point ≡ rs = point_is ∙ ap (λ t. point_of t rs) is ∙ append-nil rs in
      record {
        size = whole;
        entries_are = λ b low.
            rows_are b low
            ∙ sum-same o (2 ^ k) _ (λ a. times o (f (a * 2 ^ m + b)) (equality_weight o rs a)) (λ a small. ap (times o (f (a * 2 ^ m + b))) (weights a small ∙ ap (λ t. equality_weight o t a) same))
            ∙ ap (λ n. sum_below o (2 ^ n) (λ a. times o (f (a * 2 ^ m + b)) (equality_weight o rs a))) many
            ∙ sym (folded_by-summed_first o ring f rs m b)
            ∙ element-folded_by o ring evaluation prefix f rs m b (λ j _. below j) low
            ∙ ap (λ t. folded_by evaluation t o rs m f b) (sym is);
      }

  -- and over its last variables, in suffix order
  pub bound-last : (order : Order) → order ≡ suffix → point ≡ point_of order rs →
      ((a : ℕ) → a < 2 ^ variables_of p → table_of number p a ≡ summed_last o k w f a) → IsBoundTable o number order f rows rs p
  unfolding summed_last
  bound-last order is point_is rows_are =
      let m = variables_of p in
      let same : point ≡ reverse rs = point_is ∙ ap (λ t. point_of t rs) is in
      record {
        size = whole;
        entries_are = λ b low.
            rows_are b low
            ∙ sum-same o (2 ^ k) _ (λ c. times o (f (b * 2 ^ k + c)) (equality_weight o (reverse rs) c)) (λ c small. ap (times o (f (b * 2 ^ k + c))) (weights c small ∙ ap (λ t. equality_weight o t c) same))
            ∙ ap (λ n. sum_below o (2 ^ n) (λ c. times o (f (b * 2 ^ n + c)) (equality_weight o (reverse rs) c))) many
            ∙ sym (folded_by-summed_last o ring f rs m b)
            ∙ element-folded_by o ring evaluation suffix f rs m b (λ j _. below j) low
            ∙ ap (λ t. folded_by evaluation t o rs m f b) (sym is);
      }

-- ---- the weights of claims

-- the rows are the weights of claims, bound at challenges
pub AreBound : {EF : Type 0} → Ops → (EF → ℕ) → Order → ℕ → List ℕ → List (SvoClaim EF) → List EF → Type 0
AreBound o number order m rs cs rows = (b : ℕ) → b < 2 ^ m → entries number rows b ≡ element o (folded_by evaluation order o rs m (combined_weight o (claims_in number cs)) b)

module _ {EF : Type 0} (o : Ops) (ring : IsRing o) (number : EF → ℕ) (order : Order) (m : ℕ) where
  joined_point : (o' : Order) (rs ds : List ℕ) → joined o' (point_of o' rs) ds ≡ placed o' rs ds
  joined_point prefix rs ds = ap (λ t. t ++ ds) (append-nil rs)
  joined_point suffix rs ds = refl

  combined_below : (cs : List Scaled) (b : ℕ) → combined_weight o cs b < o.size
  unfolding combined_weight
  combined_below [] b = omega (arith, ring.at_least_two)
  combined_below (c ∷ cs) b = plus_below o ring (times o c.coefficient (weight_of o c.kind b)) (combined_weight o cs b)

  partial_value_is : (g : ℕ → ℕ) (rs : List ℕ) (b : ℕ) → b < 2 ^ m → value o g (placed order rs (digits m b)) ≡ element o (folded_by evaluation order o rs m g b)
  unfolding partial_value
  partial_value_is g rs b low = partial_value-folded_by o ring evaluation order g rs m b low

  -- rows of zeros are those of no claims
  pub bound-none : (rs : List ℕ) (rows : List EF) → ((b : ℕ) → b < 2 ^ m → entries number rows b ≡ 0) → AreBound o number order m rs [] rows
  unfolding AreBound
  bound-none rs rows zeros b low = zeros b low ∙ sym (folded_by-combined_none o ring evaluation order rs m b)

  -- with the weights of one claim more added, they are those of one claim more
  pub bound-more : (rs : List ℕ) (claims : List (SvoClaim EF)) (i : ℕ) (c : SvoClaim EF) (old new : List EF) → i < length claims → c ≡ get_or claims i c →
      length old ≡ 2 ^ m → AreBound o number order m rs (take i claims) old →
      AddsRows number o (λ b. scaled_value o (scaled_in number c) (joined order (point_of order rs) (digits m b))) old new →
      AreBound o number order m rs (take (i + 1) claims) new
  unfolding AreBound
  bound-more rs claims i c old new low read size so_far gains b small =
      let w = weight_of o (scaled_in number c).kind in
      let x = number c.coefficient in
      let cs = claims_in number (take i claims) in
      let v = combined_weight o cs in
      let at : (ℕ → ℕ) → ℕ = λ t. element o (folded_by evaluation order o rs m t b) in
      let here : value o w (joined order (point_of order rs) (digits m b)) ≡ at w =
      ap (value o w) (joined_point order rs (digits m b)) ∙ partial_value_is w rs b small in
      gains.rows b (subst (λ n. b < n) (sym size) small)
      ∙ ap (λ t. plus o t (times o x (value o w (joined order (point_of order rs) (digits m b))))) (so_far b small)
      ∙ ap (λ t. plus o (at v) (times o x t)) here
      ∙ plus_comm o ring (at v) (times o x (at w))
      ∙ sym (folded_by-sum_element o ring evaluation order x w v rs m b)
      ∙ ap at (sym (ap (combined_weight o) (claims-next number claims i c low read) ∙ combined-append o ring cs (scaled_in number c)))

  -- at the end, they are the table of all weights that the challenges leave
  pub bound-all : (rs : List ℕ) (cs : List (SvoClaim EF)) (rows : List EF) (p : Poly EF) → length rows ≡ 2 ^ m → length rows ≡ 2 ^ variables_of p →
      table_of number p ≡ entries number rows → AreBound o number order m rs cs rows → (b : ℕ) → b < 2 ^ variables_of p →
      table_of number p b ≡ folded_by evaluation order o rs (variables_of p) (combined_weight o (claims_in number cs)) b
  unfolding AreBound
  bound-all rs cs rows p size p_size table is b low =
      let same : m ≡ variables_of p = pow-same m (variables_of p) (sym size ∙ p_size) in
      let small : b < 2 ^ m = subst (λ k. b < 2 ^ k) (sym same) low in
      ap (λ t. t b) table ∙ is b small
      ∙ element-folded_by o ring evaluation order (combined_weight o (claims_in number cs)) rs m b (λ k _. combined_below (claims_in number cs) k) small
      ∙ ap (λ k. folded_by evaluation order o rs k (combined_weight o (claims_in number cs)) b) same
