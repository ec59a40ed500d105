-- Rounds over a product of tables, by the lines through the rows of their halves.
use Rattle.std.proofs.Common.{◌≡◌, ◌≢◌, ℕ, zero, suc, ◌+◌, ◌-◌, ◌/◌, ◌^◌, ◌<◌, List, [], ◌∷◌, length, map, slice_index, if◌then◌else◌, ne_eqb, get_or, All, sym, ◌∙◌, ap, refl, subst, arith}
use Rattle.std.specs.List.{range_with_len}
use Rattle.sc_definitions.specs.Ring.{Ops, IsRing, times}
use Rattle.sc_definitions.specs.Tables.{sum_below, value, digits, bound}
use Rattle.sc_definitions.specs.Polynomials.{poly_at}
use Rattle.sc_definitions.specs.Interpolation.{node_values}
use Rattle.sc_definitions.specs.Products.{values_product, product_claim, product_round}
use Rattle.sc_definitions.proofs.Sums.{sum-same}
use Rattle.sc_definitions.proofs.TableLaws.{two_halves, value-bound, value-digits, length-digits}
use Rattle.sc_definitions.proofs.ProductLaws.{product_round-at}
use Rattle.sc_definitions.proofs.Lists.{read_has}
use Rattle.sc_table.specs.declared.poly.Poly.{Poly}
use Rattle.sc_table.specs.Polys.{variables_of, table_of}
use Rattle.sc_degree.specs.declared.table_product.TableProduct.{TableProduct}
use Rattle.sc_degree.specs.Products.{tables_of, product_arity}
use Rattle.sc_degree.specs.Nodes.{node_of}
use Rattle.sc_degree.specs.Lines.{line_at, lines_at}
use Rattle.sc_degree.proofs.LineLaws.{element-line_at, line_at-zero}

-- half of a table's rows
pub half-rows : (n size : ℕ) → 0 < n → size ≡ 2 ^ n → size / 2 ≡ 2 ^ (n - 1)
half-rows zero size some is = absurd (omega (arith, some))
half-rows (suc m) size some is =
    let e : m ≡ suc m - 1 = omega arith in
    let half : size / 2 ≡ 2 ^ m = omega (arith, is, two_halves m) in
    half ∙ ap (λ k. 2 ^ k) e

pub both-halves : (n size : ℕ) → 0 < n → size ≡ 2 ^ n → size / 2 + size / 2 ≡ 2 ^ n
both-halves zero size some is = absurd (omega (arith, some))
both-halves (suc m) size some is = omega (arith, is, two_halves m)

module _ (o : Ops) (ring : IsRing o) where
  -- ---- the sums of lines

  -- a value after one more coordinate
  value-line_at : (f : ℕ → ℕ) (x m b : ℕ) → b < 2 ^ m → value o f (x ∷ digits m b) ≡ line_at o (f b) (f (2 ^ m + b)) x
  unfolding bound line_at
  value-line_at f x m b low =
      value-bound o ring f x (digits m b)
      ∙ ap (λ k. value o (bound o (2 ^ k) x f) (digits m b)) (length-digits o ring m b)
      ∙ value-digits o ring (bound o (2 ^ m) x f) m b low
      ∙ element-line_at o ring (f b) (f (2 ^ m + b)) x

  values-lines_at : (fs : List (ℕ → ℕ)) (x m b : ℕ) → b < 2 ^ m → values_product o fs (x ∷ digits m b) ≡ lines_at o fs b (2 ^ m + b) x
  unfolding values_product lines_at
  values-lines_at [] x m b low = refl
  values-lines_at (f ∷ fs) x m b low =
      ap (λ v. times o v (values_product o fs (x ∷ digits m b))) (value-line_at f x m b low)
      ∙ ap (times o (line_at o (f b) (f (2 ^ m + b)) x)) (values-lines_at fs x m b low)

  values-rows : (fs : List (ℕ → ℕ)) (m b x : ℕ) → x ≡ 0 → b < 2 ^ m → values_product o fs (digits m b) ≡ lines_at o fs b b x
  unfolding values_product lines_at
  values-rows [] m b x none low = refl
  values-rows (f ∷ fs) m b x none low =
      ap (λ v. times o v (values_product o fs (digits m b))) (value-digits o ring f m b low ∙ sym (line_at-zero o ring (f b) (f b) x none))
      ∙ ap (times o (line_at o (f b) (f b) x)) (values-rows fs m b x none low)

  -- the sum over all rows
  pub claim-rows : (fs : List (ℕ → ℕ)) (m n x : ℕ) → x ≡ 0 → n ≡ 2 ^ m → sum_below o n (λ b. lines_at o fs b b x) ≡ product_claim o fs [] m
  unfolding product_claim
  claim-rows fs m n x none size =
      ap (λ k. sum_below o k (λ b. lines_at o fs b b x)) size
      ∙ sum-same o (2 ^ m) _ _ (λ b low. sym (values-rows fs m b x none low))

  -- the same of a product's own tables, which have as many rows as the first of them
  pub sum-whole : {A : Type 0} (number : A → ℕ) (p : TableProduct A) (tables : List (Poly A)) (first : Poly A) (n x : ℕ) →
      tables ≡ p.tables.items → first ≡ get_or tables 0 first → n ≡ 2 ^ variables_of first → x ≡ 0 →
      sum_below o n (λ b. lines_at o (map (table_of number) tables) b b x) ≡ product_claim o (tables_of number p) [] (product_arity p)
  sum-whole number p tables first n x are is size none =
      let some : 0 < length tables = omega (arith, ap length are, p.some) in
      let all = subst (All (λ t. variables_of t ≡ p.variables)) (sym are) p.same in
      let arity : variables_of first ≡ p.variables = read_has (λ t. variables_of t ≡ p.variables) tables 0 first all some is in
      claim-rows (map (table_of number) tables) p.variables n x none (size ∙ ap (λ k. 2 ^ k) arity)
      ∙ ap (λ ts. product_claim o (map (table_of number) ts) [] p.variables) are

  -- the sum of the lines at x is the round's polynomial there
  pub round-lines : (fs : List (ℕ → ℕ)) (m half x : ℕ) → half ≡ 2 ^ m →
      sum_below o half (λ b. lines_at o fs b (half + b) x) ≡ poly_at o (product_round o fs [] m) x
  unfolding product_claim
  round-lines fs m half x size =
      ap (λ k. sum_below o k (λ b. lines_at o fs b (k + b) x)) size
      ∙ sum-same o (2 ^ m) _ _ (λ b low. sym (values-lines_at fs x m b low))
      ∙ sym (product_round-at o ring fs [] m x)

-- ---- what a round sends

values-map : (f : ℕ → ℕ) (vs : List ℕ) (a n : ℕ) → length vs ≡ n → ((k : ℕ) → k < n → slice_index vs k ≡ f (a + k)) → vs ≡ map f (range_with_len a n)
values-map f [] a zero size are = refl
values-map f [] a (suc n) size are = absurd (omega (arith, size))
values-map f (v ∷ vs) a zero size are = absurd (omega (arith, size))
values-map f (v ∷ vs) a (suc n) size are =
    let here : v ≡ f a = are 0 (omega arith) ∙ (let e : a + 0 ≡ a = omega arith in ap f e) in
    let rest : vs ≡ map f (range_with_len (a + 1) n) =
    values-map f vs (a + 1) n (omega (arith, size)) (λ k low. are (suc k) (omega (arith, low)) ∙ (let e : a + suc k ≡ a + 1 + k = omega arith in ap f e)) in
    ap (λ x. x ∷ vs) here ∙ ap (λ xs. f a ∷ xs) rest

node-later : (k : ℕ) → node_of (suc k) ≡ 2 + k
node-later k =
    let e : suc k + 1 ≡ 2 + k = omega arith in
    let later : suc k ≢ 0 = λ none. omega (arith, none) in
    ap (λ t. if t then 0 else suc k + 1) (ne_eqb (suc k) 0 later) ∙ e

-- values at the nodes of a degree, one by one
pub node_values-are : (o : Ops) (cs vs : List ℕ) (d : ℕ) → length vs ≡ d → ((k : ℕ) → k < d → slice_index vs k ≡ poly_at o cs (node_of k)) → vs ≡ node_values o d cs
unfolding node_values
node_values-are o cs [] zero size are = refl
node_values-are o cs [] (suc d) size are = absurd (omega (arith, size))
node_values-are o cs (v ∷ vs) zero size are = absurd (omega (arith, size))
node_values-are o cs (v ∷ vs) (suc d) size are =
    ap (λ x. x ∷ vs) (are 0 (omega arith))
    ∙ ap (λ xs. poly_at o cs 0 ∷ xs)
    (values-map (poly_at o cs) vs 2 d (omega (arith, size)) (λ k low. are (suc k) (omega (arith, low)) ∙ ap (poly_at o cs) (node-later k)))
