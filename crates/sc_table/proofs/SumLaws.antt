-- Sums of products by pieces.
use Rattle.std.proofs.Common.{◌≡◌, ℕ, ◌+◌, ◌<◌, sym, ◌∙◌, ap}
use Rattle.sc_definitions.specs.Ring.{Ops, IsRing, plus, times}
use Rattle.sc_definitions.specs.Tables.{sum_below}
use Rattle.sc_definitions.proofs.Sums.{sum-same, sum-split}
use Rattle.sc_field.specs.Products.{products}
pub use Rattle.sc_field.proofs.ColumnLaws.{HaveGained, gained-none, gained-more, gained-block}

-- products of tables that agree
pub products-same : (o : Ops) (n : ℕ) (f g w v : ℕ → ℕ) → ((k : ℕ) → k < n → f k ≡ g k) → ((k : ℕ) → k < n → w k ≡ v k) →
    products o n f w ≡ products o n g v
unfolding products
products-same o n f g w v evals weights = sum-same o n _ _ (λ k low. cc (evals k low, weights k low))

-- a piece more of a sum
pub products-piece : (o : Ops) → IsRing o → (from n : ℕ) (f w piece weights : ℕ → ℕ) → ((k : ℕ) → k < n → piece k ≡ f (from + k)) →
    ((k : ℕ) → k < n → weights k ≡ w (from + k)) →
    (sum gain new : ℕ) → sum ≡ products o from f w → gain ≡ products o n piece weights → new ≡ plus o sum gain → new ≡ products o (from + n) f w
unfolding products
products-piece o ring from n f w piece weights piece_is weights_are sum gain new sum_is gain_is new_is =
    new_is ∙ ap (λ k. plus o k gain) sum_is
    ∙ ap (plus o (products o from f w)) (gain_is ∙ products-same o n piece (λ k. f (from + k)) weights (λ k. w (from + k)) piece_is weights_are)
    ∙ sym (sum-split o ring from n _)

-- products of tables that agree with a sum's terms
pub products-sum : (o : Ops) (size n : ℕ) (f w : ℕ → ℕ) (term : ℕ → ℕ) → size ≡ n → ((k : ℕ) → k < n → times o (f k) (w k) ≡ term k) →
    products o size f w ≡ sum_below o n term
unfolding products
products-sum o size n f w term e same = ap (λ j. products o j f w) e ∙ sum-same o n _ _ same
