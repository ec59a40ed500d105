-- One product more in a sum of products.
use Rattle.std.proofs.Common.{◌≡◌, ℕ, ◌+◌, sym, ◌∙◌, ap}
use Rattle.sc_definitions.specs.Ring.{Ops, plus, times}
use Rattle.sc_definitions.proofs.Sums.{sum-next, sum-zero}
use Rattle.sc_field.specs.Products.{products}

module _ (o : Ops) (f w : ℕ → ℕ) where
  pub products-none : (s : ℕ) → s ≡ 0 → s ≡ products o 0 f w
  unfolding products
  products-none s is = is ∙ sym (sum-zero o (λ b. times o (f b) (w b)))

  pub products-more : (i s s' : ℕ) → s ≡ products o i f w → s' ≡ plus o s (times o (f i) (w i)) → s' ≡ products o (i + 1) f w
  unfolding products
  products-more i s s' so_far is =
      is ∙ ap (λ k. plus o k (times o (f i) (w i))) so_far ∙ sym (sum-next o i (λ b. times o (f b) (w b)))

  pub products-all : {i n s : ℕ} → i ≡ n → s ≡ products o i f w → s ≡ products o n f w
  products-all e done = done ∙ ap (λ k. products o k f w) e
