-- Columns of a table that are added up.
use Rattle.std.proofs.Common.{◌≡◌, ℕ, ◌+◌, ◌<◌, List, length, sym, ◌∙◌, ap}
use Rattle.sc_definitions.specs.Ring.{Ops, IsRing, plus, times}
use Rattle.sc_definitions.specs.Tables.{sum_below, entries}
use Rattle.sc_definitions.proofs.RingLaws.{plus-zero, plus_assoc, element-small}
use Rattle.sc_definitions.proofs.Sums.{sum-zero, sum-next, sum-split}
use Rattle.sc_field.specs.Products.{products}
use Rattle.sc_field.proofs.EntryLaws.{entry-below}

-- Each row has gained the sum of the first n of its gains.
pub record HaveGained {X : Type 0} (number : X → ℕ) (o : Ops) (gain : ℕ → ℕ → ℕ) (n : ℕ) (old new : List X) : Type 0 where
  pub rows : (c : ℕ) → c < length old → entries number new c ≡ plus o (entries number old c) (sum_below o n (gain c))

module _ {X : Type 0} (number : X → ℕ) (o : Ops) (ring : IsRing o) (gain : ℕ → ℕ → ℕ) (old : List X) where
  -- before the first gain
  pub gained-none : ((x : X) → number x < o.size) → HaveGained number o gain 0 old old
  gained-none below = record {
    rows = λ c low. sym (ap (plus o (entries number old c)) (sum-zero o (gain c)) ∙ plus-zero o ring (entries number old c)
        ∙ element-small o ring (entries number old c) (entry-below o number ring below old c));
  }

  -- one gain more
  pub gained-more : (n : ℕ) (new newer : List X) → HaveGained number o gain n old new →
      ((c : ℕ) → c < length old → entries number newer c ≡ plus o (entries number new c) (gain c n)) → HaveGained number o gain (n + 1) old newer
  gained-more n new newer so_far more = record {
    rows = λ c low. more c low ∙ ap (λ k. plus o k (gain c n)) (so_far.rows c low)
        ∙ plus_assoc o ring (entries number old c) (sum_below o n (gain c)) (gain c n)
        ∙ ap (plus o (entries number old c)) (sym (sum-next o n (gain c)));
  }

  -- m gains more
  pub gained-block : (n m : ℕ) (new newer : List X) → HaveGained number o gain n old new →
      ((c : ℕ) → c < length old → entries number newer c ≡ plus o (entries number new c) (sum_below o m (λ k. gain c (n + k)))) →
      HaveGained number o gain (n + m) old newer
  gained-block n m new newer so_far more = record {
    rows = λ c low. let gains = sum_below o m (λ k. gain c (n + k)) in
        more c low ∙ ap (λ k. plus o k gains) (so_far.rows c low)
        ∙ plus_assoc o ring (entries number old c) (sum_below o n (gain c)) gains
        ∙ ap (plus o (entries number old c)) (sym (sum-split o ring n m (gain c)));
  }

-- the gains of a column are its products
pub gained-products : (o : Ops) (f w : ℕ → ℕ) (n size old new : ℕ) → n ≡ size →
    new ≡ plus o old (sum_below o n (λ a. times o (f a) (w a))) → new ≡ plus o old (products o size f w)
unfolding products
gained-products o f w n size old new e is = is ∙ ap (λ j. plus o old (sum_below o j (λ a. times o (f a) (w a)))) e
