-- The target after a round, as it is computed.
use Rattle.std.proofs.Common.{◌≡◌, ℕ, suc, ◌+◌, ◌-◌, ◌<◌, ◌≤◌, List, [], ◌∷◌, length, map, take, drop, get_or, sym, ◌∙◌, ap, refl, arith}
use Rattle.std.proofs.lemmas.List.{take_all, drop_all, drop_more}
use Rattle.sc_definitions.specs.Ring.{Ops, plus, minus, times}
use Rattle.sc_definitions.specs.Polynomials.{poly_at}
use Rattle.sc_zk_definitions.specs.Masks.{sum_of, unwired, next_target}

module _ {X : Type 0} (number : X → ℕ) (o : Ops) where
  -- no wire leaves 0
  pub target-none : (t r : ℕ) (wire : List X) → length wire < 1 → next_target o t (map number wire) r ≡ 0
  unfolding next_target unwired poly_at
  target-none t r [] none = refl
  target-none t r (w ∷ ws) none = absurd (omega (arith, none))

  -- the constant, and what stands after it
  pub target-some : (t r : ℕ) (wire : List X) (w : X) (total tail result : ℕ) → 1 ≤ length wire → w ≡ get_or wire 0 w →
      total ≡ sum_of o (map number (take (length wire - 1) (drop 1 wire))) → tail ≡ poly_at o (map number (take (length wire - 1) (drop 1 wire))) r →
      result ≡ plus o (number w) (times o r (plus o (minus o (minus o t (plus o (number w) (number w))) total) (times o r tail))) →
      result ≡ next_target o t (map number wire) r
  unfolding next_target unwired poly_at
  target-some t r [] w total tail result some is total_is tail_is result_is = absurd (omega (arith, some))
  target-some t r (v ∷ vs) w total tail result some is total_is tail_is result_is =
      let whole : take (suc (length vs) - 1) vs ≡ vs = take_all (suc (length vs) - 1) vs (omega arith) in
      let c = number w in
      let line = λ (s p : ℕ). plus o c (times o r (plus o (minus o (minus o t (plus o c c)) s) (times o r p))) in
      result_is ∙ ap (λ s. line s tail) (total_is ∙ ap (λ l. sum_of o (map number l)) whole)
      ∙ ap (line (sum_of o (map number vs))) (tail_is ∙ ap (λ l. poly_at o (map number l) r) whole)
      ∙ ap (λ k. plus o k (times o r (plus o (minus o (minus o t (plus o k k)) (sum_of o (map number vs))) (times o r (poly_at o (map number vs) r))))) (ap number is)

  -- no value
  pub sum-none : (values : List X) (v : ℕ) → v ≡ 0 → v ≡ sum_of o (map number (drop (length values) values))
  unfolding sum_of
  sum-none values v none = none ∙ sym (ap (λ l. sum_of o (map number l)) (drop_all (length values) values (omega arith)))

  -- one value more at the front
  pub sum-more : (values : List X) (i : ℕ) (v : X) (before after : ℕ) → i < length values → v ≡ get_or values i v →
      before ≡ sum_of o (map number (drop (i + 1) values)) → after ≡ plus o (number v) before → after ≡ sum_of o (map number (drop i values))
  unfolding sum_of
  sum-more values i v before after inside is so_far more =
      more ∙ ap (plus o (number v)) so_far ∙ ap (λ x. plus o (number x) (sum_of o (map number (drop (i + 1) values)))) is
      ∙ sym (ap (λ l. sum_of o (map number l)) (drop_more values i v inside))
