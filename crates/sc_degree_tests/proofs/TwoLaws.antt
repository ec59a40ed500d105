-- The loops of the test's prover.
use Rattle.std.proofs.Common.{◌≡◌, ℕ, ◌+◌, ◌/◌, ◌<◌, ◌≤◌, List, [], ◌∷◌, length, map, get_or, take, set, sym, ◌∙◌, ap, refl, subst, arith}
use Rattle.std.specs.Prelude.{slice_index}
use Rattle.std.specs.List.{range_with_len}
use Rattle.std.proofs.lemmas.List.{length-map, length-take-le, get_or-take, take-map}
use Rattle.std.proofs.lemmas.List.FromFn.{length-map-range_with_len, get_or-map-range_with_len}
use Rattle.std.proofs.lemmas.Grind.{same_number_lists}
use Rattle.sc_definitions.specs.Ring.{Ops, plus, ◌+⟨◌⟩◌, ◌-⟨◌⟩◌, ◌*⟨◌⟩◌}
use Rattle.sc_definitions.specs.Tables.{sum_below, entries}
use Rattle.sc_definitions.specs.Polynomials.{poly_at}
use Rattle.sc_definitions.specs.Interpolation.{node_values}
use Rattle.sc_definitions.proofs.Sums.{sum-next}
use Rattle.sc_field.specs.Written.{HasWritten}
use Rattle.sc_field.proofs.EntryLaws.{entry-read}
use Rattle.sc_field.proofs.WrittenLaws.{written-more}
use Rattle.sc_degree_tests.specs.Sums.{gap, bound_at, bound, constant, linear, leading}

-- ---- reads

pub entry_is : {X : Type 0} (number : X → ℕ) (xs : List X) (k : ℕ) (x : X) → k < length xs → x ≡ get_or xs k x → slice_index (map number xs) k ≡ number x
unfolding entries
entry_is number xs k x low is = entry-read number xs k x low is

halves : {X : Type 0} (number : X → ℕ) (xs : List X) (half : ℕ) → half ≡ length xs / 2 → length (map number xs) / 2 ≡ half
halves number xs half is = ap (λ n. n / 2) (length-map _ _) ∙ sym is

pub gap_is : {X : Type 0} (o : Ops) (number : X → ℕ) (xs : List X) (k half : ℕ) (x y : X) (g : ℕ) → half ≡ length xs / 2 → k < half →
    x ≡ get_or xs k x → y ≡ get_or xs (half + k) y → g ≡ number y -⟨ o ⟩ number x → g ≡ gap o (map number xs) k
unfolding gap
gap_is o number xs k half x y g is low x_is y_is g_is =
    let first = entry_is number xs k x (omega (arith, low, is)) x_is in
    let second = entry_is number xs (half + k) y (omega (arith, low, is)) y_is in
    g_is ∙ sym (rw (halves number xs half is, first, second) refl)

-- ---- sums

pub sum_more : (o : Ops) (f : ℕ → ℕ) (k s s' v : ℕ) → s ≡ sum_below o k f → v ≡ f k → s' ≡ s +⟨ o ⟩ v → s' ≡ sum_below o (k + 1) f
sum_more o f k s s' v so_far is more = more ∙ ap (λ t. t +⟨ o ⟩ v) so_far ∙ ap (plus o (sum_below o k f)) is ∙ sym (sum-next o k f)

module _ (o : Ops) (xs ys : List ℕ) (k x y gx gy : ℕ) (x_is : slice_index xs k ≡ x) (y_is : slice_index ys k ≡ y) (gx_is : gx ≡ gap o xs k) (gy_is : gy ≡ gap o ys k) where
  pub constant_is : (v : ℕ) → v ≡ x *⟨ o ⟩ y → v ≡ constant o xs ys k
  unfolding constant
  constant_is v is = rw (x_is, y_is) is

  pub linear_is : (p q v : ℕ) → p ≡ x *⟨ o ⟩ gy → q ≡ gx *⟨ o ⟩ y → v ≡ p +⟨ o ⟩ q → v ≡ linear o xs ys k
  unfolding linear
  linear_is p q v p_is q_is is = rw (x_is, y_is, ← gx_is, ← gy_is, ← p_is, ← q_is) is

  pub leading_is : (v : ℕ) → v ≡ gx *⟨ o ⟩ gy → v ≡ leading o xs ys k
  unfolding leading
  leading_is v is = rw (← gx_is, ← gy_is) is

-- ---- a table that is bound in its place

module _ {X : Type 0} (o : Ops) (r : ℕ) (number : X → ℕ) (old new : List X) (k half : ℕ) (so_far : HasWritten number (bound_at o r (map number old)) 0 k old new) (half_is : half ≡ length old / 2) (same : length new ≡ length old) where
  -- one row more
  pub bound_more : k < half → (x y z : X) (s m : ℕ) → x ≡ get_or new k x → y ≡ get_or new (half + k) y → s ≡ number y -⟨ o ⟩ number x → m ≡ s *⟨ o ⟩ r → number z ≡ number x +⟨ o ⟩ m →
      HasWritten number (bound_at o r (map number old)) 0 (k + 1) old (set new k z)
  unfolding entries bound_at gap
  bound_more low x y z s m x_is y_is s_is m_is z_is =
      let at : 0 + k ≡ k = omega arith in
      let first : slice_index (map number old) k ≡ number x =
      sym (so_far.behind k (omega arith)) ∙ entry-read number new k x (omega (arith, low, half_is, same)) x_is in
      let second : slice_index (map number old) (half + k) ≡ number y =
      sym (so_far.behind (half + k) (omega (arith, low))) ∙ entry-read number new (half + k) y (omega (arith, low, half_is, same)) y_is in
      let value : number z ≡ bound_at o r (map number old) k =
      z_is ∙ ap (plus o (number x)) (m_is ∙ ap (λ t. t *⟨ o ⟩ r) s_is) ∙ sym (rw (halves number old half half_is, first, second) refl) in
      subst (λ j. HasWritten number (bound_at o r (map number old)) 0 (k + 1) old (set new j z)) at
      (written-more number (bound_at o r (map number old)) 0 k old new z (omega (arith, low, half_is, same)) so_far
      (subst (λ j. number z ≡ bound_at o r (map number old) j) (sym at) value))

  -- all of them
  pub bound_whole : k ≡ half → (out : List X) → out ≡ take half new → map number out ≡ bound o r (map number old)
  unfolding entries bound
  bound_whole all out is =
      let f = bound_at o r (map number old) in
      let fits : half ≤ length new = omega (arith, half_is, same) in
      let sized : length (map number (take half new)) ≡ half = length-map _ _ ∙ length-take-le half new fits in
      let size : length (map f (range_with_len 0 (length (map number old) / 2))) ≡ half = length-map-range_with_len f 0 (length (map number old) / 2) ∙ halves number old half half_is in
      ap (map number) is
      ∙ same_number_lists (map number (take half new)) (map f (range_with_len 0 (length (map number old) / 2))) (sized ∙ sym size)
      (λ j low.
      let within : j < half = omega (arith, low, sized) in
      let read : get_or (map number (take half new)) j 0 ≡ get_or (map number new) j 0 =
      ap (λ l. get_or l j 0) (sym (take-map number half new)) ∙ get_or-take half (map number new) j 0 within in
      read ∙ so_far.written j (omega arith) (omega (arith, within, all))
      ∙ sym (get_or-map-range_with_len f 0 (length (map number old) / 2) j j 0 (omega (arith, within, halves number old half half_is)) (omega arith)))

-- ---- what a round sends

pub sum_is : (o : Ops) {v a b a' b' : ℕ} → v ≡ a +⟨ o ⟩ b → a ≡ a' → b ≡ b' → v ≡ a' +⟨ o ⟩ b'
sum_is o {b} {a'} is ea eb = is ∙ ap (λ t. t +⟨ o ⟩ b) ea ∙ ap (plus o a') eb

-- the values at the nodes 0 and 2
pub two_values : {X : Type 0} (o : Ops) (number : X → ℕ) (cs ds : List ℕ) (items : List X) (v w : X) (x y : ℕ) → ds ≡ cs → number v ≡ poly_at o ds x → x ≡ 0 → number w ≡ poly_at o ds y → y ≡ 2 →
    items ≡ v ∷ w ∷ [] → map number items ≡ node_values o 2 cs
unfolding node_values
two_values o number cs ds items v w x y same first x_is second y_is are =
    ap (map number) are
    ∙ ap (λ n. n ∷ number w ∷ []) (first ∙ ap (poly_at o ds) x_is ∙ ap (λ t. poly_at o t 0) same)
    ∙ ap (λ n. poly_at o cs 0 ∷ n ∷ []) (second ∙ ap (poly_at o ds) y_is ∙ ap (λ t. poly_at o t 2) same)

pub three_same : {a b c a' b' c' : ℕ} → a ≡ a' → b ≡ b' → c ≡ c' → a ∷ b ∷ c ∷ [] ≡ a' ∷ b' ∷ c' ∷ []
three_same ea eb ec = rw (ea, eb, ec) refl
