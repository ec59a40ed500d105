-- Grids of weights that agree at each row.
use Rattle.std.proofs.Common.{◌≡◌, ℕ, zero, suc, ◌+◌, ◌-◌, ◌^◌, ◌<◌, ◌≤◌, [], ◌∷◌, ◌++◌, length, sym, ◌∙◌, ap, refl, subst, arith}
use Rattle.std.proofs.lemmas.List.{length-append}
use Rattle.sc_definitions.specs.Ring.{Ops}
use Rattle.sc_definitions.specs.Tables.{Order}
use Rattle.sc_definitions.specs.Grids.{Digit, digit_zero, infinity, ternary, grid_list, grid_of, grids_of}
use Rattle.sc_definitions.proofs.GridLaws.{grid_entry-same, length-ternary, length-grid_list, rows-grid_list, grid_list-is, grids_of-none, grids_of-more}

module _ (order : Order) (o : Ops) (f w v : ℕ → ℕ) where
  list_same : (d : Digit) (j m : ℕ) → ((b : ℕ) → b < 2 ^ (j + suc m) → w b ≡ v b) → grid_list order o f w d j m ≡ grid_list order o f v d j m
  list_same d j m same =
      grid_list-is order o f v d j m (grid_list order o f w d j m) (length-grid_list order o f w d j m) (λ k low.
      let size : length (ternary j k ++ d ∷ []) + m ≡ j + suc m = omega (arith, length-append (ternary j k) (d ∷ []), length-ternary j k) in
      rows-grid_list order o f w d j m k low
      ∙ grid_entry-same order o f f w v (ternary j k ++ d ∷ []) m (λ b below. refl) (λ b below. same b (subst (λ n. b < 2 ^ n) size below)))

  grid_same : (j m : ℕ) → ((b : ℕ) → b < 2 ^ (j + suc m) → w b ≡ v b) → grid_of order o f w j m ≡ grid_of order o f v j m
  grid_same j m same =
      ap (λ xs. (xs, grid_list order o f w infinity j m)) (list_same digit_zero j m same)
      ∙ ap (λ xs. (grid_list order o f v digit_zero j m, xs)) (list_same infinity j m same)

  -- weights that agree at each row of n variables have the same grids of rounds
  pub grids_of-same : (n l : ℕ) → l ≤ n → ((b : ℕ) → b < 2 ^ n → w b ≡ v b) → grids_of order o n f w l ≡ grids_of order o n f v l
  grids_of-same n zero within same = grids_of-none order o n f w ∙ sym (grids_of-none order o n f v)
  grids_of-same n (suc l) within same =
      let whole : l + suc (n - suc l) ≡ n = omega (arith, within) in
      grids_of-more order o n f w l
      ∙ ap (λ gs. gs ++ grid_of order o f w l (n - suc l) ∷ []) (grids_of-same n l (omega (arith, within)) same)
      ∙ ap (λ g. grids_of order o n f v l ++ g ∷ []) (grid_same l (n - suc l) (λ b low. same b (subst (λ k. b < 2 ^ k) whole low)))
      ∙ sym (grids_of-more order o n f v l)
