-- Sums of products in columns, modulo 65537, that are not reduced yet.
use Rattle.std.proofs.Common.{◌≡◌, ℕ, ◌+◌, ◌*◌, ◌%◌, ◌<◌, ◌≤◌, List, replicate, ◌∙◌, ap, refl, arith, ⊎_elim}
use Rattle.std.proofs.lemmas.Bool.{cases_lt}
use Rattle.std.proofs.Math.Nat.{mod-eq_of_lt}
use Rattle.sc_definitions.specs.Tables.{entries}
use Rattle.sc_definitions.specs.Residues.{residues}
use Rattle.sc_field.specs.Products.{products}
use Rattle.sc_field.proofs.DotLaws.{products-none}
use Rattle.sc_field.proofs.EntryLaws.{entry-replicate}
use Rattle.sc_small_fields.proofs.DelayedLaws.{delayed-more, product-most}

-- Of so many columns, the products of the first n entries are added up, and each total is small enough. No other total has grown.
pub record AreTotals (len : ℕ) (column : ℕ → ℕ → ℕ) (factors : ℕ → ℕ) (n : ℕ) (totals : List ℕ) : Type 0 where
  pub sums : (c : ℕ) → c < len → entries (λ m. m) totals c % 65537 ≡ products (residues 65537) n (column c) factors
  pub few : (c : ℕ) → entries (λ m. m) totals c ≤ n * 17180131329

module _ (len : ℕ) (column : ℕ → ℕ → ℕ) (factors : ℕ → ℕ) where
  -- zeros, before the first row
  pub totals-none : (size : ℕ) → AreTotals len column factors 0 (replicate size 0)
  totals-none size = record {
    sums = λ c low. products-none (residues 65537) (column c) factors _ (ap (λ m. m % 65537) (entry-replicate (λ m. m) 0 size c refl));
    few = λ c. omega (arith, entry-replicate (λ m. m) 0 size c refl);
  }

  -- one row more
  pub totals-more : (n factor : ℕ) (row : ℕ → ℕ) (old new : List ℕ) → AreTotals len column factors n old → factor < 65537 → factor ≡ factors n →
      ((c : ℕ) → row c < 65537) → ((c : ℕ) → c < len → row c ≡ column c n) →
      ((c : ℕ) → c < len → entries (λ m. m) new c ≡ entries (λ m. m) old c + row c * factor) →
      ((c : ℕ) → len ≤ c → entries (λ m. m) new c ≡ entries (λ m. m) old c) → AreTotals len column factors (n + 1) new
  totals-more n factor row old new so_far low is small row_is gained others = record {
    sums = λ c inside. ap (λ m. m % 65537) (gained c inside)
        ∙ delayed-more (column c) factors n (entries (λ m. m) old c) (row c) factor (so_far.sums c inside)
        (mod-eq_of_lt (small c) ∙ row_is c inside) (mod-eq_of_lt low ∙ is);
    few = λ c. let most = product-most (row c) factor (omega (arith, small c)) (omega (arith, low)) in
        ⊎_elim
        (λ inside. omega (arith, gained c inside, most, so_far.few c))
        (λ high. omega (arith, others c high, so_far.few c))
        (cases_lt c len);
  }
