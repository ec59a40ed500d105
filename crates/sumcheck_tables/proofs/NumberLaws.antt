-- Numbers that are those of elements.
use Rattle.std.proofs.Common.{◌≡◌, ℕ, zero, suc, ◌<◌, Bool, true, false, List, [], ◌∷◌, All, map, refl, arith}
use Rattle.std.specs.Prelude.{◌&&◌, nat_lt}
use Rattle.std.specs.List.{list_all}
use Rattle.std.proofs.lemmas.Bool.{ltb-true}
use Rattle.std.proofs.lemmas.List.Sums.{AllPass-from_list_all}
use Rattle.sumcheck_members.specs.declared.job.Sizes.{Sizes}
use Rattle.sumcheck_tables.specs.declared.job.RoundNumbers.{RoundNumbers}
use Rattle.sumcheck_tables.specs.Tables.{TableCase, are_below, draws_below, task_below, has_elements}
use Rattle.sumcheck_tables.specs.Views.{numbers_in}

pub both : (a b : Bool) → (a && b) ≡ true → (a ≡ true) × (b ≡ true)
both true b e = (refl, e)
both false b e = cc

pub all-below : (size : ℕ) (ns : List ℕ) → are_below size ns ≡ true → All (λ n. n < size) ns
all-below size ns below k d low = ltb-true _ size (AllPass-from_list_all (λ n. nat_lt n size) ns below k d low)

pub round-below : (size : ℕ) (r : RoundNumbers) → are_below size (numbers_in r) ≡ true → (r.first < size) × (r.leading < size)
round-below size r below =
    let first = both (nat_lt r.first size) (nat_lt r.leading size && true) below in
    (ltb-true r.first size first.0, ltb-true r.leading size (both (nat_lt r.leading size) true first.1).0)

-- the rounds of which all numbers are below a size
pub rounds-below : (size : ℕ) (rs : List RoundNumbers) → list_all (are_below size) (map numbers_in rs) ≡ true → All (λ r. (r.first < size) × (r.leading < size)) rs
rounds-below size [] all k d low = absurd (omega arith)
rounds-below size (r ∷ rs) all zero d low = round-below size r (both (are_below size (numbers_in r)) (list_all (are_below size) (map numbers_in rs)) all).0
rounds-below size (r ∷ rs) all (suc k) d low = rounds-below size rs (both (are_below size (numbers_in r)) (list_all (are_below size) (map numbers_in rs)) all).1 k d (omega arith)

-- what the numbers of a job have that are those of elements
pub record AreOver (sizes : Sizes) (c : TableCase) : Type 0 where
  pub table : All (λ n. n < sizes.base) c.table
  pub points : All (λ n. n < sizes.extension) c.points
  pub values : All (λ n. n < sizes.extension) c.values
  pub batching : c.batching < sizes.extension
  pub draws : draws_below sizes.base c.draws ≡ true
  pub task : task_below sizes c.task ≡ true

pub are-over : (sizes : Sizes) (c : TableCase) → has_elements sizes c ≡ true → AreOver sizes c
are-over sizes c e =
    let table = both (are_below sizes.base c.table) _ e in
    let points = both (are_below sizes.extension c.points) _ table.1 in
    let values = both (are_below sizes.extension c.values) _ points.1 in
    let batching = both (nat_lt c.batching sizes.extension) _ values.1 in
    let draws = both (draws_below sizes.base c.draws) (task_below sizes c.task) batching.1 in
    record {
      table = all-below sizes.base c.table table.0;
      points = all-below sizes.extension c.points points.0;
      values = all-below sizes.extension c.values values.0;
      batching = ltb-true c.batching sizes.extension batching.0;
      draws = draws.0;
      task = draws.1;
    }
