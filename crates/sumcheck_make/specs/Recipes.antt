-- The recipes by which a job is made.
use Rattle.std.specs.Prelude.{◌≡◌, ℕ, min, ◌<◌, ◌≤◌}
use Rattle.sc_table.specs.declared.strategy.Strategy.{Strategy}
use Rattle.sc_table.specs.declared.strategy.Strategy.TheVariants.{Plain, Represented, SmallValue}
use Rattle.sc_audit_errors.specs.Arities.{most_variables}
use Rattle.sumcheck_make.specs.declared.recipe.Recipe.{Recipe}

-- the greatest number of variables that the small-value rounds of a job that is made bind
abbrev pub most_small : ℕ
most_small = 8

-- a strategy by which a job of n variables is made
abbrev pub IsNamed : ℕ → Strategy → Type 0
IsNamed n Plain = Unit {0}
IsNamed n Represented = Unit {0}
IsNamed n (SmallValue variables) = variables ≡ min n most_small

-- a job is made by it
pub record IsMade (r : Recipe) : Type 0 where
  pub some : 0 < r.variables
  pub few : r.variables ≤ most_variables
  pub number : r.number < 65537
  pub strategy : IsNamed r.variables r.strategy
