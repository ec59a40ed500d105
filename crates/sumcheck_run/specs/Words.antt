-- What the words of a command line write.
use Rattle.std.specs.Prelude.{ℕ, min, ◌+◌, ◌==◌, List, codes, decimal, bytes_eq, if◌then◌else◌, Option, Some, None}
use Rattle.std.specs.Option.{option_map}
use Rattle.sc_table.specs.declared.strategy.Strategy.{Strategy}
use Rattle.sc_table.specs.declared.strategy.Strategy.TheVariants.{Plain, Represented, SmallValue}
use Rattle.sc_audit_errors.specs.Arities.{most_variables}
use Rattle.sumcheck_run.specs.declared.command.Command.{Command}
use Rattle.sumcheck_run.specs.declared.command.Command.TheVariants.{Judge, Make}
use Rattle.sumcheck_make.specs.declared.recipe.Recipe.{Recipe}
use Rattle.sumcheck_make.specs.Recipes.{most_small, IsMade}
use Rattle.sc_definitions.specs.Least.{least_below}

-- the number below a bound that a word writes in decimal digits, without a sign or a leading zero, if it writes one
unfoldable pub written_below : ℕ → List ℕ → Option ℕ
written_below bound word = least_below bound (λ n. bytes_eq word (decimal n))

-- the strategy that a word names for a job of n variables, if it names one
abbrev pub strategy_of : ℕ → List ℕ → Option Strategy
strategy_of n word =
    if bytes_eq word (codes "plain") then Some Plain
    else (if bytes_eq word (codes "represented") then Some Represented
    else (if bytes_eq word (codes "small-value") then Some (SmallValue (min n most_small)) else None))

-- a recipe, of one variable or more, where the strategy depends on how many
abbrev pub recipe_by : Option ℕ → Option ℕ → (ℕ → Option Strategy) → Option Recipe
recipe_by (Some n) (Some number) strategy =
    if n == 0 then None else option_map (λ s. record { variables = n; number = number; strategy = s }) (strategy n)
recipe_by variables number strategy = None

-- the recipe that three words write: from 1 to 24 variables, a number from 0 to 65536, and a strategy
abbrev pub recipe_of : List ℕ → List ℕ → List ℕ → Option Recipe
recipe_of variables number strategy = recipe_by (written_below (most_variables + 1) variables) (written_below 65537 number) (λ n. strategy_of n strategy)

-- a recipe that a command has is one by which a job is made
abbrev pub CommandFits : Option Command → Type 0
CommandFits None = Unit {0}
CommandFits (Some (Judge kind)) = Unit {0}
CommandFits (Some (Make recipe)) = IsMade recipe
