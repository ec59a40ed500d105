use Rattle.std.proofs.Common.{sym}
use Rattle.sumcheck_run.proofs.WordLaws.{recipe-made}
use Rattle.sumcheck_run.proofs.command.read_command.Goals as goal

-- a recipe that was read makes a job
pub returns-in-Some-read_recipe-clause-fits : goal.returns-in-Some-read_recipe-clause-fits
returns-in-Some-read_recipe-clause-fits c =
    recipe-made c.as_str-in-len4.result.now c.as_str-in-len4-2.result.now c.as_str-in-len4-3.result.now c.in-Some-read_recipe.recipe (sym c.in-Some-read_recipe.ensures)
