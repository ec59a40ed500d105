-- The lines of a report on masked rounds, and the texts of their refusals. Each line ends with a line feed.
use Rattle.std.specs.Prelude.{ℕ, List, ◌++◌, codes, decimal}

-- the total of the masks
unfoldable pub mu_line : ℕ → List ℕ
mu_line x = codes "mu " ++ decimal x ++ codes "\n"

-- the combination
unfoldable pub eps_line : ℕ → List ℕ
eps_line x = codes "eps " ++ decimal x ++ codes "\n"

-- the plain residual times the combination
unfoldable pub scaled_line : ℕ → List ℕ
scaled_line x = codes "scaled " ++ decimal x ++ codes "\n"

-- what is left of aux, times the combination
unfoldable pub carried_line : ℕ → List ℕ
carried_line x = codes "carried " ++ decimal x ++ codes "\n"

-- the masks at the challenges
unfoldable pub mask_residual_line : ℕ → List ℕ
mask_residual_line x = codes "mask-residual " ++ decimal x ++ codes "\n"

-- more rounds than variables
unfoldable pub rounds_bound_text : ℕ → ℕ → List ℕ
rounds_bound_text rounds bound = codes "job-shape rounds " ++ decimal rounds ++ codes " bound " ++ decimal bound

-- a field in which two is zero
unfoldable pub even_text : List ℕ
even_text = codes "veil even-characteristic"

-- masks of so few coefficients
unfoldable pub short_text : ℕ → List ℕ
short_text l = codes "veil mask-too-short " ++ decimal l

-- no round
unfoldable pub no_rounds_text : List ℕ
no_rounds_text = codes "veil no-rounds"
