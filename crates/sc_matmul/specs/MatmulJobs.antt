-- What is asked of matrices, by the numbers of their elements.
use Rattle.std.specs.Prelude.{ℕ}
use Rattle.sc_definitions.specs.Ring.{Ops}
use Rattle.sc_definitions.specs.Events.{Extension}
use Rattle.sc_challenger.specs.Parties.{Party, channel_by}
use Rattle.sc_merge_definitions.specs.Matrices as matrices
use Rattle.sc_merge_definitions.specs.Matrices.{MatmulCase}
use Rattle.sc_matmul.specs.declared.matrix.Matrix.{Matrix}
use Rattle.sc_matmul.specs.MatrixViews.{matrix_in}

-- The fields of a job: that of the matrices and that of the challenges, the map of the first into the second, and the parts of the second's elements.
pub record Fields : Type 0 where
  pub base : Ops
  pub ops : Ops
  pub embedding : ℕ → ℕ
  pub extension : Extension

-- the fields of these
abbrev pub fields : Ops → Ops → (ℕ → ℕ) → Extension → Fields
fields base ops embedding extension = record { base = base; ops = ops; embedding = embedding; extension = extension }

-- two matrices, and what is claimed to be their product
pub record ClaimedProduct : Type 0 where
  pub left : matrices.Matrix
  pub right : matrices.Matrix
  pub claimed : matrices.Matrix

-- those of a base field's elements
abbrev pub claimed_in : {F : Type 0} → (F → ℕ) → Matrix F → Matrix F → Matrix F → ClaimedProduct
claimed_in number left right claimed = record { left = matrix_in number left; right = matrix_in number right; claimed = matrix_in number claimed }

-- the case that is asked of a challenger, at a difficulty
abbrev pub case_of : Fields → ClaimedProduct → ℕ → Party → MatmulCase
case_of fs m bits party = record {
  base = fs.base;
  ops = fs.ops;
  embedding = fs.embedding;
  channel = channel_by party fs.extension fs.base.size bits;
  left = m.left;
  right = m.right;
  claimed = m.claimed;
  history = party.history;
}

-- the elements of a base field and of its extension have these numbers, those of the base field these images, and those of the extension these parts; nothing
-- more is said
abbrev pub AreFieldsOf : {F EF : Type 0} → (F → ℕ) → (EF → ℕ) → (ℕ → ℕ) → Extension → Type 0
AreFieldsOf base number embedding extension = Unit {0}
