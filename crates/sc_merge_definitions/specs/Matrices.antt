-- A claimed product of two matrices: its claim, its rounds, and what they show.
use Rattle.std.specs.Prelude.{◌≡◌, ◌<◌, ℕ, suc, ◌+◌, ◌*◌, ◌/◌, ◌%◌, ◌^◌, ◌==◌, All, List, [], ◌++◌, length, map, replicate, Option}
use Rattle.std.specs.List.{range_with_len}
use Rattle.sc_definitions.specs.declared.events.Event.{Event}
use Rattle.sc_definitions.specs.declared.events.Event.TheVariants.{Draw}
use Rattle.sc_definitions.specs.Ring.{Ops, IsField, IsRingMap, ◌*⟨◌⟩◌, power}
use Rattle.sc_definitions.specs.Tables.{evaluation, prefix, sum_below, rows_of, value}
use Rattle.sc_definitions.specs.TwoTables.{TwoTables, true_claim_on}
use Rattle.sc_definitions.specs.Polynomials.{poly_minus}
use Rattle.sc_definitions.specs.Rounds.{honest_message, next_claim, claim_along}
use Rattle.sc_definitions.specs.Statements.{batched_by_powers}
use Rattle.sc_definitions.specs.Interpolation.{first_below}
use Rattle.sc_definitions.specs.Events.{words, extension_draw}
use Rattle.sc_definitions.specs.Transcript.{Round, messages_of, rounds_events}
use Rattle.sc_definitions.specs.Channels.{Channel, IsBuilt, witnesses_of}
use Rattle.sc_definitions.specs.Seeds.{quadratic_seed}
use Rattle.sc_definitions.specs.Lucky.{course_on, LuckyChallenge}
use Rattle.sc_audit_errors.specs.Findings.{Finding, holds, lucky}
use Rattle.sc_soundness.specs.Stages.{Stage, stage_luck}
use Rattle.sc_soundness.specs.Differences.{Difference, first_difference}
use Rattle.sc_merge_definitions.specs.QuadraticPlays.{seeded_history, challenges_after, finding_where, IsCertifiedBy}

-- the most variables that a side has
abbrev pub most_side_variables : ℕ
most_side_variables = 7

-- the number k of variables of a side of 2^k; one more than the most where no such k is small enough
unfoldable pub side_variables : ℕ → ℕ
side_variables len = first_below (suc most_side_variables) (λ k. len == 2 ^ k)

-- a matrix, its values row by row
pub record Matrix : Type 0 where
  pub rows : ℕ
  pub cols : ℕ
  pub values : List ℕ

-- the entry in row i and column j of the product of two matrices
unfoldable pub product_entry : Ops → Matrix → Matrix → ℕ → ℕ → ℕ
product_entry o left right i j =
    sum_below o left.cols (λ x. rows_of left.values (i * left.cols + x) *⟨ o ⟩ rows_of right.values (x * right.cols + j))

-- the entries of the product, row by row
unfoldable pub product_values : Ops → Matrix → Matrix → List ℕ
product_values o left right = map (λ e. product_entry o left right (e / right.cols) (e % right.cols)) (range_with_len 0 (left.rows * right.cols))

-- ---- what is claimed

-- Two matrices and their claimed product, over a base ring whose elements are embedded into the ring of the challenges; and rounds that go over a channel
-- after a history.
pub record MatmulCase : Type 0 where
  pub base : Ops
  pub ops : Ops
  pub embedding : ℕ → ℕ
  pub channel : Channel
  pub left : Matrix
  pub right : Matrix
  pub claimed : Matrix
  pub history : List Event

-- Both rings are fields, and the embedding is a map of rings; the left matrix has a small enough power of two of columns; the claimed entries are as many as
-- the product has; and all entries are elements of the base.
pub record IsMatmulCase (q : MatmulCase) : Type 0 where
  pub base_field : IsField q.base
  pub field : IsField q.ops
  pub embeds : IsRingMap q.base q.ops q.embedding
  pub inner : q.left.cols ≡ 2 ^ side_variables q.left.cols
  pub claimed_count : length q.claimed.values ≡ q.left.rows * q.right.cols
  pub left_below : All (λ x. x < q.base.size) q.left.values
  pub right_below : All (λ x. x < q.base.size) q.right.values
  pub claimed_below : All (λ x. x < q.base.size) q.claimed.values

-- ---- the claim

-- the entries of all three matrices, row by row, as they are observed
abbrev pub observed_entries : MatmulCase → List ℕ
observed_entries q = q.left.values ++ q.right.values ++ q.claimed.values

-- the point, drawn after them
abbrev pub drawn_point : MatmulCase → ℕ
drawn_point q = extension_draw q.channel.rules q.channel.extension (q.history ++ words (observed_entries q))

-- the history after it
abbrev pub after_point : MatmulCase → List Event
after_point q = q.history ++ words (observed_entries q) ++ replicate q.channel.extension.degree Draw

-- the claim on the entries: the claimed ones, each times the point to the power of its place
abbrev pub entries_claim : MatmulCase → ℕ
entries_claim q = batched_by_powers q.ops (drawn_point q) 0 (map q.embedding q.claimed.values)

-- By the place x of the sides that both share: the left matrix with its rows added up, row i times the power of the place where row i of the product begins;
-- and the right one with its columns added up, column j times the power j.
unfoldable pub left_table : MatmulCase → ℕ → ℕ
left_table q x =
    sum_below q.ops q.left.rows (λ i. power q.ops (drawn_point q) (i * q.right.cols) *⟨ q.ops ⟩ q.embedding (rows_of q.left.values (i * q.left.cols + x)))

unfoldable pub right_table : MatmulCase → ℕ → ℕ
right_table q x =
    sum_below q.ops q.right.cols (λ j. power q.ops (drawn_point q) j *⟨ q.ops ⟩ q.embedding (rows_of q.right.values (x * q.right.cols + j)))

-- both tables, of evaluations, where rounds bind the first variable that is left
abbrev pub matmul_tables : MatmulCase → TwoTables
matmul_tables q = record { basis = evaluation; order = prefix; table = left_table q; weights = right_table q }

-- how many rounds there are
abbrev pub inner_variables : MatmulCase → ℕ
inner_variables q = side_variables q.left.cols

-- ---- what rounds show

-- their challenges
abbrev pub matmul_challenges : MatmulCase → List Round → List ℕ
matmul_challenges q rounds = challenges_after q.channel (after_point q) (inner_variables q) rounds

-- the history after rounds
abbrev pub after_rounds : MatmulCase → List Round → List Event
after_rounds q rounds = seeded_history q.channel (after_point q) (inner_variables q) ++ rounds_events q.channel.extension q.channel.bits rounds

-- the transcript: the entries and the point's draw, and then the seed, where there are rounds, and the rounds
abbrev pub matmul_events : MatmulCase → List Round → List Event
matmul_events q rounds =
    words (observed_entries q) ++ replicate q.channel.extension.degree Draw
    ++ words (quadratic_seed q.channel.extension.degree evaluation q.channel.bits (inner_variables q))
    ++ rounds_events q.channel.extension q.channel.bits rounds

-- the claim as a stage, with rounds on it
abbrev pub matmul_stage : MatmulCase → List Round → Stage
matmul_stage q rounds = record {
  drawn = drawn_point q;
  excess = poly_minus q.ops (map q.embedding q.claimed.values) (map q.embedding (product_values q.base q.left q.right));
  claim = entries_claim q;
  truth = true_claim_on q.ops (matmul_tables q) [] (inner_variables q);
  course = course_on q.ops (matmul_tables q);
  messages = messages_of rounds;
  challenges = matmul_challenges q rounds;
}

-- The figures of a report: the point, the claim, what came, the challenges, what is left of the claim, the two tables' values at the challenges, and what
-- is found.
pub record MatmulFigures : Type 0 where
  pub point : ℕ
  pub claim : ℕ
  pub messages : List (List ℕ)
  pub witnesses : List ℕ
  pub challenges : List ℕ
  pub residual : ℕ
  pub left : ℕ
  pub right : ℕ
  pub finding : Finding

-- the first false entry, if one is
abbrev pub false_entry : MatmulCase → Option Difference
false_entry q = first_difference 0 q.claimed.values (product_values q.base q.left q.right)

-- the figures of rounds
unfoldable pub matmul_figures : MatmulCase → List Round → MatmulFigures
matmul_figures q rounds =
    let rs = matmul_challenges q rounds in
    let residual = claim_along (next_claim evaluation q.ops) (entries_claim q) (messages_of rounds) rs in
    let left = value q.ops (left_table q) rs in
    let right = value q.ops (right_table q) rs in
    record {
      point = drawn_point q;
      claim = entries_claim q;
      messages = messages_of rounds;
      witnesses = witnesses_of q.channel.bits rounds;
      challenges = rs;
      residual = residual;
      left = left;
      right = right;
      finding = finding_where (residual == left *⟨ q.ops ⟩ right) (false_entry q) (stage_luck q.ops (matmul_stage q rounds));
    }

-- the rounds that are built
abbrev pub AreBuiltRounds : MatmulCase → List Round → Type 0
AreBuiltRounds q rounds =
    IsBuilt (honest_message evaluation prefix q.ops (left_table q) (right_table q)) q.channel (seeded_history q.channel (after_point q) (inner_variables q)) []
    (inner_variables q) rounds

-- A challenge that is named lucky is certified, the point by a coefficient for each entry; and where the residual is the product of the two values although
-- an entry is false, one is named.
pub record CertifiesMatmul (q : MatmulCase) (f : MatmulFigures) : Type 0 where
  pub named : (l : LuckyChallenge) → f.finding ≡ lucky l → IsCertifiedBy q.ops f.point (length q.claimed.values) f.challenges l
  pub no_other : f.residual ≡ f.left *⟨ q.ops ⟩ f.right → (q.claimed.values ≡ product_values q.base q.left q.right → ⊥) → (l : LuckyChallenge) × (f.finding ≡ lucky l)

-- ---- the laws

-- The claim on the true entries is the sum over the two tables.
abbrev pub EntriesSumTables : Type 0
EntriesSumTables = (q : MatmulCase) → IsMatmulCase q →
    batched_by_powers q.ops (drawn_point q) 0 (map q.embedding (product_values q.base q.left q.right)) ≡ true_claim_on q.ops (matmul_tables q) [] (inner_variables q)

-- The figures of whatever rounds came, as many as there should be, of two values each, certify themselves.
abbrev pub MatmulsAreCertified : Type 0
MatmulsAreCertified = (q : MatmulCase) → IsMatmulCase q → (rounds : List Round) → length rounds ≡ inner_variables q →
    All (λ values. length values ≡ 2) (messages_of rounds) → CertifiesMatmul q (matmul_figures q rounds)

-- Rounds that are built on true entries show that they hold.
abbrev pub BuiltMatmulsHold : Type 0
BuiltMatmulsHold = (q : MatmulCase) → IsMatmulCase q → (rounds : List Round) → length rounds ≡ inner_variables q → AreBuiltRounds q rounds →
    q.claimed.values ≡ product_values q.base q.left q.right → (matmul_figures q rounds).finding ≡ holds
