-- Claims on several tables, merged into one: the claim, its rounds, the openings of the tables after them, and what they show.
use Rattle.std.specs.Prelude.{◌≡◌, ◌<◌, ℕ, zero, suc, ◌==◌, nat_eq, ◌&&◌, Bool, true, All, List, [], ◌∷◌, ◌++◌, length, map, replicate, if◌then◌else◌, Option, Some, None}
use Rattle.std.specs.List.{slice_get}
use Rattle.std.specs.Cmp.Lexicographic.{pointwise}
use Rattle.sc_definitions.specs.declared.events.Event.{Event}
use Rattle.sc_definitions.specs.declared.events.Event.TheVariants.{Draw}
use Rattle.sc_definitions.specs.declared.false_claim.FalseClaim.{FalseClaim}
use Rattle.sc_definitions.specs.Ring.{Ops, IsField, ◌+⟨◌⟩◌, ◌*⟨◌⟩◌}
use Rattle.sc_definitions.specs.Tables.{evaluation, prefix, value}
use Rattle.sc_definitions.specs.Rounds.{next_claim, claim_along}
use Rattle.sc_definitions.specs.Statements.{Kind, equality, successor, Statement, weight_of, true_value, IsTrueOf, is_true_of, batched_by_powers, claimed_values}
use Rattle.sc_definitions.specs.Events.{words, extension_draw}
use Rattle.sc_definitions.specs.Transcript.{Round, messages_of, sent, rounds_events}
use Rattle.sc_definitions.specs.Channels.{Channel, IsBuilt, witnesses_of}
use Rattle.sc_definitions.specs.Seeds.{quadratic_seed}
use Rattle.sc_definitions.specs.Lucky.{IsCertificate, excess, LuckyChallenge, in_batch, in_round, IsRoundLuck}
use Rattle.sc_audit_errors.specs.Findings.{Finding, holds, lucky}
use Rattle.sc_soundness.specs.Stages.{Stage, stage_luck}
use Rattle.sc_soundness.specs.Merged.{WeightedTable, merged_claim, honest_merged, merged_course}
use Rattle.sc_merge_definitions.specs.QuadraticPlays.{seeded_history, challenges_after, finding_where}

-- ---- claims

-- a claim: the number of its table, and what is said of that table
pub record TableClaim : Type 0 where
  pub table : ℕ
  pub statement : Statement

-- what a claim speaks of: the value at a point, or that of the next row's table there
abbrev pub claim_kind : Bool → List ℕ → Kind
claim_kind next point = if next then successor prefix [] point else equality point

-- what all claims say
abbrev pub statements_of : List TableClaim → List Statement
statements_of claims = map (λ c. c.statement) claims

-- the table of a number among these; of a number past them, the table of zeros
abbrev pub table_at : List (ℕ → ℕ) → ℕ → ℕ → ℕ
table_at [] j = λ b. 0
table_at (f ∷ fs) zero = f
table_at (f ∷ fs) (suc j) = table_at fs j

-- Tables of so many variables over the ring of the challenges, claims on them, and rounds that go over a channel after a history.
pub record OpeningsCase : Type 0 where
  pub ops : Ops
  pub variables : ℕ
  pub tables : List (ℕ → ℕ)
  pub claims : List TableClaim
  pub channel : Channel
  pub history : List Event

-- The ring is a field, and each claim names a table and a value that is an element.
pub record IsOpeningsCase (q : OpeningsCase) : Type 0 where
  pub field : IsField q.ops
  pub named : All (λ c. c.table < length q.tables) q.claims
  pub below : All (λ c. c < q.ops.size) (claimed_values (statements_of q.claims))

-- the true value of a claim, and how much more than that it claims
abbrev pub true_claim_value : OpeningsCase → TableClaim → ℕ
true_claim_value q c = true_value q.ops q.variables (table_at q.tables c.table) c.statement.kind

abbrev pub claim_excess : OpeningsCase → TableClaim → ℕ
claim_excess q c = excess q.ops q.variables (table_at q.tables c.table) c.statement

-- it is true
abbrev pub IsTrueClaim : OpeningsCase → TableClaim → Type 0
IsTrueClaim q c = IsTrueOf q.ops q.variables (table_at q.tables c.table) c.statement

-- each claim is
abbrev pub AllClaimsTrue : OpeningsCase → List TableClaim → Type 0
AllClaimsTrue q [] = Unit {0}
AllClaimsTrue q (c ∷ cs) = IsTrueClaim q c × AllClaimsTrue q cs

-- the first false one of claims that are numbered from i on
unfoldable pub first_false_table_claim : OpeningsCase → ℕ → List TableClaim → Option FalseClaim
first_false_table_claim q i [] = None
first_false_table_claim q i (c ∷ cs) =
    if is_true_of q.ops q.variables (table_at q.tables c.table) c.statement then first_false_table_claim q (suc i) cs
    else Some (record { statement = i; claimed = c.statement.claimed; actual = true_claim_value q c })

-- ---- the merged claim

-- the challenge that merges the claims, drawn after the parts of their values
abbrev pub merging_challenge : OpeningsCase → ℕ
merging_challenge q =
    extension_draw q.channel.rules q.channel.extension (q.history ++ sent q.channel.extension (claimed_values (statements_of q.claims)))

-- the history after it
abbrev pub after_merging : OpeningsCase → List Event
after_merging q = q.history ++ sent q.channel.extension (claimed_values (statements_of q.claims)) ++ replicate q.channel.extension.degree Draw

-- the merged claim: the claimed values, each times the challenge to the power of its place
abbrev pub merging_claim : OpeningsCase → ℕ
merging_claim q = batched_by_powers q.ops (merging_challenge q) 0 (claimed_values (statements_of q.claims))

-- a claim's weight at a row of table j: none where it is on another one
unfoldable pub weight_on : Ops → ℕ → ℕ → TableClaim → ℕ
weight_on o j b c = if c.table == j then weight_of o c.statement.kind b else 0

-- table j's weights: those of the claims on it, each times the power of the claim's place
unfoldable pub merging_weights : Ops → ℕ → List TableClaim → ℕ → ℕ → ℕ
merging_weights o c claims j b = batched_by_powers o c 0 (map (weight_on o j b) claims)

-- tables that are numbered from j on, with their weights
abbrev pub weighted_from : Ops → ℕ → List TableClaim → ℕ → List (ℕ → ℕ) → List WeightedTable
weighted_from o c claims j [] = []
weighted_from o c claims j (f ∷ fs) = record { table = f; weights = merging_weights o c claims j } ∷ weighted_from o c claims (suc j) fs

-- all tables, with their weights
abbrev pub weighted_tables : OpeningsCase → List WeightedTable
weighted_tables q = weighted_from q.ops (merging_challenge q) q.claims 0 q.tables

-- ---- what rounds and openings show

-- what came: rounds, and the tables' values at their challenges, as they are sent
pub record SentOpenings : Type 0 where
  pub rounds : List Round
  pub openings : List ℕ

-- the challenges of rounds
abbrev pub openings_challenges : OpeningsCase → List Round → List ℕ
openings_challenges q rounds = challenges_after q.channel (after_merging q) q.variables rounds

-- the history after rounds and openings
abbrev pub after_openings : OpeningsCase → SentOpenings → List Event
after_openings q came =
    seeded_history q.channel (after_merging q) q.variables ++ rounds_events q.channel.extension q.channel.bits came.rounds
    ++ sent q.channel.extension came.openings

-- the transcript: the parts of the claimed values and the draw that merges them, the seed, where there are rounds, the rounds, and the parts of the openings
abbrev pub openings_events : OpeningsCase → SentOpenings → List Event
openings_events q came =
    sent q.channel.extension (claimed_values (statements_of q.claims)) ++ replicate q.channel.extension.degree Draw
    ++ words (quadratic_seed q.channel.extension.degree evaluation q.channel.bits q.variables)
    ++ rounds_events q.channel.extension q.channel.bits came.rounds ++ sent q.channel.extension came.openings

-- the tables' and the weights' values at a point
abbrev pub values_at : Ops → List WeightedTable → List ℕ → List ℕ
values_at o ps zs = map (λ p. value o p.table zs) ps

abbrev pub weight_values_at : Ops → List WeightedTable → List ℕ → List ℕ
weight_values_at o ps zs = map (λ p. value o p.weights zs) ps

-- the sum of the products of two lists' numbers, as far as both go
unfoldable pub products_sum : Ops → List ℕ → List ℕ → ℕ
products_sum o [] ys = 0
products_sum o (x ∷ xs) [] = 0
products_sum o (x ∷ xs) (y ∷ ys) = x *⟨ o ⟩ y +⟨ o ⟩ products_sum o xs ys

-- the merged claim as a stage, with rounds on it
abbrev pub openings_stage : OpeningsCase → List Round → Stage
openings_stage q rounds = record {
  drawn = merging_challenge q;
  excess = map (claim_excess q) q.claims;
  claim = merging_claim q;
  truth = merged_claim q.ops (weighted_tables q) [] q.variables;
  course = merged_course q.ops (weighted_tables q);
  messages = messages_of rounds;
  challenges = openings_challenges q rounds;
}

-- The figures of a report: the merged claim, what came, the challenges, what is left of the claim, the weights' values at the challenges, and what is
-- found.
pub record OpeningsFigures : Type 0 where
  pub claim : ℕ
  pub messages : List (List ℕ)
  pub witnesses : List ℕ
  pub openings : List ℕ
  pub challenges : List ℕ
  pub residual : ℕ
  pub weights : List ℕ
  pub finding : Finding

-- what is left is the sum of the openings times the weights' values, and the openings are the tables' values
unfoldable pub openings_match : OpeningsCase → ℕ → List ℕ → List ℕ → Bool
openings_match q residual openings rs =
    (residual == products_sum q.ops openings (weight_values_at q.ops (weighted_tables q) rs))
    && pointwise nat_eq openings (values_at q.ops (weighted_tables q) rs)

-- the figures of what came
unfoldable pub openings_figures : OpeningsCase → SentOpenings → OpeningsFigures
openings_figures q came =
    let rs = openings_challenges q came.rounds in
    let residual = claim_along (next_claim evaluation q.ops) (merging_claim q) (messages_of came.rounds) rs in
    record {
      claim = merging_claim q;
      messages = messages_of came.rounds;
      witnesses = witnesses_of q.channel.bits came.rounds;
      openings = came.openings;
      challenges = rs;
      residual = residual;
      weights = weight_values_at q.ops (weighted_tables q) rs;
      finding = finding_where (openings_match q residual came.openings rs) (first_false_table_claim q 0 q.claims)
          (stage_luck q.ops (openings_stage q came.rounds));
    }

-- what is built: the honest rounds, and the tables' values
pub record AreBuiltOpenings (q : OpeningsCase) (came : SentOpenings) : Type 0 where
  pub built : IsBuilt (honest_merged q.ops (weighted_tables q)) q.channel (seeded_history q.channel (after_merging q) q.variables) [] q.variables came.rounds
  pub count : length came.rounds ≡ q.variables
  pub openings : came.openings ≡ values_at q.ops (weighted_tables q) (openings_challenges q came.rounds)

-- The merging challenge is certified by a coefficient for each claim, which is not zero just where the claim is false.
pub record IsMergingLuck (q : OpeningsCase) (polynomial : List ℕ) (roots : ℕ) : Type 0 where
  pub certificate : IsCertificate q.ops (merging_challenge q) polynomial roots
  pub are : polynomial ≡ map (claim_excess q) q.claims
  pub zero_where_true : (i : ℕ) (c : TableClaim) → slice_get q.claims i ≡ Some c → IsTrueClaim q c → slice_get polynomial i ≡ Some 0
  pub true_where_zero : (i : ℕ) (c : TableClaim) → slice_get q.claims i ≡ Some c → slice_get polynomial i ≡ Some 0 → IsTrueClaim q c

-- a lucky challenge is certified: the merging one so, or that of a round by three coefficients
abbrev pub IsOpeningsCertified : OpeningsCase → OpeningsFigures → LuckyChallenge → Type 0
IsOpeningsCertified q f (in_batch polynomial roots) = IsMergingLuck q polynomial roots
IsOpeningsCertified q f (in_round round polynomial roots) = IsRoundLuck q.ops f.challenges round polynomial roots

-- A challenge that is named lucky is certified; and where the residual and the openings match although a claim is false, one is named.
pub record CertifiesOpenings (q : OpeningsCase) (f : OpeningsFigures) : Type 0 where
  pub named : (l : LuckyChallenge) → f.finding ≡ lucky l → IsOpeningsCertified q f l
  pub no_other : openings_match q f.residual f.openings f.challenges ≡ true → (AllClaimsTrue q q.claims → ⊥) → (l : LuckyChallenge) × (f.finding ≡ lucky l)

-- ---- the laws

-- The merged claim of the true values is the sum over all tables.
abbrev pub ClaimsSumTables : Type 0
ClaimsSumTables = (q : OpeningsCase) → IsOpeningsCase q →
    batched_by_powers q.ops (merging_challenge q) 0 (map (true_claim_value q) q.claims) ≡ merged_claim q.ops (weighted_tables q) [] q.variables

-- The figures of whatever came, with as many rounds as there are variables, of two values each, certify themselves.
abbrev pub OpeningsAreCertified : Type 0
OpeningsAreCertified = (q : OpeningsCase) → IsOpeningsCase q → (came : SentOpenings) → length came.rounds ≡ q.variables →
    All (λ values. length values ≡ 2) (messages_of came.rounds) → CertifiesOpenings q (openings_figures q came)

-- Rounds and openings that are built on true claims show that they hold.
abbrev pub BuiltOpeningsHold : Type 0
BuiltOpeningsHold = (q : OpeningsCase) → IsOpeningsCase q → (came : SentOpenings) → AreBuiltOpenings q came → AllClaimsTrue q q.claims →
    (openings_figures q came).finding ≡ holds
