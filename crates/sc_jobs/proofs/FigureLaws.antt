-- The figures of a report, one by one.
use Rattle.std.proofs.Common.{◌≡◌, ℕ, ◌==◌, List, ◌++◌, Bool, refl, ap, ◌∙◌}
use Rattle.sc_definitions.specs.Events.{words}
use Rattle.sc_definitions.specs.Seeds.{quadratic_seed}
use Rattle.sc_definitions.specs.Channels.{verifier_state}
use Rattle.sc_jobs.specs.Cases.{Asked, start_of}
use Rattle.sc_definitions.specs.Ring.{Ops, times}
use Rattle.sc_definitions.specs.Tables.{Basis, Order, entries, value_in, point_of}
use Rattle.sc_definitions.specs.Statements.{Statement, batched_weight, batched_claim}
use Rattle.sc_definitions.specs.Problem.{Problem, weights_of, claim_of, residual_of, eval_of, weight_value_of}
use Rattle.sc_definitions.specs.Lucky.{luck_of}
use Rattle.sc_definitions.proofs.HonestRounds.{value_in-same}
use Rattle.sc_table.proofs.EntryLaws.{entry-embedded}
use Rattle.sc_audit_errors.specs.Findings.{Finding}
use Rattle.sc_jobs.specs.Figures.{Figures, finding_by, false_claim_of, is_matched, figures_of}

module _ (o : Ops) (p : Problem) where
  pub claim-batched : (x : ℕ) → x ≡ batched_claim o p.batching p.initial p.statements → x ≡ claim_of o p
  unfolding claim_of
  claim-batched x is = is

  pub weights-batched : (b x : ℕ) → x ≡ batched_weight o p.batching p.initial p.statements b → x ≡ weights_of o p b
  unfolding weights_of
  weights-batched b x is = is

  -- the figures are determined
  pub figures-are : {messages : List (List ℕ)} (ms : List (List ℕ)) {witnesses : List ℕ} (ws : List ℕ) {challenges : List ℕ} (rs : List ℕ) {claim residual eval weight : ℕ} {finding : Finding} →
      messages ≡ ms → witnesses ≡ ws → challenges ≡ rs → claim ≡ claim_of o p → residual ≡ residual_of o p ms rs → eval ≡ eval_of o p rs → weight ≡ weight_value_of o p rs →
      finding ≡ finding_by (is_matched o p ms rs) (false_claim_of o p) (luck_of o p ms rs) →
      ◌≡◌ {A = Figures} (record { claim = claim; messages = messages; witnesses = witnesses; challenges = challenges; residual = residual; eval = eval; weight = weight; finding = finding })
      (figures_of o p ms ws rs)
  unfolding figures_of
  figures-are ms ws rs em ew er ec es ee et ef = rw (em, ew, er, ec, es, ee, et, ef) refl

  pub matched-by : (b : Bool) (x y z : ℕ) (ms : List (List ℕ)) (rs : List ℕ) → x ≡ residual_of o p ms rs → y ≡ eval_of o p rs → z ≡ weight_value_of o p rs →
      b ≡ (x == times o y z) → b ≡ is_matched o p ms rs
  matched-by b x y z ms rs ex ey ez is = is ∙ cc (ex, ey, ez)

-- the problem of a table with statements
abbrev pub stated : Basis → Order → ℕ → (ℕ → ℕ) → List Statement → ℕ → ℕ → Problem
stated basis order n f ss c i = record { basis = basis; order = order; variables = n; table = f; statements = ss; batching = c; initial = i }

module _ (o : Ops) (basis : Basis) (order : Order) (n : ℕ) (f : ℕ → ℕ) (ss : List Statement) (c i : ℕ) where
  -- the values at the point that the challenges make
  pub eval-at : (rs : List ℕ) (x : ℕ) → x ≡ value_in basis o f (point_of order rs) → x ≡ eval_of o (stated basis order n f ss c i) rs
  unfolding eval_of
  eval-at rs x is = is

  -- the same, where the table is that of the images of a list's items
  pub eval-at_slice : {X : Type 0} (embed : ℕ → ℕ) (number : X → ℕ) (rows : List X) (zs rs : List ℕ) (x : ℕ) → embed 0 ≡ 0 → ((b : ℕ) → embed (entries number rows b) ≡ f b) → zs ≡ point_of order rs →
      x ≡ value_in basis o (entries (λ y. embed (number y)) rows) zs → x ≡ eval_of o (stated basis order n f ss c i) rs
  eval-at_slice embed number rows zs rs x zero_kept same there is =
      eval-at rs x (is ∙ value_in-same basis o _ _ zs (λ b _. entry-embedded embed number rows b zero_kept ∙ same b) ∙ ap (value_in basis o f) there)

  pub weight-at : (rs : List ℕ) (x : ℕ) → x ≡ value_in basis o (batched_weight o c i ss) (point_of order rs) → x ≡ weight_value_of o (stated basis order n f ss c i) rs
  unfolding weight_value_of weights_of
  weight-at rs x is = is

-- where the first round stands, by other names
pub start_is : (q : Asked) (degree k claim : ℕ) → degree ≡ q.channel.extension.degree → k ≡ q.case.problem.variables → claim ≡ claim_of q.ops q.case.problem →
    verifier_state (q.history ++ words (quadratic_seed degree q.case.problem.basis q.channel.bits k)) claim ≡ start_of q
start_is q degree k claim ed ek ec = rw (ed, ek, ec) refl
