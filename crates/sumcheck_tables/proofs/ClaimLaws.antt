-- Claims of values at points that stand one after another.
use Rattle.std.proofs.Common.{◌≡◌, ℕ, ◌<◌, ◌+◌, ◌-◌, ◌*◌, List, [], ◌∷◌, ◌++◌, length, get_or, take, drop, map, refl, sym, ◌∙◌, ap, arith}
use Rattle.std.proofs.Math.Nat.{add-mul}
use Rattle.std.proofs.lemmas.List.{append_assoc, drop_more, length-map}
use Rattle.sc_definitions.specs.declared.events.Event.{Event}
use Rattle.sc_definitions.specs.Statements.{Statement, claims, equality}
use Rattle.sc_definitions.specs.Tables.{Basis, Order, entries, rows_of}
use Rattle.sc_definitions.specs.Events.{Rules}
use Rattle.sc_definitions.specs.Channels.{channel}
use Rattle.sc_jobs.specs.Cases.{Task, Asked}
use Rattle.sumcheck_replies.specs.Fields.{Fields}
use Rattle.sumcheck_replies.proofs.NumberLaws.{entries-numbers}
use Rattle.sumcheck_tables.specs.Tables.{TableCase, value_claims, asked_with}

-- those that were made and those that are left are all of them after the one at an index
pub claims-more : (n : ℕ) (rest vs : List ℕ) (i d : ℕ) → i < length vs → (all old new : List Statement) →
    old ++ value_claims n rest (drop i vs) ≡ all → (s : Statement) → new ≡ old ++ s ∷ [] → s ≡ claims (equality (take n rest)) (get_or vs i d) →
    new ++ value_claims n (drop n rest) (drop (i + 1) vs) ≡ all
claims-more n rest vs i d low all old new before s more same =
    let left = value_claims n (drop n rest) (drop (i + 1) vs) in
    ap (λ l. l ++ left) more ∙ append_assoc old (s ∷ []) left
    ∙ ap (λ k. old ++ k ∷ left) same ∙ ap (λ l. old ++ l) (sym (ap (value_claims n rest) (drop_more vs i d low))) ∙ before

-- a point less is left than before
pub points-left : (n i k l : ℕ) → i < k → l ≡ (k - i) * n → l - n ≡ (k - (i + 1)) * n
points-left n i k l low long =
    let more : k - i ≡ (k - (i + 1)) + 1 = omega arith in
    let apart = ap (λ q. q * n) more ∙ add-mul (k - (i + 1)) 1 n in
    omega (arith, long, apart)

-- what elements ask is what their numbers do
pub asked-same : {X : Type 0} (k : Fields) (number : X → ℕ) (xs : List X) {n b i : ℕ} {ss : List Statement} {t : Task} (c : TableCase) (R : Rules) (h : List Event) →
    map number xs ≡ c.table → n ≡ c.variables → ss ≡ value_claims c.variables c.points c.values → b ≡ c.batching → i ≡ 0 → t ≡ c.task →
    ◌≡◌ {A = Asked} (record {
      case = record {
        rows = length xs;
        problem = record { basis = c.basis; order = c.order; variables = n; table = λ r. k.embedding (entries number xs r); statements = ss; batching = b; initial = i };
        task = t;
      };
      ops = k.ops;
      channel = channel R k.extension k.base.size c.bits;
      history = h;
    }) (asked_with k c R h)
asked-same k number xs c R h is en es eb ei et =
    let rows : length xs ≡ length c.table = sym (length-map xs number) ∙ ap length is in
    rw (rows, entries-numbers number xs c.table is, en, es, eb, ei, et) refl
