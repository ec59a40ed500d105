-- Statements that are taken into a sum and a table, one after the other.
use Rattle.std.proofs.Common.{◌≡◌, ℕ, suc, ◌+◌, ◌^◌, ◌<◌, ◌≤◌, List, [], ◌∷◌, ◌++◌, length, take, slice_index, sym, ◌∙◌, ap, subst, arith}
use Rattle.std.proofs.lemmas.List.{length-append, take_all}
use Rattle.sc_definitions.specs.Ring.{Ops, IsRing, plus, times, power}
use Rattle.sc_definitions.specs.Statements.{Statement, weight_of, weights_at, claimed_values, batched_weight, batched_claim}
use Rattle.sc_statements.specs.Batches.{gathered, AddsBatch, WritesBatch}
use Rattle.sc_statements.proofs.Places.{at-place, taken-at, read-at}
use Rattle.sc_definitions.proofs.Power.{power-suc}
use Rattle.sc_definitions.proofs.RingLaws.{element-small, plus-zero, plus_assoc, plus_comm, times_comm}
use Rattle.sc_definitions.proofs.StatementLaws.{element-batched_by_powers, batched-none, batched_weight-append, batched_claim-append}

one_more : {X : Type 0} (xs : List X) (x : X) → length (xs ++ x ∷ []) ≡ suc (length xs)
one_more xs x = length-append xs (x ∷ []) ∙ omega arith

-- the factor of the statement after one statement more
next-power : (o : Ops) → IsRing o → (c p : ℕ) (ss : List Statement) (s : Statement) (factor factor' : ℕ) → factor ≡ power o c (p + length ss) → factor' ≡ times o factor c →
    factor' ≡ power o c (p + length (ss ++ s ∷ []))
next-power o ring c p ss s factor factor' so_far is =
    let more : suc (p + length ss) ≡ p + length (ss ++ s ∷ []) = omega (arith, one_more ss s) in
    is ∙ ap (λ k. times o k c) so_far ∙ times_comm o ring (power o c (p + length ss)) c
    ∙ sym (power-suc o c (p + length ss)) ∙ ap (power o c) more

-- ---- the values

-- the total is the old one with the claims of these statements added, and the factor is the next statement's
pub record IsSummed (o : Ops) (c p : ℕ) (ss : List Statement) (old total factor : ℕ) : Type 0 where
  pub summed : total ≡ plus o old (batched_claim o c p ss)
  pub next : factor ≡ power o c (p + length ss)

pub IsSummed-none : (o : Ops) → IsRing o → {c p old total factor : ℕ} → old < o.size → total ≡ old → factor ≡ power o c p → IsSummed o c p [] old total factor
IsSummed-none o ring {c} {p} {old} low same is =
    let none : p ≡ p + 0 = omega arith in
    record {
      summed = same ∙ sym (ap (plus o old) (batched-none o c p 0).1 ∙ plus-zero o ring old ∙ element-small o ring old low);
      next = is ∙ ap (power o c) none;
    }

pub IsSummed-more : (o : Ops) → IsRing o → (c p : ℕ) (ss longer : List Statement) (s : Statement) (old total total' factor factor' : ℕ) → longer ≡ ss ++ s ∷ [] →
    IsSummed o c p ss old total factor → total' ≡ plus o total (times o factor s.claimed) → factor' ≡ times o factor c → IsSummed o c p longer old total' factor'
IsSummed-more o ring c p ss longer s old total total' factor factor' split so_far total_is factor_is =
    let claim = batched_claim o c p ss in
    let P : List Statement → Type 0 = λ t. IsSummed o c p t old total' factor' in
    subst P (sym split) (record {
      summed = total_is ∙ ap (λ t. plus o t (times o factor s.claimed)) so_far.summed
          ∙ plus_assoc o ring old claim (times o factor s.claimed)
          ∙ ap (λ k. plus o old (plus o claim (times o k s.claimed))) so_far.next
          ∙ ap (plus o old) (sym (batched_claim-append o ring c p ss s));
      next = next-power o ring c p ss s factor factor' so_far.next factor_is;
    })

-- ---- the weights

-- the table is the old one with the weights of these statements added, and the factor is the next statement's
pub record IsWeighted (o : Ops) (n c p : ℕ) (ss : List Statement) (old table : ℕ → ℕ) (factor : ℕ) : Type 0 where
  pub weighted : (b : ℕ) → b < 2 ^ n → table b ≡ plus o (old b) (batched_weight o c p ss b)
  pub next : factor ≡ power o c (p + length ss)

pub IsWeighted-none : (o : Ops) → IsRing o → (n c p : ℕ) (old table : ℕ → ℕ) (factor : ℕ) → ((b : ℕ) → old b < o.size) → ((b : ℕ) → table b ≡ old b) → factor ≡ power o c p →
    IsWeighted o n c p [] old table factor
IsWeighted-none o ring n c p old table factor low same is =
    let none : p ≡ p + 0 = omega arith in
    record {
      weighted = λ b _. same b ∙ sym (ap (plus o (old b)) (batched-none o c p b).0 ∙ plus-zero o ring (old b) ∙ element-small o ring (old b) (low b));
      next = is ∙ ap (power o c) none;
    }

pub IsWeighted-more : (o : Ops) → IsRing o → (n c p : ℕ) (ss longer : List Statement) (s : Statement) (old table table' : ℕ → ℕ) (factor factor' : ℕ) →
    longer ≡ ss ++ s ∷ [] → IsWeighted o n c p ss old table factor →
    ((b : ℕ) → b < 2 ^ n → table' b ≡ plus o (table b) (times o factor (weight_of o s.kind b))) → factor' ≡ times o factor c →
    IsWeighted o n c p longer old table' factor'
IsWeighted-more o ring n c p ss longer s old table table' factor factor' split so_far added factor_is =
    let w = weight_of o s.kind in
    let P : List Statement → Type 0 = λ t. IsWeighted o n c p t old table' factor' in
    subst P (sym split) (record {
      weighted = λ b low. added b low ∙ ap (λ t. plus o t (times o factor (w b))) (so_far.weighted b low)
          ∙ plus_assoc o ring (old b) (batched_weight o c p ss b) (times o factor (w b))
          ∙ ap (λ k. plus o (old b) (plus o (batched_weight o c p ss b) (times o k (w b)))) so_far.next
          ∙ ap (plus o (old b)) (sym (batched_weight-append o ring c p ss s b));
      next = next-power o ring c p ss s factor factor' so_far.next factor_is;
    })

-- ---- the loops over the statements of one group

module _ (o : Ops) (ring : IsRing o) (c p : ℕ) (ss : List Statement) (i : ℕ) (low : i < length ss) where
  pub sum-more : (old total total' value factor factor' : ℕ) → IsSummed o c p (take i ss) old total factor → value ≡ slice_index (claimed_values ss) i →
      total' ≡ plus o total (times o factor value) → factor' ≡ times o factor c → IsSummed o c p (take (i + 1) ss) old total' factor'
  sum-more old total total' value factor factor' so_far is total_is factor_is =
      let there = at-place ss i low in
      IsSummed-more o ring c p (take i ss) (take (i + 1) ss) there.0 old total total' factor factor' (taken-at ss i there.0 there.1) so_far
      (total_is ∙ ap (λ k. plus o total (times o factor k)) (is ∙ read-at (λ s. s.claimed) ss i there.0 there.1)) factor_is

  pub weights-more : (n m : ℕ) (old table table' : ℕ → ℕ) (factor factor' : ℕ) → IsWeighted o n c p (take i ss) old table factor → m ≡ n →
      ((b : ℕ) → b < 2 ^ m → table' b ≡ plus o (table b) (times o factor (slice_index (weights_at o ss b) i))) → factor' ≡ times o factor c →
      IsWeighted o n c p (take (i + 1) ss) old table' factor'
  weights-more n m old table table' factor factor' so_far arity added factor_is =
      let there = at-place ss i low in
      IsWeighted-more o ring n c p (take i ss) (take (i + 1) ss) there.0 old table table' factor factor' (taken-at ss i there.0 there.1) so_far
      (λ b below. added b (subst (λ k. b < 2 ^ k) (sym arity) below) ∙ ap (λ k. plus o (table b) (times o factor k)) (read-at (λ s. weight_of o s.kind b) ss i there.0 there.1)) factor_is

-- after all statements
module _ (o : Ops) (c p : ℕ) (ss : List Statement) (i : ℕ) (past : length ss ≤ i) where
  pub summed-all : (old total factor : ℕ) → IsSummed o c p (take i ss) old total factor → total ≡ plus o old (batched_claim o c p ss)
  summed-all old total factor so_far = so_far.summed ∙ ap (λ l. plus o old (batched_claim o c p l)) (take_all i ss past)

  pub summed-next : (old total factor : ℕ) → IsSummed o c p (take i ss) old total factor → factor ≡ power o c (p + length ss)
  summed-next old total factor so_far = so_far.next ∙ ap (λ l. power o c (p + length l)) (take_all i ss past)

  pub weighted-all : (n : ℕ) (old table : ℕ → ℕ) (factor : ℕ) → IsWeighted o n c p (take i ss) old table factor → (b : ℕ) → b < 2 ^ n → table b ≡ plus o (old b) (batched_weight o c p ss b)
  weighted-all n old table factor so_far b low = so_far.weighted b low ∙ ap (λ l. plus o (old b) (batched_weight o c p l b)) (take_all i ss past)

-- ---- whole batches

-- no statement adds nothing
pub AddsBatch-none : (o : Ops) → IsRing o → {n c p : ℕ} {ss : List Statement} {table : ℕ → ℕ} {total : ℕ} → ss ≡ [] → ((b : ℕ) → table b < o.size) → total < o.size →
    AddsBatch o n c p ss (gathered table total) (gathered table total)
AddsBatch-none o ring {n} {c} {p} {table} {total} none low below =
    let P : List Statement → Type 0 = λ t. AddsBatch o n c p t (gathered table total) (gathered table total) in
    subst P (sym none) (record {
      weights = λ b _. sym (ap (plus o (table b)) (batched-none o c p b).0 ∙ plus-zero o ring (table b) ∙ element-small o ring (table b) (low b));
      sum = sym (ap (plus o total) (batched-none o c p 0).1 ∙ plus-zero o ring total ∙ element-small o ring total below);
    })

-- what is added to rows of zeros is there alone
pub WritesBatch-cleared : (o : Ops) → IsRing o → (n c p : ℕ) (ss : List Statement) (zeros new : ℕ → ℕ) (old_sum new_sum : ℕ) → ((b : ℕ) → b < 2 ^ n → zeros b ≡ 0) →
    AddsBatch o n c p ss (gathered zeros old_sum) (gathered new new_sum) → WritesBatch o n c p ss old_sum (gathered new new_sum)
unfolding batched_weight
WritesBatch-cleared o ring n c p ss zeros new old_sum new_sum cleared added = record {
  weights = λ b low. added.weights b low ∙ ap (λ z. plus o z (batched_weight o c p ss b)) (cleared b low)
      ∙ plus_comm o ring 0 (batched_weight o c p ss b) ∙ plus-zero o ring (batched_weight o c p ss b) ∙ element-batched_by_powers o ring c p (weights_at o ss b);
  sum = added.sum;
}

-- a claim that is added to zero is there alone
pub claim-alone : (o : Ops) → IsRing o → (c p : ℕ) (ss : List Statement) {zero_sum new_sum : ℕ} → zero_sum ≡ 0 → new_sum ≡ plus o zero_sum (batched_claim o c p ss) → new_sum ≡ batched_claim o c p ss
unfolding batched_claim
claim-alone o ring c p ss none is =
    let claim = batched_claim o c p ss in
    is ∙ ap (λ z. plus o z claim) none ∙ plus_comm o ring 0 claim ∙ plus-zero o ring claim ∙ element-batched_by_powers o ring c p (claimed_values ss)
