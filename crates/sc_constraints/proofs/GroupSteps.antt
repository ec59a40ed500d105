-- Batches over several groups of statements, and the groups of a loop.
use Rattle.std.proofs.Common.{◌≡◌, ℕ, suc, ◌+◌, ◌^◌, ◌<◌, All, List, [], ◌∷◌, ◌++◌, length, get_or, take, drop, map, sym, ◌∙◌, ap, refl, subst, arith, add-one}
use Rattle.std.specs.List.{flat_map}
use Rattle.std.proofs.lemmas.List.{append-nil, length-append, length-map, map-append, take_more}
use Rattle.std.proofs.lemmas.List.Concat.{flat_map-append}
use Rattle.std.proofs.Math.Seq.{drop-cons}
use Rattle.sc_definitions.specs.Ring.{Ops, IsRing, plus, times, power}
use Rattle.sc_definitions.specs.Statements.{Statement, batched_by_powers, weight_of, batched_weight, batched_claim}
use Rattle.sc_definitions.proofs.RingLaws.{plus-zero, plus_assoc, plus_comm}
use Rattle.sc_definitions.proofs.StatementLaws.{element-batched_by_powers}
use Rattle.sc_statements.specs.Batches.{gathered, AddsBatch}
use Rattle.sc_statements.proofs.BatchSteps.{IsSummed, AddsBatch-none}

module _ (o : Ops) (ring : IsRing o) where
  -- the powers go on after the first list
  pub batched_by_powers-concat : (c p : ℕ) (xs ys : List ℕ) → batched_by_powers o c p (xs ++ ys) ≡ plus o (batched_by_powers o c p xs) (batched_by_powers o c (p + length xs) ys)
  unfolding batched_by_powers
  batched_by_powers-concat c p [] ys =
      let same : p ≡ p + 0 = omega arith in
      sym (element-batched_by_powers o ring c p ys) ∙ sym (plus-zero o ring (batched_by_powers o c p ys)) ∙ plus_comm o ring (batched_by_powers o c p ys) 0
      ∙ ap (λ k. plus o 0 (batched_by_powers o c k ys)) same
  batched_by_powers-concat c p (x ∷ xs) ys =
      let more : suc p + length xs ≡ p + suc (length xs) = omega arith in
      let first = times o (power o c p) x in
      ap (plus o first) (batched_by_powers-concat c (suc p) xs ys)
      ∙ sym (plus_assoc o ring first (batched_by_powers o c (suc p) xs) (batched_by_powers o c (suc p + length xs) ys))
      ∙ ap (λ k. plus o (plus o first (batched_by_powers o c (suc p) xs)) (batched_by_powers o c k ys)) more

  pub batched_weight-concat : (c p : ℕ) (ss ts : List Statement) (b : ℕ) → batched_weight o c p (ss ++ ts) b ≡ plus o (batched_weight o c p ss b) (batched_weight o c (p + length ss) ts b)
  unfolding batched_weight
  batched_weight-concat c p ss ts b =
      let one : Statement → ℕ = λ s. weight_of o s.kind b in
      ap (batched_by_powers o c p) (map-append one ss ts) ∙ batched_by_powers-concat c p (map one ss) (map one ts)
      ∙ ap (λ k. plus o (batched_by_powers o c p (map one ss)) (batched_by_powers o c (p + k) (map one ts))) (length-map ss one)

  pub batched_claim-concat : (c p : ℕ) (ss ts : List Statement) → batched_claim o c p (ss ++ ts) ≡ plus o (batched_claim o c p ss) (batched_claim o c (p + length ss) ts)
  unfolding batched_claim
  batched_claim-concat c p ss ts =
      let one : Statement → ℕ = λ s. s.claimed in
      ap (batched_by_powers o c p) (map-append one ss ts) ∙ batched_by_powers-concat c p (map one ss) (map one ts)
      ∙ ap (λ k. plus o (batched_by_powers o c p (map one ss)) (batched_by_powers o c (p + k) (map one ts))) (length-map ss one)

  -- one group more
  pub IsSummed-group : (c p : ℕ) (ss ts longer : List Statement) (old total total' factor factor' : ℕ) → longer ≡ ss ++ ts → IsSummed o c p ss old total factor →
      total' ≡ plus o total (batched_claim o c (p + length ss) ts) → factor' ≡ power o c (p + length ss + length ts) → IsSummed o c p longer old total' factor'
  IsSummed-group c p ss ts longer old total total' factor factor' split so_far total_is factor_is =
      let P : List Statement → Type 0 = λ t. IsSummed o c p t old total' factor' in
      let more : p + length ss + length ts ≡ p + length (ss ++ ts) = omega (arith, length-append ss ts) in
      subst P (sym split) (record {
        summed = total_is ∙ ap (λ t. plus o t (batched_claim o c (p + length ss) ts)) so_far.summed
            ∙ plus_assoc o ring old (batched_claim o c p ss) (batched_claim o c (p + length ss) ts)
            ∙ ap (plus o old) (sym (batched_claim-concat c p ss ts));
        next = factor_is ∙ ap (power o c) more;
      })

  pub AddsBatch-group : (n m c p : ℕ) (ss ts longer : List Statement) (old table new : ℕ → ℕ) (old_sum total new_sum : ℕ) → longer ≡ ss ++ ts → m ≡ n →
      AddsBatch o n c p ss (gathered old old_sum) (gathered table total) → AddsBatch o m c (p + length ss) ts (gathered table total) (gathered new new_sum) → AddsBatch o n c p longer (gathered old old_sum) (gathered new new_sum)
  AddsBatch-group n m c p ss ts longer old table new old_sum total new_sum split arity so_far added =
      let P : List Statement → Type 0 = λ t. AddsBatch o n c p t (gathered old old_sum) (gathered new new_sum) in
      subst P (sym split) (record {
        weights = λ b low. added.weights b (omega (arith, low, ap (λ k. 2 ^ k) arity)) ∙ ap (λ t. plus o t (batched_weight o c (p + length ss) ts b)) (so_far.weights b low)
            ∙ plus_assoc o ring (old b) (batched_weight o c p ss b) (batched_weight o c (p + length ss) ts b)
            ∙ ap (plus o (old b)) (sym (batched_weight-concat c p ss ts b));
        sum = added.sum ∙ ap (λ t. plus o t (batched_claim o c (p + length ss) ts)) so_far.sum
            ∙ plus_assoc o ring old_sum (batched_claim o c p ss) (batched_claim o c (p + length ss) ts)
            ∙ ap (plus o old_sum) (sym (batched_claim-concat c p ss ts));
      })

-- ---- the groups of a loop

pub groups-more : {G : Type 0} (statements_of : G → List Statement) (groups : List G) (i : ℕ) (x : G) → i < length groups → x ≡ get_or groups i x →
    flat_map statements_of (take (i + 1) groups) ≡ flat_map statements_of (take i groups) ++ statements_of x
groups-more statements_of groups i x low is =
    ap (flat_map statements_of) (take_more groups i x low ∙ ap (λ y. take i groups ++ y ∷ []) (sym is))
    ∙ flat_map-append statements_of (take i groups) (x ∷ [])
    ∙ ap (λ t. flat_map statements_of (take i groups) ++ t) (append-nil (statements_of x))

pub groups-split : {G : Type 0} (statements_of : G → List Statement) (groups : List G) (i : ℕ) (x : G) → i < length groups → x ≡ get_or groups i x →
    flat_map statements_of (drop i groups) ≡ statements_of x ++ flat_map statements_of (drop (i + 1) groups)
groups-split statements_of groups i x low is =
    ap (flat_map statements_of) (drop-cons groups i x low)
    ∙ ap (λ y. statements_of y ++ flat_map statements_of (drop (suc i) groups)) (sym is)
    ∙ ap (λ k. statements_of x ++ flat_map statements_of (drop k groups)) (sym (add-one i))

-- the arity of the group at a place
pub arity-of : {G : Type 0} (arity : G → ℕ) (n : ℕ) (groups all : List G) (i : ℕ) (x : G) → All (λ y. arity y ≡ n) all → groups ≡ all → i < length groups → x ≡ get_or groups i x → arity x ≡ n
arity-of arity n groups all i x fits same low is =
    ap arity is ∙ subst (λ l. i < length l → arity (get_or l i x) ≡ n) (sym same) (fits i x) low

-- ---- the loops over the groups

module _ {G : Type 0} (statements_of : G → List Statement) (o : Ops) (ring : IsRing o) (c p : ℕ) (groups : List G) (i : ℕ) (x : G) where
  -- the sum of one group more
  pub sum-group : {old total total' factor factor' : ℕ} → IsSummed o c p (flat_map statements_of (take i groups)) old total factor → i < length groups → x ≡ get_or groups i x →
      ((q : ℕ) → factor ≡ power o c q → total' ≡ plus o total (batched_claim o c q (statements_of x))) → ((q : ℕ) → factor ≡ power o c q → factor' ≡ power o c (q + length (statements_of x))) →
      IsSummed o c p (flat_map statements_of (take (i + 1) groups)) old total' factor'
  sum-group {old} {total} {total'} {factor} {factor'} so_far low at added next =
      let q = p + length (flat_map statements_of (take i groups)) in
      IsSummed-group o ring c p _ (statements_of x) _ old total total' factor factor' (groups-more statements_of groups i x low at) so_far (added q so_far.next) (next q so_far.next)

-- the table and the sum have the batch of the first i groups, and the factor is that of the statement after them
pub record IsCombined {G : Type 0} (statements_of : G → List Statement) (o : Ops) (n c p : ℕ) (groups : List G) (i : ℕ) (old table : ℕ → ℕ) (old_sum total factor : ℕ) : Type 0 where
  pub added : AddsBatch o n c p (flat_map statements_of (take i groups)) (gathered old old_sum) (gathered table total)
  pub next : factor ≡ power o c (p + length (flat_map statements_of (take i groups)))

module _ {G : Type 0} (statements_of : G → List Statement) (o : Ops) (ring : IsRing o) (n c p : ℕ) (groups : List G) where
  pub IsCombined-none : {table : ℕ → ℕ} {total factor : ℕ} → ((b : ℕ) → table b < o.size) → total < o.size → factor ≡ power o c p →
      IsCombined statements_of o n c p groups 0 table table total total factor
  IsCombined-none low below is =
      let none : p ≡ p + 0 = omega arith in
      record { added = AddsBatch-none o ring refl low below; next = is ∙ ap (power o c) none }

  pub IsCombined-more : (arity : G → ℕ) {all : List G} (i : ℕ) (x : G) {old table table' : ℕ → ℕ} {old_sum total total' factor factor' : ℕ} →
      IsCombined statements_of o n c p groups i old table old_sum total factor → All (λ y. arity y ≡ n) all → groups ≡ all → i < length groups → x ≡ get_or groups i x →
      ((q : ℕ) → factor ≡ power o c q → AddsBatch o (arity x) c q (statements_of x) (gathered table total) (gathered table' total')) → ((q : ℕ) → factor ≡ power o c q → factor' ≡ power o c (q + length (statements_of x))) →
      IsCombined statements_of o n c p groups (i + 1) old table' old_sum total' factor'
  IsCombined-more arity {all} i x {old} {table} {table'} {old_sum} {total} {total'} so_far fits same low at added next =
      let done = flat_map statements_of (take i groups) in
      let q = p + length done in
      let longer = groups-more statements_of groups i x low at in
      let count : q + length (statements_of x) ≡ p + length (flat_map statements_of (take (i + 1) groups)) = omega (arith, length-append done (statements_of x), ap length longer) in
      record {
        added = AddsBatch-group o ring n (arity x) c p _ (statements_of x) _ old table table' old_sum total total' longer (arity-of arity n groups all i x fits same low at) so_far.added (added q so_far.next);
        next = next q so_far.next ∙ ap (power o c) count;
      }
