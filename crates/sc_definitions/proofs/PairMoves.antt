-- One round on a pair of tables, from what is measured and bound.
use Rattle.std.proofs.Common.{◌≡◌, ℕ, zero, suc, ◌+◌, ◌-◌, ◌*◌, ◌/◌, ◌%◌, ◌^◌, ◌<◌, List, [], ◌∷◌, length, map, ap, sym, ◌∙◌, arith}
use Rattle.std.proofs.Math.Nat.{pow-suc}
use Rattle.std.proofs.lemmas.List.{length-map}
use Rattle.std.proofs.lemmas.Grind.{same_number_lists}
use Rattle.sc_definitions.specs.Ring.{Ops, IsRing, times}
use Rattle.sc_definitions.specs.Tables.{Basis, Order, IsOffered, entries, rows_of, sum_below, inner_product, folded_in}
use Rattle.sc_definitions.specs.Messages.{message_first, message_leading, message_of}
use Rattle.sc_definitions.specs.Rounds.{next_claim}
use Rattle.sc_definitions.specs.Transcript.{round_of}
use Rattle.sc_definitions.specs.Channels.{IsSent, with_rounds}
use Rattle.sc_definitions.specs.ProverStates.{Setting, ProverState, half_rows, IsRound}
use Rattle.sc_definitions.proofs.Sums.{sum-same}
use Rattle.sc_definitions.proofs.MessageLaws.{inner_product-folded_in}
use Rattle.sc_definitions.proofs.ProverStateLaws.{IsSized, entries-is}

-- a power of two with a variable left is even
pub even_power : (n v : ℕ) → 0 < v → n ≡ 2 ^ v → n % 2 ≡ 0
even_power n v positive size =
    let less : v ≡ suc (v - 1) = omega arith in
    let twice : 2 ^ v ≡ 2 ^ (v - 1) * 2 = ap (λ k. 2 ^ k) less ∙ pow-suc 2 (v - 1) in
    omega (arith, size, twice)

-- a number above zero is one more than another
pub one_more : (n : ℕ) → 0 < n → (m : ℕ) × (n ≡ m + 1)
one_more zero positive = absurd (omega (arith, positive))
one_more (suc m) positive = (m, omega arith)

-- a message of tables by how many rows their parts have
pub halved : (basis : Basis) (order : Order) (o : Ops) (n : ℕ) (f w : ℕ → ℕ) (values : List ℕ) (more : (m : ℕ) × (n ≡ m + 1)) → values ≡ message_of basis order o (2 ^ more.0) f w →
    values ≡ message_of basis order o (half_rows n) f w
halved basis order o n f w values more message =
    let next : n ≡ suc more.0 = omega (arith, more.1) in
    message ∙ ap (λ k. message_of basis order o (half_rows k) f w) (sym next)

-- the list of a table has as many numbers as rows
pub sized : {X : Type 0} (number : X → ℕ) (xs : List X) (n size : ℕ) → n ≡ length xs → n ≡ 2 ^ size → length (map number xs) ≡ 2 ^ size
sized number xs n size len is = length-map xs number ∙ sym len ∙ is

-- tables of as many variables that are the same have the same numbers
pub same_lists : {X : Type 0} (number : X → ℕ) (n m : ℕ) (xs ys : List X) → length (map number xs) ≡ 2 ^ n → length (map number ys) ≡ 2 ^ m → m ≡ n →
    entries number ys ≡ entries number xs → map number ys ≡ map number xs
unfolding entries
same_lists number n m xs ys size other same is =
    same_number_lists (map number ys) (map number xs) (other ∙ ap (λ k. 2 ^ k) same ∙ sym size) (λ k low. ap (λ t. t k) is)

-- the message of tables of m + 1 variables
pub message_halves : (basis : Basis) (order : Order) (o : Ops) (n v m : ℕ) (f w F W : ℕ → ℕ) (a b : ℕ) → n ≡ 2 ^ v → v ≡ m + 1 → F ≡ f → W ≡ w →
    a ≡ message_first basis order o (n / 2) F W → b ≡ message_leading basis order o (n / 2) F W →
    a ∷ b ∷ [] ≡ message_of basis order o (2 ^ m) f w
message_halves basis order o n v m f w F W a b size more same_f same_w first leading =
    let twice : 2 ^ (m + 1) ≡ 2 ^ m * 2 = ap (λ k. 2 ^ k) (omega arith) ∙ pow-suc 2 m in
    let half : n / 2 ≡ 2 ^ m = omega (arith, size ∙ ap (λ k. 2 ^ k) more ∙ twice) in
    ap (λ c. c ∷ b ∷ []) first ∙ ap (λ c. message_first basis order o (n / 2) F W ∷ c ∷ []) leading
    ∙ ap (λ h. message_of basis order o h F W) half ∙ ap (λ g. message_of basis order o (2 ^ m) g W) same_f
    ∙ ap (λ g. message_of basis order o (2 ^ m) f g) same_w

-- the sum over the rows of two lists
pub dot_sum : (o : Ops) {d L : ℕ} (n : ℕ) {F W f w : ℕ → ℕ} → d ≡ sum_below o L (λ b. times o (F b) (W b)) → L ≡ 2 ^ n → F ≡ f → W ≡ w → d ≡ inner_product o n f w
unfolding inner_product
dot_sum o n {F} {W} {f} is size same_f same_w =
    is ∙ ap (λ k. sum_below o k (λ b. times o (F b) (W b))) size ∙ ap (λ g. sum_below o (2 ^ n) (λ b. times o (g b) (W b))) same_f
    ∙ ap (λ g. sum_below o (2 ^ n) (λ b. times o (f b) (g b))) same_w

-- the round
pub moves : (s : Setting) (t u : ProverState) (values : List ℕ) (witness r : ℕ) →
    IsSent s.channel t.history (round_of values witness) r u.history → u.wire ≡ with_rounds s.channel.bits t.wire (round_of values witness ∷ []) →
    t.variables ≡ u.variables + 1 → IsSized u →
    values ≡ message_of s.basis s.order s.ops (2 ^ u.variables) (rows_of t.evals) (rows_of t.weights) →
    ((b : ℕ) → b < 2 ^ u.variables → rows_of u.evals b ≡ folded_in s.basis s.order s.ops u.variables r (rows_of t.evals) b) →
    ((b : ℕ) → b < 2 ^ u.variables → rows_of u.weights b ≡ folded_in s.basis s.order s.ops u.variables r (rows_of t.weights) b) →
    u.claim ≡ next_claim s.basis s.ops t.claim values r → IsRound s t u r
moves s t u values witness r sent wire less sized message evals weights claim =
    let fewer : t.variables ≡ suc u.variables = omega (arith, less) in
    record {
      round = round_of values witness;
      fewer = fewer;
      message = message ∙ ap (λ n. message_of s.basis s.order s.ops (half_rows n) (rows_of t.evals) (rows_of t.weights)) (sym fewer);
      sent = sent;
      wire = wire;
      evals = entries-is u.variables u.evals _ sized.evals evals;
      weights = entries-is u.variables u.weights _ sized.weights weights;
      claim = claim;
    }

-- the sum of the bound tables
pub sum_after : (basis : Basis) (order : Order) → IsOffered basis order → (o : Ops) → IsRing o → (n m : ℕ) (f w : ℕ → ℕ) (claim : ℕ) (values : List ℕ) (r : ℕ) (f' w' : ℕ → ℕ) (claim' : ℕ) →
    n ≡ m + 1 → claim ≡ inner_product o n f w → values ≡ message_of basis order o (2 ^ m) f w →
    ((b : ℕ) → b < 2 ^ m → f' b ≡ folded_in basis order o m r f b) → ((b : ℕ) → b < 2 ^ m → w' b ≡ folded_in basis order o m r w b) →
    claim' ≡ next_claim basis o claim values r → claim' ≡ inner_product o m f' w'
unfolding inner_product
sum_after basis order offered o ring n m f w claim values r f' w' claim' more true_sum message evals weights next =
    let size : n ≡ suc m = omega arith in
    next ∙ ap (λ vs. next_claim basis o claim vs r) message
    ∙ ap (λ c. next_claim basis o c (message_of basis order o (2 ^ m) f w) r) (true_sum ∙ ap (λ k. inner_product o k f w) size)
    ∙ sym (inner_product-folded_in o ring basis order offered m f w r)
    ∙ sym (sum-same o (2 ^ m) _ _ (λ b low. ap (λ x. times o x (w' b)) (evals b low) ∙ ap (λ x. times o (folded_in basis order o m r f b) x) (weights b low)))
