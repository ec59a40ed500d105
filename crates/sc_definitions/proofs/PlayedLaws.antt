-- Tables that agree at each row, and the one entry that all rounds leave.
use Rattle.std.proofs.Common.{◌≡◌, ℕ, suc, ◌+◌, ◌*◌, ◌^◌, ◌<◌, List, [], ◌∷◌, ap, sym, ◌∙◌, arith}
use Rattle.std.proofs.Math.Nat.{pow-suc}
use Rattle.sc_definitions.specs.Ring.{Ops, IsRing, element}
use Rattle.sc_definitions.specs.Tables.{Basis, evaluation, projective, Order, prefix, suffix, value, point_of, digits, bound, bound_low, bound_coefficients, folded_in, folded_by}
use Rattle.sc_definitions.specs.Messages.{low_entry, high_entry, first_term, leading_term, message_first, message_leading, message_of}
use Rattle.sc_definitions.specs.Rounds.{partial_value}
use Rattle.sc_definitions.proofs.Sums.{sum-same}
use Rattle.sc_definitions.proofs.PlacedLaws.{partial_value-folded_by}

-- ---- tables that agree at each row

-- their parts where the next variable is 0 agree
pub low-same : (order : Order) (half b : ℕ) (f g : ℕ → ℕ) → b < half → ((k : ℕ) → k < half + half → f k ≡ g k) → low_entry order f b ≡ low_entry order g b
unfolding low_entry
low-same prefix half b f g low same = same b (omega (arith, low))
low-same suffix half b f g low same = same (2 * b) (omega (arith, low))

-- their parts where the next variable is 1 agree
pub high-same : (order : Order) (half b : ℕ) (f g : ℕ → ℕ) → b < half → ((k : ℕ) → k < half + half → f k ≡ g k) → high_entry order half f b ≡ high_entry order half g b
unfolding high_entry
high-same prefix half b f g low same = same (half + b) (omega (arith, low))
high-same suffix half b f g low same = same (2 * b + 1) (omega (arith, low))

pub message-same : (basis : Basis) (order : Order) (o : Ops) (half : ℕ) (f g w v : ℕ → ℕ) →
    ((k : ℕ) → k < half + half → f k ≡ g k) → ((k : ℕ) → k < half + half → w k ≡ v k) →
    message_of basis order o half f w ≡ message_of basis order o half g v
unfolding message_first message_leading first_term leading_term
message-same evaluation order o half f g w v p q =
    let f0 = λ (b : ℕ) (low : b < half). low-same order half b f g low p in
    let f1 = λ (b : ℕ) (low : b < half). high-same order half b f g low p in
    let w0 = λ (b : ℕ) (low : b < half). low-same order half b w v low q in
    let w1 = λ (b : ℕ) (low : b < half). high-same order half b w v low q in
    ap (λ c. c ∷ message_leading evaluation order o half f w ∷ []) (sum-same o half _ _ (λ b low. cc (f0 b low, w0 b low)))
    ∙ ap (λ c. message_first evaluation order o half g v ∷ c ∷ []) (sum-same o half _ _ (λ b low. cc (f0 b low, f1 b low, w0 b low, w1 b low)))
message-same projective order o half f g w v p q =
    let f0 = λ (b : ℕ) (low : b < half). low-same order half b f g low p in
    let f1 = λ (b : ℕ) (low : b < half). high-same order half b f g low p in
    let w0 = λ (b : ℕ) (low : b < half). low-same order half b w v low q in
    let w1 = λ (b : ℕ) (low : b < half). high-same order half b w v low q in
    ap (λ c. c ∷ message_leading projective order o half f w ∷ []) (sum-same o half _ _ (λ b low. cc (f0 b low, f1 b low, w0 b low, w1 b low)))
    ∙ ap (λ c. message_first projective order o half g v ∷ c ∷ []) (sum-same o half _ _ (λ b low. cc (f1 b low, w1 b low)))

pub folded_in-same : (basis : Basis) (order : Order) (o : Ops) (m r b : ℕ) (f g : ℕ → ℕ) → b < 2 ^ m →
    ((k : ℕ) → k < 2 ^ suc m → f k ≡ g k) → folded_in basis order o m r f b ≡ folded_in basis order o m r g b
unfolding bound bound_low bound_coefficients
folded_in-same evaluation prefix o m r b f g low same =
    let twice : 2 ^ suc m ≡ 2 ^ m * 2 = pow-suc 2 m in
    let first : f b ≡ g b = same b (omega (arith, low, twice)) in
    let second : f (2 ^ m + b) ≡ g (2 ^ m + b) = same (2 ^ m + b) (omega (arith, low, twice)) in cc
folded_in-same evaluation suffix o m r b f g low same =
    let twice : 2 ^ suc m ≡ 2 ^ m * 2 = pow-suc 2 m in
    let first : f (2 * b) ≡ g (2 * b) = same (2 * b) (omega (arith, low, twice)) in
    let second : f (2 * b + 1) ≡ g (2 * b + 1) = same (2 * b + 1) (omega (arith, low, twice)) in cc
folded_in-same projective order o m r b f g low same =
    let twice : 2 ^ suc m ≡ 2 ^ m * 2 = pow-suc 2 m in
    let first : f b ≡ g b = same b (omega (arith, low, twice)) in
    let second : f (2 ^ m + b) ≡ g (2 ^ m + b) = same (2 ^ m + b) (omega (arith, low, twice)) in cc

-- all rounds were played: the one entry that is left is the table's value at the challenges
pub value-played : (order : Order) (o : Ops) → IsRing o → (f f' : ℕ → ℕ) (rs : List ℕ) →
    ((b : ℕ) → b < 2 ^ 0 → f' b ≡ folded_by evaluation order o rs 0 f b) → value o f (point_of order rs) ≡ element o (f' 0)
unfolding partial_value digits
value-played order o ring f f' rs e =
    partial_value-folded_by o ring evaluation order f rs 0 0 (omega arith) ∙ ap (element o) (sym (e 0 (omega arith)))
