-- Laws of sums and powers in a ring.
use Rattle.std.specs.Prelude.{◌≡◌, ℕ, ◌+◌, ◌<◌, ◌≤◌, List, [], ◌∷◌, length, map, All}
use Rattle.std.specs.Iterator.{Yields}
use Rattle.sc_definitions.specs.Ring.{Ops, ◌+⟨◌⟩◌, ◌*⟨◌⟩◌, power}
use Rattle.sc_definitions.specs.Tables.{sum_below}
use Rattle.sc_definitions.specs.Polynomials.{poly_at, IsNoneOf, AreRoots}
use Rattle.sc_definitions.specs.Roots.{IsLastPlace}
use Rattle.sc_definitions.specs.Statements.{batched_by_powers}
use Rattle.sc_field.specs.declared.powers.Powers.{Powers}
use Rattle.sc_field.specs.Powers.{base_of, start_of, GivesPower, ArePowers}

-- a sum over m + n numbers is the sum over the first m and the sum over the n after them
abbrev pub SumsSplit : Ops → Type 0
SumsSplit o =
    (m n : ℕ) (f : ℕ → ℕ) → sum_below o (m + n) f ≡ sum_below o m f +⟨ o ⟩ sum_below o n (λ k. f (m + k))

-- the sum of two sums is the sum of the sums
abbrev pub SumsAdd : Ops → Type 0
SumsAdd o =
    (n : ℕ) (f g : ℕ → ℕ) → sum_below o n f +⟨ o ⟩ sum_below o n g ≡ sum_below o n (λ k. f k +⟨ o ⟩ g k)

-- a sum of sums may be taken in the other order
abbrev pub SumsExchange : Ops → Type 0
SumsExchange o =
    (m n : ℕ) (f : ℕ → ℕ → ℕ) →
    sum_below o m (λ i. sum_below o n (λ j. f i j)) ≡ sum_below o n (λ j. sum_below o m (λ i. f i j))

-- a factor of a sum is a factor of each term
abbrev pub FactorMovesIn : Ops → Type 0
FactorMovesIn o = (x n : ℕ) (f : ℕ → ℕ) → x *⟨ o ⟩ sum_below o n f ≡ sum_below o n (λ k. x *⟨ o ⟩ f k)

-- the power 0 is one
abbrev pub PowerOfNone : Ops → Type 0
PowerOfNone o = (x : ℕ) → power o x 0 ≡ 1

-- the power m + n is the product of the powers m and n
abbrev pub PowersSplit : Ops → Type 0
PowersSplit o = (x m n : ℕ) → power o x (m + n) ≡ power o x m *⟨ o ⟩ power o x n

-- a power of a product is the product of the powers
abbrev pub PowerOfProduct : Ops → Type 0
PowerOfProduct o = (x y n : ℕ) → power o (x *⟨ o ⟩ y) n ≡ power o x n *⟨ o ⟩ power o y n

-- the items that an iterator of powers gives are its start times the powers of its base
abbrev pub ItemsArePowers : {F : Type 0} → Ops → (F → ℕ) → Type 0
ItemsArePowers {F} o number =
    (s t : Powers F) (xs : List F) → Yields (GivesPower o number) s xs t →
    ArePowers o (number (start_of s)) (number (base_of s)) (map number xs)

-- the value of a polynomial is the sum of its coefficients times powers, the power 0 first
abbrev pub ValuesAreSums : Ops → Type 0
ValuesAreSums o = (cs : List ℕ) (x : ℕ) → poly_at o cs x ≡ batched_by_powers o x 0 cs

-- different elements
abbrev pub AreNodes : Ops → List ℕ → Type 0
AreNodes o [] = Unit {0}
AreNodes o (x ∷ xs) = (x < o.size) × IsNoneOf x xs × AreNodes o xs

-- two polynomials agree at each of these
abbrev pub AgreeAt : Ops → List ℕ → List ℕ → List ℕ → Type 0
AgreeAt o cs ds [] = Unit {0}
AgreeAt o cs ds (x ∷ xs) = (poly_at o cs x ≡ poly_at o ds x) × AgreeAt o cs ds xs

-- two polynomials of d + 1 coefficients, which are elements, that agree at d + 1 nodes are equal
abbrev pub InterpolationIsUnique : Ops → Type 0
InterpolationIsUnique o =
    (nodes cs ds : List ℕ) → AreNodes o nodes → length cs ≡ length nodes → length ds ≡ length nodes →
    All (λ c. c < o.size) cs → All (λ d. d < o.size) ds → AgreeAt o cs ds nodes → cs ≡ ds

-- different roots of a polynomial are no more than its degree, the place of its last coefficient that is not zero
abbrev pub RootsAreFew : Ops → Type 0
RootsAreFew o = (cs rs : List ℕ) (degree : ℕ) → IsLastPlace o cs degree → AreRoots o cs rs → length rs ≤ degree
