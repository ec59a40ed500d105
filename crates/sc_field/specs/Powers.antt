-- What an iterator of powers holds, and what it gives.
use Rattle.std.specs.Prelude.{◌≡◌, ℕ, ◌<◌, List, length, slice_index, Option, IsSomeAnd}
use Rattle.sc_definitions.specs.Ring.{Ops, ◌*⟨◌⟩◌, power}
use Rattle.sc_field.specs.declared.powers.Powers.{Powers}

-- what each item is multiplied by
abbrev pub base_of : {F : Type 0} → Powers F → F
base_of p = p.base

-- the item that comes next
abbrev pub start_of : {F : Type 0} → Powers F → F
start_of p = p.next

-- A call of `next` at s gives r and leaves t: the item that was next, and then comes that item times the base.
abbrev pub GivesPower : {F : Type 0} → Ops → (F → ℕ) → Powers F → Option F → Powers F → Type 0
GivesPower o number s r t =
    IsSomeAnd r
    (λ x. (number x ≡ number (start_of s))
    × (number (start_of t) ≡ number (start_of s) *⟨ o ⟩ number (base_of s))
    × (number (base_of t) ≡ number (base_of s)))

-- Number i of the list is start times the power i of base.
abbrev pub ArePowers : Ops → ℕ → ℕ → List ℕ → Type 0
ArePowers o start base ns = (i : ℕ) → i < length ns → slice_index ns i ≡ start *⟨ o ⟩ power o base i
