-- A reference that was lent.
use Rattle.std.proofs.Common.{◌≡◌, sym, ◌∙◌}

-- it is handed back as its holder leaves it
pub returned : {A N : Type 0} {lent held begun : N} {final left now : A} → (lent ≡ held → final ≡ left) → held ≡ begun → begun ≡ lent → left ≡ now → final ≡ now
returned back same is kept = back (sym (same ∙ is)) ∙ kept
