-- The fields and the challengers that jobs name.
use Rattle.std.specs.Prelude.{ℕ}
use Rattle.sc_definitions.specs.Ring.{Ops}
use Rattle.sc_definitions.specs.Residues.{residues}
use Rattle.sc_definitions.specs.Quadratic.{quadratic, pair_extension}
use Rattle.sc_definitions.specs.Sixteen.{tower}
use Rattle.sc_definitions.specs.Events.{Rules, Extension, own_extension}
use Rattle.sc_definitions.specs.Scripted.{scripted_rules}
use Rattle.sc_challenger.specs.Hashed.{hash_rules}
use Rattle.sumcheck_members.specs.declared.job.FieldName.{FieldName}
use Rattle.sumcheck_members.specs.declared.job.FieldName.TheVariants.{F65537, F257x2, F16}
use Rattle.sumcheck_members.specs.declared.job.Challenger.{Challenger}
use Rattle.sumcheck_members.specs.declared.job.Sizes.{Sizes}
use Rattle.sumcheck_members.specs.declared.job.Challenger.TheVariants.{Scripted, Hash}

-- A field that challenges are in, over a base field: the operations on numbers of the base field and its own, the parts of an element in the base field,
-- and the number of a base element's image.
pub record Fields : Type 0 where
  pub base : Ops
  pub ops : Ops
  pub extension : Extension
  pub embedding : ℕ → ℕ

-- how many elements a base field has, and an extension
abbrev pub sizes_over : Ops → Ops → Sizes
sizes_over base o = record { base = base.size; extension = o.size }

-- an extension over a base field, with the parts of its elements and the images of the base field's
abbrev pub fields_over : Ops → Ops → Extension → (ℕ → ℕ) → Fields
fields_over base o E embedding = record { base = base; ops = o; extension = E; embedding = embedding }

-- The fields of a name: the integers modulo 65537 over themselves; a + b u over the integers modulo 257, where u^2 = 3; the field of 16 elements over
-- itself, whose numbers have the bits of 1, w, y and wy, where w^2 = w + 1 and y^2 = y + w.
abbrev pub fields_of : FieldName → Fields
fields_of F65537 = record { base = residues 65537; ops = residues 65537; extension = own_extension; embedding = λ n. n }
fields_of F257x2 = record { base = residues 257; ops = quadratic (residues 257) 3; extension = pair_extension (residues 257); embedding = λ n. n }
fields_of F16 = record { base = tower; ops = tower; extension = own_extension; embedding = λ n. n }

-- what a challenger over a base field of so many elements answers
abbrev pub rules_by : ℕ → Challenger → Rules
rules_by base_size (Scripted script) = scripted_rules script.draws script.witnesses
rules_by base_size Hash = hash_rules base_size
