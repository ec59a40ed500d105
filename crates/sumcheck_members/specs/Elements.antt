-- The forms of a job's smallest parts: fields, elements, orders, and bases.
use Rattle.std.specs.Prelude.{ℕ, List, codes, bytes_eq, if◌then◌else◌, Option, Some, None, option_and_then}
use Rattle.serde_json.specs.Data.{Data}
use Rattle.serde_json.specs.Find.{as_str}
use Rattle.sc_forms.specs.Forms.{below_form, member_form}
use Rattle.sumcheck_members.specs.declared.job.FieldName.{FieldName}
use Rattle.sumcheck_members.specs.declared.job.FieldName.TheVariants.{F65537, F257x2, F16}
use Rattle.sumcheck_members.specs.declared.job.Sizes.{Sizes}
use Rattle.sc_table.specs.declared.strategy.Basis.{Basis}
use Rattle.sc_table.specs.declared.strategy.Basis.TheVariants.{Evaluation, Projective}
use Rattle.sc_table.specs.declared.strategy.VariableOrder.{VariableOrder}
use Rattle.sc_table.specs.declared.strategy.VariableOrder.TheVariants.{Prefix, Suffix}

-- how many elements the base field has, and the extension that its challenges are in
abbrev pub sizes_of : FieldName → Sizes
sizes_of F65537 = record { base = 65537; extension = 65537 }
sizes_of F257x2 = record { base = 257; extension = 66049 }
sizes_of F16 = record { base = 16; extension = 16 }

-- the field of this name
abbrev pub field_named : List ℕ → Option FieldName
field_named name =
    if bytes_eq name (codes "65537") then Some F65537 else
    (if bytes_eq name (codes "257x2") then Some F257x2 else
    (if bytes_eq name (codes "16") then Some F16 else None))

-- the field of a job, with its extension
abbrev pub field_form : Data → Option FieldName
field_form d = option_and_then field_named (as_str d)

-- what goes on with the member of this name in its form, if it is there in it
abbrev pub with_member : {A B : Type 0} → Data → List ℕ → (Data → Option A) → (A → Option B) → Option B
with_member d name form rest = option_and_then rest (member_form form name d)

-- an element of a field of so many, by its number
abbrev pub element_form : ℕ → Data → Option ℕ
element_form size d = below_form size d

-- the order of this name
abbrev pub order_named : List ℕ → Option VariableOrder
order_named name = if bytes_eq name (codes "prefix") then Some Prefix else (if bytes_eq name (codes "suffix") then Some Suffix else None)

-- which variable a round binds, or on which side a selector stands
abbrev pub order_form : Data → Option VariableOrder
order_form d = option_and_then order_named (as_str d)

-- the basis of this name
abbrev pub basis_named : List ℕ → Option Basis
basis_named name = if bytes_eq name (codes "evaluation") then Some Evaluation else (if bytes_eq name (codes "projective") then Some Projective else None)

-- what the entries of a table are in the rounds on it
abbrev pub basis_form : Data → Option Basis
basis_form d = option_and_then basis_named (as_str d)
