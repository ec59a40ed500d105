-- The fields that jobs name are lawful, and so are their base fields; all are as large as jobs allow numbers.
use Rattle.std.proofs.Common.{◌≡◌, refl}
use Rattle.sc_definitions.specs.Ring.{IsField, IsRingMap}
use Rattle.sc_definitions.specs.Residues.{residues}
use Rattle.sc_field.specs.Own.{identity_map}
use Rattle.sc_small_fields.specs.QuadraticFields.{first_map}
use Rattle.sc_small_fields.specs.F257Laws.{f257_field}
use Rattle.sc_small_fields.specs.ResiduesLaws.{residues_field}
use Rattle.sc_small_fields.specs.F257x2Laws.{f257x2_field}
use Rattle.sc_sixteen.specs.SixteenLaws.{tower_field}
use Rattle.sumcheck_members.specs.declared.job.FieldName.{FieldName}
use Rattle.sumcheck_members.specs.declared.job.FieldName.TheVariants.{F65537, F257x2, F16}
use Rattle.sumcheck_members.specs.Elements.{sizes_of}
use Rattle.sumcheck_replies.specs.Fields.{fields_of}

pub fields_field : (name : FieldName) → IsField (fields_of name).ops
fields_field F65537 = residues_field
fields_field F257x2 = f257x2_field
fields_field F16 = tower_field

pub sizes-are : (name : FieldName) → (sizes_of name).extension ≡ (fields_of name).ops.size
sizes-are F65537 = refl
sizes-are F257x2 = refl
sizes-are F16 = refl

-- so are their base fields, which are mapped into them
pub fields_base : (name : FieldName) → IsField (fields_of name).base
fields_base F65537 = residues_field
fields_base F257x2 = f257_field
fields_base F16 = tower_field

pub fields_map : (name : FieldName) → IsRingMap (fields_of name).base (fields_of name).ops (fields_of name).embedding
fields_map F65537 = identity_map (fields_of F65537).ops
fields_map F257x2 = first_map (residues 257) f257_field.ring 3
fields_map F16 = identity_map (fields_of F16).ops

pub base-sizes-are : (name : FieldName) → (sizes_of name).base ≡ (fields_of name).base.size
base-sizes-are F65537 = refl
base-sizes-are F257x2 = refl
base-sizes-are F16 = refl
