-- What is done with rounds: they are built, or those of a proof are checked.
use Rattle.std.specs.Prelude.{⊤, codes, if◌then◌else◌, Option, Some, is_some, option_map}
use Rattle.serde_json.specs.Data.{Data}
use Rattle.sc_forms.specs.Forms.{literal_form, member_form}
use Rattle.sumcheck_members.specs.declared.mode.BuildOrCheck.{BuildOrCheck}
use Rattle.sumcheck_members.specs.declared.mode.BuildOrCheck.TheVariants.{Build, Check}

-- a build by its name, or an object with the proof that is checked, in a form
abbrev pub build_or_check_form : {P : Type 0} → (Data → Option P) → Data → Option (BuildOrCheck P)
build_or_check_form form d =
    if is_some (literal_form (codes "build") d) then Some Build
    else option_map (λ proof. Check proof) (member_form form (codes "check") d)

-- a proof that is checked has this
abbrev pub CheckFits : {P : Type 0} → (P → Type 0) → BuildOrCheck P → Type 0
CheckFits fits Build = ⊤
CheckFits fits (Check proof) = fits proof
