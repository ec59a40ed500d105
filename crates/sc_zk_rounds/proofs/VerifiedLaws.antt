-- What a replay of masked rounds leaves.
use Rattle.std.proofs.Common.{◌≡◌, ℕ, ◌<◌, List, length, map, get_or, ap, sym, ◌∙◌, Some, Vec, Global}
use Rattle.std.specs.List.{slice_get}
use Rattle.std.proofs.lemmas.List.{length-map}
use Rattle.std.proofs.lemmas.Option.{slice_get-get_or}
use Rattle.sc_definitions.specs.Transcript.{Round, round_of}
use Rattle.sc_definitions.proofs.ReplayLaws.{length-given_rounds, get_or-given_rounds}
use Rattle.sc_commitments.specs.Matrices.{numbers_in}
use Rattle.sc_transcript.specs.Steps.{rounds_on}
use Rattle.sc_transcript.proofs.WitnessReads.{message_at}
use Rattle.sc_zk_rounds.specs.declared.data.ZkSumcheckData.{ZkSumcheckData}
use Rattle.sc_zk_rounds.specs.Data.{masked_wire_in}

-- round i, by what is read of the data
pub wire_came : {F EF : Type 0} (base : F → ℕ) (number : EF → ℕ) (p : ZkSumcheckData F EF) (i : ℕ) (row : Vec EF Global) (values : List EF) (w : ℕ) →
    i < length p.round_coefficients.items → row ≡ get_or p.round_coefficients.items i row → values ≡ row.items → w ≡ get_or (masked_wire_in base number p).witnesses i 0 →
    slice_get (rounds_on (masked_wire_in base number p)) i ≡ Some (round_of (map number values) w)
wire_came base number p i row values w low is same witness =
    let sends = λ (v : Vec _ Global). numbers_in number v in
    let ms = (masked_wire_in base number p).messages in
    let ws = (masked_wire_in base number p).witnesses in
    let r : Round = round_of (map number values) w in
    let within : i < length ms = rw length-map low in
    slice_get-get_or _ i r (rw length-given_rounds within)
    ∙ ap Some (get_or-given_rounds ms ws i (map number row.items) r within (message_at sends p.round_coefficients.items i row low is)
    ∙ ap (round_of (map number row.items)) (sym witness) ∙ ap (λ v. round_of (map number v) w) (sym same))
