use Rattle.std.proofs.Common.{◌∙◌, ap, refl}
use Rattle.std.proofs.Math.Nat.{pos_of_ne-zero, le-add_right}
use Rattle.sc_definitions.specs.Seeds.{seed_words}
use Rattle.sc_transcript.proofs.RoundWords.{seed_none, seed_some}
use Rattle.sc_transcript.proofs.transcript.SumcheckShape.seed.Goals as goal

-- no rounds have no seed
pub returns-then-self-eq0 : goal.returns-then-self-eq0
returns-then-self-eq0 g c = record { rules = refl; history = seed_none _ _ _ _ c.if-self-eq0.true; spare = le-add_right _ _ }

-- the separator's words are the seed of one round or more
pub returns : goal.returns
returns g c =
    let same = ap seed_words c.in_ok-separator.ensures ∙ seed_some _ _ _ _ (pos_of_ne-zero c.if-self-eq0.false) in
    rw same at c.seed.ensures
