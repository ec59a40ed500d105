-- A verdict as a text.
use Rattle.std.specs.Prelude.{List, ℕ, ◌++◌, codes, decimal}
use Rattle.sc_circuit.specs.declared.report.CircuitVerdict.{CircuitVerdict}
use Rattle.sc_circuit.specs.declared.report.CircuitVerdict.TheVariants.{Holds, Refuted, LuckyMerge, LuckyRound}

-- what a verdict says, without the polynomial of a lucky one
abbrev pub verdict_text : {EF : Type 0} → CircuitVerdict EF → List ℕ
verdict_text Holds = codes "holds"
verdict_text (Refuted layer) = codes "refuted layer " ++ decimal layer
verdict_text (LuckyMerge layer poly vanishing) = codes "lucky-merge layer " ++ (decimal layer ++ (codes " vanishing " ++ decimal vanishing))
verdict_text (LuckyRound layer round poly vanishing) = codes "lucky-round layer " ++ (decimal layer ++ (codes " round " ++ (decimal round ++ (codes " vanishing " ++ decimal vanishing))))
