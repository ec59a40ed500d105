-- A verdict as a text.
use Rattle.std.specs.Prelude.{List, ℕ, ◌++◌, codes, decimal}
use Rattle.sc_matmul.specs.declared.report.MatmulVerdict.{MatmulVerdict}
use Rattle.sc_matmul.specs.declared.report.MatmulVerdict.TheVariants.{Holds, Refuted, LuckyPoint, LuckyRound}

-- what a verdict says, without the polynomial of a lucky one
abbrev pub verdict_text : {EF : Type 0} → MatmulVerdict EF → List ℕ
verdict_text Holds = codes "holds"
verdict_text Refuted = codes "refuted"
verdict_text (LuckyPoint poly vanishing) = codes "lucky-point vanishing " ++ decimal vanishing
verdict_text (LuckyRound round poly vanishing) = codes "lucky-round " ++ (decimal round ++ (codes " vanishing " ++ decimal vanishing))
