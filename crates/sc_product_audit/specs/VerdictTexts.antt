-- A verdict as a text.
use Rattle.std.specs.Prelude.{List, ℕ, ◌++◌, codes, decimal}
use Rattle.sc_product_audit.specs.declared.report.ProductVerdict.{ProductVerdict}
use Rattle.sc_product_audit.specs.declared.report.ProductVerdict.TheVariants.{Holds, Refuted, LuckyRound}

-- what a verdict says, without the polynomial of a lucky one
abbrev pub verdict_text : {EF : Type 0} → ProductVerdict EF → List ℕ
verdict_text Holds = codes "holds"
verdict_text Refuted = codes "refuted"
verdict_text (LuckyRound round poly vanishing) = codes "lucky-round " ++ (decimal round ++ (codes " vanishing " ++ decimal vanishing))
