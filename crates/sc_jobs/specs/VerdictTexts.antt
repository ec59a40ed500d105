-- A verdict as a text.
use Rattle.std.specs.Prelude.{List, ℕ, ◌++◌, codes, decimal}
use Rattle.sc_jobs.specs.declared.report.Verdict.{Verdict}
use Rattle.sc_jobs.specs.declared.report.Verdict.TheVariants.{Holds, Refuted, LuckyBatch, LuckyRound}

-- what a verdict says, without the polynomial of a lucky one
abbrev pub verdict_text : {EF : Type 0} → Verdict EF → List ℕ
verdict_text Holds = codes "holds"
verdict_text Refuted = codes "refuted"
verdict_text (LuckyBatch poly vanishing) = codes "lucky-batch vanishing " ++ decimal vanishing
verdict_text (LuckyRound round poly vanishing) = codes "lucky-round " ++ (decimal round ++ (codes " vanishing " ++ decimal vanishing))
