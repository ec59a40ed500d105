-- What a job of `explain` is answered.
use Rattle.std.specs.Prelude.{ℕ, suc, ◌==◌, List, [], ◌∷◌, ◌++◌, map, codes, decimal, if◌then◌else◌}
use Rattle.sc_definitions.specs.Ring.{Ops, ◌+⟨◌⟩◌}
use Rattle.sc_zk_definitions.specs.Explained.{explained}
use Rattle.sc_zk_definitions.specs.Masks.{Piece, piece}
use Rattle.sc_zk_definitions.specs.Views.{View}
use Rattle.sumcheck_explain.specs.declared.job.ExplainJob.{ExplainJob}
use Rattle.sumcheck_replies.specs.declared.reply.Outcome.TheVariants.{Told}
use Rattle.sumcheck_replies.specs.Fields.{fields_of}
use Rattle.sumcheck_replies.specs.Lines.{spaced}
use Rattle.sumcheck_replies.specs.Reply.{Reply, refused}

-- ---- what it asks

-- plain pieces, each by its constant and its leading coefficient
abbrev pub pieces_given : List (ℕ × ℕ) → List Piece
pieces_given pairs = map (λ pair. piece pair.0 pair.1) pairs

-- what the observer sees
abbrev pub view_given : ExplainJob → View
view_given job = record { mu = job.mu; wires = job.wires }

-- the masks that explain it, over a field
abbrev pub masks_over : Ops → ExplainJob → List (List ℕ)
masks_over o job = explained o job.eps (view_given job) job.endpoints job.challenges (pieces_given job.plain)

-- ---- the reply

-- the beginning of a mask's line, up to its coefficients
unfoldable pub mask_name : ℕ → List ℕ
mask_name i = codes "mask " ++ decimal i ++ codes ":"

-- a mask's number, and its coefficients, the constant first
abbrev pub mask_line : ℕ → List ℕ → List ℕ
mask_line i mask = mask_name i ++ spaced mask ++ codes "\n"

-- a line for each mask, numbered from i on
abbrev pub mask_lines : ℕ → List (List ℕ) → List ℕ
mask_lines i [] = []
mask_lines i (mask ∷ masks) = mask_line i mask ++ mask_lines (suc i) masks

-- masks are told, and there is no verdict
abbrev pub told_reply : List (List ℕ) → Reply
told_reply masks = record { outcome = Told; text = mask_lines 0 masks }

-- a field in which two is zero
unfoldable pub even_text : List ℕ
even_text = codes "explain even-characteristic"

-- what a job is answered over a field: where two is zero, nothing can be halved
unfoldable pub explain_judged : Ops → ExplainJob → Reply
explain_judged o job = if (1 +⟨ o ⟩ 1) == 0 then refused even_text else told_reply (masks_over o job)

-- the same over the extension that it names
abbrev pub explain_answer : ExplainJob → Reply
explain_answer job = explain_judged (fields_of job.field).ops job
