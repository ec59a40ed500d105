-- What the elements of a job ask is what their numbers do.
use Rattle.std.proofs.Common.{◌≡◌, ℕ, ◌+◌, ◌<◌, List, [], ◌∷◌, ◌++◌, get_or, take, map, length, Option, Some, None, Result, Err, refl, sym, ap, ◌∙◌, ◌⊎◌, ⊎_elim}
use Rattle.std.specs.List.{concat}
use Rattle.std.specs.Borrow.{Bor}
use Rattle.std.specs.Option.{option_map, option_copied}
use Rattle.std.proofs.lemmas.List.{take_more, append-nil}
use Rattle.std.proofs.lemmas.List.Folds.{concat-append}
use Rattle.sc_definitions.specs.declared.events.Event.{Event}
use Rattle.sc_definitions.specs.Events.{Rules}
use Rattle.sc_definitions.specs.Channels.{Wire, channel}
use Rattle.sc_merge_definitions.specs.Matrices.{Matrix, MatmulCase, MatmulFigures}
use Rattle.sc_matmul.specs.declared.error.MatmulError.{MatmulError}
use Rattle.sc_matmul.specs.declared.error.MatmulError.TheVariants.{NoMemory}
use Rattle.sc_matmul.specs.MatmulReports.{matmul_result}
use Rattle.sumcheck_matmul.specs.declared.job.MatmulJob.{MatmulJob}
use Rattle.sumcheck_matmul.specs.MatmulReplies.{matrix_given, came_given, case_under, matmul_result_reply, matmul_judged}
use Rattle.sumcheck_replies.specs.Fields.{Fields}

-- the entries of one row more
pub entries-more : {X : Type 0} (number : X → ℕ) (old new : List X) (rows : List (List ℕ)) (row : List ℕ) (i : ℕ) → i < length rows → row ≡ get_or rows i row →
    map number old ≡ concat (take i rows) → map number new ≡ map number old ++ row → map number new ≡ concat (take (i + 1) rows)
entries-more number old new rows row i low is before more =
    more ∙ ap (λ t. t ++ row) before
    ∙ sym (ap concat (take_more rows i row low) ∙ concat-append (take i rows) (get_or rows i row ∷ [])
    ∙ ap (λ t. concat (take i rows) ++ t) (append-nil (get_or rows i row)) ∙ ap (λ r. concat (take i rows) ++ r) (sym is))

-- a job's case, of matrices that are those of its rows
pub case-same : (k : Fields) (job : MatmulJob) (R : Rules) (h : List Event) {left right claimed : Matrix} {bits : ℕ} →
    left ≡ matrix_given job.left → right ≡ matrix_given job.right → claimed ≡ matrix_given job.claimed → bits ≡ job.bits →
    ◌≡◌ {A = MatmulCase} (record {
      base = k.base;
      ops = k.ops;
      embedding = k.embedding;
      channel = channel R k.extension k.base.size bits;
      left = left;
      right = right;
      claimed = claimed;
      history = h;
    }) (case_under k job R h)
case-same k job R h el er ec eb = rw (el, er, ec, eb) refl

-- the answer to it is the job's
pub judged : (k : Fields) (job : MatmulJob) (R : Rules) (h : List Event) (q : MatmulCase) (came : Option Wire) (due : Result MatmulFigures MatmulError) →
    q ≡ case_under k job R h → came ≡ came_given job.mode → matmul_result q came ≡ due → matmul_result_reply due ≡ matmul_judged k job R h
unfolding matmul_judged
judged k job R h q came due is given answer =
    sym (ap matmul_result_reply answer) ∙ ap (λ t. matmul_result_reply (matmul_result t came)) is
    ∙ ap (λ t. matmul_result_reply (matmul_result (case_under k job R h) t)) given

-- what came, by a reference to it
pub came-same : {X Y : Type 0} (f : X → Y) (lent : Option (Bor X)) (came : Option X) (due : Option Y) → option_copied lent ≡ came → option_map f came ≡ due →
    option_map (λ p. f p.now) lent ≡ due
came-same f None came due is given = ap (option_map f) is ∙ given
came-same f (Some p) came due is given = ap (option_map f) is ∙ given

-- a refusal other than want of memory is due
pub due-refusal : (due : Result MatmulFigures MatmulError) (e : MatmulError) → (e ≡ NoMemory → ⊥) → (e ≡ NoMemory) ⊎ (due ≡ Err e) → due ≡ Err e
due-refusal due e other given = ⊎_elim (λ none. absurd (other none)) (λ is. is) given
