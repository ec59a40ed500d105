-- What the elements of a job ask is what their numbers do.
use Rattle.std.proofs.Common.{◌≡◌, ℕ, ◌+◌, ◌<◌, List, [], ◌∷◌, ◌++◌, length, get_or, take, map, refl, sym, ap, ◌∙◌}
use Rattle.std.specs.declared.alloc.Global.{Global}
use Rattle.std.specs.Prelude.{Vec}
use Rattle.std.proofs.lemmas.List.{map-append, map_more}
use Rattle.sc_definitions.specs.declared.events.Event.{Event}
use Rattle.sc_definitions.specs.Events.{Rules}
use Rattle.sc_definitions.specs.Channels.{channel}
use Rattle.sc_product_audit.specs.ProductCases.{ProductTask, ProductAsked}
use Rattle.sc_product_audit.specs.ProductReports.{product_result}
use Rattle.sumcheck_product.specs.declared.job.ProductJob.{ProductJob}
use Rattle.sumcheck_product.specs.Products.{task_given, asked_under, result_reply, product_judged}
use Rattle.sumcheck_replies.specs.Fields.{Fields}

pub asked-same : (k : Fields) (job : ProductJob) (R : Rules) (h : List Event) {tables : List (List ℕ)} {task : ProductTask} {bits : ℕ} →
    tables ≡ map (map k.embedding) job.tables → task ≡ task_given job.mode → bits ≡ job.bits →
    ◌≡◌ {A = ProductAsked} (record { ops = k.ops; tables = tables; task = task; channel = channel R k.extension k.base.size bits; history = h }) (asked_under k job R h)
asked-same k job R h et em eb = rw (et, em, eb) refl

-- the reply to what a job asks of a challenger is the job's
pub judged : (k : Fields) (job : ProductJob) (R : Rules) (h : List Event) (q : ProductAsked) → q ≡ asked_under k job R h → result_reply (product_result q) ≡ product_judged k job R h
unfolding product_judged
judged k job R h q is = rw is refl

-- the images of one list more
pub images-more : {X : Type 0} (number : X → ℕ) (embedding : ℕ → ℕ) (found new : List (Vec X Global)) (v : Vec X Global) (lists : List (List ℕ)) (t : List ℕ) (i : ℕ) →
    i < length lists → t ≡ get_or lists i t → map (λ l. map number l.items) found ≡ map (map embedding) (take i lists) → new ≡ found ++ v ∷ [] →
    map number v.items ≡ map embedding t → map (λ l. map number l.items) new ≡ map (map embedding) (take (i + 1) lists)
images-more number embedding found new v lists t i low is before more same =
    ap (map (λ l. map number l.items)) more ∙ map-append (λ l. map number l.items) found (v ∷ [])
    ∙ ap (λ ts. ts ++ map number v.items ∷ []) before ∙ ap (λ m. map (map embedding) (take i lists) ++ m ∷ []) (same ∙ ap (map embedding) is)
    ∙ sym (map_more (map embedding) lists i t low)
