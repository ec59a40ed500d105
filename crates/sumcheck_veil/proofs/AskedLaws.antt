-- What the elements of a job ask is what their numbers do.
use Rattle.std.proofs.Common.{◌≡◌, ◌≢◌, inl, inr, ℕ, List, [], ◌∷◌, All, length, map, refl, sym, ap, ◌∙◌, subst, arith}
use Rattle.std.specs.declared.alloc.Global.{Global}
use Rattle.std.specs.Prelude.{Vec, Result, Err}
use Rattle.std.proofs.lemmas.List.{length-map}
use Rattle.std.proofs.lemmas.List.Elements.{All-cons, All-head, All-tail}
use Rattle.sc_definitions.specs.declared.events.Event.{Event}
use Rattle.sc_definitions.specs.Ring.{Ops}
use Rattle.sc_definitions.specs.Tables.{evaluation, entries}
use Rattle.sc_definitions.specs.Statements.{Statement}
use Rattle.sc_definitions.specs.Events.{Rules}
use Rattle.sc_definitions.specs.Channels.{channel}
use Rattle.sc_definitions.specs.Seeds.{nibbles}
use Rattle.sc_table.specs.Strategy.{order_of}
use Rattle.sc_commitments.specs.Codes.{node_matrix}
use Rattle.sc_commitments.specs.Hashed.{digest_of}
use Rattle.sc_zk_rounds.specs.Handoffs.{AskedMasks, asked_masks}
use Rattle.sc_zk_rounds.specs.Views.{Coded}
use Rattle.sc_zk_audit.specs.declared.error.MaskedError.{MaskedError}
use Rattle.sc_zk_audit.specs.declared.error.MaskedError.TheVariants.{NoMemory}
use Rattle.sc_zk_audit.specs.MaskedCases.{MaskedAsked}
use Rattle.sc_zk_audit.specs.MaskedReports.{MaskedReported, masked_answer}
use Rattle.sc_zk_audit.specs.MaskedAudits.{GivesMasked}
use Rattle.sumcheck_members.specs.Statements.{all_claims}
use Rattle.sumcheck_replies.specs.Fields.{Fields}
use Rattle.sumcheck_replies.proofs.NumberLaws.{entries-numbers}
use Rattle.sumcheck_veil.specs.declared.job.VeilJob.{VeilJob}
use Rattle.sumcheck_veil.specs.VeilMasks.{mask_length, veils_of, code_lengths, sealed_masks}
use Rattle.sumcheck_veil.specs.Veils.{asked_under, veil_reply, veil_judged}

-- lists are as long as those of the numbers of their elements
pub long-lists : {X : Type 0} (number : X → ℕ) (n : ℕ) (vs : List (Vec X Global)) (lists : List (List ℕ)) → map (λ v. map number v.items) vs ≡ lists →
    All (λ m. length m ≡ n) lists → All (λ v. length v.items ≡ n) vs
long-lists {X} number n vs lists same long = each vs (subst (All (λ m. length m ≡ n)) (sym same) long) where
  each : (us : List (Vec X Global)) → All (λ m. length m ≡ n) (map (λ v. map number v.items) us) → All (λ v. length v.items ≡ n) us
  each [] all = λ k d low. absurd (omega (arith, low))
  each (u ∷ us) all =
      let P = λ (m : List ℕ). length m ≡ n in
      let more = map (λ v. map number v.items) us in
      All-cons (λ v. length v.items ≡ n) u us (sym (length-map u.items number) ∙ All-head P (map number u.items) more all)
      (each us (All-tail P (map number u.items) more all))

-- lists of lists are as many as those of the numbers of their elements
pub many-lists : {X : Type 0} (number : X → ℕ) (vs : List (Vec X Global)) (lists : List (List ℕ)) → map (λ v. map number v.items) vs ≡ lists → length vs ≡ length lists
many-lists number vs lists same = sym (length-map vs (λ v. map number v.items)) ∙ ap length same

-- what elements ask is what their numbers do
pub asked-same : {X : Type 0} (k : Fields) (number : X → ℕ) (xs : List X) {bits n c i aux : ℕ} {ss : List Statement} {v : Coded} (job : VeilJob) (R : Rules) (h : List Event) →
    map number xs ≡ job.stated.table → bits ≡ job.stated.bits → n ≡ job.stated.variables → ss ≡ all_claims k.embedding job.stated.groups → c ≡ job.stated.batching → i ≡ 0 →
    v ≡ veils_of k.ops.size job.veil.rounds job.veil.masks → aux ≡ job.veil.aux →
    ◌≡◌ {A = MaskedAsked} (record {
      rows = length xs;
      problem = record { basis = evaluation; order = order_of job.stated.order; variables = n; table = λ b. k.embedding (entries number xs b); statements = ss; batching = c; initial = i };
      masks = sealed_masks k.ops (mask_length job.veil.masks) v aux;
      ops = k.ops;
      channel = channel R k.extension k.base.size bits;
      history = h;
    }) (asked_under k job R h)
asked-same k number xs job R h is eb en es ec ei ev ea =
    let rows : length xs ≡ length job.stated.table = sym (length-map xs number) ∙ ap length is in
    rw (rows, eb, entries-numbers number xs job.stated.table is, en, es, ec, ei, ev, ea) refl

-- masks as a code of these lengths and SHA-256 commit to them
abbrev sealed_at : Ops → ℕ × ℕ × ℕ → Coded → ℕ → AskedMasks
sealed_at o lengths v aux = asked_masks lengths.0 v.masks (nibbles (digest_of (node_matrix o lengths.2 v.masks v.randomness))) aux

pub sealed-same : (o : Ops) (l : ℕ) (lengths : ℕ × ℕ × ℕ) (v : Coded) (aux : ℕ) → lengths ≡ code_lengths o.size l → sealed_at o lengths v aux ≡ sealed_masks o l v aux
sealed-same o l lengths v aux is = ap (λ t. sealed_at o t v aux) is

-- the reply to what a job asks of a challenger is the job's
pub judged : (k : Fields) (job : VeilJob) (R : Rules) (h : List Event) (q : MaskedAsked) → q ≡ asked_under k job R h → veil_reply (masked_answer q) ≡ veil_judged k job R h
unfolding veil_judged
judged k job R h q is = ap (λ p. veil_reply (masked_answer p)) is

-- a refusal that is not want of memory is the answer
pub due-refusal : (due : Result MaskedReported MaskedError) (e : MaskedError) → GivesMasked due (Err e) → e ≢ NoMemory → due ≡ Err e
due-refusal due e given some = elim given [ inl memory ↦ absurd (some memory) | inr is ↦ is ]
