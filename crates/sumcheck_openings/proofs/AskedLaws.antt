-- What the elements of a job ask is what their numbers do.
use Rattle.std.proofs.Common.{◌≡◌, ℕ, List, [], ◌∷◌, length, map, Option, Some, None, Result, Err, refl, sym, ap, ◌∙◌, ◌⊎◌, ⊎_elim}
use Rattle.std.specs.Borrow.{Bor}
use Rattle.std.specs.Option.{option_map, option_copied}
use Rattle.sc_definitions.specs.declared.events.Event.{Event}
use Rattle.sc_definitions.specs.Events.{Rules}
use Rattle.sc_definitions.specs.Channels.{channel}
use Rattle.sc_merge_definitions.specs.Openings.{TableClaim, OpeningsFigures}
use Rattle.sc_openings.specs.declared.error.MergeError.{MergeError}
use Rattle.sc_openings.specs.declared.error.MergeError.TheVariants.{NoMemory}
use Rattle.sc_openings.specs.OpeningsJobs.{OpeningsJob as AskedOpenings, CameOpenings, table_of_entries}
use Rattle.sc_openings.specs.OpeningsReports.{openings_result}
use Rattle.sc_jobs.specs.Cases.{Given, given_in}
use Rattle.sc_transcript.specs.declared.data.SumcheckData.{SumcheckData}
use Rattle.sc_transcript.specs.Data.{wire_in}
use Rattle.sumcheck_audit.specs.Report.{given_of}
use Rattle.sumcheck_openings.specs.declared.job.OpeningsJob.{OpeningsJob}
use Rattle.sumcheck_openings.specs.declared.job.ProofGiven.{ProofGiven}
use Rattle.sumcheck_openings.specs.OpeningsReplies.{claim_given, wire_given, proof_given, came_given, asked_under, openings_result_reply, openings_judged}
use Rattle.sumcheck_replies.specs.Fields.{Fields}

-- what a job asks, of tables, claims and a difficulty that are its own
pub asked-same : (k : Fields) (job : OpeningsJob) (R : Rules) (h : List Event) {n : ℕ} {tables : List (List ℕ)} {cs : List TableClaim} {bits : ℕ} →
    n ≡ job.variables → tables ≡ job.tables → cs ≡ map claim_given job.claims → bits ≡ job.bits →
    ◌≡◌ {A = AskedOpenings} (record {
      case = record {
        ops = k.ops;
        variables = n;
        tables = map (table_of_entries k.embedding) tables;
        claims = cs;
        channel = channel R k.extension k.base.size bits;
        history = h;
      };
      lengths = map length tables;
    }) (asked_under k job R h)
asked-same k job R h en et ec eb = rw (en, et, ec, eb) refl

-- the answer to it is the job's
pub judged : (k : Fields) (job : OpeningsJob) (R : Rules) (h : List Event) (asked : AskedOpenings) (came : Option CameOpenings) (due : Result OpeningsFigures MergeError) →
    asked ≡ asked_under k job R h → came ≡ came_given job.mode → openings_result asked came ≡ due → openings_result_reply due ≡ openings_judged k job R h
unfolding openings_judged
judged k job R h asked came due is given answer =
    sym (ap openings_result_reply answer) ∙ ap (λ t. openings_result_reply (openings_result t came)) is
    ∙ ap (λ t. openings_result_reply (openings_result (asked_under k job R h) t)) given

-- what came, by a reference to it
pub came-same : {X Y : Type 0} (f : X → Y) (lent : Option (Bor X)) (came : Option X) (due : Option Y) → option_copied lent ≡ came → option_map f came ≡ due →
    option_map (λ p. f p.now) lent ≡ due
came-same f None came due is given = ap (option_map f) is ∙ given
came-same f (Some p) came due is given = ap (option_map f) is ∙ given

abbrev opened : Given → List ℕ → CameOpenings
opened r openings = record { wire = record { messages = r.messages; witnesses = r.witnesses }; openings = openings }

-- a proof whose rounds and openings are those of its numbers
pub proof-same : {F EF : Type 0} (base : F → ℕ) (number : EF → ℕ) (d : SumcheckData F EF) (openings : List ℕ) (p : ProofGiven) →
    given_in base number d ≡ given_of p.rounds → openings ≡ p.openings →
    ◌≡◌ {A = CameOpenings} (record { wire = wire_in base number d; openings = openings }) (proof_given p)
proof-same base number d openings p rounds same =
    ap (λ (r : Given). opened r openings) rounds
    ∙ ap (opened (given_of p.rounds)) same

-- a refusal other than want of memory is due
pub due-refusal : (due : Result OpeningsFigures MergeError) (e : MergeError) → (e ≡ NoMemory → ⊥) → (e ≡ NoMemory) ⊎ (due ≡ Err e) → due ≡ Err e
due-refusal due e other given = ⊎_elim (λ none. absurd (other none)) (λ is. is) given
