-- The refusals before a round is played.
use Rattle.std.proofs.Common.{◌≡◌, ◌≢◌, ℕ, ◌<◌, ◌≤◌, Bool, true, false, Option, Some, None, refl, sym, ◌∙◌, ap, arith, eq-eqb, ne_eqb, length, if◌then◌else◌}
use Rattle.std.specs.Prelude.{nat_lt, ◌==◌}
use Rattle.std.specs.Option.{option_map}
use Rattle.std.proofs.lemmas.Bool.{le-ltb, lt-ltb, ltb-false}
use Rattle.sc_definitions.specs.Ring.{Ops, IsField, IsRingMap, plus}
use Rattle.sc_transcript.specs.declared.error.SumcheckError.{SumcheckError}
use Rattle.sc_transcript.specs.declared.error.SumcheckError.TheVariants as run
use Rattle.sc_zk_transcript.specs.declared.shape.ZkSumcheckShape.{ZkSumcheckShape}
use Rattle.sc_zk_transcript.specs.Shapes.{IsUnfit}
use Rattle.sc_definitions.proofs.RingLaws.{element-plus}
use Rattle.sc_definitions.proofs.InterpolationLaws.{inverse-product}
use Rattle.sc_audit_errors.specs.Arities.{arity_of}
use Rattle.sc_jobs.specs.Refusals.{shape_by}
use Rattle.sc_zk_definitions.specs.Explained.{half_of}
use Rattle.sc_zk_definitions.specs.MaskedRuns.{IsHalf}
use Rattle.sc_zk_audit.specs.MaskedCases.{MaskedAsked}
use Rattle.sc_zk_rounds.proofs.HalfLaws.{two-kept}
use Rattle.sc_zk_audit.specs.declared.error.MaskedError.{MaskedError}
use Rattle.sc_zk_audit.specs.declared.error.MaskedError.TheVariants.{Rounds, EvenCharacteristic, MaskTooShort, NoRounds}
use Rattle.sc_zk_audit.specs.MaskedRefusals.{or_else, audit_told, rounds_refusal, form_refusal, statements_refusal, masks_refusal, refusal_after, shape_of, masked_refusal, run_told}

-- ---- the form of masks

-- what is tested once two is not zero, and once masks are long enough
abbrev after_odd : ℕ → ℕ → Option MaskedError
after_odd l k = if nat_lt l 3 then Some (MaskTooShort l) else (if k == 0 then Some NoRounds else None)

abbrev after_long : ℕ → Option MaskedError
after_long k = if k == 0 then Some NoRounds else None

odd-form : (o : Ops) (l k : ℕ) → plus o 1 1 ≢ 0 → form_refusal o l k ≡ after_odd l k
odd-form o l k odd = ap (λ c. if c then Some EvenCharacteristic else after_odd l k) (ne_eqb _ _ odd)

long-form : (l k : ℕ) → 3 ≤ l → after_odd l k ≡ after_long k
long-form l k long = ap (λ c. if c then Some (MaskTooShort l) else after_long k) (le-ltb l 3 long)

-- none is refused
pub form-none : (o : Ops) (l k : ℕ) → plus o 1 1 ≢ 0 → 3 ≤ l → 1 ≤ k → form_refusal o l k ≡ None
form-none o l k odd long some =
    odd-form o l k odd ∙ long-form l k long ∙ ap (λ c. if c then Some NoRounds else None) (ne_eqb k 0 (λ e. omega (arith, e, some)))

-- two is zero above a field in which it is
two-lost : (a b : Ops) (h : ℕ → ℕ) → IsField a → IsRingMap a b h → plus a 1 1 ≡ 0 → plus b 1 1 ≡ 0
two-lost a b h field map none =
    let low : 1 < a.size = omega (arith, field.at_least) in
    ap (λ n. plus b n n) (sym map.one_kept) ∙ sym (map.plus_kept 1 1 low low) ∙ ap h none ∙ map.zero_kept

-- what is refused of masks over the base field is refused
pub form-some : (a o : Ops) (h : ℕ → ℕ) → IsField a → IsField o → IsRingMap a o h → (s : ZkSumcheckShape) (e : SumcheckError) → IsUnfit a s e →
    form_refusal o s.ell_zk s.num_rounds ≡ Some (run_told e)
form-some a o h fa fo map s run.EvenCharacteristic unfit =
    ap (λ c. if c then Some EvenCharacteristic else after_odd s.ell_zk s.num_rounds) (eq-eqb _ _ (two-lost a o h fa map unfit))
form-some a o h fa fo map s (run.MaskTooShort l) unfit =
    odd-form o s.ell_zk s.num_rounds (two-kept a o h fa fo map unfit.0)
    ∙ ap (λ c. if c then Some (MaskTooShort s.ell_zk) else after_long s.num_rounds) (lt-ltb s.ell_zk 3 unfit.2)
    ∙ ap (λ k. Some (MaskTooShort k)) (sym unfit.1)
form-some a o h fa fo map s run.NoRounds unfit =
    odd-form o s.ell_zk s.num_rounds (two-kept a o h fa fo map unfit.0) ∙ long-form s.ell_zk s.num_rounds unfit.1
    ∙ ap (λ c. if c then Some NoRounds else None) (eq-eqb _ _ unfit.2)
form-some a o h fa fo map s (run.RoundCountMismatch n m) unfit = absurd unfit
form-some a o h fa fo map s (run.MissingSumcheckData n) unfit = absurd unfit
form-some a o h fa fo map s (run.InvalidPowWitness i bits) unfit = absurd unfit
form-some a o h fa fo map s (run.MissingPowWitness i bits) unfit = absurd unfit
form-some a o h fa fo map s (run.PowWitnessCountMismatch n m) unfit = absurd unfit
form-some a o h fa fo map s (run.WireSizeMismatch i n m) unfit = absurd unfit
form-some a o h fa fo map s (run.OpeningShapeMismatch t n m i j) unfit = absurd unfit
form-some a o h fa fo map s (run.NoWitness i) unfit = absurd unfit
form-some a o h fa fo map s run.NoMemory unfit = absurd unfit

-- ---- what is asked

-- the refusal of what is asked, by numbers that are those of it
pub refusal-same : (q : MaskedAsked) (rows max_bits l k : ℕ) → rows ≡ q.rows → max_bits ≡ q.channel.rules.max_bits → l ≡ q.masks.mask_length → k ≡ length q.masks.masks →
    refusal_after (shape_by (arity_of rows) max_bits rows q.channel.bits q.problem.variables q.problem.basis q.problem.order) q.ops q.problem l k ≡ masked_refusal q
refusal-same q rows max_bits l k is_rows is_most is_long is_many = rw (is_rows, is_most, is_long, is_many) refl

-- one half is there where two is not zero
pub half-halves : (o : Ops) → IsField o → plus o 1 1 ≢ 0 → IsHalf o (half_of o)
half-halves o field odd = inverse-product o field (plus o 1 1) (λ z. odd (sym (element-plus o field.ring 1 1) ∙ z))

-- ---- what is not refused

or_else-none : (first later : Option MaskedError) → or_else first later ≡ None → (first ≡ None) × (later ≡ None)
or_else-none None later none = (refl, none)
or_else-none (Some e) later none = cc

few_rounds : (b : Bool) (k n : ℕ) → nat_lt n k ≡ b → (if b then Some (Rounds k n) else None) ≡ None → k ≤ n
few_rounds true k n is none = cc
few_rounds false k n is none = ltb-false n k is

-- there are no more masks than variables, and two is not zero
pub unrefused-masks : (q : MaskedAsked) → masked_refusal q ≡ None → (length q.masks.masks ≤ q.problem.variables) × (plus q.ops 1 1 ≢ 0)
unrefused-masks q none =
    let k = length q.masks.masks in
    let l = q.masks.mask_length in
    let masks = or_else-none (option_map audit_told (shape_of q)) (masks_refusal q.ops q.problem l k) none in
    let rounds = or_else-none (rounds_refusal k q.problem.variables) (or_else (form_refusal q.ops l k) (statements_refusal q.ops q.problem)) masks.1 in
    let form = or_else-none (form_refusal q.ops l k) (statements_refusal q.ops q.problem) rounds.1 in (
      few_rounds (nat_lt q.problem.variables k) k q.problem.variables refl rounds.0,
      λ z.
          let clash : Some EvenCharacteristic ≡ None = sym (ap (λ c. if c then Some EvenCharacteristic else after_odd l k) (eq-eqb _ _ z)) ∙ form.0 in
          cc,
    )
