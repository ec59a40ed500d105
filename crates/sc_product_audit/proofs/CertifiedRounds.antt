-- Rounds of a product that let a false claimed sum through: a challenge is named lucky, and certified.
use Rattle.std.proofs.Common.{◌≡◌, ◌≢◌, ℕ, suc, ◌<◌, ◌≤◌, Bool, true, false, List, [], ◌∷◌, ◌++◌, length, Option, Some, None, Result, Ok, Err, refl, sym, ◌∙◌, ap, subst, arith, eq-eqb, ne_eqb, if◌then◌else◌}
use Rattle.std.specs.Prelude.{◌==◌, option_map}
use Rattle.std.specs.List.{slice_get}
use Rattle.std.proofs.lemmas.Bool.{eqb-true}
use Rattle.std.proofs.lemmas.Option.{same_Some}
use Rattle.sc_definitions.specs.declared.events.Event.{Event}
use Rattle.sc_definitions.specs.Ring.{IsField, element}
use Rattle.sc_definitions.specs.Rounds.{claim_along}
use Rattle.sc_definitions.specs.Transcript.{Round, messages_of, round_events}
use Rattle.sc_definitions.specs.Channels.{Channel}
use Rattle.sc_definitions.specs.Interpolation.{next_through}
use Rattle.sc_definitions.specs.Products.{values_product, product_claim}
use Rattle.sc_definitions.specs.Lucky.{LuckyChallenge, luck_in, product_course}
use Rattle.sc_definitions.proofs.RingLaws.{element-small}
use Rattle.sc_definitions.proofs.BuiltLaws.{length-messages, length-challenges}
use Rattle.sc_definitions.proofs.ReplayLaws.{length-given_rounds}
use Rattle.sc_definitions.proofs.ProductLaws.{product_claim-end}
use Rattle.sc_definitions.proofs.LuckyLaws.{AllSend, turns, products_certify, IsWide}
use Rattle.sc_audit_errors.specs.Findings.{lucky, named}
use Rattle.sc_definitions.specs.Replays.{round_passes}
use Rattle.sc_transcript.specs.Data.{witness_count}
use Rattle.sc_product_audit.specs.declared.error.ProductError.{ProductError}
use Rattle.sc_product_audit.specs.declared.error.ProductError.TheVariants.{RoundCountMismatch, PowWitnessCountMismatch, PolyEvalCountMismatch, InvalidPowWitness}
use Rattle.sc_product_audit.specs.ProductCases.{ProductGiven, ProductCase, true_sum, product_start}
use Rattle.sc_product_audit.specs.ProductRounds.{first_refused, unless_refused, product_played, rounds_given, product_given}
use Rattle.sc_product_audit.specs.ProductReports.{ProductFigures, product_figures, product_luck, product_finding, reported_on}
use Rattle.sc_product_audit.specs.ProductAudits.{IsProductCertified, CertifiesProduct}

-- ---- rounds that none of is refused

if_none : {E : Type 0} (b : Bool) (rest : Option E) (e : E) → (if b then rest else Some e) ≡ None → (b ≡ true) × (rest ≡ None)
if_none true rest e is = (refl, is)
if_none false rest e is = cc

if_ok : {X E : Type 0} (b : Bool) (rest : Result X E) (e : E) (x : X) → (if b then rest else Err e) ≡ Ok x → (b ≡ true) × (rest ≡ Ok x)
if_ok true rest e x is = (refl, is)
if_ok false rest e x is = cc

unless_ok : (first : Option ProductError) (handed rounds : List Round) → unless_refused first handed ≡ Ok rounds → (first ≡ None) × (handed ≡ rounds)
unless_ok None handed rounds is = (refl, cc)
unless_ok (Some e) handed rounds is = cc

-- all have their width
none-wide : (c : Channel) (degree i : ℕ) (h : List Event) (rounds : List Round) → first_refused c degree i h rounds ≡ None →
    AllSend (λ values. length values ≡ degree) (messages_of rounds)
none-wide c degree i h [] none = tt
none-wide c degree i h (r ∷ rounds) none =
    let later = first_refused c degree (suc i) (h ++ round_events c.extension c.bits r) rounds in
    let passes = round_passes c.rules c.extension c.bits h r in
    let wide = if_none (length r.values == degree) (if passes then later else Some (InvalidPowWitness i c.bits)) (PolyEvalCountMismatch i degree (length r.values)) none in
    let passed = if_none passes later (InvalidPowWitness i c.bits) wide.1 in
    (eqb-true _ _ wide.0, none-wide c degree (suc i) (h ++ round_events c.extension c.bits r) rounds passed.1)

module _ (q : ProductCase) where
  -- those of a proof
  record IsGiven (rounds : List Round) : Type 0 where
    count : length rounds ≡ q.variables
    wide : AllSend (λ values. length values ≡ length q.tables) (messages_of rounds)

  given-wide : (p : ProductGiven) (rounds : List Round) → product_given q p ≡ Ok rounds → IsGiven rounds
  given-wide p rounds given =
      let expects = witness_count q.channel.bits q.variables in
      let handed = rounds_given p in
      let played = product_played q p.claimed handed in
      let few = PowWitnessCountMismatch expects (length p.came.witnesses) in
      let counted = if_ok (length p.came.messages == q.variables) (if length p.came.witnesses == expects then played else Err few) (RoundCountMismatch q.variables (length p.came.messages)) rounds given in
      let witnessed = if_ok (length p.came.witnesses == expects) played few rounds counted.1 in
      let none = unless_ok (first_refused q.channel (length q.tables) 0 (product_start q p.claimed) handed) handed rounds witnessed.1 in
      record {
        count = ap length (sym none.1) ∙ length-given_rounds p.came.messages p.came.witnesses ∙ eqb-true _ _ counted.0;
        wide = subst (λ rs. AllSend (λ values. length values ≡ length q.tables) (messages_of rs)) none.1
            (none-wide q.channel (length q.tables) 0 (product_start q p.claimed) handed none.0);
      }

-- ---- what is found

-- where a challenge is named lucky what is left is the product, the claimed sum is false, and it is the first one
lucky_by : (matched true_claimed : Bool) (luck : Option LuckyChallenge) (l : LuckyChallenge) → product_finding matched true_claimed luck ≡ lucky l →
    (matched ≡ true) × (true_claimed ≡ false) × (luck ≡ Some l)
lucky_by false true_claimed luck l e = cc
lucky_by true true luck l e = cc
lucky_by true false None l e = cc
lucky_by true false (Some k) l e = let same : k ≡ l = cc in (refl, refl, ap Some same)

module _ (q : ProductCase) (field : IsField q.ops) (some : 1 ≤ length q.tables) (few : length q.tables < q.ops.size) where
  -- the first turn is lucky, and is certified
  first-certified : (f : ProductFigures) → f.claimed < q.ops.size → length f.messages ≡ q.variables → length f.challenges ≡ q.variables →
      AllSend (λ values. length values ≡ length q.tables) f.messages → claim_along (next_through q.ops) f.claimed f.messages f.challenges ≡ values_product q.ops q.tables f.challenges →
      (f.claimed ≡ true_sum q → ⊥) → (l : LuckyChallenge) × (product_luck q f ≡ Some l) × IsProductCertified q f.challenges l
  unfolding product_luck
  first-certified f low count drawn wide right wrong =
      let o = q.ops in
      let false_claim : element o f.claimed ≢ product_claim o q.tables [] (length f.messages) =
      λ e. wrong (sym (element-small o field.ring f.claimed low) ∙ e ∙ ap (product_claim o q.tables []) count) in
      let end : claim_along (next_through o) f.claimed f.messages f.challenges ≡ product_claim o q.tables ([] ++ f.challenges) 0 =
      right ∙ sym (product_claim-end o field.ring q.tables f.challenges) in
      let found = turns o (product_course o q.tables) (IsWide o field q.tables some few) (suc (length q.tables)) (products_certify o field q.tables some few) 0 f.claimed f.messages [] f.challenges
      (count ∙ sym drawn) wide false_claim end in
      let turn = found.2 in
      let at : found.0.round ≡ turn.place = turn.round ∙ omega arith in (
        luck_in o found.0,
        ap (option_map (luck_in o)) found.1,
        record {
          challenge = turn.challenge;
          drawn = ap (slice_get f.challenges) at ∙ turn.drawn;
          certificate = turn.certificate;
          coefficients = turn.coefficients;
        },
      )

  certified-figures : (f : ProductFigures) → f.claimed < q.ops.size → length f.messages ≡ q.variables → length f.challenges ≡ q.variables →
      AllSend (λ values. length values ≡ length q.tables) f.messages → f.residual ≡ claim_along (next_through q.ops) f.claimed f.messages f.challenges →
      f.product ≡ values_product q.ops q.tables f.challenges → CertifiesProduct q (reported_on q f)
  certified-figures f low count drawn wide residual product = record {
    named = λ l found.
        let by = lucky_by (f.residual == f.product) (f.claimed == true_sum q) (product_luck q f) l found in
        let wrong : f.claimed ≡ true_sum q → ⊥ = λ e. (let both : true ≡ false = sym (eq-eqb _ _ e) ∙ by.1 in cc) in
        let first = first-certified f low count drawn wide (sym residual ∙ eqb-true _ _ by.0 ∙ product) wrong in
        let same : first.0 ≡ l = same_Some _ _ (sym first.1 ∙ by.2) in
        subst (IsProductCertified q f.challenges) same first.2;
    no_other = λ right wrong.
        let first = first-certified f low count drawn wide (sym residual ∙ right ∙ product) wrong in (
          first.0,
          ap (λ b. product_finding b (f.claimed == true_sum q) (product_luck q f)) (eq-eqb _ _ right)
              ∙ ap (λ b. product_finding true b (product_luck q f)) (ne_eqb _ _ wrong) ∙ ap named first.1,
        );
  }

  pub certified-given : (p : ProductGiven) → p.claimed < q.ops.size → (rounds : List Round) → product_given q p ≡ Ok rounds →
      CertifiesProduct q (reported_on q (product_figures q p.claimed rounds))
  certified-given p low rounds given =
      let is = given-wide q p rounds given in
      certified-figures (product_figures q p.claimed rounds) low (length-messages rounds ∙ is.count) (length-challenges _ _ _ _ rounds ∙ is.count) is.wide refl refl
