-- The rounds that are asked for: those that were built, and the first of a proof that is refused.
use Rattle.std.proofs.Common.{◌≡◌, ℕ, zero, suc, ◌+◌, ◌-◌, ◌<◌, true, false, List, [], ◌∷◌, ◌++◌, All, length, take, if◌then◌else◌, Some, None, refl, ap, sym, ◌∙◌, subst, append_assoc, arith, eq-eqb, ne_eqb, length-append}
use Rattle.std.specs.Prelude.{Result, Ok, Err, IsErrAnd}
use Rattle.std.specs.List.{slice_get}
use Rattle.std.proofs.lemmas.List.{append-nil}
use Rattle.std.proofs.lemmas.List.Elements.{All-head, All-tail}
use Rattle.std.proofs.lemmas.Option.{same_Some}
use Rattle.sc_definitions.specs.declared.events.Event.{Event}
use Rattle.sc_definitions.specs.Ring.{Ops, IsRing}
use Rattle.sc_definitions.specs.Events.{Rules, NonePasses}
use Rattle.sc_definitions.specs.Transcript.{Round, messages_of, sent, round_events, rounds_events, challenge, challenges}
use Rattle.sc_definitions.specs.Replays.{round_passes, AllPass}
use Rattle.sc_definitions.specs.Channels.{Channel, Wire, IsBuilt}
use Rattle.sc_definitions.specs.Interpolation.{node_values}
use Rattle.sc_definitions.specs.Products.{values_product, product_claim, product_round, honest_values}
use Rattle.sc_definitions.proofs.BuiltLaws.{length-challenges}
use Rattle.sc_definitions.proofs.ProductLaws.{product_claim-end}
use Rattle.sc_degree.specs.declared.error.GenericDegreeError.{GenericDegreeError}
use Rattle.sc_degree.specs.declared.error.GenericDegreeError.TheVariants.{NoWitness, NoMemory}
use Rattle.sc_product_audit.specs.declared.error.ProductError.TheVariants.{PolyEvalCountMismatch, InvalidPowWitness}
use Rattle.sc_transcript.specs.Walks.{AreWide}
use Rattle.sc_degree.specs.Provers.{Prover, IsFolded, Play, play_of, sent_after, EndsPlay, StopsAt, LeavesPlay}
use Rattle.sc_degree.specs.Products.{prover_of}
use Rattle.sc_degree.specs.Shapes.{generic_shape}
use Rattle.sc_product_audit.specs.declared.building.Built.{Built}
use Rattle.sc_product_audit.specs.ProductCases.{ProductCase, true_sum, product_start}
use Rattle.sc_product_audit.specs.ProductRounds.{product_built, first_refused}
use Rattle.sc_product_audit.specs.ProductPlays.{AreBuilt, LeavesBuilt}
use Rattle.sc_definitions.proofs.WitnessLaws.{honest_rounds-whole, honest_rounds-none, none_passes}

-- ---- rounds that are handed in

module _ (c : Channel) (degree : ℕ) where
  -- one round more, where it has its width and its witness passes
  refused-later : (i : ℕ) (h : List Event) (r : Round) (rounds : List Round) → length r.values ≡ degree → round_passes c.rules c.extension c.bits h r ≡ true →
      first_refused c degree i h (r ∷ rounds) ≡ first_refused c degree (suc i) (h ++ round_events c.extension c.bits r) rounds
  refused-later i h r rounds wide passes =
      let later = first_refused c degree (suc i) (h ++ round_events c.extension c.bits r) rounds in
      let narrow = Some (PolyEvalCountMismatch i degree (length r.values)) in
      ap (λ b. if b then (if round_passes c.rules c.extension c.bits h r then later else Some (InvalidPowWitness i c.bits)) else narrow) (eq-eqb _ _ wide)
      ∙ ap (λ b. if b then later else Some (InvalidPowWitness i c.bits)) passes

  -- where all have them none is refused
  pub refused-none : (i : ℕ) (h : List Event) (rounds : List Round) → AreWide degree rounds → AllPass c.rules c.extension c.bits h rounds → first_refused c degree i h rounds ≡ None
  refused-none i h [] wide pass = refl
  refused-none i h (r ∷ rounds) wide pass =
      let W = λ (values : List ℕ). length values ≡ degree in
      refused-later i h r rounds (All-head W r.values (messages_of rounds) wide) pass.0
      ∙ refused-none (suc i) (h ++ round_events c.extension c.bits r) rounds (All-tail W r.values (messages_of rounds) wide) pass.1

  -- the first of another width
  pub refused-width : (i : ℕ) (h : List Event) (rounds : List Round) (k : ℕ) (r : Round) → AreWide degree (take k rounds) →
      AllPass c.rules c.extension c.bits h (take k rounds) → slice_get rounds k ≡ Some r → (length r.values ≡ degree → ⊥) →
      first_refused c degree i h rounds ≡ Some (PolyEvalCountMismatch (i + k) degree (length r.values))
  refused-width i h [] k r wide pass is other = cc
  refused-width i h (q ∷ rounds) zero r wide pass is other =
      let same : q ≡ r = same_Some _ _ is in
      let here : i ≡ i + 0 = omega arith in
      let later = first_refused c degree (suc i) (h ++ round_events c.extension c.bits q) rounds in
      let first = if round_passes c.rules c.extension c.bits h q then later else Some (InvalidPowWitness i c.bits) in
      ap (λ b. if b then first else Some (PolyEvalCountMismatch i degree (length q.values))) (ne_eqb (length q.values) degree (λ e. other (sym (ap (λ (t : Round). length t.values) same) ∙ e)))
      ∙ ap (λ (t : Round). Some (PolyEvalCountMismatch i degree (length t.values))) same
      ∙ ap (λ k. Some (PolyEvalCountMismatch k degree (length r.values))) here
  refused-width i h (q ∷ rounds) (suc k) r wide pass is other =
      let W = λ (values : List ℕ). length values ≡ degree in
      let next : suc i + k ≡ i + suc k = omega arith in
      refused-later i h q rounds (All-head W q.values (messages_of (take k rounds)) wide) pass.0
      ∙ refused-width (suc i) (h ++ round_events c.extension c.bits q) rounds k r (All-tail W q.values (messages_of (take k rounds)) wide) pass.1 is other
      ∙ ap (λ k. Some (PolyEvalCountMismatch k degree (length r.values))) next

  -- the first whose witness fails
  pub refused-witness : (i : ℕ) (h : List Event) (rounds : List Round) (k : ℕ) (r : Round) → AreWide degree (take (suc k) rounds) →
      AllPass c.rules c.extension c.bits h (take k rounds) → slice_get rounds k ≡ Some r →
      round_passes c.rules c.extension c.bits (h ++ rounds_events c.extension c.bits (take k rounds)) r ≡ false →
      first_refused c degree i h rounds ≡ Some (InvalidPowWitness (i + k) c.bits)
  refused-witness i h [] k r wide pass is fails = cc
  refused-witness i h (q ∷ rounds) zero r wide pass is fails =
      let W = λ (values : List ℕ). length values ≡ degree in
      let same : q ≡ r = same_Some _ _ is in
      let here : i ≡ i + 0 = omega arith in
      let later = first_refused c degree (suc i) (h ++ round_events c.extension c.bits q) rounds in
      let narrow = Some (PolyEvalCountMismatch i degree (length q.values)) in
      let failing : round_passes c.rules c.extension c.bits h q ≡ false =
      ap (round_passes c.rules c.extension c.bits h) same ∙ ap (λ t. round_passes c.rules c.extension c.bits t r) (sym (append-nil h)) ∙ fails in
      ap (λ b. if b then (if round_passes c.rules c.extension c.bits h q then later else Some (InvalidPowWitness i c.bits)) else narrow)
      (eq-eqb _ _ (All-head W q.values (messages_of (take 0 rounds)) wide))
      ∙ ap (λ b. if b then later else Some (InvalidPowWitness i c.bits)) failing
      ∙ ap (λ k. Some (InvalidPowWitness k c.bits)) here
  refused-witness i h (q ∷ rounds) (suc k) r wide pass is fails =
      let W = λ (values : List ℕ). length values ≡ degree in
      let next : suc i + k ≡ i + suc k = omega arith in
      let place : (h ++ round_events c.extension c.bits q) ++ rounds_events c.extension c.bits (take k rounds)
      ≡ h ++ (round_events c.extension c.bits q ++ rounds_events c.extension c.bits (take k rounds)) =
      append_assoc h (round_events c.extension c.bits q) (rounds_events c.extension c.bits (take k rounds)) in
      refused-later i h q rounds (All-head W q.values (messages_of (take (suc k) rounds)) wide) pass.0
      ∙ refused-witness (suc i) (h ++ round_events c.extension c.bits q) rounds k r (All-tail W q.values (messages_of (take (suc k) rounds)) wide) pass.1 is
      (ap (λ t. round_passes c.rules c.extension c.bits t r) place ∙ fails)
      ∙ ap (λ k. Some (InvalidPowWitness k c.bits)) next

-- ---- challenges that are folded in

-- with all of them folded in, what is left of the sum is the product of the tables' values there
pub folded-value : (o : Ops) → IsRing o → (fs gs : List (ℕ → ℕ)) (n m : ℕ) (rs : List ℕ) → IsFolded rs (prover_of o fs n) (prover_of o gs m) → length rs ≡ n →
    product_claim o gs [] m ≡ values_product o fs rs
folded-value o ring fs gs n m rs f whole =
    let all : m ≡ m - 0 = omega arith in
    let none : n - length rs ≡ 0 = omega (arith, whole) in
    ap (product_claim o gs []) all ∙ f.claim [] (omega arith)
    ∙ ap (λ t. product_claim o fs t (n - length t)) (append-nil rs)
    ∙ ap (product_claim o fs rs) none ∙ product_claim-end o ring fs rs

-- ---- rounds that are built

module _ (q : ProductCase) where
  -- the play of a build, and its prover before it
  abbrev pub play_for : Play
  play_for = play_of q.ops q.channel (generic_shape q.variables (length q.tables) q.channel.bits) (true_sum q) q.history

  abbrev pub prover_for : Prover
  prover_for = prover_of q.ops q.tables q.variables

  -- what the prover sends is what an honest one does
  sent-honest : (h : List Event) (rs : List ℕ) (n : ℕ) (rounds : List Round) → length rs + n ≡ q.variables →
      IsBuilt (sent_after q.ops prover_for) q.channel h rs n rounds →
      IsBuilt (honest_values q.ops q.tables) q.channel h rs n rounds
  unfolding honest_values
  sent-honest h rs n [] count built = tt
  sent-honest h rs zero (r ∷ rounds) count built = absurd built
  sent-honest h rs (suc n) (r ∷ rounds) count built =
      let x = challenge q.channel.rules q.channel.extension q.channel.bits h r in
      let left : q.variables - suc (length rs) ≡ n = omega (arith, count) in
      let more : length (rs ++ x ∷ []) + n ≡ q.variables = omega (arith, count, length-append rs (x ∷ [])) in (
        built.0 ∙ ap (λ m. node_values q.ops (length q.tables) (product_round q.ops q.tables rs m)) left,
        built.1,
        sent-honest (h ++ round_events q.channel.extension q.channel.bits r) (rs ++ x ∷ []) n rounds more built.2,
      )

  -- rounds that were played whole
  pub built-played : IsRing q.ops → (fs : List (ℕ → ℕ)) (n : ℕ) (came : Wire) (rs : List ℕ) (h' : List Event) (claimed product : ℕ) → claimed ≡ true_sum q →
      All (λ w. w < q.channel.base_size) came.witnesses → product ≡ product_claim q.ops fs [] n → EndsPlay play_for prover_for (prover_of q.ops fs n) came rs h' →
      AreBuilt q claimed came product
  built-played ring fs n came rs h' claimed product is low left p =
      let R = q.channel.rules in
      let E = q.channel.extension in
      let bits = q.channel.bits in
      let start = product_start q (true_sum q) in
      let honest = sent-honest start [] q.variables p.rounds (omega arith) p.plays.built in
      let whole : length rs ≡ q.variables = ap length p.plays.drawn ∙ length-challenges R E bits start p.rounds ∙ p.count in
      record {
        rounds = p.rounds;
        are = honest_rounds-whole R E q.channel.base_size (honest_values q.ops q.tables) bits start [] q.variables p.rounds p.count
            (subst (All (λ w. w < q.channel.base_size)) (ap (λ (w : Wire). w.witnesses) p.wire) low) honest;
        honest = honest;
        count = p.count;
        wire = p.wire;
        claim = is;
        value = left ∙ folded-value q.ops ring q.tables fs q.variables n rs p.plays.folded whole ∙ ap (values_product q.ops q.tables) p.plays.drawn;
      }

  -- rounds that stopped for want of a witness
  built-stopped : (after : Prover) (i : ℕ) (h' : List Event) → StopsAt play_for prover_for after i h' → product_built q ≡ Err i
  unfolding honest_values
  built-stopped after i h' s =
      let R = q.channel.rules in
      let E = q.channel.extension in
      let bits = q.channel.bits in
      let size = q.channel.base_size in
      let start = product_start q (true_sum q) in
      let left = q.variables - suc i in
      let below : i < q.variables = s.some in
      let some : length s.rounds + suc left ≡ q.variables = omega (arith, below, s.count) in
      let honest = sent-honest start [] q.variables s.rounds (omega arith) s.plays.built in
      let drawn = challenges R E bits start s.rounds in
      let behind_all : q.variables - suc (length s.rs) ≡ left = omega (arith, ap length s.plays.drawn, length-challenges R E bits start s.rounds, s.count) in
      let message : node_values q.ops (length q.tables) (product_round q.ops q.tables s.rs (q.variables - suc (length s.rs))) ≡ honest_values q.ops q.tables drawn left =
      ap (λ m. node_values q.ops (length q.tables) (product_round q.ops q.tables s.rs m)) behind_all
      ∙ ap (λ t. node_values q.ops (length q.tables) (product_round q.ops q.tables t left)) s.plays.drawn in
      let none = subst (λ t. NonePasses R t bits size) (s.none.history ∙ ap (λ v. (start ++ rounds_events E bits s.rounds) ++ sent E v) message) s.none.none_passes in
      honest_rounds-none R E size (honest_values q.ops q.tables) bits start [] q.variables s.rounds left some s.low honest (none_passes R E size bits _ s.none.positive none)
      ∙ ap Err s.count

  -- a play that was refused
  pub built-refused : {F EF : Type 0} (base : F → ℕ) (number : EF → ℕ) (after : Prover) (e : GenericDegreeError) (h' : List Event) →
      LeavesPlay {F = F} {EF = EF} base number play_for prover_for after (Err e) h' → LeavesBuilt {F = F} {EF = EF} base number q (Err e)
  built-refused base number after (NoWitness i) h' left = built-stopped after i h' left
  built-refused base number after NoMemory h' left = tt
  built-refused base number after e h' left = absurd left

  -- an error that is passed on
  pub passed_on : {F EF : Type 0} (base : F → ℕ) (number : EF → ℕ) (r : Result (Built F EF) GenericDegreeError) (e : GenericDegreeError) → IsErrAnd r (λ x. x ≡ e) →
      LeavesBuilt {F = F} {EF = EF} base number q (Err e) → LeavesBuilt base number q r
  passed_on base number (Ok b) e is left = elim is [ ]
  passed_on {F = F} {EF = EF} base number (Err x) e is left = subst (λ t. LeavesBuilt {F = F} {EF = EF} base number q (Err t)) (sym is) left

  -- the play of a challenger's copy
  pub play-is : {R : Rules} {h : List Event} {n degree claimed : ℕ} → R ≡ q.channel.rules → h ≡ q.history → n ≡ q.variables → degree ≡ length q.tables → claimed ≡ true_sum q →
      play_of q.ops (record { rules = R; extension = q.channel.extension; base_size = q.channel.base_size; bits = q.channel.bits }) (generic_shape n degree q.channel.bits) claimed h ≡ play_for
  play-is rules history count width is = rw (rules, history, count, width, is) refl
