-- The first lucky challenge of layers that were replayed, layer after layer.
use Rattle.std.proofs.Common.{◌≡◌, ◌≢◌, ℕ, suc, ◌+◌, ◌<◌, ◌≤◌, List, [], ◌∷◌, length, map, if◌then◌else◌, Option, Some, None, ap, sym, ◌∙◌, subst, arith, eq-eqb, ne_eqb}
use Rattle.std.specs.Prelude.{option_map, All, Result, Ok, Err, IfOk}
use Rattle.std.proofs.Common.{Vec, Global}
use Rattle.std.proofs.lemmas.List.{length-map}
use Rattle.std.proofs.lemmas.List.Elements.{All-cons, All-head, All-tail}
use Rattle.sc_definitions.specs.Tables.{entries, rows_of}
use Rattle.sc_definitions.specs.Roots.{root_count}
use Rattle.sc_definitions.specs.Transcript.{messages_of}
use Rattle.sc_definitions.specs.Lucky.{Turn, in_batch, luck_in, first_turn}
use Rattle.sc_definitions.proofs.ReplayLaws.{messages-given_rounds}
use Rattle.sc_soundness.specs.Stages.{Stage, StageLuck, stages_luck, stage_luck, luck_or_later}
use Rattle.sc_degree.specs.Turns.{messages_in}
use Rattle.sc_circuit_definitions.specs.declared.gate.Gate.{Gate}
use Rattle.sc_circuit_definitions.specs.Circuits.{top_values, layer_variables, top_width, IsCircuit, weighted_sum}
use Rattle.sc_circuit_definitions.specs.LayerRounds.{LayerTables, gate_tables, layer_course}
use Rattle.sc_circuit_definitions.specs.CircuitPlays.{CircuitCase, images_of, LayerStart, SentLayer, LayerPlay, play_of, merge_of, next_start, plays_from, end_from, merges_from}
use Rattle.sc_circuit_definitions.specs.CircuitFindings.{layer_stage, inputs_stage, circuit_stages}
use Rattle.sc_circuit.specs.declared.luck.PlayedLayers.{PlayedLayers}
use Rattle.sc_circuit.specs.declared.luck.Begun.{Begun}
use Rattle.sc_circuit.specs.declared.proof.LayerProof.{LayerProof}
use Rattle.sc_circuit.specs.Runs.{GivenLayer, layer_in, sent_of}
use Rattle.sc_circuit.specs.Steps.{AreSame, Played, played_of}
use Rattle.sc_circuit.specs.Replays.{run_at}
use Rattle.sc_circuit.specs.Stacks.{stack_layers}
use Rattle.sc_circuit.specs.BuiltLayers.{lower_values, HasWidths}
use Rattle.sc_circuit.specs.LuckyLayers.{AreFull, sent_in, IsPlayedFrom, played_luck, StartsBelow}
use Rattle.sc_circuit.proofs.BuiltLaws.{entries-rows}
use Rattle.sc_circuit.proofs.SumLaws.{weighted-same}
use Rattle.sc_circuit.proofs.BuildsLaws.{first-same, rest-same, first-values, other-values, tables-same}

-- ---- shapes

pub full-many : (inputs : ℕ) (all : List (List Gate)) (came : List GivenLayer) (drawn : List (List ℕ)) (merges : List ℕ) → AreFull inputs all came drawn merges → length all ≤ length came
full-many inputs [] came drawn merges full = omega arith
full-many inputs (gates ∷ layers) [] drawn merges full = absurd full
full-many inputs (gates ∷ layers) (g ∷ came) [] merges full = absurd full
full-many inputs (gates ∷ layers) (g ∷ came) (rs ∷ drawn) [] full = absurd full
full-many inputs (gates ∷ layers) (g ∷ came) (rs ∷ drawn) (m ∷ merges) full = let more = full-many inputs layers came drawn merges full.3 in omega (arith, more)

-- lists are as long as those of their numbers
pub wide-items : {X : Type 0} (number : X → ℕ) (vs : List (Vec X Global)) → All (λ values. length values ≡ 2) (map (λ v. map number v.items) vs) → All (λ v. length v.items ≡ 2) vs
wide-items number [] wide = λ k d less. absurd (omega (arith, less))
wide-items number (v ∷ vs) wide =
    let W = λ (values : List ℕ). length values ≡ 2 in
    let more = map (λ v. map number v.items) vs in
    All-cons (λ v. length v.items ≡ 2) v vs (sym (length-map v.items number) ∙ All-head W (map number v.items) more wide) (wide-items number vs (All-tail W (map number v.items) more wide))

pub if-ok : {T E : Type 0} (P Q : T → Type 0) (r : Result T E) → ((x : T) → P x → Q x) → IfOk r P → IfOk r Q
if-ok P Q (Ok x) f p = f x p
if-ok P Q (Err e) f p = tt

-- ---- stages

module _ (q : CircuitCase) where
  -- the stages of layers that sent this, from a start on
  abbrev pub stages_from : List (List Gate) → List SentLayer → LayerStart → List Stage
  stages_from layers sent at = circuit_stages q (plays_from q layers sent at) (end_from q layers sent at)

  abbrev truth_at : List (List Gate) → LayerStart → ℕ
  truth_at layers at = weighted_sum q.ops at.weights (images_of q layers)

  -- the first claim is the true one
  pub luck-first : (i : ℕ) (layers : List (List Gate)) (sent : List SentLayer) (at : LayerStart) → length layers ≤ length sent → at.claim ≡ truth_at layers at →
      stages_luck q.ops i (stages_from layers sent at) ≡ Some (record { stage = i; luck = in_batch at.excess (root_count q.ops at.excess) })
  unfolding stages_luck stage_luck
  luck-first i [] sent at many right =
      let l = Some (in_batch at.excess (root_count q.ops at.excess)) in
      ap (λ b. luck_or_later i (if b then l else option_map (luck_in q.ops) (first_turn (inputs_stage q at).course 0 at.claim [] [] [])) None) (eq-eqb _ _ right)
  luck-first i (gates ∷ layers) [] at many right = absurd (omega (arith, many))
  luck-first i (gates ∷ layers) (c ∷ sent) at many right =
      let p = play_of q gates layers at c in
      let s = layer_stage q.ops p in
      let l = Some (in_batch at.excess (root_count q.ops at.excess)) in
      let later = stages_luck q.ops (suc i) (stages_from layers sent (next_start q layers p)) in
      ap (λ b. luck_or_later i (if b then l else option_map (luck_in q.ops) (first_turn s.course 0 at.claim s.messages [] s.challenges)) later) (eq-eqb _ _ right)

  -- the claim on the inputs is not, and no claim before it
  pub luck-none : (i : ℕ) (sent : List SentLayer) (at : LayerStart) → at.claim ≢ truth_at [] at → stages_luck q.ops i (stages_from [] sent at) ≡ None
  unfolding stages_luck stage_luck first_turn
  luck-none i sent at wrong =
      let l = Some (in_batch at.excess (root_count q.ops at.excess)) in
      ap (λ b. luck_or_later i (if b then l else option_map (luck_in q.ops) (first_turn (inputs_stage q at).course 0 at.claim [] [] [])) None) (ne_eqb _ _ wrong)

  module _ (i : ℕ) (gates : List Gate) (layers : List (List Gate)) (c : SentLayer) (sent : List SentLayer) (at : LayerStart) (wrong : at.claim ≢ truth_at (gates ∷ layers) at) where
    abbrev p : LayerPlay
    p = play_of q gates layers at c

    abbrev turn : Option Turn
    turn = first_turn (layer_course q.ops p.tables) 0 at.claim (messages_of c.rounds) [] p.challenges

    abbrev later : ℕ → Option StageLuck
    later j = stages_luck q.ops j (stages_from layers sent (next_start q layers p))

    luck-by : stages_luck q.ops i (stages_from (gates ∷ layers) (c ∷ sent) at) ≡ luck_or_later i (option_map (luck_in q.ops) turn) (later (suc i))
    unfolding stages_luck stage_luck
    luck-by =
        ap (λ b. luck_or_later i (if b then Some (in_batch at.excess (root_count q.ops at.excess)) else option_map (luck_in q.ops) turn) (later (suc i))) (ne_eqb _ _ wrong)

    -- a round of the layer turns it true
    pub luck-turn : (t : Turn) → turn ≡ Some t → stages_luck q.ops i (stages_from (gates ∷ layers) (c ∷ sent) at) ≡ Some (record { stage = i; luck = luck_in q.ops t })
    luck-turn t is = luck-by ∙ ap (λ x. luck_or_later i (option_map (luck_in q.ops) x) (later (suc i))) is

    -- no round of it does
    pub luck-later : turn ≡ None → stages_luck q.ops i (stages_from (gates ∷ layers) (c ∷ sent) at) ≡ later (i + 1)
    luck-later none =
        let one : suc i ≡ i + 1 = omega arith in
        luck-by ∙ ap (λ x. luck_or_later i (option_map (luck_in q.ops) x) (later (suc i))) none ∙ ap later one

-- ---- what was replayed

-- the sum that the first claim is compared with
pub truth-is : {F EF : Type 0} (base : F → ℕ) (number : EF → ℕ) (q : CircuitCase) (p : PlayedLayers F EF) (b : Begun EF) (at : LayerStart) → IsPlayedFrom base number q p b at →
    weighted_sum q.ops (entries number b.weights.items) (map q.embedding (map base p.values.now)) ≡ weighted_sum q.ops at.weights (images_of q (stack_layers p.stack))
truth-is base number q p b at h =
    let many : length (map q.embedding (map base p.values.now)) ≡ length p.values.now = length-map (map base p.values.now) q.embedding ∙ length-map p.values.now base in
    weighted-same q.ops (entries number b.weights.items) at.weights (map q.embedding (map base p.values.now)) (λ j low. h.weights j (subst (λ n. j < n) many low))
    ∙ ap (λ xs. weighted_sum q.ops at.weights (map q.embedding xs)) h.values

-- The first of layers that were replayed: its gates before those of the layers below it, and of each list the first entry before the others.
pub record FirstLayer {F EF : Type 0} (p : PlayedLayers F EF) : Type 0 where
  pub gates : List Gate
  pub layers : List (List Gate)
  pub split : stack_layers p.stack ≡ gates ∷ layers
  pub came : LayerProof F EF
  pub others_came : List (LayerProof F EF)
  pub came_is : p.came.now ≡ came ∷ others_came
  pub drawn : List EF
  pub others_drawn : List (List EF)
  pub drawn_is : p.challenges.now ≡ drawn ∷ others_drawn
  pub merge : EF
  pub other_merges : List EF
  pub merge_is : p.merges.now ≡ merge ∷ other_merges
  pub values : List F
  pub other_values : List (List F)
  pub values_are : p.below.now ≡ values ∷ other_values

module _ {F EF : Type 0} (p : PlayedLayers F EF) (t : FirstLayer p) where
  pub first-fits : IsCircuit (stack_layers p.stack) p.stack.inputs → IsCircuit (t.gates ∷ t.layers) p.stack.inputs
  first-fits fits = subst (λ ls. IsCircuit ls p.stack.inputs) t.split fits

  pub first-wide : HasWidths (stack_layers p.stack) p.stack.inputs (map (λ row. length row) p.below.now) → length t.values ≡ top_width t.layers p.stack.inputs
  first-wide wide =
      (subst (λ ns. HasWidths (t.gates ∷ t.layers) p.stack.inputs ns) (ap (map (λ row. length row)) t.values_are)
      (subst (λ ls. HasWidths ls p.stack.inputs (map (λ row. length row) p.below.now)) t.split wide)).0

  pub first-full : (base : F → ℕ) (number : EF → ℕ) →
      AreFull p.stack.inputs (stack_layers p.stack) (map (layer_in base number) p.came.now) (map (λ x. map number x) p.challenges.now) (map number p.merges.now) →
      AreFull p.stack.inputs (t.gates ∷ t.layers) (layer_in base number t.came ∷ map (layer_in base number) t.others_came)
      (map number t.drawn ∷ map (λ x. map number x) t.others_drawn) (number t.merge ∷ map number t.other_merges)
  first-full base number full =
      let came = map (layer_in base number) in
      let drawn = map (λ x. map number x) in
      let n = p.stack.inputs in
      subst (λ xs. AreFull n (t.gates ∷ t.layers) (came (t.came ∷ t.others_came)) (drawn (t.drawn ∷ t.others_drawn)) (map number xs)) t.merge_is
      (subst (λ xs. AreFull n (t.gates ∷ t.layers) (came (t.came ∷ t.others_came)) (drawn xs) (map number p.merges.now)) t.drawn_is
      (subst (λ xs. AreFull n (t.gates ∷ t.layers) (came xs) (drawn p.challenges.now) (map number p.merges.now)) t.came_is
      (subst (λ ls. AreFull n ls (came p.came.now) (drawn p.challenges.now) (map number p.merges.now)) t.split full)))

module _ {F EF : Type 0} (base : F → ℕ) (number : EF → ℕ) (q : CircuitCase) (p : PlayedLayers F EF) (b : Begun EF) (at : LayerStart) (h : IsPlayedFrom base number q p b at)
    (t : FirstLayer p) where
  abbrev g : GivenLayer
  g = layer_in base number t.came

  abbrev pub sent_after : List SentLayer
  sent_after = map sent_of (map (layer_in base number) t.others_came)

  abbrev play : LayerPlay
  play = play_of q t.gates t.layers at (sent_of g)

  abbrev pub next : LayerStart
  next = next_start q t.layers play

  sent-is : sent_in base number p ≡ sent_of g ∷ sent_after
  sent-is = ap (λ xs. map sent_of (map (layer_in base number) xs)) t.came_is

  all-drawn : map number t.drawn ∷ map (λ x. map number x) t.others_drawn ≡ play.challenges ∷ map (λ x. x.challenges) (plays_from q t.layers sent_after next)
  all-drawn =
      sym (ap (map (λ x. map number x)) t.drawn_is) ∙ h.challenges
      ∙ ap (λ xs. map (λ x. x.challenges) (plays_from q xs (sent_in base number p) at)) t.split
      ∙ ap (λ xs. map (λ x. x.challenges) (plays_from q (t.gates ∷ t.layers) xs at)) sent-is

  all-merged : number t.merge ∷ map number t.other_merges ≡ merge_of q t.layers play ∷ merges_from q t.layers sent_after next
  all-merged =
      sym (ap (map number) t.merge_is) ∙ h.merges
      ∙ ap (λ xs. merges_from q xs (sent_in base number p) at) t.split
      ∙ ap (λ xs. merges_from q (t.gates ∷ t.layers) xs at) sent-is

  pub drawn-is : map number t.drawn ≡ play.challenges
  drawn-is = first-same (map number t.drawn) play.challenges _ _ all-drawn

  pub merge-is : number t.merge ≡ merge_of q t.layers play
  merge-is = first-same (number t.merge) (merge_of q t.layers play) _ _ all-merged

  pub values-are : map base t.values ≡ top_values q.base t.layers q.inputs
  values-are = first-values q.base (λ (r : List F). map base r) p.below.now t.values t.other_values (stack_layers p.stack) t.gates t.layers q.inputs h.below t.values_are t.split

  -- the weights of its gates
  pub gates-same : length p.values.now ≡ top_width (stack_layers p.stack) p.stack.inputs → AreSame (length t.gates) (entries number b.weights.items) at.weights
  gates-same many = subst (λ n. AreSame n (entries number b.weights.items) at.weights) (many ∙ ap (λ ls. top_width ls p.stack.inputs) t.split) h.weights

  -- the first lucky challenge, if one is
  pub luck-is : played_luck base number q p at ≡ stages_luck q.ops p.stack.first (stages_from q (t.gates ∷ t.layers) (sent_of g ∷ sent_after) at)
  luck-is =
      ap (λ xs. stages_luck q.ops p.stack.first (stages_from q xs (sent_in base number p) at)) t.split
      ∙ ap (λ xs. stages_luck q.ops p.stack.first (stages_from q (t.gates ∷ t.layers) xs at)) sent-is

  module _ (images : List EF) (are : map number images ≡ map q.embedding (map base t.values)) where
    images-are : entries number images ≡ rows_of (images_of q t.layers)
    images-are = entries-rows number images ∙ ap rows_of (are ∙ ap (map q.embedding) values-are)

    -- the first turn of its rounds
    pub turn-is : (n : ℕ) → n ≡ top_width t.layers (length q.inputs) → AreSame (length t.gates) (entries number b.weights.items) at.weights →
        first_turn (layer_course q.ops (gate_tables q.ops (layer_variables n) (entries number b.weights.items) (entries number images) t.gates)) 0 (number b.claim) g.wire.messages [] (map number t.drawn)
        ≡ first_turn (layer_course q.ops play.tables) 0 at.claim (messages_of (sent_of g).rounds) [] play.challenges
    turn-is n width weights =
        let k = layer_variables (top_width t.layers (length q.inputs)) in
        let course : LayerTables → ℕ → List (List ℕ) → List ℕ → Option Turn = λ tables claim values drawn. first_turn (layer_course q.ops tables) 0 claim values [] drawn in
        ap (λ j. course (gate_tables q.ops (layer_variables j) (entries number b.weights.items) (entries number images) t.gates) (number b.claim) g.wire.messages (map number t.drawn)) width
        ∙ ap (λ v. course (gate_tables q.ops k (entries number b.weights.items) v t.gates) (number b.claim) g.wire.messages (map number t.drawn)) images-are
        ∙ ap (λ tables. course tables (number b.claim) g.wire.messages (map number t.drawn)) (tables-same q.ops k (entries number b.weights.items) at.weights (rows_of (images_of q t.layers)) t.gates weights)
        ∙ ap (λ x. course play.tables x g.wire.messages (map number t.drawn)) h.claim
        ∙ ap (λ x. course play.tables at.claim x (map number t.drawn)) (sym (messages-given_rounds g.wire.messages g.wire.witnesses))
        ∙ ap (course play.tables at.claim (messages_of (sent_of g).rounds)) drawn-is

    -- the same of a search over lists that are these
    pub turn-found : (n : ℕ) (vs : List EF) (gs : List Gate) (xs : List (Vec EF Global)) (ys : List EF) (found : Option Turn) →
        vs ≡ images → gs ≡ t.gates → xs ≡ t.came.round_polys.items → ys ≡ t.drawn → n ≡ top_width t.layers (length q.inputs) → AreSame (length t.gates) (entries number b.weights.items) at.weights →
        found ≡ first_turn (layer_course q.ops (gate_tables q.ops (layer_variables n) (entries number b.weights.items) (entries number vs) gs)) 0 (number b.claim) (messages_in number xs) [] (map number ys) →
        first_turn (layer_course q.ops play.tables) 0 at.claim (messages_of (sent_of g).rounds) [] play.challenges ≡ found
    turn-found n vs gs xs ys found vs_is gs_is xs_is ys_is width weights is =
        let turn_of : List EF → List Gate → List (Vec EF Global) → List EF → Option Turn = λ vs gs xs ys.
        first_turn (layer_course q.ops (gate_tables q.ops (layer_variables n) (entries number b.weights.items) (entries number vs) gs)) 0 (number b.claim) (messages_in number xs) [] (map number ys) in
        sym (is ∙ ap (λ vs. turn_of vs gs xs ys) vs_is ∙ ap (λ gs. turn_of images gs xs ys) gs_is ∙ ap (λ xs. turn_of images t.gates xs ys) xs_is
        ∙ ap (turn_of images t.gates t.came.round_polys.items) ys_is ∙ turn-is n width weights)

    -- where the layer below begins
    pub starts-next : (n : ℕ) (c : Begun EF) → n ≡ top_width t.layers (length q.inputs) →
        StartsBelow q.ops number n (entries number images)
        (record { variables = layer_variables n; challenges = map number t.drawn; left = g.left; right = g.right; merge = number t.merge }) c →
        StartsBelow q.ops number (top_width t.layers (length q.inputs)) (rows_of (images_of q t.layers))
        (played_of (run_at q t.layers at) (layer_variables (top_width t.layers (length q.inputs))) (sent_of g)) c
    starts-next n c width starts =
        let w = top_width t.layers (length q.inputs) in
        let played : ℕ → List ℕ → ℕ → Played = λ j xs y. record { variables = layer_variables j; challenges = xs; left = g.left; right = g.right; merge = y } in
        subst (λ y. StartsBelow q.ops number w (rows_of (images_of q t.layers)) (played w play.challenges y) c) merge-is
        (subst (λ xs. StartsBelow q.ops number w (rows_of (images_of q t.layers)) (played w xs (number t.merge)) c) drawn-is
        (subst (λ v. StartsBelow q.ops number w v (played w (map number t.drawn) (number t.merge)) c) images-are
        (subst (λ j. StartsBelow q.ops number j (entries number images) (played j (map number t.drawn) (number t.merge)) c) width starts)))

  -- the layers below were replayed from there on
  pub next-played : (rest : PlayedLayers F EF) (c : Begun EF) → stack_layers rest.stack ≡ t.layers → rest.stack.inputs ≡ p.stack.inputs → rest.values.now ≡ t.values →
      rest.below.now ≡ t.other_values → rest.came.now ≡ t.others_came → rest.challenges.now ≡ t.others_drawn → rest.merges.now ≡ t.other_merges → length t.values ≡ top_width t.layers (length q.inputs) →
      StartsBelow q.ops number (top_width t.layers (length q.inputs)) (rows_of (images_of q t.layers))
      (played_of (run_at q t.layers at) (layer_variables (top_width t.layers (length q.inputs))) (sent_of g)) c →
      IsPlayedFrom base number q rest c next
  next-played rest c stack inputs values below sent chs mgs width starts =
      let sent_rest : sent_in base number rest ≡ sent_after = ap (λ xs. map sent_of (map (layer_in base number) xs)) sent in
      record {
        case = h.case;
        inputs = h.inputs ∙ sym inputs;
        values = ap (map base) values ∙ values-are ∙ ap (λ xs. top_values q.base xs q.inputs) (sym stack);
        below = ap (map (λ r. map base r)) below
            ∙ other-values q.base (λ (r : List F). map base r) p.below.now t.values t.other_values (stack_layers p.stack) t.gates t.layers q.inputs h.below t.values_are t.split
            ∙ ap (λ xs. lower_values q.base xs q.inputs) (sym stack);
        challenges = ap (map (λ x. map number x)) chs ∙ rest-same (map number t.drawn) play.challenges _ _ all-drawn
            ∙ ap (λ xs. map (λ x. x.challenges) (plays_from q xs sent_after next)) (sym stack)
            ∙ ap (λ xs. map (λ x. x.challenges) (plays_from q (stack_layers rest.stack) xs next)) (sym sent_rest);
        merges = ap (map number) mgs ∙ rest-same (number t.merge) (merge_of q t.layers play) _ _ all-merged
            ∙ ap (λ xs. merges_from q xs sent_after next) (sym stack)
            ∙ ap (λ xs. merges_from q (stack_layers rest.stack) xs next) (sym sent_rest);
        claim = starts.claim;
        weights = subst (λ n. AreSame n (entries number c.weights.items) next.weights) (sym (ap length values ∙ width)) starts.weights;
        excess = starts.excess;
      }
