use Rattle.std.proofs.Common.{◌≡◌, ◌≢◌, ℕ, ◌-◌, ◌≤◌, List, [], ◌∷◌, All, length, map, take, drop, sym, ◌∙◌, ap, refl, subst, arith}
use Rattle.std.specs.Prelude.{option_map}
use Rattle.std.proofs.lemmas.List.{length-map, nil_from_length}
use Rattle.sc_definitions.specs.Tables.{entries}
use Rattle.sc_definitions.specs.Roots.{root_count}
use Rattle.sc_definitions.specs.Lucky.{in_batch}
use Rattle.sc_soundness.specs.Stages.{stages_luck}
use Rattle.sc_degree.specs.Turns.{product_turn}
use Rattle.sc_circuit_definitions.specs.Circuits.{layer_variables, IsWidth, top_width, weighted_sum}
use Rattle.sc_circuit_definitions.specs.CircuitPlays.{CircuitCase, images_of, LayerStart}
use Rattle.sc_circuit_definitions.specs.CircuitFindings.{lucky, named}
use Rattle.sc_circuit.specs.Runs.{layer_in, sent_of}
use Rattle.sc_circuit.specs.Steps.{Played}
use Rattle.sc_circuit.specs.Stacks.{rounds_above, stack_layers}
use Rattle.sc_circuit.specs.CircuitJobs.{fields}
use Rattle.sc_circuit.specs.CircuitReports.{finding_in}
use Rattle.sc_circuit.specs.BuiltLayers.{case_in}
use Rattle.sc_circuit.specs.LuckyLayers.{sent_in, IsPlayedFrom, played_luck, StartsBelow}
use Rattle.sc_circuit.proofs.LayersLaws.{first-of, width-top}
use Rattle.sc_circuit.proofs.SumLaws.{few-values}
use Rattle.sc_circuit.proofs.LuckLaws.{FirstLayer, first-fits, first-wide, first-full, full-many, wide-items, if-ok, stages_from, luck-first, luck-none, luck-turn, luck-later, truth-is, luck-is, gates-same, turn-found, starts-next, next-played, next}
use Rattle.sc_circuit.proofs.luck.+luck_from.Given.{Over}
use Rattle.sc_circuit.proofs.luck.+luck_from.Goals.{After-len, After-index-2}
use Rattle.sc_circuit.proofs.luck.+luck_from.Goals as goal

abbrev case_by_fields : Over → CircuitCase → CircuitCase
case_by_fields g q = case_in (fields g.F.Field.ops g.EF.Field.ops g.EF.Algebra.embedding g.EF.ExtensionField.extension) q q.channel

pub weighted-truth-requires-clause-few : goal.weighted-truth-requires-clause-few
weighted-truth-requires-clause-few g u c =
    let p = c.args.played in
    let few = few-values (top_width (stack_layers p.stack) p.stack.inputs) (width-top (stack_layers p.stack) p.stack.inputs c.requires.circuit) in
    omega (arith, few, c.requires.values)

-- what the claim is compared with
truth : (g : Over) (u : ℕ) (c : After-index-2 g u) (q : CircuitCase) (at : LayerStart) → let Q = case_by_fields g q in IsPlayedFrom g.F.Field.number g.EF.Field.number Q c.args.played c.args.begun at →
    c.index-2.result ≡ weighted_sum Q.ops at.weights (images_of Q (stack_layers c.args.played.stack))
truth g u c q at h =
    let B = g.F.Field.number in
    let N = g.EF.Field.number in
    let Q = case_by_fields g q in
    c.index-2.ensures ∙ c.weighted-truth.ensures ∙ ap (λ xs. weighted_sum Q.ops (entries N xs) (map Q.embedding (map B c.args.played.values.now))) c.deref.ensures.value
    ∙ truth-is B N Q c.args.played c.args.begun at h

-- the claim is the true one
pub returns-then-index : goal.returns-then-index
returns-then-index g u c = λ q at h.
    let B = g.F.Field.number in
    let N = g.EF.Field.number in
    let p = c.args.played in
    let Q = case_by_fields g q in
    let right : at.claim ≡ weighted_sum Q.ops at.weights (images_of Q (stack_layers p.stack)) =
    sym h.claim ∙ sym c.index.ensures ∙ c.if-index.true ∙ truth g u (goal.at.returns-then-index g u c).After-index-2 q at h in
    let few = full-many p.stack.inputs (stack_layers p.stack) (map (layer_in B N) p.came.now) (map (λ x. map N x) p.challenges.now) (map N p.merges.now) c.requires.full in
    let many : length (stack_layers p.stack) ≤ length (sent_in B N p) = omega (arith, few, length-map (map (layer_in B N) p.came.now) sent_of) in
    c.lucky_merge.ensures
    ∙ ap (λ xs. lucky (record { stage = p.stack.first; luck = in_batch xs (root_count Q.ops xs) })) h.excess
    ∙ ap named (sym (luck-first Q p.stack.first (stack_layers p.stack) (sent_in B N p) at many right))

-- there is no layer more
pub returns-in_default : goal.returns-in_default
returns-in_default g u c = λ q at h.
    let p = c.args.played in
    let Q = case_by_fields g q in
    let sent = sent_in g.F.Field.number g.EF.Field.number p in
    let none : stack_layers p.stack ≡ [] = ap (map (λ gates. gates.items)) (nil_from_length p.stack.layers.now (omega (arith, c.in_default.len_below))) in
    let wrong : at.claim ≢ weighted_sum Q.ops at.weights (images_of Q []) = λ same.
    c.if-index.false (c.index.ensures ∙ h.claim ∙ same ∙ ap (λ ls. weighted_sum Q.ops at.weights (images_of Q ls)) (sym none) ∙ sym (truth g u (goal.at.returns-in_default g u c).After-index-2 q at h)) in
    sym (ap named (ap (λ ls. stages_luck Q.ops p.stack.first (stages_from Q ls sent at)) none ∙ luck-none Q p.stack.first sent at wrong))

-- ---- the first layer

abbrev first : (g : Over) (u : ℕ) (c : After-len g u) → FirstLayer c.args.played
first g u c =
    let p = c.args.played in
    let v = c.gates-item.result in
    record {
      gates = v.items;
      layers = map (λ gates. gates.items) (take (length p.stack.layers.now - 1) (drop 1 p.stack.layers.now));
      split = ap (map (λ gates. gates.items)) (first-of p.stack.layers.now v c.in-len1-up.len_at_least c.gates-item.is);
      came = c.layer-item.result;
      others_came = take (length p.came.now - 1) (drop 1 p.came.now);
      came_is = first-of p.came.now c.layer-item.result c.in-len1-up-came.len_at_least c.layer-item.is;
      drawn = c.drawn-item.result;
      others_drawn = take (length p.challenges.now - 1) (drop 1 p.challenges.now);
      drawn_is = first-of p.challenges.now c.drawn-item.result c.in-len1-up-challenges.len_at_least c.drawn-item.is;
      merge = c.merge-item.result;
      other_merges = take (length p.merges.now - 1) (drop 1 p.merges.now);
      merge_is = first-of p.merges.now c.merge-item.result c.in-len1-up-merges.len_at_least c.merge-item.is;
      values = c.values-item.result;
      other_values = take (length p.below.now - 1) (drop 1 p.below.now);
      values_are = first-of p.below.now c.values-item.result c.in-len1-up-below.len_at_least c.values-item.is;
    }

-- its width is that of the layer below
wide : (g : Over) (u : ℕ) (c : After-len g u) → c.len.result ≡ top_width (first g u c).layers c.args.played.stack.inputs
wide g u c = c.len.ensures ∙ first-wide c.args.played (first g u c) c.requires.widths

is-width : (g : Over) (u : ℕ) (c : After-len g u) → IsWidth c.len.result
is-width g u c =
    let t = first g u c in
    subst IsWidth (sym (wide g u c)) (width-top t.layers c.args.played.stack.inputs (first-fits c.args.played t c.requires.circuit).2)

-- as many rounds came as it has, with as many challenges
full : (g : Over) (u : ℕ) (c : After-len g u) →
    (length c.layer-item.result.round_polys.items ≡ rounds_above c.len.result) × All (λ m. length m.items ≡ 2) c.layer-item.result.round_polys.items
    × (length c.drawn-item.result ≡ rounds_above c.len.result)
full g u c =
    let N = g.EF.Field.number in
    let l = c.layer-item.result in
    let rs = c.drawn-item.result in
    let f = first-full c.args.played (first g u c) g.F.Field.number N c.requires.full in
    let many = ap rounds_above (sym (wide g u c)) in
    (sym (length-map l.round_polys.items (λ values. map N values.items)) ∙ f.0 ∙ many, wide-items N l.round_polys.items f.1, sym (length-map rs N) ∙ f.2 ∙ many)

pub layer_turn-requires-clause-width : goal.layer_turn-requires-clause-width
layer_turn-requires-clause-width g u c = is-width g u (goal.at.layer_turn-requires-clause-width g u c).After-len

pub layer_turn-requires-clause-few : goal.layer_turn-requires-clause-few
layer_turn-requires-clause-few g u c =
    let at = (goal.at.layer_turn-requires-clause-few g u c).After-len in
    let few = few-values (length c.gates-item.result.items) (first-fits c.args.played (first g u at) c.requires.circuit).0 in
    omega (arith, few, ap length c.as_slice.ensures.value)

pub layer_turn-requires-clause-below : goal.layer_turn-requires-clause-below
layer_turn-requires-clause-below g u c =
    let N = g.EF.Field.number in
    let B = g.F.Field.number in
    ap length c.deref-2.ensures.value ∙ sym (length-map c.in_ok-images.images.items N) ∙ ap length c.in_ok-images.ensures
    ∙ length-map (map B c.as_slice-2.result.now) g.EF.Algebra.embedding ∙ length-map c.as_slice-2.result.now B ∙ ap length c.as_slice-2.ensures ∙ sym c.len.ensures

pub layer_turn-requires-clause-messages : goal.layer_turn-requires-clause-messages
layer_turn-requires-clause-messages g u c =
    ap length c.as_slice-3.ensures.value ∙ (full g u (goal.at.layer_turn-requires-clause-messages g u c).After-len).0

pub layer_turn-requires-clause-challenges : goal.layer_turn-requires-clause-challenges
layer_turn-requires-clause-challenges g u c =
    ap length c.as_slice-4.ensures ∙ (full g u (goal.at.layer_turn-requires-clause-challenges g u c).After-len).2

pub layer_turn-requires-clause-widths : goal.layer_turn-requires-clause-widths
layer_turn-requires-clause-widths g u c =
    subst (All (λ m. length m.items ≡ 2)) (sym c.as_slice-3.ensures.value) (full g u (goal.at.layer_turn-requires-clause-widths g u c).After-len).1

pub begin_below-requires-clause-width : goal.begin_below-requires-clause-width
begin_below-requires-clause-width g u c = is-width g u (goal.at.begin_below-requires-clause-width g u c).After-len

pub begin_below-requires-clause-values : goal.begin_below-requires-clause-values
begin_below-requires-clause-values g u c =
    let N = g.EF.Field.number in
    let B = g.F.Field.number in
    ap length c.deref-3.ensures.value ∙ sym (length-map c.in_ok-images.images.items N) ∙ ap length c.in_ok-images.ensures
    ∙ length-map (map B c.as_slice-2.result.now) g.EF.Algebra.embedding ∙ length-map c.as_slice-2.result.now B ∙ ap length c.as_slice-2.ensures ∙ sym c.len.ensures

pub begin_below-requires-clause-halves : goal.begin_below-requires-clause-halves
begin_below-requires-clause-halves g u c =
    ap length c.as_slice-5.ensures ∙ (full g u (goal.at.begin_below-requires-clause-halves g u c).After-len).2

-- a round of the layer turned its claim true
pub returns-in-Some : goal.returns-in-Some
returns-in-Some g u c = λ q at h.
    let B = g.F.Field.number in
    let N = g.EF.Field.number in
    let p = c.args.played in
    let b = c.args.begun in
    let Q = case_by_fields g q in
    let before = (goal.at.returns-in-Some g u c).After-len in
    let t = first g u before in
    let images = c.in_ok-images.images.items in
    let are : map N images ≡ map Q.embedding (map B t.values) = c.in_ok-images.ensures ∙ ap (λ xs. map Q.embedding (map B xs)) c.as_slice-2.ensures in
    let wrong : at.claim ≢ weighted_sum Q.ops at.weights (images_of Q (t.gates ∷ t.layers)) = λ same.
    c.if-index.false (c.index.ensures ∙ h.claim ∙ same ∙ ap (λ ls. weighted_sum Q.ops at.weights (images_of Q ls)) (sym t.split) ∙ sym (truth g u (goal.at.returns-in-Some g u c).After-index-2 q at h)) in
    let widened : c.len.result ≡ top_width t.layers (length q.inputs) = wide g u before ∙ ap (top_width t.layers) (sym h.inputs) in
    let turn = turn-found B N Q p b at h t images are c.len.result c.deref-2.result.now c.as_slice.result.now c.as_slice-3.result.now c.as_slice-4.result.now _
    c.deref-2.ensures.value c.as_slice.ensures.value c.as_slice-3.ensures.value c.as_slice-4.ensures widened (gates-same B N Q p b at h t c.requires.values) c.in_ok-turn.ensures in
    let sent = map sent_of (map (layer_in B N) t.others_came) in
    c.lucky_round.ensures
    ∙ ap named (sym (luck-is B N Q p b at h t
    ∙ luck-turn Q p.stack.first t.gates t.layers (sent_of (layer_in B N t.came)) sent at wrong (product_turn N c.in-Some.turn) (turn ∙ ap (option_map (product_turn N)) c.in-Some.is)))

-- none did
pub returns : goal.returns
returns g u c =
    if-ok _ (λ v. (q : CircuitCase) (at : LayerStart) → IsPlayedFrom g.F.Field.number g.EF.Field.number (case_by_fields g q) c.args.played c.args.begun at →
    finding_in g.EF.Field.number v ≡ named (played_luck g.F.Field.number g.EF.Field.number (case_by_fields g q) c.args.played at)) c.luck_from.result (λ verdict is q at h.
    let B = g.F.Field.number in
    let N = g.EF.Field.number in
    let p = c.args.played in
    let b = c.args.begun in
    let Q = case_by_fields g q in
    let before = (goal.at.returns g u c).After-len in
    let t = first g u before in
    let images = c.in_ok-images.images.items in
    let are : map N images ≡ map Q.embedding (map B t.values) = c.in_ok-images.ensures ∙ ap (λ xs. map Q.embedding (map B xs)) c.as_slice-2.ensures in
    let wrong : at.claim ≢ weighted_sum Q.ops at.weights (images_of Q (t.gates ∷ t.layers)) = λ same.
    c.if-index.false (c.index.ensures ∙ h.claim ∙ same ∙ ap (λ ls. weighted_sum Q.ops at.weights (images_of Q ls)) (sym t.split) ∙ sym (truth g u (goal.at.returns g u c).After-index-2 q at h)) in
    let widened : c.len.result ≡ top_width t.layers (length q.inputs) = wide g u before ∙ ap (top_width t.layers) (sym h.inputs) in
    let turn = turn-found B N Q p b at h t images are c.len.result c.deref-2.result.now c.as_slice.result.now c.as_slice-3.result.now c.as_slice-4.result.now _
    c.deref-2.ensures.value c.as_slice.ensures.value c.as_slice-3.ensures.value c.as_slice-4.ensures widened (gates-same B N Q p b at h t c.requires.values) c.in_ok-turn.ensures in
    let sent = map sent_of (map (layer_in B N) t.others_came) in
    let l = t.came in
    let played : List g.row.EF.Denot → Played = λ xs. record {
      variables = layer_variables c.len.result;
      challenges = map N xs;
      left = N l.left;
      right = N l.right;
      merge = N t.merge;
    } in
    let begun = c.in_ok-next.next in
    let made = subst (λ xs. StartsBelow Q.ops N c.len.result (entries N images) (played xs) begun) c.as_slice-5.ensures
    (subst (λ vs. StartsBelow Q.ops N c.len.result (entries N vs) (played c.as_slice-5.result.now) begun) c.deref-3.ensures.value c.in_ok-next.ensures) in
    let starts = starts-next B N Q p b at h t images are c.len.result begun widened made in
    let count : length t.values ≡ top_width t.layers (length q.inputs) = first-wide p t c.requires.widths ∙ ap (top_width t.layers) (sym h.inputs) in
    is q (next B N Q p b at h t)
    (next-played B N Q p b at h t _ begun refl refl c.as_slice-6.ensures refl refl refl refl count starts)
    ∙ ap named (sym (luck-is B N Q p b at h t
    ∙ luck-later Q p.stack.first t.gates t.layers (sent_of (layer_in B N l)) sent at wrong (turn ∙ ap (option_map (product_turn N)) c.in_default-2.is)))) c.luck_from.ensures
