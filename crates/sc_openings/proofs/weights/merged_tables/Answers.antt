use Rattle.std.proofs.Common.{◌≡◌, ◌+◌, ◌<◌, suc, ◌≤◌, length, map, take, get_or, set, sym, ◌∙◌, ap, subst, arith}
use Rattle.std.proofs.lemmas.List.{length-map, take_all}
use Rattle.sc_definitions.specs.Ring.{plus, times, power}
use Rattle.sc_definitions.specs.Statements.{weight_of}
use Rattle.sc_definitions.proofs.RingLaws.{times_comm}
use Rattle.sc_definitions.proofs.Power.{power-zero, power-suc}
use Rattle.sc_merge_definitions.specs.Openings.{OpeningsCase, table_at, merging_challenge, merging_weights, weighted_tables}
use Rattle.sc_merged.specs.WeightedPolys.{arity_in, weights_in, weighted_in}
use Rattle.sc_merged.specs.SameRows.{HaveSameRows}
use Rattle.sc_openings.specs.OpeningsJobs.{claim_in, table_of_entries}
use Rattle.sc_openings.specs.FittingClaims.{claimed_by, case_by}
use Rattle.sc_openings.specs.ClaimedValues.{AreWeighted}
use Rattle.sc_openings.proofs.ShapeLaws.{few-variables, claim-names, claim-point}
use Rattle.sc_openings.proofs.WeightLaws.{take-more, length-take, none-weighted, more-weighted, from-weighted}
use Rattle.sc_openings.proofs.weights.merged_tables.Goals as goal

pub loop-i-init : goal.loop-i-init
loop-i-init g c =
    let e = g.EF.Field in
    let fs = map (table_of_entries g.EF.Algebra.embedding) (claimed_by c.args.fitting.now).tables in
    record {
      power = ap e.number c.ONE-power.ensures ∙ g.met.EF.Field.one_is ∙ sym (power-zero e.ops g.met.EF.Field.is_field.ring (e.number c.args.challenge));
      pairs = none-weighted e.ops g.met.EF.Field.is_field.ring (e.number c.args.challenge) e.number c.args.fitting.now.num_variables (length c.args.fitting.now.tables.now) fs
          c.in_ok-pairs.pairs.items c.in_ok-pairs.ensures;
    }

pub index_mut-requires : goal.index_mut-requires
index_mut-requires g c =
    omega (arith, claim-names c.args.fitting.now c.loop-i.i c.index-fitting-i.result c.loop-i-test.true, c.loop-i.invariant.pairs.count, c.loop-i.pairs.ok.0)

pub add_claim-requires-clause-point : goal.add_claim-requires-clause-point
add_claim-requires-clause-point g c =
    let fitting = c.args.fitting.now in
    let d = c.index-fitting-i.result in
    let low = claim-names fitting c.loop-i.i d c.loop-i-test.true in
    claim-point fitting c.loop-i.i d c.loop-i-test.true
    ∙ sym (ap arity_in c.index_mut.ensures.value ∙ (c.loop-i.invariant.pairs.each _ c.index_mut.result.now low).variables)

pub add_claim-requires-clause-few : goal.add_claim-requires-clause-few
add_claim-requires-clause-few g c =
    let fitting = c.args.fitting.now in
    omega (arith, few-variables fitting, claim-point fitting c.loop-i.i c.index-fitting-i.result c.loop-i-test.true)

-- one claim more
pub loop-i-preserved : goal.loop-i-preserved
loop-i-preserved g c =
    let e = g.EF.Field in
    let N = e.number in
    let o = e.ops in
    let ring = g.met.EF.Field.is_field.ring in
    let fitting = c.args.fitting.now in
    let n = fitting.num_variables in
    let many = length fitting.tables.now in
    let claims = fitting.claims.now in
    let gamma = N c.args.challenge in
    let fs = map (table_of_entries g.EF.Algebra.embedding) (claimed_by fitting).tables in
    let i = c.loop-i.i in
    let d = c.index-fitting-i.result in
    let x = get_or claims i d in
    let cs = take i (map (claim_in N) claims) in
    let inv = c.loop-i.invariant in
    let count : length cs ≡ i = length-take (claim_in N) claims i (omega (arith, c.loop-i-test.true)) in
    let low = claim-names fitting i d c.loop-i-test.true in
    let old = c.index_mut.result.now in
    let new = c.add_claim.new.pair in
    let kind = (claim_in N x).statement.kind in
    let scale = inv.power ∙ ap (power o gamma) (sym count) in
    let next : suc i ≡ i + 1 = omega arith in
    let more = more-weighted o ring gamma N n many fs cs (claim_in N x) c.loop-i.pairs.items old new inv.pairs low c.index_mut.ensures.value c.in_ok-add_claim.ensures.variables
    c.in_ok-add_claim.ensures.table (λ b less. c.in_ok-add_claim.ensures.weights b less ∙ ap (λ t. plus o (weights_in N old b) (times o t (weight_of o kind b))) scale) in
    record {
      power = c.mul-power.ensures ∙ ap (λ t. times o t gamma) inv.power ∙ times_comm o ring (power o gamma i) gamma ∙ sym (power-suc o gamma i) ∙ ap (power o gamma) next;
      pairs = subst (λ l. AreWeighted N n many (λ j. record { table = table_at fs j; weights = merging_weights o gamma l j }) (set c.loop-i.pairs.items x.table new))
          (sym (take-more (claim_in N) claims i x c.loop-i-test.true (ap (λ y. get_or claims i y) c.index-fitting-i.is))) more;
    }

pub new-requires : goal.new-requires
new-requires g c = λ k d low. (c.loop-i.invariant.pairs.each k d (subst (λ m. k < m) c.loop-i.invariant.pairs.count low)).variables

pub returns-clause-count : goal.returns-clause-count
returns-clause-count g c =
    ap length c.new.ensures.pairs ∙ length-map c.loop-i.pairs.items (weighted_in g.EF.Field.number) ∙ c.loop-i.invariant.pairs.count

pub returns-clause-tables : goal.returns-clause-tables
returns-clause-tables g c = λ at drawn.
    let e = g.EF.Field in
    let N = e.number in
    let o = e.ops in
    let fitting = c.args.fitting.now in
    let n = fitting.num_variables in
    let many = length fitting.tables.now in
    let q : OpeningsCase = case_by fitting at in
    let fs = q.tables in
    let items = c.loop-i.pairs.items in
    let cs = map (claim_in N) fitting.claims.now in
    let all : length fitting.claims.now ≤ c.loop-i.i = omega (arith, c.loop-i-test.false) in
    let whole : take c.loop-i.i cs ≡ cs = take_all c.loop-i.i cs (omega (arith, length-map fitting.claims.now (claim_in N), all)) in
    let size : length fs ≡ many = length-map (claimed_by fitting).tables _ ∙ length-map fitting.tables.now _ in
    let are = subst (λ l. AreWeighted N n many (λ j. record { table = table_at fs j; weights = merging_weights o (N c.args.challenge) l j }) items) whole c.loop-i.invariant.pairs in
    let are_so = subst (λ x. AreWeighted N n many (λ j. record { table = table_at fs j; weights = merging_weights o x cs j }) items) drawn are in
    record {
      variables = c.new.ensures.variables;
      rows = subst (λ l. HaveSameRows n l (weighted_tables q)) (sym c.new.ensures.pairs) (from-weighted N n many o (merging_challenge q) cs fs items size are_so);
    }
