use Rattle.std.proofs.Common.{◌≡◌, ◌<◌, ℕ, [], ◌∷◌, ◌++◌, length, map, ap, sym, ◌∙◌, subst, arith, length-append}
use Rattle.std.proofs.lemmas.List.{length-map, map-append}
use Rattle.sc_definitions.specs.ProverViews.{IsTrueClaim}
use Rattle.sc_table.specs.Polys.{table_of}
use Rattle.sc_svo.specs.Batches.{batch_in}
use Rattle.sc_zk_layout.specs.Grids.{shown_after}
use Rattle.sc_zk_layout.proofs.GridLaws.{claim-next, bound-is, true-more}
use Rattle.sc_zk_layout.proofs.grid_rounds.GridRoundsPlainRounds.bind.Goals as goal

pub invariant_of-self : goal.invariant_of-self
invariant_of-self g c =
    let e = g.EF.Field in
    let ring = g.met.EF.Field.is_field.ring in
    let s = c.args.self.now in
    let f : ℕ → ℕ = λ b. g.EF.Algebra.embedding (table_of g.F.Field.number s.table.now b) in
    let rs = map e.number s.challenges.items in
    let low : length rs < (batch_in s.batch).variables = omega (arith, length-map s.challenges.items e.number, c.requires.left, s.within) in
    let r = e.number c.args.r in
    let next = claim-next e.ops ring (batch_in s.batch) f rs (e.number s.claim) low r (e.number c.reduce_claim-self.result) _ c.requires.message c.reduce_claim-self.ensures.claim in
    let put = c.push_reserved.ensures in
    let drawn : map e.number c.push_reserved.new.self.items ≡ rs ++ r ∷ [] = ap (map e.number) put.items ∙ map-append e.number s.challenges.items (c.args.r ∷ []) in
    record {
      ordered = s.ordered;
      arity = s.arity;
      of = s.of;
      within = s.within;
      played = omega (arith, ap length put.items, length-append s.challenges.items (c.args.r ∷ []), c.requires.left);
      room = omega (arith, put.capacity, s.room);
      honest = subst (λ l. IsTrueClaim e.ops (shown_after e.ops (batch_in s.batch) f l (e.number c.reduce_claim-self.result))) (sym drawn)
          (true-more e.ops ring (batch_in s.batch) f rs (e.number s.claim) low r (e.number c.reduce_claim-self.result) next s.honest);
    }

pub returns-clause-bound : goal.returns-clause-bound
returns-clause-bound g c =
    let e = g.EF.Field in
    let ring = g.met.EF.Field.is_field.ring in
    let s = c.args.self.now in
    let f : ℕ → ℕ = λ b. g.EF.Algebra.embedding (table_of g.F.Field.number s.table.now b) in
    let rs = map e.number s.challenges.items in
    let low : length rs < (batch_in s.batch).variables = omega (arith, length-map s.challenges.items e.number, c.requires.left, s.within) in
    let r = e.number c.args.r in
    let next = claim-next e.ops ring (batch_in s.batch) f rs (e.number s.claim) low r (e.number c.reduce_claim-self.result) _ c.requires.message c.reduce_claim-self.ensures.claim in
    let put = c.push_reserved.ensures in
    let drawn : map e.number c.push_reserved.new.self.items ≡ rs ++ r ∷ [] = ap (map e.number) put.items ∙ map-append e.number s.challenges.items (c.args.r ∷ []) in
    ap (λ l. shown_after e.ops (batch_in s.batch) f l (e.number c.reduce_claim-self.result)) drawn
    ∙ bound-is e.ops ring (batch_in s.batch) f rs (e.number s.claim) low r (e.number c.reduce_claim-self.result) next
