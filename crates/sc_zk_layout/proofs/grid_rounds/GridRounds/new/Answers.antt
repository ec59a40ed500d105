use Rattle.std.proofs.Common.{◌≤◌, ℕ, vec_capacity, length, map, ap, sym, ◌∙◌, subst, arith}
use Rattle.sc_definitions.specs.ProverViews.{IsTrueClaim}
use Rattle.sc_table.specs.Polys.{table_of}
use Rattle.sc_svo.specs.Batches.{batch_in}
use Rattle.sc_svo.specs.Grids.{grid_shown}
use Rattle.std.proofs.lemmas.List.{length-map}
use Rattle.sc_zk_layout.specs.Grids.{shown_after}
use Rattle.sc_zk_layout.proofs.GridLaws.{true-start}
use Rattle.sc_zk_layout.proofs.grid_rounds.GridRounds.new.Goals as goal

pub invariant_of-result : goal.invariant_of-result
invariant_of-result g c =
    let e = g.EF.Field in
    let f : ℕ → ℕ = λ b. g.EF.Algebra.embedding (table_of g.F.Field.number c.args.table.now b) in
    let empty = c.in_ok-with_room.ensures.empty in
    record {
      ordered = c.requires.ordered;
      arity = c.requires.arity;
      of = c.requires.of;
      within = c.requires.within;
      played = omega (arith, ap length empty);
      room = subst (λ n. n ≤ vec_capacity c.in_ok-with_room.field-0) (c.len.ensures ∙ sym (length-map c.grids.result.now.rounds (grid_shown e.number)) ∙ ap length c.grids.ensures) c.in_ok-with_room.ensures.room;
      honest = subst (λ rs. IsTrueClaim e.ops (shown_after e.ops (batch_in c.args.batch) f (map e.number rs) (e.number c.args.claim))) (sym empty)
          (true-start e.ops g.met.EF.Field.is_field.ring (batch_in c.args.batch) f (e.number c.args.claim) c.requires.honest);
    }

pub returns-clause-shown : goal.returns-clause-shown
returns-clause-shown g c =
    let e = g.EF.Field in
    let f : ℕ → ℕ = λ b. g.EF.Algebra.embedding (table_of g.F.Field.number c.args.table.now b) in
    ap (λ rs. shown_after e.ops (batch_in c.args.batch) f (map e.number rs) (e.number c.args.claim)) c.in_ok-with_room.ensures.empty
