use Rattle.std.proofs.Common.{◌≡◌, suc, ◌-◌, map, refl, sym, ap, subst, ◌∙◌, arith}
use Rattle.std.proofs.lemmas.List.{length-map}
use Rattle.sc_definitions.specs.Tables.{evaluation}
use Rattle.sc_definitions.specs.Polynomials.{poly_minus}
use Rattle.sc_definitions.specs.Rounds.{sent_polynomial}
use Rattle.sc_definitions.specs.ProverStates.{half_rows}
use Rattle.sc_soundness.specs.Merged.{merged_message}
use Rattle.sc_transcript.specs.Data.{pair_of}
use Rattle.sc_merged.specs.MergedViews.{pairs_in}
use Rattle.sc_merged.specs.MergedTurns.{three_of}
use Rattle.sc_merged.proofs.TurnLaws.{Finds, finds-begin, finds-more, finds-here, finds-none, certified-turn, some-turn}
use Rattle.sc_merged.proofs.turn.find_turn.Goals as goal

pub loop-i-init : goal.loop-i-init
loop-i-init g c =
    let e = g.EF.Field in
    let N = e.number in
    let tables = c.args.tables in
    record {
      left = omega (arith, c.requires.challenges);
      finds = finds-begin e.ops g.met.EF.Field.is_field.ring (pairs_in N tables) tables.variables (N c.args.claim) (N c.sum-truth.result) (map (pair_of N) c.args.messages.now)
          (map N c.args.challenges.now) c.sum-truth.ensures;
    }

-- the claim turns true here
pub returns-then-index-clause-found : goal.returns-then-index-clause-found
returns-then-index-clause-found g c =
    let e = g.EF.Field in
    let o = e.ops in
    let N = e.number in
    let inv = c.loop-i.invariant in
    let now = c.loop-i.tables in
    let i = c.loop-i.i in
    let ms = c.args.messages.now in
    let rs = c.args.challenges.now in
    let m = now.variables - 1 in
    let more : now.variables ≡ suc m = omega (arith, inv.left, c.loop-i-test.true) in
    let ps = pairs_in N c.args.tables in
    let qs = pairs_in N now in
    let found = subst (λ k. Finds o ps qs k (N c.args.claim) (N c.loop-i.claim) (N c.loop-i.truth) i (map (pair_of N) ms) (map N rs)) more inv.finds in
    let y = c.index-messages-i.result in
    let h = c.message-honest.result in
    sym (finds-here o g.met.EF.Field.is_field.ring ps qs m N (pair_of N) ms rs i (N c.args.claim) (N c.loop-i.claim) (N c.loop-i.truth) found y c.index-challenges-i.result
    (omega (arith, c.loop-i-test.true, c.requires.messages, c.requires.challenges)) c.loop-i-test.true c.index-messages-i.is c.index-challenges-i.is
    (omega (arith, c.requires.messages, c.requires.challenges, inv.left, more)) (N c.reduce_claim-next.result) (N c.reduce_claim-next_truth.result)
    c.reduce_claim-next.ensures.claim (pair_of N h) (c.message-honest.ensures ∙ ap (λ k. merged_message o (half_rows k) qs) more) c.reduce_claim-next_truth.ensures.claim
    (sym c.index.ensures ∙ c.if-index.true ∙ c.index-in-loop-i.ensures) (map N c.in_ok-polynomial.polynomial)
    (c.in_ok-polynomial.ensures
    ∙ ap (λ v. poly_minus o v (three_of N c.sent_by-due.result)) c.sent_by-sent.ensures
    ∙ ap (poly_minus o (sent_polynomial evaluation o (N c.loop-i.claim) (pair_of N y))) c.sent_by-due.ensures))

-- and is certified where it was false
pub returns-then-index-clause-certified : goal.returns-then-index-clause-certified
returns-then-index-clause-certified g c = λ wrong.
    let e = g.EF.Field in
    let N = e.number in
    let tables = c.args.tables in
    certified-turn e.ops g.met.EF.Field.is_field (pairs_in N tables) tables.variables (pair_of N) (λ y. refl) (N c.args.claim) c.args.messages.now (map N c.args.challenges.now)
    (g.met.EF.Field.number_below c.args.claim) c.requires.messages wrong _ (returns-then-index-clause-found g c)

-- it does not
pub loop-i-preserved : goal.loop-i-preserved
loop-i-preserved g c =
    let e = g.EF.Field in
    let o = e.ops in
    let N = e.number in
    let inv = c.loop-i.invariant in
    let now = c.loop-i.tables in
    let new = c.bind.new.self in
    let i = c.loop-i.i in
    let ms = c.args.messages.now in
    let rs = c.args.challenges.now in
    let m = new.variables in
    let more : now.variables ≡ suc m = c.bind.ensures.fewer ∙ omega arith in
    let ps = pairs_in N c.args.tables in
    let qs = pairs_in N now in
    let found = subst (λ k. Finds o ps qs k (N c.args.claim) (N c.loop-i.claim) (N c.loop-i.truth) i (map (pair_of N) ms) (map N rs)) more inv.finds in
    let y = c.index-messages-i.result in
    let h = c.message-honest.result in
    record {
      left = omega (arith, inv.left, more);
      finds = finds-more o g.met.EF.Field.is_field.ring ps qs m N (pair_of N) ms rs i (N c.args.claim) (N c.loop-i.claim) (N c.loop-i.truth) found y c.index-challenges-i.result
          (omega (arith, c.loop-i-test.true, c.requires.messages, c.requires.challenges)) c.loop-i-test.true c.index-messages-i.is c.index-challenges-i.is
          (omega (arith, c.requires.messages, c.requires.challenges, inv.left, more)) (N c.reduce_claim-next.result) (N c.reduce_claim-next_truth.result)
          c.reduce_claim-next.ensures.claim (pair_of N h) (c.message-honest.ensures ∙ ap (λ k. merged_message o (half_rows k) qs) more) c.reduce_claim-next_truth.ensures.claim
          (λ same. c.if-index.false (c.index.ensures ∙ same ∙ sym c.index-in-loop-i.ensures)) (pairs_in N new) c.bind.ensures.bound;
    }

-- it never does
pub returns-clause-found : goal.returns-clause-found
returns-clause-found g c =
    let e = g.EF.Field in
    let ms = c.args.messages.now in
    sym (finds-none e.ops c.loop-i.i (map (pair_of e.number) ms) c.loop-i.invariant.finds
    (omega (arith, c.loop-i-test.false, c.requires.messages, c.requires.challenges, length-map ms (pair_of e.number))))

-- which cannot be where it was false and ends as the true one
pub returns-clause-some : goal.returns-clause-some
returns-clause-some g c = λ wrong right.
    let e = g.EF.Field in
    let N = e.number in
    let tables = c.args.tables in
    let rs = c.args.challenges.now in
    absurd
    (some-turn e.ops g.met.EF.Field.is_field (pairs_in N tables) tables.variables (pair_of N) (λ y. refl) (N c.args.claim) c.args.messages.now (map N rs)
    (g.met.EF.Field.number_below c.args.claim) c.requires.messages wrong (length-map rs N ∙ c.requires.challenges) right (returns-clause-found g c))
