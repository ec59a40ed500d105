use Rattle.std.proofs.Common.{◌≡◌, ◌+◌, length, map}
use Rattle.sc_transcript.specs.Data.{pair_of}
use Rattle.sc_merged.specs.MergedViews.{left_in, pairs_in}
use Rattle.sc_merged.proofs.TurnLaws.{Finds}
use Rattle.sc_merged.proofs.turn.find_turn.Given as goal

abbrev pub invariant-loop-i : goal.invariant-loop-i
invariant-loop-i g l =
    let e = g.EF.Field in
    let N = e.number in
    record {
      left : left_in l.tables + l.i ≡ length l.challenges;
      finds : Finds e.ops (pairs_in N l.fn.tables) (pairs_in N l.tables) (left_in l.tables) (N l.fn.claim) (N l.claim) (N l.truth) l.i (map (pair_of N) l.messages)
          (map N l.challenges);
    }
