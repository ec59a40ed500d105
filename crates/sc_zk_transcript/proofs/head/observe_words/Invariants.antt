use Rattle.std.proofs.Common.{◌≡◌, ◌+◌, ◌≤◌, ◌++◌, length, take}
use Rattle.sc_definitions.specs.Events.{words}
use Rattle.sc_zk_transcript.proofs.head.observe_words.Given as goal

abbrev pub invariant-loop-word : goal.invariant-loop-word
invariant-loop-word g l =
    let c = g.C.Challenger in
    record {
      rules : (c.party l.challenger).rules ≡ (c.party l.initial.challenger).rules;
      history : (c.party l.challenger).history ≡ (c.party l.initial.challenger).history ++ words (take l.word-index l.commitment);
      room : length l.commitment ≤ (c.party l.challenger).spare + l.word-index;
      spare : (c.party l.initial.challenger).spare ≤ (c.party l.challenger).spare + l.word-index;
    }
