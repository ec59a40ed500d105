use Rattle.std.proofs.Common.{◌≡◌, ◌<◌, All, take}
use Rattle.sc_definitions.specs.Seeds.{nibbles}
use Rattle.sc_challenger.proofs.separator.nibbles.Given as goal

abbrev pub invariant-loop-byte : goal.invariant-loop-byte
invariant-loop-byte l = record {
  words : l.words.items ≡ nibbles (take l.byte-index l.bytes);
  below : All (λ w. w < 16) l.words.items;
}
