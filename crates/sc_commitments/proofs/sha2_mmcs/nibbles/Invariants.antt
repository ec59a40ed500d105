use Rattle.std.proofs.Common.{◌≡◌, ◌+◌, ◌<◌, All, take, length}
use Rattle.sc_definitions.specs.Seeds.{nibbles}
use Rattle.sc_commitments.proofs.sha2_mmcs.nibbles.Given as goal

abbrev pub invariant-loop-byte : goal.invariant-loop-byte
invariant-loop-byte l = record {
  words : l.words.items ≡ nibbles (take l.byte-index l.bytes);
  count : length l.words.items ≡ l.byte-index + l.byte-index;
  below : All (λ w. w < 16) l.words.items;
}
