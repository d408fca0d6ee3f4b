use Rattle.std.proofs.Common.{◌≡◌, drop}
use Rattle.int_vectors.specs.Signs as words
use Rattle.int_vectors.proofs.signs.signs_of.Given as goal

-- the signs of the entries that are left make the words whole
abbrev pub invariant-loop-at : goal.invariant-loop-at
invariant-loop-at l = record {
  up : words.marked words.is_positive l.up l.at (drop l.at l.z) ≡ words.marked words.is_positive 0 0 l.z;
  down : words.marked words.is_negative l.down l.at (drop l.at l.z) ≡ words.marked words.is_negative 0 0 l.z;
}
