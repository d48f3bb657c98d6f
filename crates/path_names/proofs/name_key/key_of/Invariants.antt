use Rattle.std.proofs.Common.{◌≡◌, ◌<◌, ◌*◌, ◌^◌, take}
use Rattle.path_names.specs.NameKeys.{key_of}
use Rattle.path_names.proofs.name_key.key_of.Given as goal

abbrev pub invariant-loop-byte : goal.invariant-loop-byte
invariant-loop-byte l = record {
  value : l.key ≡ key_of (take l.byte-index l.name);
  below : l.key < 2 * 256 ^ l.byte-index;
}
