use Rattle.std.proofs.Common.{◌≡◌, ◌≤◌, length, take}
use Rattle.std.specs.Str.{chars, encode_utf8_all}
use Rattle.rhai_places.proofs.chars.char_offset.Given as goal

abbrev pub invariant-loop-c : goal.invariant-loop-c
invariant-loop-c l = record {
  counted : l.passed ≡ length l.yielded;
  within : l.passed ≤ l.count;
  some : l.passed ≤ length (chars l.text);
  reached : l.offset ≡ length (encode_utf8_all (take l.passed (chars l.text)));
}
