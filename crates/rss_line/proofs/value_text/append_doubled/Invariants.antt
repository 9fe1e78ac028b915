use Rattle.std.proofs.Common.{◌≡◌, ◌≤◌, ◌++◌, take, vec_capacity}
use Rattle.rss_model.specs.Spellings.{doubled}
use Rattle.rss_line.proofs.value_text.append_doubled.Given as goal

abbrev pub invariant-loop-byte : goal.invariant-loop-byte
invariant-loop-byte l = record {
  said : l.into.items ≡ l.initial.into.items ++ doubled (take l.byte-index l.text);
  room : vec_capacity l.initial.into ≤ vec_capacity l.into;
}
