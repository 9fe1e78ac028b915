use Rattle.std.proofs.Common.{◌≡◌, ◌≤◌, [], ◌++◌, take, vec_capacity}
use Rattle.rss_line.specs.Words.{with_words}
use Rattle.rss_line.proofs.word.append_words.Given as goal

abbrev pub invariant-loop-word : goal.invariant-loop-word
invariant-loop-word l = record {
  said : l.into.items ≡ l.initial.into.items ++ with_words [] (take l.word-index l.words);
  room : vec_capacity l.initial.into ≤ vec_capacity l.into;
}
