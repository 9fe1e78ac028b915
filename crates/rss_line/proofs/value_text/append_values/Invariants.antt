use Rattle.std.proofs.Common.{◌≡◌, ◌≤◌, ◌++◌, take, vec_capacity}
use Rattle.rss_model.specs.ReplyText.{values_text}
use Rattle.rss_line.proofs.value_text.append_values.Given as goal

abbrev pub invariant-loop-value : goal.invariant-loop-value
invariant-loop-value l = record {
  said : l.into.items ≡ l.initial.into.items ++ values_text (take l.value-index l.values);
  room : vec_capacity l.initial.into ≤ vec_capacity l.into;
}
