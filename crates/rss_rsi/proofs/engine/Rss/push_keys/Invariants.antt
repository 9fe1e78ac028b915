-- The keys of the images that were passed stand behind the other needs.
use Rattle.std.proofs.Common.{◌+◌, ◌*◌, ◌≤◌, vec_len}
use Rattle.std.specs.Prelude.{option_copied}
use Rattle.rss_rsi.specs.Locking.{given, AreSayable}
use Rattle.rss_rsi.specs.Parts.{parts_of}
use Rattle.rss_rsi.proofs.KeyLocks.{AllPassed}
use Rattle.rss_rsi.proofs.engine.Rss.push_keys.Given as goal

abbrev pub invariant-loop-place : goal.invariant-loop-place
invariant-loop-place g l = record {
  keys : AllPassed (parts_of l.self) l.number (given (option_copied l.was) (option_copied l.to)) l.fn.needs.items l.needs.items l._place l.after;
  few : vec_len l.needs ≤ vec_len l.fn.needs + 2 * l._place;
  sayable : AreSayable l.needs.items;
}
