use Rattle.std.proofs.Common.{◌≡◌, ◌+◌, ◌≤◌, length, vec_len}
use Rattle.rss_lock.specs.Table.{AllAgree, HoldersAreFew, mode_of, told}
use Rattle.rss_lock.proofs.Granting.{IsFree}
use Rattle.rss_lock.proofs.Machine.{given_all}
use Rattle.rss_lock.proofs.locks.Locks.take.Given as goal

abbrev pub invariant-loop-need : goal.invariant-loop-need
invariant-loop-need l = record {
  taken : given_all l.transaction l.need-iterator.rest.items (mode_of l.self) ≡ given_all l.transaction l.fn.needs.items (mode_of l.fn.self);
  free : IsFree (mode_of l.self) l.transaction l.need-iterator.rest.items;
  room : length l.need-iterator.rest.items ≤ (told l.self).spare;
  kept : (told l.fn.self).spare + length l.need-iterator.rest.items ≤ (told l.self).spare + vec_len l.fn.needs;
  few : HoldersAreFew (mode_of l.self) l.transaction;
  agreed : AllAgree (mode_of l.self);
}
