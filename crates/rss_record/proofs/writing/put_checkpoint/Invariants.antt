use Rattle.std.proofs.Common.{◌≡◌, ◌+◌, ◌*◌, ◌∷◌, length, take}
use Rattle.std.specs.List.{AllByRecursion}
use Rattle.rss_base.specs.LogRecords.{marks_bytes, DoesMarkFit}
use Rattle.rss_record.specs.Writing.{Puts}
use Rattle.rss_record.proofs.writing.put_checkpoint.Given as goal

abbrev pub invariant-loop-by : goal.invariant-loop-by
invariant-loop-by l = record {
  long : length l.into ≡ 4400;
  end : l.end ≡ 2 + 12 * l.by-index;
  puts : Puts 0 (9 ∷ length l.marks ∷ marks_bytes (take l.by-index l.marks)) l.fn.into l.into;
  fits : AllByRecursion DoesMarkFit (take l.by-index l.marks);
}
