use Rattle.std.proofs.Common.{◌≡◌, drop}
use Rattle.rss_device.specs.MemPages.{stored_in}
use Rattle.rss_device.proofs.stored.stored_of.Given as goal

abbrev pub invariant-loop-place : goal.invariant-loop-place
invariant-loop-place l = stored_in (drop l.place-index l.places) l.key ≡ stored_in l.places l.key
