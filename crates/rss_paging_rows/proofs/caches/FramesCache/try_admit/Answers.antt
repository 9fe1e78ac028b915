use Rattle.std.proofs.Common.{inl, rules}
use Rattle.rss_paging_rows.proofs.caches.FramesCache.try_admit.Goals as goal

-- a frame is free
pub put-requires : goal.put-requires
put-requires c = inl (search rules)
