-- The links before this one may stand beside the relations.
use Rattle.std.proofs.Common.{◌≡◌, ℕ, ◌<◌, get_or, Some, None}
use Rattle.rss_base.specs.declared.link.LinkEntry.{LinkEntry}
use Rattle.rss_catalog.specs.Checking.{IsLinkIn}
use Rattle.rss_catalog.proofs.checking.may_all_link.Given as goal

abbrev pub invariant-loop-link : goal.invariant-loop-link
invariant-loop-link l = (k : ℕ) (link : LinkEntry) → k < l.link-index → get_or l.links k None ≡ Some link → IsLinkIn l.relations link
