-- The roles so far are those in the links before this one.
use Rattle.std.proofs.Common.{◌≡◌, ◌≤◌, take}
use Rattle.std.specs.Prelude.{count_by}
use Rattle.rss_base.specs.Listings.{has_role}
use Rattle.rss_catalog.proofs.entries.roles_in.Given as goal

abbrev pub invariant-loop-link : goal.invariant-loop-link
invariant-loop-link l = record {
  counted : l.roles ≡ count_by (has_role l.relation) (take l.link-index l.links);
  few : l.roles ≤ l.link-index;
}
