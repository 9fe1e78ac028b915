use Rattle.rss_catalog.proofs.NamesIn.{AreNamesBefore}
use Rattle.rss_catalog.proofs.catalog.Catalog.relations_in.Given as goal

abbrev pub invariant-loop-relation : goal.invariant-loop-relation
invariant-loop-relation l =
    AreNamesBefore l.self.listing.relations l.segment l.relation-index l.names.items
