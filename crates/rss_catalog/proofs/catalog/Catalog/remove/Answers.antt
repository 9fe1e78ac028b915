-- What was taken away is a segment, a relation, an image or a link.
use Rattle.rss_catalog.proofs.Listed.{removed_segment, removed_relation, removed_image}
use Rattle.rss_catalog.proofs.Links.{removed_link}
use Rattle.rss_catalog.proofs.catalog.Catalog.remove.Goals as goal

pub returns-in-Segment-clause-fits : goal.returns-in-Segment-clause-fits
returns-in-Segment-clause-fits c = removed_segment _ _ c.args.kind c.args.number c.in-Segment.is c.requires.used c.set_segment.ensures.is

pub returns-in-Relation-clause-fits : goal.returns-in-Relation-clause-fits
returns-in-Relation-clause-fits c = λ none. removed_relation _ _ c.args.kind c.args.number c.in-Relation.is c.requires.used c.set_relation.ensures.lists.is (c.requires.no_image c.in-Relation.is) (c.requires.no_link c.in-Relation.is)

pub returns-in-Image-clause-fits : goal.returns-in-Image-clause-fits
returns-in-Image-clause-fits c = λ none. removed_image _ _ c.args.kind c.args.number c.in-Image.is c.requires.used c.set_image.ensures.is

pub returns-in-Link-clause-fits : goal.returns-in-Link-clause-fits
returns-in-Link-clause-fits c = λ none. removed_link _ _ c.args.kind c.args.number c.in-Link.is c.requires.used c.set_link.ensures.is
