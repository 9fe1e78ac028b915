use Rattle.rss_rsi.proofs.engine.Rss.granule_needs.Goals as goal

pub returns-in-Relation-true-clause-lists : goal.returns-in-Relation-true-clause-lists
returns-in-Relation-true-clause-lists g c = rw (c.in-Relation-true.is-0, c.in-Relation-true.is-1) c.relation_needs.ensures.lists

pub returns-in-Relation-false-clause-lists : goal.returns-in-Relation-false-clause-lists
returns-in-Relation-false-clause-lists g c = rw (c.in-Relation-false.is-0, c.in-Relation-false.is-1) c.relation_needs-in-Relation-false.ensures.lists
