use Rattle.std.proofs.Common.{◌∙◌, arith, ap}
use Rattle.std.specs.Prelude.{is_some}
use Rattle.rss_base.specs.Listings.{relation_at}
use Rattle.rss_base.specs.TupleTypes.{kinds}
use Rattle.rss_base.specs.declared.place.Place.TheVariants.{Tuple as TuplePlace}
use Rattle.rss_catalog.specs.Catalogs.{CatalogView}
use Rattle.rss_model.proofs.Lengths.{row_line}
use Rattle.rss_rsi.specs.Parts.{session_of}
use Rattle.rss_rsi.proofs.Bodied.{comes_before, idle_still, lent_there, still_looks}
use Rattle.rss_rsi.proofs.Looks.{still_at, few_fields}
use Rattle.rss_rsi.proofs.Members.{passed_read, read_ends, read_there}
use Rattle.rss_rsi.proofs.engine.Rss.read.Goals as goal

pub returns-in_err-at-clause-ends : goal.returns-in_err-at-clause-ends
returns-in_err-at-clause-ends g c =
    let there = c.in_err-at.ensures.ends.by in
    passed_read c.args.number c.args.tid c.from_residual.result c.from_residual.ensures.1 (read_there c.args.number c.args.tid c.relation.ensures.is there.0 there.1)

pub tuple_at-requires-clause-up : goal.tuple_at-requires-clause-up
tuple_at-requires-clause-up g c = c.in_ok-at.ensures.ends.by.0

pub tuple_at-requires-clause-known : goal.tuple_at-requires-clause-known
tuple_at-requires-clause-known g c = ap (λ (catalog : CatalogView). is_some (relation_at catalog.listing c.args.number)) c.in_ok-at.ensures.ends.by.1.looks.catalog ∙ c.requires.known

pub tuple_at-requires-clause-there : goal.tuple_at-requires-clause-there
tuple_at-requires-clause-there g c = c.in_ok-at.ensures.ends.by.1.there

pub returns-clause-ends : goal.returns-clause-ends
returns-clause-ends g c =
    let there = c.in_ok-at.ensures.ends.by.1 in
    let read = c.tuple_at.ensures in
    let comes = read.comes c.relation.result.now (still_at c.args.number there.looks.catalog c.relation.ensures.is) in
    read_ends c.args.number c.args.tid c.relation.ensures.is (still_looks g.S.Pages.view (session_of c.args.self.now) read.session there.looks)
    (TuplePlace c.relation.result.now.segment c.args.tid) c.tuple_at.new.self.down (lent_there there.stands there.looks.goes.told.0 comes)
    (λ values its. let spelled = its.is.spelled in row_line c.args.tid (kinds c.relation.result.now.fields) values (omega arith) (omega arith) spelled.fit c.relation.ensures.safe.narrow (few_fields c.relation.ensures.safe) spelled.storable)
    c.tuple_at.result (comes_before there.looks.catalog comes) read.ends

pub returns-clause-idle : goal.returns-clause-idle
returns-clause-idle g c = idle_still g.S.Pages.view (session_of c.args.self.now) c.tuple_at.ensures.session c.in_ok-at.ensures.idle
