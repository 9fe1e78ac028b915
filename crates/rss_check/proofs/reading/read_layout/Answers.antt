use Rattle.std.proofs.Common.{Err, ◌∙◌, ap, arith}
use Rattle.std.proofs.lemmas.Result.{err_from_is_err_and}
use Rattle.rss_stored.specs.Store.{at_root, at_map}
use Rattle.rss_base.proofs.Moments.{reads_none}
use Rattle.rss_pagemap.proofs.Areas.{one_answer}
use Rattle.rss_check.proofs.Refused.{refused_layout, unopened_layout, unopened_memory, unopened_room, opens_then}
use Rattle.rss_check.proofs.reading.read_layout.Goals as goal

-- ---- the layout is out of form

pub returns-in_err-root-clause-refused : goal.returns-in_err-root-clause-refused
returns-in_err-root-clause-refused g c =
    let p = err_from_is_err_and c.from_residual.result c.from_residual.ensures.1 in
    rw (p.1, p.2) (unopened_layout _ c.in_err-root.ensures.layout (λ pages told. refused_layout c.in_err-root.field-0.0 c.in_err-root.ensures.layout (λ place is. at_root (c.in_err-root.ensures.fault place (ap Err is) pages told))))

pub returns-in_err-root-clause-did : goal.returns-in_err-root-clause-did
returns-in_err-root-clause-did g c =
    let p = err_from_is_err_and c.from_residual.result c.from_residual.ensures.1 in
    opens_then (reads_none _) c.in_err-root.ensures.did (λ fault is. ap Err (one_answer p.1 p.2 is))

pub returns-in_err-table-clause-refused : goal.returns-in_err-table-clause-refused
returns-in_err-table-clause-refused g c =
    let p = err_from_is_err_and c.from_residual-in_err-table.result c.from_residual-in_err-table.ensures.1 in
    rw (p.1, p.2) (unopened_layout _ c.in_err-table.ensures.layout (λ pages told. refused_layout c.in_err-table.field-0.0 c.in_err-table.ensures.layout (λ place is. at_map (c.in_ok-root.ensures.found pages told) (c.in_err-table.ensures.fault place (ap Err is) pages (c.load.ensures.did.reads.contents ∙ told)))))

pub returns-in_err-table-clause-did : goal.returns-in_err-table-clause-did
returns-in_err-table-clause-did g c =
    let p = err_from_is_err_and c.from_residual-in_err-table.result c.from_residual-in_err-table.ensures.1 in
    opens_then c.load.ensures.did.reads c.in_err-table.ensures.did (λ fault is. ap Err (one_answer p.1 p.2 is))

-- ---- its map has too many pages

pub returns-then-pages_in-root-clause-refused : goal.returns-then-pages_in-root-clause-refused
returns-then-pages_in-root-clause-refused g c = unopened_room (λ pages told. record {
  number = c.in_ok-root.number;
  root = c.in_ok-root.root;
  owners = c.in_ok-table.table;
  root_there = c.in_ok-root.ensures.found pages told;
  map = c.in_ok-table.ensures.found pages (c.load.ensures.did.reads.contents ∙ told);
  over = omega (arith, c.pages_in.ensures.pages, c.if-pages_in-root.true);
})

-- ---- its log ends too far

pub returns-then-root-ge-POSITION_MOST-clause-refused : goal.returns-then-root-ge-POSITION_MOST-clause-refused
returns-then-root-ge-POSITION_MOST-clause-refused g c = unopened_memory _
