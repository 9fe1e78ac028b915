use Rattle.std.proofs.Common.{inl, inr, ℕ, ◌+◌, Err, ap, ◌∙◌, subst, rules, arith}
use Rattle.std.proofs.lemmas.Result.{err_from_is_err_and}
use Rattle.rss_base.specs.DiskRule.{page}
use Rattle.rss_base.specs.Layout.{map_at}
use Rattle.rss_base.proofs.Moments.{reads_then, rises_since}
use Rattle.rss_pagemap.specs.Taking.{BeginsArea}
use Rattle.rss_pagemap.proofs.Maps.{same_map, no_fault}
use Rattle.rss_pagemap.proofs.Areas.{area_all, one_answer, refused_fault, refused_place, refused_device, refused_layout, refused_one}
use Rattle.rss_pagemap.proofs.reading.read_table.Goals as goal

pub returns-in_err-read-clause-did : goal.returns-in_err-read-clause-did
returns-in_err-read-clause-did g c = record {
  reads = reads_then c.loop-at.invariant.reads c.read.ensures.did.reads;
  failed = λ is. rises_since c.loop-at.invariant.reads.later (c.read.ensures.did.failed (search rules));
}

pub returns-in_err-take_page-clause-did : goal.returns-in_err-take_page-clause-did
returns-in_err-take_page-clause-did g c =
    let p = err_from_is_err_and c.from_residual-in_err-take_page.result c.from_residual-in_err-take_page.ensures.1 in
    record {
      reads = reads_then c.loop-at.invariant.reads c.read.ensures.did.reads;
      failed = λ is. absurd (refused_device c.in_err-take_page.ensures.refused (one_answer p.1 p.2 is));
    }

pub returns-in_err-take_page-clause-fault : goal.returns-in_err-take_page-clause-fault
returns-in_err-take_page-clause-fault g c = λ place is pages told.
    let p = err_from_is_err_and c.from_residual-in_err-take_page.result c.from_residual-in_err-take_page.ensures.1 in
    refused_fault (rw c.loop-at.invariant.slots at c.in_err-take_page.ensures.refused) (one_answer p.1 p.2 is) pages _ c.loop-at.at (omega arith)
    (c.in_ok-read.ensures.page pages (c.loop-at.invariant.reads.contents ∙ told) ∙ ap (λ (n : ℕ). page pages (n + c.loop-at.at)) c.loop-at.invariant.first) (c.loop-at.invariant.begins pages told)

pub returns-in_err-take_page-clause-broken : goal.returns-in_err-take_page-clause-broken
returns-in_err-take_page-clause-broken g c = λ place pages told broken.
    let p = err_from_is_err_and c.from_residual-in_err-take_page.result c.from_residual-in_err-take_page.ensures.1 in
    elim (refused_one c.requires.formed.slots_most (rw c.loop-at.invariant.slots at c.in_err-take_page.ensures.refused) pages _ c.loop-at.at (omega arith)
    (c.in_ok-read.ensures.page pages (c.loop-at.invariant.reads.contents ∙ told) ∙ ap (λ (n : ℕ). page pages (n + c.loop-at.at)) c.loop-at.invariant.first) (c.loop-at.invariant.begins pages told) broken) [
      | inl same ↦ inl (p.1 ∙ ap Err (p.2 ∙ same))
      | inr lacks ↦ inr (inr (p.1 ∙ ap Err (p.2 ∙ lacks)))
    ]

pub returns-in_err-take_page-clause-place : goal.returns-in_err-take_page-clause-place
returns-in_err-take_page-clause-place g c = λ place is.
    let p = err_from_is_err_and c.from_residual-in_err-take_page.result c.from_residual-in_err-take_page.ensures.1 in
    refused_place (rw c.loop-at.invariant.slots at c.in_err-take_page.ensures.refused) (one_answer p.1 p.2 is)

pub loop-at-preserved : goal.loop-at-preserved
loop-at-preserved g c = record {
  first = search rules;
  reading = search rules;
  slots = search rules;
  long = omega (arith, c.in_ok-take_page.ensures.long);
  begins = λ pages told.
      let taken = rw c.loop-at.invariant.slots at c.in_ok-take_page.ensures.taken in
      let here = c.in_ok-read.ensures.page pages (c.loop-at.invariant.reads.contents ∙ told) ∙ ap (λ (n : ℕ). page pages (n + c.loop-at.at)) c.loop-at.invariant.first in
      subst (λ (n : ℕ). BeginsArea c.args.root.now.slots pages (map_at c.args.root.now.slots c.args.root.now.area) n c.take_page.new.self.owners.items) (omega arith) (taken pages _ c.loop-at.at here (c.loop-at.invariant.begins pages told));
  reads = reads_then c.loop-at.invariant.reads c.read.ensures.did.reads;
  size = search rules;
}

pub returns-clause-found : goal.returns-clause-found
returns-clause-found g c = λ pages told. rw c.into_table.ensures (area_all (omega arith) (c.loop-at.invariant.begins pages told))

pub returns-clause-only : goal.returns-clause-only
returns-clause-only g c = λ owners pages told map. c.into_table.ensures ∙ same_map c.requires.formed.slots_most (area_all (omega arith) (c.loop-at.invariant.begins pages told)) map

pub returns-clause-broken : goal.returns-clause-broken
returns-clause-broken g c = λ place pages told broken. absurd (no_fault c.requires.formed.slots_most (area_all (omega arith) (c.loop-at.invariant.begins pages told)) broken)

pub returns-in_err-take_page-clause-layout : goal.returns-in_err-take_page-clause-layout
returns-in_err-take_page-clause-layout g c =
    let p = err_from_is_err_and c.from_residual-in_err-take_page.result c.from_residual-in_err-take_page.ensures.1 in
    rw (p.1, p.2) (refused_layout c.in_err-take_page.ensures.refused)
