use Rattle.std.proofs.Common.{ℕ, ◌∙◌, subst, rules, arith}
use Rattle.std.proofs.lemmas.Result.{err_from_is_err_and}
use Rattle.rss_pagemap.specs.Taking.{BeginsArea}
use Rattle.rss_pagemap.proofs.Areas.{entry_of_page, entry_part, taken_long, area_more, page_refused}
use Rattle.rss_pagemap.proofs.reading.Reading.take_page.Goals as goal

pub returns-in_err-take_entry-clause-refused : goal.returns-in_err-take_entry-clause-refused
returns-in_err-take_entry-clause-refused c =
    let p = err_from_is_err_and c.from_residual.result c.from_residual.ensures.1 in
    rw (p.1, p.2) (page_refused {place = c.loop-place.place} {here = c.copy_from_slice.new.self} c.loop-place-test.true (c.copy_from_slice.ensures.after ∙ entry_part c.loop-place.place c.args.page.now) (omega arith) c.loop-place.invariant.taken (rw c.loop-place.invariant.slots at c.in_err-take_entry.ensures.refused))

pub loop-place-preserved : goal.loop-place-preserved
loop-place-preserved c =
    let within = c.loop-place.invariant.reading.within in
    let taken = rw c.loop-place.invariant.slots at c.in_ok-take_entry.ensures.taken in
    let more = taken_long c.loop-place.self.owners.items _ taken in
    record {
      reading = search rules;
      slots = search rules;
      long = omega arith;
      taken = λ pages first at same begins. subst (λ (n : ℕ). BeginsArea c.args.self.now.slots pages first n c.take_entry.new.self.owners.items) (omega arith) (area_more c.loop-place.self.owners.items _ c.in_ok-take_entry.ensures.reading.distinct (c.copy_from_slice.ensures.after ∙ entry_part c.loop-place.place c.args.page.now ∙ entry_of_page pages first at c.loop-place.place _ c.loop-place-test.true same) (c.loop-place.invariant.taken pages first at same begins) taken);
    }
