use Rattle.std.proofs.Common.{ℕ, refl, subst, arith}
use Rattle.rss_base.specs.PageMap.{IsKey}
use Rattle.rss_base.specs.Paged.{page_key}
use Rattle.rss_base.specs.declared.key.Space.TheVariants.{Image}
use Rattle.rss_base.proofs.Steps.{rests, done, fails, widens, is_in}
use Rattle.rss_image.proofs.Calls.{damage, page_taken, unmapped_none, spare_taken, taken_mapped, taken_grows, taken_loses}
use Rattle.rss_image.proofs.store.take_page.Goals as goal

pub returns-then-spare-eq0-clause-did : goal.returns-then-spare-eq0-clause-did
returns-then-spare-eq0-clause-did g c = damage (rests _) c.damaged.ensures (λ told. let room = c.requires.room told in absurd (omega (arith, room, c.spare.ensures, c.if-spare-eq0.true)))

pub returns-in_err-number-clause-did : goal.returns-in_err-number-clause-did
returns-in_err-number-clause-did g c = fails _ c.from_residual.ensures.1 (λ key none. absurd none) (omega arith) (omega arith) c.in_err-number.ensures.did

pub returns-clause-fresh : goal.returns-clause-fresh
returns-clause-fresh g c = λ told. unmapped_none (g.P.Pages.view c.args.pages.now) (g.met.P.Pages.holds c.args.pages.now told) (page_key c.args.of.segment Image c.in_ok-number.number) c.in_ok-number.ensures.least.free

pub returns-clause-keeps : goal.returns-clause-keeps
returns-clause-keeps g c = λ told.
    let old = g.P.Pages.view c.args.pages.now in
    let key = page_key c.args.of.segment Image c.in_ok-number.number in
    page_taken c.args.of key old (g.P.Pages.view c.take.new.self) c.in_ok-number.ensures.taken (unmapped_none old (g.met.P.Pages.holds c.args.pages.now told) key c.in_ok-number.ensures.least.free) told

pub returns-clause-loses_none : goal.returns-clause-loses_none
returns-clause-loses_none g c = taken_loses c.args.of c.in_ok-number.number (g.P.Pages.view c.args.pages.now) (g.P.Pages.view c.take.new.self) c.in_ok-number.ensures.taken

pub returns-clause-mapped : goal.returns-clause-mapped
returns-clause-mapped g c = taken_mapped (g.P.Pages.view c.args.pages.now) (g.P.Pages.view c.take.new.self) (page_key c.args.of.segment Image c.in_ok-number.number) c.in_ok-number.ensures.taken

pub returns-clause-spare : goal.returns-clause-spare
returns-clause-spare g c =
    let old = g.P.Pages.view c.args.pages.now in
    let new = g.P.Pages.view c.take.new.self in
    let key = page_key c.args.of.segment Image c.in_ok-number.number in
    let taken = taken_mapped old new key c.in_ok-number.ensures.taken in
    let step = c.in_ok-number.ensures.did.step in
    let key_is : IsKey new.slots key = g.met.P.Pages.allowed c.take.new.self key taken in
    spare_taken old new key (g.met.P.Pages.are_counted c.args.pages.now) (g.met.P.Pages.are_counted c.take.new.self) step.passes.slots step.passes.backing (subst (λ (n : ℕ). IsKey n key) step.passes.slots key_is) c.in_ok-number.ensures.least.free taken step.mapped_off

pub returns-clause-did : goal.returns-clause-did
returns-clause-did g c = widens (is_in (page_key c.args.of.segment Image c.in_ok-number.number) refl) (omega arith) (omega arith) (done _ c.in_ok-number.ensures.did.step)

pub returns-clause-grows : goal.returns-clause-grows
returns-clause-grows g c = taken_grows (g.P.Pages.view c.args.pages.now) (g.P.Pages.view c.take.new.self) (page_key c.args.of.segment Image c.in_ok-number.number) c.in_ok-number.ensures.taken
