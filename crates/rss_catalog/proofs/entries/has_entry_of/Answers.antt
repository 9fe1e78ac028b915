-- An entry was found at its place, or at none of the places.
use Rattle.std.proofs.Common.{◌∙◌, sym, refl}
use Rattle.rss_catalog.proofs.Tested.{found_entry, no_entry}
use Rattle.rss_catalog.proofs.entries.has_entry_of.Goals as goal

pub returns-in-loop-entry : goal.returns-in-loop-entry
returns-in-loop-entry g c = (
  λ yes. found_entry g.E.Entry.belongs c.args.entries.now c.loop-entry.entry-index c.args.number _ _ c.loop-entry-test.true c.entry-item.is c.in-Some.is (sym c.belongs.ensures ∙ c.if-belongs.true),
  λ has. refl,
)

pub returns : goal.returns
returns g c = (
  λ no. absurd (cc),
  λ has. absurd (no_entry g.E.Entry.belongs c.args.entries.now c.loop-entry.entry-index c.args.number c.loop-entry-test.false c.loop-entry.invariant has),
)
