use Rattle.std.proofs.Common.{◌≡◌, ◌∙◌, ◌≤◌, ℕ, List, ap, subst, sym, arith}
use Rattle.std.specs.Prelude.{is_some, take, All}
use Rattle.std.proofs.lemmas.Option.{same_Some}
use Rattle.rss_base.specs.TupleTypes.{key_width, most_key_width}
use Rattle.rss_base.specs.declared.relation.RelationEntry.{RelationEntry}
use Rattle.rss_stored.proofs.ImageFields.{chosen_kinds}
use Rattle.rss_value.specs.Numbers.{IsNumberOf}
use Rattle.rss_entries.specs.Rooms.{width_of}
use Rattle.rss_session.specs.Parts.{view}
use Rattle.rss_session.proofs.FilledRooms.{planned_numbers, planned_narrow}
use Rattle.rss_session.proofs.Searched.{searches_on, has_tables_of, entries_found}
use Rattle.rss_session.proofs.session.Session.entries_of.Goals as goal

pub entries_of-requires-clause-there : goal.entries_of-requires-clause-there
entries_of-requires-clause-there g c = ap is_some c.requires.planned.plans.at

pub entries_of-requires-clause-numbers : goal.entries_of-requires-clause-numbers
entries_of-requires-clause-numbers g c = λ relation at.
    let plans = c.requires.planned.plans in
    let same : plans.within ≡ relation = same_Some _ _ (sym plans.at ∙ at) in
    subst (λ (its : RelationEntry × List ℕ). All (IsNumberOf its.0.fields) its.1) (λ i. (same i, ap (λ n. take n c.args.image.now.fields) (sym c.from.ensures) i)) (planned_numbers plans)

pub entries_of-requires-clause-narrow : goal.entries_of-requires-clause-narrow
entries_of-requires-clause-narrow g c = λ relation at.
    let plans = c.requires.planned.plans in
    let same : plans.within ≡ relation = same_Some _ _ (sym plans.at ∙ at) in
    let narrow = subst (λ (r : RelationEntry). width_of c.args.image.now r ≤ most_key_width) same (planned_narrow plans) in
    let which = take c.from.result c.args.image.now.fields in
    omega (arith, narrow, ap key_width (chosen_kinds which relation.fields), ap (λ n. width_of (record c.args.image.now { count = n }) relation) c.from.ensures)

pub returns-clause-searches : goal.returns-clause-searches
returns-clause-searches g c =
    let old = view g.S.Pages.view c.args.self.now in
    let plans = c.requires.planned.plans in
    searches_on old c.requires.ready (g.met.S.Pages.are_counted c.args.self.now.store.tuples.pages) (g.met.S.Pages.are_counted c.entries_of.new.tuples.pages) c.entries_of.ensures.did
    (λ place is told. has_tables_of c.args.image.now.relation c.requires.ready told plans.at (c.entries_of.ensures.fault plans.within place is told))

pub returns-clause-are : goal.returns-clause-are
returns-clause-are g c =
    let old = view g.S.Pages.view c.args.self.now in
    let does = c.entries_of.ensures in
    let plans = c.requires.planned.plans in
    entries_found old c.args.image.now plans.within plans.at (ap (λ n. take n c.args.image.now.fields) c.from.ensures) does.did.step (λ v. v.items) c.entries_of.result (does.few plans.within plans.at) (does.long plans.within plans.at) does.rising (does.are plans.within)
