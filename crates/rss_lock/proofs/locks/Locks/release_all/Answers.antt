use Rattle.std.proofs.Common.{◌≡◌, ◌∙◌, List, ap, sym, subst}
use Rattle.std.specs.HashMap.{spare}
use Rattle.std.specs.Prelude.{Option}
use Rattle.rss_lock.specs.declared.places.Holder.{Holder}
use Rattle.rss_lock.specs.Table.{without, IsTable, Table, table, mode_of}
use Rattle.rss_lock.proofs.Telling.{freed_told, freed_table, absent_told}
use Rattle.rss_lock.proofs.Machine.{released_locks}
use Rattle.rss_lock.proofs.locks.Locks.release_all.Goals as goal

pub invariant_of-self : goal.invariant_of-self
invariant_of-self c =
    let inside = c.self.inside in
    subst (λ (places : List (Option Holder)). IsTable (table places inside.firsts inside.items.entries (spare inside.items))) (sym c.set.ensures)
    (freed_table inside.holders.places inside.firsts inside.items.entries (spare inside.items) c.args.transaction c.in-Some.place c.self.invariant c.in-Some.ensures.some)

pub returns-in-Some-clause-released : goal.returns-in-Some-clause-released
returns-in-Some-clause-released c = released_locks c.args.self.now _ c.args.transaction (
    ap (λ (places : List (Option Holder)). mode_of (table places c.self.inside.firsts c.self.inside.items.entries (spare c.self.inside.items))) c.set.ensures
    ∙ freed_told c.self.inside.holders.places c.self.inside.firsts c.self.inside.items.entries (spare c.self.inside.items) c.args.transaction c.in-Some.place c.self.invariant.alone c.in-Some.ensures.some
    ∙ ap (λ (t : Table). without c.args.transaction (mode_of t)) c.self.view_is)

pub returns-in_default-clause-released : goal.returns-in_default-clause-released
returns-in_default-clause-released c = released_locks c.args.self.now c.args.self.now c.args.transaction (subst (λ (t : Table). mode_of t ≡ without c.args.transaction (mode_of t)) c.self.view_is (absent_told (table c.self.inside.holders.places c.self.inside.firsts c.self.inside.items.entries (spare c.self.inside.items)) c.args.transaction c.in_default.ensures.none))
