use Rattle.std.proofs.Common.{◌≡◌, ◌↔◌, true, List, [], refl, sym, subst}
use Rattle.std.specs.Prelude.{Some, None, Contains}
use Rattle.std.specs.HashMap.{spare}
use Rattle.std.specs.List.{dedup}
use Rattle.std.specs.List.Sorted.{IsStrictlySortedBy}
use Rattle.std.proofs.lemmas.List.Filters.{dedup_is}
use Rattle.rss_base.specs.declared.tid.Tid.{Tid}
use Rattle.rss_base.proofs.Equal.{same_tid}
use Rattle.rss_lock.specs.Locks.{is_barred, tid_cmp}
use Rattle.rss_lock.specs.Table.{Table, table, mode_of, locks_of}
use Rattle.rss_lock.proofs.Listing.{Entry, IsBarred, Gathers, gathers_skip, gathers_one, barred_iff, sorted_iff, sorted_strictly}
use Rattle.rss_lock.proofs.Machine.{tells}
use Rattle.rss_lock.proofs.Firsts.{barred_iff_told}
use Rattle.rss_lock.proofs.locks.Locks.barred.Goals as goal

pub loop-item-preserved-in-Continue-1 : goal.loop-item-preserved-in-Continue-1
loop-item-preserved-in-Continue-1 c =
    let tells = c.in-Some-barred_tid.ensures in
    subst (Gathers c.self.inside.holders.places c.args.transaction c.args.relations.now c.self.inside.items.entries c.next.new.self) (sym c.in_ok-push.ensures.items)
    (gathers_one c.self.inside.holders.places c.args.transaction c.args.relations.now c.self.inside.items.entries c.loop-item.item-iterator c.loop-item.into.items (c.in-Some.item.now, c.in-Some.grants.now) c.next.new.self c.in-Some-barred_tid.tid c.in-Some.ensures.steps ((tells c.in-Some-barred_tid.tid).0 refl)
    (λ tid bars. let same : Some c.in-Some-barred_tid.tid ≡ Some tid = (tells tid).1 bars in cc) c.loop-item.invariant)

pub loop-item-preserved : goal.loop-item-preserved
loop-item-preserved c =
    let tells = c.in_default.ensures in
    gathers_skip c.self.inside.holders.places c.args.transaction c.args.relations.now c.self.inside.items.entries c.loop-item.item-iterator c.loop-item.into.items (c.in-Some.item.now, c.in-Some.grants.now) c.next.new.self c.in-Some.ensures.steps
    (λ tid bars. let same : None ≡ Some tid = (tells tid).1 bars in cc) c.loop-item.invariant

pub returns-clause-exact : goal.returns-clause-exact
returns-clause-exact c = λ tid.
    let entries : List Entry = c.self.inside.items.entries in
    let one : c.dedup.new.self.items ≡ dedup same_tid c.sort_unstable.new.self.items = dedup_is same_tid c.sort_unstable.new.self.items c.dedup.new.self.items c.dedup.ensures.filtered in
    let gathered : Gathers c.self.inside.holders.places c.args.transaction c.args.relations.now entries [] c.loop-item.into.items = subst (λ (rest : List Entry). Gathers c.self.inside.holders.places c.args.transaction c.args.relations.now entries rest c.loop-item.into.items) c.in-None.ensures.steps.0 c.loop-item.invariant in
    let listed = barred_iff (table c.self.inside.holders.places c.self.inside.firsts entries (spare c.self.inside.items)) c.self.invariant c.args.transaction c.args.relations.now c.iter-item-items.ensures.found c.loop-item.into.items gathered tid in
    let sorted = sorted_iff c.loop-item.into.items c.sort_unstable.new.self.items c.sort_unstable.ensures.permutation tid in
    let told : Contains (dedup same_tid c.sort_unstable.new.self.items) tid ↔ IsBarred (mode_of c.args.self.now) c.args.transaction c.args.relations.now tid =
    subst (λ (t : Table). Contains (dedup same_tid c.sort_unstable.new.self.items) tid ↔ IsBarred (mode_of t) c.args.transaction c.args.relations.now tid) c.self.view_is
    ((λ there. listed.0 (sorted.0 there), λ barred. sorted.1 (listed.1 barred))) in
    let says = barred_iff_told (locks_of c.args.self.now) (mode_of c.args.self.now) (tells c.args.self.now) c.args.transaction tid c.args.relations.now in
    subst (λ (l : List Tid). Contains l tid ↔ (is_barred (locks_of c.args.self.now) c.args.transaction c.args.relations.now tid ≡ true)) (sym one)
    ((λ there. says.1 (told.0 there), λ is. told.1 (says.0 is)))

pub returns-clause-order : goal.returns-clause-order
returns-clause-order c =
    let one : c.dedup.new.self.items ≡ dedup same_tid c.sort_unstable.new.self.items = dedup_is same_tid c.sort_unstable.new.self.items c.dedup.new.self.items c.dedup.ensures.filtered in
    subst (IsStrictlySortedBy tid_cmp) (sym one) (sorted_strictly c.sort_unstable.new.self.items c.sort_unstable.ensures.sorted)
