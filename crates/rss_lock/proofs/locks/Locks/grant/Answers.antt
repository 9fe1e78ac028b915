use Rattle.std.proofs.Common.{◌∙◌, ap, subst, sym}
use Rattle.std.specs.HashMap.{spare}
use Rattle.rss_lock.specs.Table.{AllAgree, HoldersAreFew, IsUnbarred, given, Table, table, mode_of, modes_on}
use Rattle.rss_lock.proofs.Granting.{given_agrees}
use Rattle.rss_lock.proofs.Telling.{room_for, placed, covered_told, covered_table, as_made, granted_told, granted_table}
use Rattle.rss_lock.proofs.locks.Locks.grant.Goals as goal

pub place_for-place-requires-clause-few : goal.place_for-place-requires-clause-few
place_for-place-requires-clause-few c =
    let old : Table = table c.self.inside.holders.places c.self.inside.firsts c.self.inside.items.entries (spare c.self.inside.items) in
    room_for old c.args.transaction c.self.invariant (subst (λ (t : Table). HoldersAreFew (mode_of t) c.args.transaction) (sym c.self.view_is) c.requires.few)

pub invariant_of-self : goal.invariant_of-self
invariant_of-self c =
    let old : Table = table c.self.inside.holders.places c.self.inside.firsts c.self.inside.items.entries (spare c.self.inside.items) in
    let seat = c.place_for-place in
    let at = placed c.args.transaction old seat.new.self.places seat.new.firsts seat.result c.self.invariant seat.ensures.within seat.ensures.place in
    let modes = c.modes_on-modes.ensures ∙ ap (modes_on seat.new.self.places) c.get.ensures.value in
    covered_table c.args.transaction old seat.new.self.places seat.new.firsts seat.result c.self.invariant at seat.ensures.within c.args.need c.modes_on-modes.result modes (c.covers.ensures.0 c.if-covers.true)

pub returns-then-covers-clause-granted : goal.returns-then-covers-clause-granted
returns-then-covers-clause-granted c =
    let old : Table = table c.self.inside.holders.places c.self.inside.firsts c.self.inside.items.entries (spare c.self.inside.items) in
    let seat = c.place_for-place in
    let at = placed c.args.transaction old seat.new.self.places seat.new.firsts seat.result c.self.invariant seat.ensures.within seat.ensures.place in
    let modes = c.modes_on-modes.ensures ∙ ap (modes_on seat.new.self.places) c.get.ensures.value in
    covered_told c.args.transaction old seat.new.self.places seat.new.firsts seat.result c.self.invariant at seat.ensures.within c.args.need c.modes_on-modes.result modes (c.covers.ensures.0 c.if-covers.true)
    ∙ ap (λ (t : Table). given (mode_of t) c.args.transaction c.args.need) c.self.view_is

pub returns-then-covers-clause-agreed : goal.returns-then-covers-clause-agreed
returns-then-covers-clause-agreed c =
    let old : Table = table c.self.inside.holders.places c.self.inside.firsts c.self.inside.items.entries (spare c.self.inside.items) in
    let seat = c.place_for-place in
    let at = placed c.args.transaction old seat.new.self.places seat.new.firsts seat.result c.self.invariant seat.ensures.within seat.ensures.place in
    let modes = c.modes_on-modes.ensures ∙ ap (modes_on seat.new.self.places) c.get.ensures.value in
    (covered_table c.args.transaction old seat.new.self.places seat.new.firsts seat.result c.self.invariant at seat.ensures.within c.args.need c.modes_on-modes.result modes (c.covers.ensures.0 c.if-covers.true)).agreed

pub invariant_of-self-2 : goal.invariant_of-self-2
invariant_of-self-2 c =
    let old : Table = table c.self.inside.holders.places c.self.inside.firsts c.self.inside.items.entries (spare c.self.inside.items) in
    let at = placed c.args.transaction old c.place_for-place.new.self.places c.place_for-place.new.firsts c.place_for-place.result c.self.invariant c.place_for-place.ensures.within c.place_for-place.ensures.place in
    let modes = c.modes_on-modes.ensures ∙ ap (modes_on c.place_for-place.new.self.places) c.get.ensures.value in
    let updates = as_made c.args.transaction old c.place_for-place.new.self.places c.place_for-place.new.firsts c.place_for-place.result c.self.invariant at c.place_for-place.ensures.within c.args.need c.modes_on-modes.result c.with_mode.result modes c.with_mode.ensures c.insert.new.self.entries c.in-Ok.ensures.updates.0 in
    granted_table c.args.transaction old c.place_for-place.new.self.places c.place_for-place.new.firsts c.place_for-place.result c.self.invariant at c.place_for-place.ensures.within c.args.need c.insert.new.self.entries updates (spare c.insert.new.self)
    (subst (λ (t : Table). IsUnbarred (mode_of t) c.args.transaction c.args.need) (sym c.self.view_is) c.requires.free)

pub returns-clause-granted : goal.returns-clause-granted
returns-clause-granted c =
    let old : Table = table c.self.inside.holders.places c.self.inside.firsts c.self.inside.items.entries (spare c.self.inside.items) in
    let at = placed c.args.transaction old c.place_for-place.new.self.places c.place_for-place.new.firsts c.place_for-place.result c.self.invariant c.place_for-place.ensures.within c.place_for-place.ensures.place in
    let modes = c.modes_on-modes.ensures ∙ ap (modes_on c.place_for-place.new.self.places) c.get.ensures.value in
    let updates = as_made c.args.transaction old c.place_for-place.new.self.places c.place_for-place.new.firsts c.place_for-place.result c.self.invariant at c.place_for-place.ensures.within c.args.need c.modes_on-modes.result c.with_mode.result modes c.with_mode.ensures c.insert.new.self.entries c.in-Ok.ensures.updates.0 in
    granted_told c.args.transaction old c.place_for-place.new.self.places c.place_for-place.new.firsts c.place_for-place.result c.self.invariant at c.place_for-place.ensures.within c.args.need c.insert.new.self.entries updates (spare c.insert.new.self)
    ∙ ap (λ (t : Table). given (mode_of t) c.args.transaction c.args.need) c.self.view_is

pub returns-clause-agreed : goal.returns-clause-agreed
returns-clause-agreed c =
    let old : Table = table c.self.inside.holders.places c.self.inside.firsts c.self.inside.items.entries (spare c.self.inside.items) in
    let at = placed c.args.transaction old c.place_for-place.new.self.places c.place_for-place.new.firsts c.place_for-place.result c.self.invariant c.place_for-place.ensures.within c.place_for-place.ensures.place in
    let modes = c.modes_on-modes.ensures ∙ ap (modes_on c.place_for-place.new.self.places) c.get.ensures.value in
    let updates = as_made c.args.transaction old c.place_for-place.new.self.places c.place_for-place.new.firsts c.place_for-place.result c.self.invariant at c.place_for-place.ensures.within c.args.need c.modes_on-modes.result c.with_mode.result modes c.with_mode.ensures c.insert.new.self.entries c.in-Ok.ensures.updates.0 in
    let told = granted_told c.args.transaction old c.place_for-place.new.self.places c.place_for-place.new.firsts c.place_for-place.result c.self.invariant at c.place_for-place.ensures.within c.args.need c.insert.new.self.entries updates (spare c.insert.new.self) in
    subst AllAgree (sym told)
    (given_agrees (mode_of old) c.args.transaction c.args.need c.self.invariant.agreed (subst (λ (t : Table). IsUnbarred (mode_of t) c.args.transaction c.args.need) (sym c.self.view_is) c.requires.free))
