use Rattle.std.proofs.Common.{◌∙◌, sym, ap}
use Rattle.std.specs.Prelude.{is_some, option_copied}
use Rattle.rss_access.proofs.Numbered.{entry_at}
use Rattle.rss_lock.specs.Table.{told}
use Rattle.rss_lock.specs.declared.locks.Locks.{Locks as LockTable}
use Rattle.rss_scan.specs.Scans.{told as scans_told}
use Rattle.rss_session.proofs.Behind.{nothing_itself}
use Rattle.rss_rsi.specs.Parts.{parts_of, view}
use Rattle.rss_rsi.proofs.Follows.{chain_ends, chain_fails, chain_gives, chain_long, next_ends, next_fails}
use Rattle.rss_rsi.proofs.ImageScans.{none_listed}
use Rattle.rss_rsi.proofs.Looks.{passed_on}
use Rattle.rss_rsi.proofs.Scans.{cursor_long, none_next, row_next, unlisted_next}
use Rattle.rss_rsi.proofs.Ways.{ScanTable}
use Rattle.rss_rsi.proofs.engine.Rss.find_next.Goals as goal

pub returns-in_default-find-clause-finds : goal.returns-in_default-find-clause-finds
returns-in_default-find-clause-finds g c =
    let has = sym c.get.ensures ∙ ap option_copied c.in-Some.is in
    unlisted_next has c.in-Relation.relation c.in-Relation.is c.last_of-after.result c.last_of-after.ensures c.in_default-find.ensures.none

pub returns-in_default-find-clause-idle : goal.returns-in_default-find-clause-idle
returns-in_default-find-clause-idle g c = nothing_itself _

pub find_behind-requires-clause-known : goal.find_behind-requires-clause-known
find_behind-requires-clause-known g c = ap is_some (entry_at c.args.self.now.session.store.catalog.listing c.in-Relation.relation c.in-Some-find.number c.in-Some-find.ensures.some).at

pub returns-in_default-find-2-clause-finds : goal.returns-in_default-find-2-clause-finds
returns-in_default-find-2-clause-finds g c =
    let has = sym c.get.ensures ∙ ap option_copied c.in-Some.is in
    none_listed has c.in-Image.image c.in-Image.field-1 c.in-Image.is c.in_default-find-2.ensures.none

pub returns-in_default-find-2-clause-idle : goal.returns-in_default-find-2-clause-idle
returns-in_default-find-2-clause-idle g c = nothing_itself _

pub returns-in-Some-2-clause-finds : goal.returns-in-Some-2-clause-finds
returns-in-Some-2-clause-finds g c =
    let has = sym c.get.ensures ∙ ap option_copied c.in-Some.is in
    let listed = entry_at c.args.self.now.session.store.catalog.listing c.in-Relation.relation c.in-Some-find.number c.in-Some-find.ensures.some in
    row_next has c.in-Relation.relation c.in-Relation.is c.last_of-after.result c.last_of-after.ensures c.in-Some-find.number listed.at listed.named c.new.result c.new.ensures c.in-Some-2.tid c.in-Some-2.tuple (rw c.in-Some-2.is at c.in_ok-tid-in-Relation.ensures.finds)

pub returns-in-None-clause-finds : goal.returns-in-None-clause-finds
returns-in-None-clause-finds g c =
    let has = sym c.get.ensures ∙ ap option_copied c.in-Some.is in
    let listed = entry_at c.args.self.now.session.store.catalog.listing c.in-Relation.relation c.in-Some-find.number c.in-Some-find.ensures.some in
    none_next has c.in-Relation.relation c.in-Relation.is c.last_of-after.result c.last_of-after.ensures c.in-Some-find.number listed.at listed.named (rw c.in-None.is at c.in_ok-tid-in-Relation.ensures.finds)

pub returns-in_err-tid-in-Relation-clause-fails : goal.returns-in_err-tid-in-Relation-clause-fails
returns-in_err-tid-in-Relation-clause-fails g c = passed_on c.from_residual.result c.from_residual.ensures.1 (next_ends c.in_err-tid-in-Relation.ensures.fails)

pub returns-in-Some-find-2-clause-fails : goal.returns-in-Some-find-2-clause-fails
returns-in-Some-find-2-clause-fails g c = next_fails (parts_of c.args.self.now) c.args.transaction c.args.scan (view c.args.self.now) (view c.find_entry.new.self) c.find_entry.result c.find_entry.ensures.fails

pub unreachable-requires-in_default-find-3 : goal.unreachable-requires-in_default-find-3
unreachable-requires-in_default-find-3 g c =
    let has = sym c.get.ensures ∙ ap option_copied c.in-Some.is in
    (chain_long (parts_of c.args.self.now) (c.args.self.now.ready c.requires.up) c.args.transaction c.args.scan has c.in-Link.is).0 c.in_default-find-3.ensures.none

pub find_member-requires-clause-form : goal.find_member-requires-clause-form
find_member-requires-clause-form g c =
    let has = sym c.get.ensures ∙ ap option_copied c.in-Some.is in
    (chain_long (parts_of c.args.self.now) (c.args.self.now.ready c.requires.up) c.args.transaction c.args.scan has c.in-Link.is).1 c.in-Some-find-3.number c.in-Some-find-3.ensures.some c.in-Some-find-3.ensures.first

pub returns-in_err-tid-in-Link-clause-fails : goal.returns-in_err-tid-in-Link-clause-fails
returns-in_err-tid-in-Link-clause-fails g c =
    let has = sym c.get.ensures ∙ ap option_copied c.in-Some.is in
    let failed = c.in_err-tid-in-Link.ensures in
    passed_on c.from_residual-in_err-tid-in-Link.result c.from_residual-in_err-tid-in-Link.ensures.1
    (chain_fails {parts = parts_of c.args.self.now} {t = c.args.transaction} {number = c.args.scan} has c.in-Link.link c.in-Link.parent c.in-Link.is c.last_of-after-in-Link.result c.last_of-after-in-Link.ensures {new = parts_of c.find_member.new.self}
    (c.args.self.now.ready c.requires.up).session c.args.self.now.calls c.find_member.new.self.calls failed.calls c.requires.up _ failed.ends (ap (λ (table : LockTable). (told table).locks) failed.locks) (ap (λ (scans : ScanTable). scans_told scans) failed.scans))

pub returns-in-Some-3-clause-finds : goal.returns-in-Some-3-clause-finds
returns-in-Some-3-clause-finds g c =
    let has = sym c.get.ensures ∙ ap option_copied c.in-Some.is in
    let found = c.in_ok-tid-in-Link.ensures in
    let parts = parts_of c.args.self.now in
    chain_gives {parts = parts} {t = c.args.transaction} {number = c.args.scan} has c.in-Link.link c.in-Link.parent c.in-Link.is c.last_of-after-in-Link.result c.last_of-after-in-Link.ensures found.ends.by.2 c.new-in-Some-3.result c.new-in-Some-3.ensures
    (cursor_long parts.session.store.catalog.listing parts.session.opened parts.scans c.args.transaction c.args.scan (c.args.self.now.ready c.requires.up).scans has) c.in-Some-3.tid c.in-Some-3.tuple (rw c.in-Some-3.is at found.finds)

pub returns-in-None-2-clause-finds : goal.returns-in-None-2-clause-finds
returns-in-None-2-clause-finds g c =
    let has = sym c.get.ensures ∙ ap option_copied c.in-Some.is in
    let found = c.in_ok-tid-in-Link.ensures in
    chain_ends {parts = parts_of c.args.self.now} {t = c.args.transaction} {number = c.args.scan} has c.in-Link.link c.in-Link.parent c.in-Link.is c.last_of-after-in-Link.result c.last_of-after-in-Link.ensures found.ends.by.2 (rw c.in-None-2.is at found.finds)
