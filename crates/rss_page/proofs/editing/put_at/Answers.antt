use Rattle.std.proofs.Common.{◌≡◌, ◌+◌, ◌≤◌, ℕ, List, length, set, max, ◌∙◌, ap, subst, arith}
use Rattle.std.proofs.lemmas.List.{set-set}
use Rattle.rss_page.specs.Content.{Content, Empty, Here}
use Rattle.rss_page.specs.Slotted.{entries, entry_of, body_bytes, Becomes, Overwrites}
use Rattle.rss_page.proofs.Edits.{ends_beside}
use Rattle.rss_page.proofs.Moves.{then_becomes, ends_without}
use Rattle.rss_page.proofs.editing.put_at.Goals as goal

pub make_room-end-requires-clause-room : goal.make_room-end-requires-clause-room
make_room-end-requires-clause-room c = omega (arith, c.requires.room, ap body_bytes (c.remove.ensures.becomes c.requires.slotted).holds)

pub overwrite-requires-clause-place : goal.overwrite-requires-clause-place
overwrite-requires-clause-place c = record { low = c.make_room-end.ensures.low; some = c.requires.some; high = c.make_room-end.ensures.high }

-- the body was put behind all others
wrote : (c : goal.After-overwrite) → Overwrites c.make_room-end.new.page c.overwrite.new.page c.args.slot c.make_room-end.result c.args.body.now
wrote c = c.overwrite.ensures c.make_room-end.ensures.becomes.slotted (ends_beside _ _ _ _ (λ other low differ. c.make_room-end.ensures.ends other low))

pub returns-clause-becomes : goal.returns-clause-becomes
returns-clause-becomes c =
    let before : entries c.make_room-end.new.page ≡ set (entries c.args.page.now) c.args.slot Empty = c.make_room-end.ensures.becomes.holds ∙ (c.remove.ensures.becomes c.requires.slotted).holds in
    let all = then_becomes (c.remove.ensures.becomes c.requires.slotted) (then_becomes c.make_room-end.ensures.becomes (wrote c).becomes) in
    subst (Becomes c.args.page.now c.overwrite.new.page) (ap (λ (l : List Content). set l c.args.slot (Here c.args.body.now)) before ∙ set-set (entries c.args.page.now) c.args.slot Empty (Here c.args.body.now)) all

pub returns-clause-stay : goal.returns-clause-stay
returns-clause-stay c = λ end ends high other low differ.
    let last : ℕ = max end 1040 in
    let within : last + length c.args.body.now ≤ 4096 = omega (arith, c.requires.room) in
    let all = ends_without c.args.page.now c.remove.new.page c.args.slot last Empty (c.remove.ensures.becomes c.requires.slotted) (c.remove.ensures.stay c.requires.slotted) (λ one one_low one_differ. omega (arith, ends one one_low one_differ)) c.requires.slot (λ body is. cc) in
    let same : c.make_room-end.new.page ≡ c.remove.new.page = c.make_room-end.ensures.stay last all (omega arith) within in
    (wrote c).stay other low differ ∙ ap (λ (l : List ℕ). entry_of l other) same ∙ c.remove.ensures.stay c.requires.slotted other low differ
