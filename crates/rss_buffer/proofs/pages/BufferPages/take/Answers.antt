use Rattle.std.proofs.Common.{◌<◌, refl, sym, subst}
use Rattle.rss_base.specs.Paged.{IsLeastUnmapped}
use Rattle.rss_base.specs.StoredPages.{mapped_by}
use Rattle.rss_shadow.specs.Maps.{Maps, spare}
use Rattle.rss_base.proofs.Steps.{took, fails_by}
use Rattle.rss_buffer.specs.Devices.{buffer_view}
use Rattle.rss_buffer.proofs.Lookups.{put_shown}
use Rattle.rss_buffer.proofs.Changed.{IsKey-least, IsLeastUnmapped-lacking, Reslots-takes, Fits-changed, changes_page, IsBuffer-changes, passes_on, changed-off, takes_page, keeps_step}
use Rattle.rss_buffer.proofs.pages.BufferPages.take.Goals as goal

pub map-requires : goal.map-requires
map-requires g c =
    let mid = c.make_room.new.self in
    rw mid.holds.noted.slots (IsKey-least mid.shadow.current c.args.segment c.args.space c.take-number.result c.requires.low c.requires.high c.requires.space c.take-number.ensures.least)

-- ---- there is no room

pub returns-in_err-make_room-clause-did : goal.returns-in_err-make_room-clause-did
returns-in_err-make_room-clause-did g c =
    let room = c.in_err-make_room.ensures.did in
    fails_by _ c.from_residual.ensures.1 room.cause (keeps_step c.args.self.now.holds c.in_err-make_room.ensures.full room.keeps room.puts)

-- ---- the page is mapped

pub invariant_of-self : goal.invariant_of-self
invariant_of-self g c =
    let mid = c.make_room.new.self in
    let took = c.take-number.ensures in
    let room : 0 < spare mid.shadow = subst (λ (m : Maps). 0 < spare m) (sym c.make_room.ensures.did.keeps.maps) c.requires.room in
    let re = Reslots-takes mid.shadow c.take-number.new.self c.args.segment c.args.space c.take-number.result mid.holds.laid_out.table room c.requires.low c.requires.high c.requires.space took.least took.gains in
    let change = changes_page (buffer_view mid) _ mid.holds re (put_shown _ _ c.put.ensures) c.map.ensures (λ space. space) in
    record { saved_area = λ area is. absurd (cc); holds = rw c.put.ensures.room_is (IsBuffer-changes change mid.holds (Fits-changed mid.shadow.shadow took.gains.slot _ refl took.gains.free.shadow)) }

pub returns-clause-least : goal.returns-clause-least
returns-clause-least g c =
    subst (λ (m : Maps). IsLeastUnmapped (mapped_by m.current) c.args.segment c.args.space c.take-number.result) c.make_room.ensures.did.keeps.maps
    (IsLeastUnmapped-lacking c.make_room.new.self.shadow.current c.args.segment c.args.space c.take-number.result c.take-number.ensures.least)

pub returns-clause-taken : goal.returns-clause-taken
returns-clause-taken g c =
    let mid = c.make_room.new.self in
    let did = c.make_room.ensures.did in
    let took = c.take-number.ensures in
    let room : 0 < spare mid.shadow = subst (λ (m : Maps). 0 < spare m) (sym did.keeps.maps) c.requires.room in
    let re = Reslots-takes mid.shadow c.take-number.new.self c.args.segment c.args.space c.take-number.result mid.holds.laid_out.table room c.requires.low c.requires.high c.requires.space took.least took.gains in
    rw c.put.ensures.room_is (takes_page did.keeps (changes_page (buffer_view mid) _ mid.holds re (put_shown _ _ c.put.ensures) c.map.ensures (λ space. space)))

pub returns-clause-did : goal.returns-clause-did
returns-clause-did g c =
    let mid = c.make_room.new.self in
    let did = c.make_room.ensures.did in
    let taken = c.take-number.ensures in
    let room : 0 < spare mid.shadow = subst (λ (m : Maps). 0 < spare m) (sym did.keeps.maps) c.requires.room in
    let re = Reslots-takes mid.shadow c.take-number.new.self c.args.segment c.args.space c.take-number.result mid.holds.laid_out.table room c.requires.low c.requires.high c.requires.space taken.least taken.gains in
    let change = changes_page (buffer_view mid) _ mid.holds re (put_shown _ _ c.put.ensures) c.map.ensures (λ space. space) in
    rw c.put.ensures.room_is (took _ (passes_on change did.keeps did.puts) (changed-off change did.keeps) (takes_page did.keeps change))
