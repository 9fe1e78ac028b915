use Rattle.std.proofs.Common.{◌∙◌, refl, ap}
use Rattle.rss_base.specs.StoredPages.{mapped_by}
use Rattle.rss_shadow.specs.Maps.{Maps}
use Rattle.rss_base.proofs.Steps.{took, fails_by}
use Rattle.rss_buffer.specs.Devices.{buffer_view}
use Rattle.rss_shadow.proofs.Owned.{LacksPage-unmapped}
use Rattle.rss_buffer.proofs.Lookups.{put_shown}
use Rattle.rss_buffer.proofs.Changed.{Reslots-gained, Fits-changed, changes_page, IsBuffer-changes, passes_on, changed-off, takes_page, keeps_step}
use Rattle.rss_buffer.proofs.pages.BufferPages.take_at.Goals as goal

pub take_at-requires-clause-lacking : goal.take_at-requires-clause-lacking
take_at-requires-clause-lacking g c =
    LacksPage-unmapped c.make_room.new.self.shadow.current c.args.key (ap (λ (m : Maps). mapped_by m.current c.args.key) c.make_room.ensures.did.keeps.maps ∙ c.requires.unmapped)

-- ---- there is no room

pub returns-in_err-make_room-clause-did : goal.returns-in_err-make_room-clause-did
returns-in_err-make_room-clause-did g c =
    let room = c.in_err-make_room.ensures.did in
    fails_by _ c.from_residual.ensures.1 room.cause (keeps_step c.args.self.now.holds c.in_err-make_room.ensures.full room.keeps room.puts)

-- ---- the page is mapped

pub invariant_of-self : goal.invariant_of-self
invariant_of-self g c =
    let mid = c.make_room.new.self in
    let gains = c.take_at.ensures.gains in
    let re = Reslots-gained mid.holds.laid_out.table c.make_room.ensures.did.keeps.maps c.requires.room c.requires.allowed c.requires.unmapped gains in
    let change = changes_page (buffer_view mid) _ mid.holds re (put_shown _ _ c.put.ensures) c.map.ensures (λ space. space) in
    record { saved_area = λ area is. absurd (cc); holds = rw c.put.ensures.room_is (IsBuffer-changes change mid.holds (Fits-changed mid.shadow.shadow gains.slot _ refl gains.free.shadow)) }

pub returns-clause-taken : goal.returns-clause-taken
returns-clause-taken g c =
    let mid = c.make_room.new.self in
    let keeps = c.make_room.ensures.did.keeps in
    let re = Reslots-gained mid.holds.laid_out.table keeps.maps c.requires.room c.requires.allowed c.requires.unmapped c.take_at.ensures.gains in
    rw c.put.ensures.room_is (takes_page keeps (changes_page (buffer_view mid) _ mid.holds re (put_shown _ _ c.put.ensures) c.map.ensures (λ space. space)))

pub returns-clause-did : goal.returns-clause-did
returns-clause-did g c =
    let mid = c.make_room.new.self in
    let room = c.make_room.ensures.did in
    let re = Reslots-gained mid.holds.laid_out.table room.keeps.maps c.requires.room c.requires.allowed c.requires.unmapped c.take_at.ensures.gains in
    let change = changes_page (buffer_view mid) _ mid.holds re (put_shown _ _ c.put.ensures) c.map.ensures (λ space. space) in
    rw c.put.ensures.room_is (took _ (passes_on change room.keeps room.puts) (changed-off change room.keeps) (takes_page room.keeps change))
