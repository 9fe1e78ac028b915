use Rattle.std.proofs.Common.{◌≡◌, ◌∙◌, List, Option, None, refl, ap, sym}
use Rattle.rss_base.specs.PageMap.{owner_of}
use Rattle.rss_base.specs.StoredPages.{mapped_by}
use Rattle.rss_base.specs.declared.key.PageKey.{PageKey}
use Rattle.rss_shadow.specs.Maps.{Maps}
use Rattle.rss_base.proofs.Steps.{wrote, fails_by}
use Rattle.rss_buffer.specs.Devices.{buffer_view}
use Rattle.rss_shadow.proofs.Owned.{HasPage-mapped}
use Rattle.rss_buffer.proofs.Lookups.{put_shown}
use Rattle.rss_buffer.proofs.Changed.{Reslots-moves, Fits-changed, changes_page, IsBuffer-changes, passes_on, changed-off, writes_page, keeps_step}
use Rattle.rss_buffer.proofs.pages.BufferPages.write.Goals as goal

pub first_write-requires : goal.first_write-requires
first_write-requires g c =
    HasPage-mapped c.make_room_for.new.self.shadow.current c.args.key (ap (λ (m : Maps). mapped_by m.current c.args.key) c.make_room_for.ensures.did.keeps.maps ∙ c.requires)

-- ---- there is no room

pub returns-in_err-make_room_for-clause-did : goal.returns-in_err-make_room_for-clause-did
returns-in_err-make_room_for-clause-did g c =
    let room = c.in_err-make_room_for.ensures.did in
    fails_by _ c.from_residual.ensures.1 room.cause (keeps_step c.args.self.now.holds c.in_err-make_room_for.ensures.full room.keeps room.puts)

-- ---- the page is written

pub invariant_of-self : goal.invariant_of-self
invariant_of-self g c =
    let mid = c.make_room_for.new.self in
    let moves = c.first_write.ensures.moves in
    let re = Reslots-moves mid.shadow c.first_write.new.self c.args.key c.first_write.result mid.holds.laid_out.table mid.holds.laid_out.room moves in
    let outside : owner_of mid.shadow.shadow c.first_write.result ≡ None = ap (λ (owners : List (Option PageKey)). owner_of owners c.first_write.result) (sym moves.shadow) ∙ c.first_write.ensures.outside in
    let is = ap (λ (m : Maps). mapped_by m.current c.args.key) c.make_room_for.ensures.did.keeps.maps ∙ c.requires in
    let change = changes_page (buffer_view mid) _ mid.holds re (put_shown _ _ c.put.ensures) c.forget.ensures (λ space. mid.holds.noted.mapped c.args.key space ∙ is) in
    record { saved_area = λ area is. absurd (cc); holds = rw c.put.ensures.room_is (IsBuffer-changes change mid.holds (Fits-changed mid.shadow.shadow c.first_write.result _ refl outside)) }

pub returns-clause-written : goal.returns-clause-written
returns-clause-written g c =
    let mid = c.make_room_for.new.self in
    let re = Reslots-moves mid.shadow c.first_write.new.self c.args.key c.first_write.result mid.holds.laid_out.table mid.holds.laid_out.room c.first_write.ensures.moves in
    let is = ap (λ (m : Maps). mapped_by m.current c.args.key) c.make_room_for.ensures.did.keeps.maps ∙ c.requires in
    let change = changes_page (buffer_view mid) _ mid.holds re (put_shown _ _ c.put.ensures) c.forget.ensures (λ space. mid.holds.noted.mapped c.args.key space ∙ is) in
    rw c.put.ensures.room_is (writes_page c.make_room_for.ensures.did.keeps change c.requires)

pub returns-clause-did : goal.returns-clause-did
returns-clause-did g c =
    let mid = c.make_room_for.new.self in
    let room = c.make_room_for.ensures.did in
    let re = Reslots-moves mid.shadow c.first_write.new.self c.args.key c.first_write.result mid.holds.laid_out.table mid.holds.laid_out.room c.first_write.ensures.moves in
    let is = ap (λ (m : Maps). mapped_by m.current c.args.key) c.make_room_for.ensures.did.keeps.maps ∙ c.requires in
    let change = changes_page (buffer_view mid) _ mid.holds re (put_shown _ _ c.put.ensures) c.forget.ensures (λ space. mid.holds.noted.mapped c.args.key space ∙ is) in
    rw c.put.ensures.room_is (wrote _ (passes_on change room.keeps room.puts) (changed-off change room.keeps) (writes_page room.keeps change c.requires))
