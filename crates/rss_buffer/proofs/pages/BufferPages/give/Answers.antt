use Rattle.std.proofs.Common.{None, refl}
use Rattle.rss_base.proofs.Steps.{gave}
use Rattle.rss_buffer.specs.Devices.{buffer_view}
use Rattle.rss_shadow.proofs.Owned.{HasPage-mapped}
use Rattle.rss_buffer.proofs.Turns.{KeepsPages-rests, puts_none}
use Rattle.rss_buffer.proofs.Lookups.{gone_shown}
use Rattle.rss_buffer.proofs.Changed.{Reslots-loses, changes_page, IsBuffer-changes, passes_on, changed-off, gives_page}
use Rattle.rss_buffer.proofs.pages.BufferPages.give.Goals as goal

pub give-requires : goal.give-requires
give-requires g c = HasPage-mapped c.args.self.now.shadow.current c.args.key c.requires

pub invariant_of-self : goal.invariant_of-self
invariant_of-self g c =
    let self = c.args.self.now in
    let re = Reslots-loses self.shadow c.give.new.self c.args.key self.holds.laid_out.table self.holds.laid_out.room c.give.ensures.loses in
    let change = changes_page (buffer_view self) None self.holds re (gone_shown _ _ c.remove.ensures.gone) c.unmap.ensures (λ space. refl) in
    record { saved_area = λ area is. absurd (cc); holds = rw c.remove.ensures.gone.room_is (IsBuffer-changes change self.holds (λ f is. absurd (cc))) }

pub returns-clause-given : goal.returns-clause-given
returns-clause-given g c =
    let self = c.args.self.now in
    let re = Reslots-loses self.shadow c.give.new.self c.args.key self.holds.laid_out.table self.holds.laid_out.room c.give.ensures.loses in
    rw c.remove.ensures.gone.room_is (gives_page (KeepsPages-rests (buffer_view self)) (changes_page (buffer_view self) None self.holds re (gone_shown _ _ c.remove.ensures.gone) c.unmap.ensures (λ space. refl)))

pub returns-clause-did : goal.returns-clause-did
returns-clause-did g c =
    let self = c.args.self.now in
    let re = Reslots-loses self.shadow c.give.new.self c.args.key self.holds.laid_out.table self.holds.laid_out.room c.give.ensures.loses in
    let change = changes_page (buffer_view self) None self.holds re (gone_shown _ _ c.remove.ensures.gone) c.unmap.ensures (λ space. refl) in
    let rests = KeepsPages-rests (buffer_view self) in
    rw c.remove.ensures.gone.room_is (gave _ (passes_on change rests puts_none) (changed-off change rests) (gives_page rests change))
