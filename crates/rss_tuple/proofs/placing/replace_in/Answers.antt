use Rattle.std.proofs.Common.{◌∙◌, ◌<◌, length, rules, inl, sym, ap, arith}
use Rattle.std.specs.Prelude.{Err}
use Rattle.rss_base.specs.DiskRule.{IsTold}
use Rattle.rss_base.specs.Paged.{page_key}
use Rattle.rss_base.specs.declared.fault.PageFault.TheVariants.{Damaged}
use Rattle.rss_base.specs.declared.place.Place.TheVariants.{Page as PagePlace}
use Rattle.rss_base.specs.declared.key.PageKey.{PageKey}
use Rattle.rss_base.specs.declared.key.Space.TheVariants.{Home}
use Rattle.rss_base.proofs.Steps.{rests, widens}
use Rattle.rss_tuple.specs.Edits.{IsRead}
use Rattle.rss_tuple.proofs.Seen.{on_ok, on_ok_then, found_damaged}
use Rattle.rss_tuple.proofs.Placed.{copied_key, read_key, read_at, low_forward, stands_here, body_read, room_back, puts_home}
use Rattle.rss_tuple.proofs.Sets.{is_read, read_copied, ill_formed, damage_told, holds_at}
use Rattle.rss_tuple.proofs.Changes.{entry_there, fits_again, spare_longer}
use Rattle.rss_tuple.proofs.Taken.{takes_step, takes_none}
use Rattle.rss_tuple.proofs.Moved.{moves_fails, moves_puts}
use Rattle.rss_tuple.proofs.placing.replace_in.Goals as goal
use Rattle.rss_tuple.proofs.placing.replace_in.Goals.{After-home-key, In_ok-found}

pub returns-in_err-entry_in-clause-moves : goal.returns-in_err-entry_in-clause-moves
returns-in_err-entry_in-clause-moves g c = moves_fails {asks = 0} {outs = 0} _ c.from_residual.ensures.1 (λ key none. absurd none) (omega arith) (omega arith) (ill_formed _ _ _ (rests (g.P.Pages.view c.args.pages.now)) (inl (ap (λ (k : PageKey). k.space) c.home-key.ensures)) (λ told. (c.requires.may.there.heaps told).formed) (copied_key (sym c.home-key.ensures) c.requires.copied).held c.in_err-entry_in.ensures.ill c.in_err-entry_in.ensures.damaged)

pub returns-in_err-entry_in-clause-ill : goal.returns-in_err-entry_in-clause-ill
returns-in_err-entry_in-clause-ill g c = λ ill. damage_told _ c.from_residual.ensures.1 c.in_err-entry_in.ensures.damaged c.home-key.ensures

-- ---- where the body that stands there isn't shorter

-- the copy of the home page, which is well-formed where the device tells its contents
read_home : (g : _) (c : After-home-key g) → IsTold (g.P.Pages.view c.args.pages.now).disk → IsRead (g.P.Pages.view c.args.pages.now) (page_key c.args.segment Home c.args.tid.page) c.args.page.now
read_home g c told = read_copied (inl (λ i. Home)) (λ told. (c.requires.may.there.heaps told).formed) c.requires.copied told

pub put_over-requires-clause-may : goal.put_over-requires-clause-may
put_over-requires-clause-may g c = record {
  header = c.in_ok-entry_in.ensures.header;
  copied = copied_key (sym c.home-key.ensures) c.requires.copied;
  low = c.requires.low;
  formed = λ told. (c.requires.may.there.heaps told).formed;
}

pub returns-in-Some-clause-moves : goal.returns-in-Some-clause-moves
returns-in-Some-clause-moves g c =
    let own = c.in-Some.ensures.own in
    let read = read_home g (goal.at.returns-in-Some-clause-moves g c).After-home-key in
    let wrote = c.put_over.ensures in
    moves_puts (λ told. stands_here c.args.tid (read told) own.here told)
    (on_ok_then c.put_over.result (λ sets told.
    let room = fits_again c.args.page.now c.args.tid.slot (length c.args.body.now) own.body (read told).formed.slotted c.requires.low own.here own.long in
    puts_home c.args.segment c.args.tid c.args.body.now c.home-key.result _ _ c.home-key.ensures (room_back _ _ c.args.page.now c.args.tid.slot (length c.args.body.now) (read told) told room) (sets told) wrote.did.step told)
    wrote.sets)
    (on_ok c.put_over.result (takes_none (takes_step wrote.did.step (inl (copied_key (sym c.home-key.ensures) c.requires.copied).mapped))))
    (widens (λ key is. inl (is ∙ c.home-key.ensures)) (omega arith) (omega arith) wrote.did)

pub returns-in-Some-clause-ill : goal.returns-in-Some-clause-ill
returns-in-Some-clause-ill g c = λ ill. absurd (ill (holds_at c.home-key.ensures c.in_ok-entry_in.ensures.header c.in-Some.ensures.own.here (λ is. absurd (cc))))

-- ---- where the page is walked over

pub returns-in_err-found-clause-moves : goal.returns-in_err-found-clause-moves
returns-in_err-found-clause-moves g c = moves_fails {asks = 0} {outs = 0} _ c.from_residual-in_err-found.ensures.1 (λ key none. absurd none) (omega arith) (omega arith) (ill_formed _ _ _ (rests (g.P.Pages.view c.args.pages.now)) (inl (ap (λ (k : PageKey). k.space) c.home-key.ensures)) (λ told. (c.requires.may.there.heaps told).formed) (copied_key (sym c.home-key.ensures) c.requires.copied).held c.in_err-found.ensures.ill c.in_err-found.ensures.damaged)

pub returns-in_err-found-clause-ill : goal.returns-in_err-found-clause-ill
returns-in_err-found-clause-ill g c = λ ill. damage_told _ c.from_residual-in_err-found.ensures.1 c.in_err-found.ensures.damaged c.home-key.ensures

-- the home page, which was found well-formed
read_whole : (g : _) (c : In_ok-found g) → IsRead (g.P.Pages.view c.args.pages.now) (page_key c.args.segment Home c.args.tid.page) c.args.page.now
read_whole g c = read_key c.home-key.ensures (is_read (g.P.Pages.view c.args.pages.now) _ _ (copied_key (sym c.home-key.ensures) c.requires.copied).mapped c.in_ok-found.ensures.formed (copied_key (sym c.home-key.ensures) c.requires.copied).held)

pub returns-in-Empty-clause-moves : goal.returns-in-Empty-clause-moves
returns-in-Empty-clause-moves g c =
    let view = g.P.Pages.view c.args.pages.now in
    record {
      moved = search rules;
      takes = search rules;
      did = found_damaged c.damaged.result c.damaged.ensures (rests view) (λ told.
          entry_there view c.args.segment c.args.tid c.requires.may.there told (read_at {asks = 0} {outs = 0} (rests view) (read_whole g (goal.at.returns-in-Empty-clause-moves g c).In_ok-found) told c.args.tid.slot ∙ c.in-Empty.ensures.holds));
    }

pub returns-in-Empty-clause-ill : goal.returns-in-Empty-clause-ill
returns-in-Empty-clause-ill g c = λ ill. ap Err (c.damaged.ensures ∙ ap (λ (k : PageKey). Damaged (PagePlace k)) c.home-key.ensures)

-- ---- where the body stands at home

pub place-requires-clause-home : goal.place-requires-clause-home
place-requires-clause-home g c = record { read = read_whole g (goal.at.place-requires-clause-home g c).In_ok-found; low = c.requires.low }

pub place-requires-clause-formed : goal.place-requires-clause-formed
place-requires-clause-formed g c = λ told. (c.requires.may.there.heaps told).formed

pub place-requires-clause-away : goal.place-requires-clause-away
place-requires-clause-away g c = λ told full.
    let view = g.P.Pages.view c.args.pages.now in
    let read = read_whole g (goal.at.place-requires-clause-away g c).In_ok-found in
    let here = c.in-Here.ensures.holds in
    let spare : 0 < view.spare = spare_longer view c.args.segment c.args.tid (length c.args.body.now) c.args.page.now c.args.tid.slot _ c.requires.may.room told
    (body_read {asks = 0} {outs = 0} c.args.tid (rests view) read here told) read.formed.slotted c.requires.low here (λ room. full (room_back view _ c.args.page.now c.args.tid.slot (length c.args.body.now) read told room)) in
    record {
      never = λ p s fits. stands_here c.args.tid read here told p s fits.leads;
      room = spare;
    }

pub returns-in-Here-clause-moves : goal.returns-in-Here-clause-moves
returns-in-Here-clause-moves g c =
    moves_puts (stands_here c.args.tid (read_whole g (goal.at.returns-in-Here-clause-moves g c).In_ok-found) c.in-Here.ensures.holds) c.place.ensures.puts c.place.ensures.takes
    (widens (λ key there. there) (omega arith) (omega arith) c.place.ensures.did)

pub returns-in-Here-clause-ill : goal.returns-in-Here-clause-ill
returns-in-Here-clause-ill g c = λ ill. absurd (ill (holds_at c.home-key.ensures c.in_ok-entry_in.ensures.header c.in-Here.ensures.holds (λ is. absurd (cc))))

-- ---- where it stands in an overflow page

pub move_on-requires-clause-home : goal.move_on-requires-clause-home
move_on-requires-clause-home g c = record { read = read_whole g (goal.at.move_on-requires-clause-home g c).In_ok-found; low = c.requires.low }

pub move_on-requires-clause-leads : goal.move_on-requires-clause-leads
move_on-requires-clause-leads g c = c.in-Forward.ensures.holds

pub move_on-requires-clause-to_slot : goal.move_on-requires-clause-to_slot
move_on-requires-clause-to_slot g c = low_forward _ c.args.page.now c.args.tid.slot c.in-Forward.to c.in-Forward.to_slot (read_whole g (goal.at.move_on-requires-clause-to_slot g c).In_ok-found).formed c.requires.low c.in-Forward.ensures.spelled

pub move_on-requires-clause-room : goal.move_on-requires-clause-room
move_on-requires-clause-room g c = c.requires.may.room

pub move_on-requires-clause-heaps : goal.move_on-requires-clause-heaps
move_on-requires-clause-heaps g c = c.requires.may.there.heaps

pub returns-in-Forward-clause-moves : goal.returns-in-Forward-clause-moves
returns-in-Forward-clause-moves g c = c.move_on.ensures

pub returns-in-Forward-clause-ill : goal.returns-in-Forward-clause-ill
returns-in-Forward-clause-ill g c = λ ill. absurd (ill (holds_at c.home-key.ensures c.in_ok-entry_in.ensures.header c.in-Forward.ensures.holds (λ is. absurd (cc))))
