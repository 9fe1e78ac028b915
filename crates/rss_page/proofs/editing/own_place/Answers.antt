use Rattle.std.proofs.Common.{◌≡◌, ◌∙◌, ℕ, get_or, refl, sym, ap, subst, arith}
use Rattle.rss_page.specs.declared.entry_form.Entry.TheVariants.{Here as HereEntry}
use Rattle.rss_page.specs.Content.{body_length}
use Rattle.rss_page.specs.Slotted.{part, entry_of, IsAllowed, IsBody}
use Rattle.rss_page.proofs.Contents.{held_is, body_long, no_body}
use Rattle.rss_page.proofs.Edits.{own_beside}
use Rattle.rss_page.proofs.editing.own_place.Goals as goal
use Rattle.rss_page.proofs.editing.own_place.Goals.{In-Here}

-- the entry of the slot, and where its body stands
entry_is : (c : In-Here) → HereEntry c.in-Here.place c.in-Here.own ≡ entry_of c.args.page.now c.args.slot
entry_is c = sym c.in-Here.is ∙ c.in_ok-place.ensures.spelled

whole : (c : In-Here) → IsBody c.in-Here.place c.in-Here.own
whole c = subst (IsAllowed (get_or c.args.page.now 0 0)) (sym (entry_is c)) (c.in_ok-place.ensures.exact.0 refl).allowed

pub returns-then-length-own-clause-own : goal.returns-then-length-own-clause-own
returns-then-length-own-clause-own c =
    let page = c.args.page.now in
    let place : ℕ = c.in-Here.place in
    let own : ℕ = c.in-Here.own in
    let at = (goal.at.returns-then-length-own-clause-own c).In-Here in
    record {
      body = part page place own;
      here = held_is page c.args.slot (HereEntry place own) c.requires.slot (entry_is at);
      long = omega (arith, body_long page (get_or page 0 0) (HereEntry place own) c.told-page (whole at));
      beside = λ slotted. own_beside page c.args.slot place own c.args.length slotted c.requires.slot (sym (entry_is at)) c.requires.some (omega arith);
    }

pub returns-else-length-own-clause-none : goal.returns-else-length-own-clause-none
returns-else-length-own-clause-none c = λ slotted body here few.
    let page = c.args.page.now in
    let entry = HereEntry c.in-Here.place c.in-Here.own in
    let at = (goal.at.returns-else-length-own-clause-none c).In-Here in
    let same = ap body_length (sym (held_is page c.args.slot entry c.requires.slot (entry_is at)) ∙ here) in
    omega (arith, c.if-length-own.false, few, same, body_long page (get_or page 0 0) entry c.told-page (whole at))

pub returns-in_default : goal.returns-in_default
returns-in_default c = record {
  place = tt;
  own = tt;
  none = λ slotted body here few.
      let page = c.args.page.now in
      let entry = c.in_ok-place.field-0 in
      no_body page entry body (sym (held_is page c.args.slot entry c.requires.slot c.in_ok-place.ensures.spelled) ∙ here) c.in_default.not-Here;
}
