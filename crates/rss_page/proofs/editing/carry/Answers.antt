use Rattle.std.proofs.Common.{◌≡◌, ◌+◌, ℕ, List, length, set, get_or, sym, ◌∙◌, ap, subst, arith}
use Rattle.rss_page.specs.Content.{Content, Empty, Here, Forward}
use Rattle.rss_page.specs.Slotted.{part, entries, IsAllowed, IsBody, Becomes}
use Rattle.rss_page.specs.declared.entry_form.Entry.TheVariants.{Here as HereEntry}
use Rattle.rss_page.proofs.Contents.{held_is, body_long, lent}
use Rattle.rss_page.proofs.Edits.{edit_ends, ends_beside}
use Rattle.rss_page.proofs.Moves.{ends_without}
use Rattle.rss_page.proofs.editing.carry.Goals as goal

pub overwrite-requires-clause-place : goal.overwrite-requires-clause-place
overwrite-requires-clause-place c =
    let from = c.args.from.now in
    let body : IsBody c.in-Here.place c.in-Here.length = subst (IsAllowed (get_or from 0 0)) (sym c.in-Here.ensures.spelled) (c.requires.from.spelled c.args.slot c.requires.slot).allowed in
    let long : length (part from c.in-Here.place c.in-Here.length) ≡ c.in-Here.length = body_long from (get_or from 0 0) (HereEntry c.in-Here.place c.in-Here.length) c.requires.from.size body in
    let high = rw (held_is from c.args.slot (HereEntry c.in-Here.place c.in-Here.length) c.requires.slot c.in-Here.ensures.spelled) at c.requires.high in
    subst (λ (l : List ℕ). IsBody c.args.end (length l)) (sym (lent from c.in-Here.place c.from-start.result c.in-Here.length c.from.result c.from-start.ensures c.from.ensures)) (record { low = c.requires.low; some = omega (arith, body.some); high = omega arith })

pub returns-in-Empty-clause-becomes : goal.returns-in-Empty-clause-becomes
returns-in-Empty-clause-becomes c = rw (held_is c.args.from.now c.args.slot _ c.requires.slot c.in-Empty.ensures.spelled) (c.remove.ensures.becomes c.requires.slotted)

pub returns-in-Empty-clause-ends : goal.returns-in-Empty-clause-ends
returns-in-Empty-clause-ends c = ends_without c.args.page.now c.remove.new.page c.args.slot c.args.end Empty (c.remove.ensures.becomes c.requires.slotted) (c.remove.ensures.stay c.requires.slotted) (λ other low differ. c.requires.ends other low) c.requires.slot (λ body is. cc)

pub returns-in-Empty-clause-close : goal.returns-in-Empty-clause-close
returns-in-Empty-clause-close c = rw (held_is c.args.from.now c.args.slot _ c.requires.slot c.in-Empty.ensures.spelled) (omega arith)

pub returns-in-Here-clause-becomes : goal.returns-in-Here-clause-becomes
returns-in-Here-clause-becomes c =
    let same = held_is c.args.from.now c.args.slot _ c.requires.slot c.in-Here.ensures.spelled in
    let body = lent c.args.from.now c.in-Here.place c.from-start.result c.in-Here.length c.from.result c.from-start.ensures c.from.ensures in
    subst (λ (x : Content). Becomes c.args.page.now c.overwrite.new.page (set (entries c.args.page.now) c.args.slot x)) (ap Here body ∙ sym same)
    (c.overwrite.ensures c.requires.slotted (ends_beside _ _ _ _ (λ other low differ. c.requires.ends other low))).becomes

pub returns-in-Here-clause-ends : goal.returns-in-Here-clause-ends
returns-in-Here-clause-ends c =
    let from = c.args.from.now in
    let body : IsBody c.in-Here.place c.in-Here.length = subst (IsAllowed (get_or from 0 0)) (sym c.in-Here.ensures.spelled) (c.requires.from.spelled c.args.slot c.requires.slot).allowed in
    let long = ap (λ (l : List ℕ). length l) (lent from c.in-Here.place c.from-start.result c.in-Here.length c.from.result c.from-start.ensures c.from.ensures) ∙ body_long from (get_or from 0 0) (HereEntry c.in-Here.place c.in-Here.length) c.requires.from.size body in
    let wrote = c.overwrite.ensures c.requires.slotted (ends_beside _ _ _ _ (λ other low differ. c.requires.ends other low)) in
    edit_ends c.args.page.now c.overwrite.new.page c.args.slot _ c.args.end (c.args.end + c.in-Here.length) wrote.stands wrote.stay (λ other low differ. c.requires.ends other low) (omega arith) (omega (arith, long))

pub returns-in-Here-clause-close : goal.returns-in-Here-clause-close
returns-in-Here-clause-close c =
    let from = c.args.from.now in
    let body : IsBody c.in-Here.place c.in-Here.length = subst (IsAllowed (get_or from 0 0)) (sym c.in-Here.ensures.spelled) (c.requires.from.spelled c.args.slot c.requires.slot).allowed in
    let long : length (part from c.in-Here.place c.in-Here.length) ≡ c.in-Here.length = body_long from (get_or from 0 0) (HereEntry c.in-Here.place c.in-Here.length) c.requires.from.size body in
    rw (held_is from c.args.slot (HereEntry c.in-Here.place c.in-Here.length) c.requires.slot c.in-Here.ensures.spelled) (omega arith)

pub returns-in-Forward-clause-becomes : goal.returns-in-Forward-clause-becomes
returns-in-Forward-clause-becomes c = rw (held_is c.args.from.now c.args.slot _ c.requires.slot c.in-Forward.ensures.spelled) c.forward_at.ensures.becomes

pub returns-in-Forward-clause-ends : goal.returns-in-Forward-clause-ends
returns-in-Forward-clause-ends c = ends_without c.args.page.now c.forward_at.new.page c.args.slot c.args.end (Forward c.in-Forward.to_page c.in-Forward.to_slot) c.forward_at.ensures.becomes c.forward_at.ensures.stay (λ other low differ. c.requires.ends other low) c.requires.slot (λ body is. cc)

pub returns-in-Forward-clause-close : goal.returns-in-Forward-clause-close
returns-in-Forward-clause-close c = rw (held_is c.args.from.now c.args.slot _ c.requires.slot c.in-Forward.ensures.spelled) (omega arith)
