use Rattle.rss_page.proofs.Edits.{ends_beside}
use Rattle.rss_page.proofs.editing.put_found.Goals as goal

pub returns-in-Some-clause-becomes : goal.returns-in-Some-clause-becomes
returns-in-Some-clause-becomes c =
    let slotted = c.requires.may.slotted in
    (c.overwrite.ensures slotted (c.in-Some.ensures.own.beside slotted)).becomes

pub returns-in-Some-clause-stay : goal.returns-in-Some-clause-stay
returns-in-Some-clause-stay c = λ end ends high.
    let slotted = c.requires.may.slotted in
    (c.overwrite.ensures slotted (c.in-Some.ensures.own.beside slotted)).stay

pub returns-then-found-body-clause-becomes : goal.returns-then-found-body-clause-becomes
returns-then-found-body-clause-becomes c =
    (c.overwrite-then-found-body.ensures c.requires.may.slotted (ends_beside _ _ _ _ (λ other low differ. c.requires.found.ends other low))).becomes

pub returns-then-found-body-clause-stay : goal.returns-then-found-body-clause-stay
returns-then-found-body-clause-stay c = λ end ends high.
    (c.overwrite-then-found-body.ensures c.requires.may.slotted (ends_beside _ _ _ _ (λ other low differ. c.requires.found.ends other low))).stay
