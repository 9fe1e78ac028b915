use Rattle.std.proofs.Common.{◌∙◌, get_or, ap, subst, arith}
use Rattle.rss_page.specs.declared.entry_form.Entry.TheVariants.{Here as HereEntry}
use Rattle.rss_page.specs.Slotted.{part, content_of, IsAllowed}
use Rattle.rss_page.proofs.Contents.{body_long}
use Rattle.rss_tuple.proofs.reading.look_in.Goals as goal

pub returns-then-from-gt-BODY_BYTES-clause-ill : goal.returns-then-from-gt-BODY_BYTES-clause-ill
returns-then-from-gt-BODY_BYTES-clause-ill c = λ formed short.
    let page = c.args.page.now in
    let holds = c.in_ok-entry_in.ensures.holds ∙ ap (content_of page) c.in-Here.is in
    let allowed = subst (IsAllowed (get_or page 0 0)) c.in-Here.is c.in_ok-entry_in.ensures.allowed in
    let long = body_long page (get_or page 0 0) (HereEntry c.in-Here.place c.in-Here.length) formed.slotted.size allowed in
    let few = short (part page c.in-Here.place c.in-Here.length) holds in
    omega (arith, long, few, c.from.ensures, c.if-from-gt-BODY_BYTES.true)
