use Rattle.std.proofs.Common.{◌+◌, ◌-◌, ◌≡◌, ◌∙◌, sym, ap, arith, take, drop}
use Rattle.rss_page.specs.Slotted.{content_of}
use Rattle.rss_page.specs.Content.{Here}
use Rattle.rss_page.proofs.Contents.{entries_at, no_body}
use Rattle.rss_page.proofs.directory.body.Goals as goal

pub returns-clause-some : goal.returns-clause-some
returns-clause-some c =
    let place : c.in-Here.place ≡ c.from-from.result = sym c.from-from.ensures in
    let count : c.in-Here.length ≡ c.from-from.result + c.from.result - c.from-from.result = omega arith in
    entries_at c.args.page.now c.args.slot c.requires.slot ∙ ap (content_of c.args.page.now) (sym c.in-Here.ensures.spelled) ∙ (λ i. Here (take (count i) (drop (place i) c.args.page.now)))

pub returns-in_default : goal.returns-in_default
returns-in_default c = record { some = tt; none = λ body holds. no_body c.args.page.now c.entry.result body (ap (content_of c.args.page.now) c.entry.ensures.spelled ∙ sym (entries_at c.args.page.now c.args.slot c.requires.slot) ∙ holds) c.in_default.not-Here }
