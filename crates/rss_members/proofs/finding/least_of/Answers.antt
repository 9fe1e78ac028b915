use Rattle.std.proofs.Common.{sym, ◌∙◌}
use Rattle.rss_catalog.proofs.Numbered.{unused_none}
use Rattle.rss_model.proofs.LogLists.{false_true, none_some}
use Rattle.rss_members.proofs.Defined.{child_listed}
use Rattle.rss_members.proofs.LinkFound.{first_passes, first_more}
use Rattle.rss_members.proofs.Sums.{link_used}
use Rattle.rss_members.proofs.finding.least_of.Goals as goal

pub returns-then-not-used-clause-finds : goal.returns-then-not-used-clause-finds
returns-then-not-used-clause-finds g c = λ told tables relation spells at there first.
    let none = unused_none _ (sym (link_used c.args.catalog.now.listing c.args.link) ∙ sym c.used.ensures ∙ c.if-not-used.true) in
    first_passes c.args.catalog.now.listing tables relation.name c.args.tid c.args.link c.args.least first (λ connects. none_some (sym none ∙ connects.listed.at))

pub is_connected-requires-clause-listed : goal.is_connected-requires-clause-listed
is_connected-requires-clause-listed g c = sym (link_used c.args.catalog.now.listing c.args.link) ∙ sym c.used.ensures ∙ c.if-not-used.false

pub link-requires : goal.link-requires
link-requires g c = sym (link_used c.args.catalog.now.listing c.args.link) ∙ sym c.used.ensures ∙ c.if-not-used.false

pub returns-then-not-branch-clause-finds : goal.returns-then-not-branch-clause-finds
returns-then-not-branch-clause-finds g c = λ told tables relation spells at there first.
    first_passes c.args.catalog.now.listing tables relation.name c.args.tid c.args.link c.args.least first
    (λ connects. false_true connects.is (sym (c.in_ok-is_connected.ensures.is told tables relation spells at there connects.link connects.child connects.listed) ∙ c.if-not-branch.true))

pub returns-clause-finds : goal.returns-clause-finds
returns-clause-finds g c = λ told tables relation spells at there first.
    let child = child_listed spells c.args.link c.link.result.now c.link.ensures.is in
    first_more c.args.catalog.now.listing tables relation.name c.args.tid c.args.link c.args.least c.lesser_of.result first
    (record { link = c.link.result.now; child = child.0; listed = child.1; is = sym (c.in_ok-is_connected.ensures.is told tables relation spells at there c.link.result.now child.0 child.1) ∙ c.if-not-branch.false })
    c.lesser_of.ensures
