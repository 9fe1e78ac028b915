use Rattle.std.proofs.Common.{sym, ap}
use Rattle.std.proofs.lemmas.Result.{IfOk-weaker}
use Rattle.rss_base.specs.Prefixes.{first_of as first_in}
use Rattle.rss_model.proofs.LogLists.{false_true}
use Rattle.rss_members.specs.Calls.{both}
use Rattle.rss_link.proofs.TupleSteps.{stepped, then_call, told_then, told_before}
use Rattle.rss_members.proofs.Defined.{child_listed}
use Rattle.rss_members.proofs.Found.{above_of, empty_without}
use Rattle.rss_members.proofs.Later.{chain_then, spells_then, spells_before}
use Rattle.rss_members.proofs.reading.first_under.Goals as goal

pub returns-then-not-branch-clause-first : goal.returns-then-not-branch-clause-first
returns-then-not-branch-clause-first g c = λ told tables link spells at.
    let child = child_listed spells c.args.link link at in
    ap first_in (sym (empty_without spells c.args.link link child.0 child.1 c.args.parent
    (λ has. false_true ((c.in_ok-has_parent.ensures.has told tables link child.0 spells child.1).1 has) c.if-not-branch.true)))

pub first_of-requires : goal.first_of-requires
first_of-requires g c =
    let step = stepped c.in_ok-has_parent.ensures.did in
    let may = chain_then step c.args.catalog.now c.requires in
    above_of (both (g.T.Tuples.view c.has_parent.new.tuples) c.args.catalog.now) c.args.link may.listed may.heaps may.knows c.args.parent
    (λ told tables link child spells listed.
    (c.in_ok-has_parent.ensures.has (told_before step told) tables link child (spells_before step c.args.catalog.now (told_before step told) spells) listed).0 c.if-not-branch.false)

pub returns-clause-first : goal.returns-clause-first
returns-clause-first g c =
    let step = stepped c.in_ok-has_parent.ensures.did in
    IfOk-weaker c.first_of.result _ _ (λ found answers told tables link spells at.
    let child = child_listed spells c.args.link link at in
    answers (told_then step told) tables link child.0 (spells_then step c.args.catalog.now told spells) child.1
    ((c.in_ok-has_parent.ensures.has told tables link child.0 spells child.1).0 c.if-not-branch.false)) c.first_of.ensures.first

pub returns-clause-did : goal.returns-clause-did
returns-clause-did g c = then_call _ (stepped c.in_ok-has_parent.ensures.did) c.first_of.ensures.did
