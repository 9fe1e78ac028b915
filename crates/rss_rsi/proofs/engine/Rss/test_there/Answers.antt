use Rattle.std.proofs.Common.{refl, sym, ◌∙◌, ap, arith}
use Rattle.std.specs.Prelude.{is_some}
use Rattle.std.proofs.lemmas.Option.{same_Some}
use Rattle.rss_base.specs.declared.refusal.Refusal.TheVariants.{NoTuple}
use Rattle.rss_base.specs.declared.relation.RelationEntry.{RelationEntry}
use Rattle.rss_model.specs.Machine.{State}
use Rattle.rss_model.specs.Steps.{unless_live}
use Rattle.rss_model.proofs.Tests.{passes_unless}
use Rattle.rss_session.proofs.Behind.{looks_itself}
use Rattle.rss_rsi.specs.Parts.{parts_of}
use Rattle.rss_rsi.proofs.LinkEnds.{absent_past, passed_test, test_fails, test_lacks, test_passes}
use Rattle.rss_rsi.proofs.Looks.{ready_looked}
use Rattle.rss_rsi.proofs.engine.Rss.test_there.Goals as goal

pub returns-then-from-ge-PAGE_ENTRIES-clause-ends : goal.returns-then-from-ge-PAGE_ENTRIES-clause-ends
returns-then-from-ge-PAGE_ENTRIES-clause-ends g c = λ relation at.
    test_lacks relation.name c.relation-entry.result.now.name c.args.tid c.no_tuple.result c.no_tuple.ensures.is c.no_tuple.ensures.short (ap (λ (r : RelationEntry). r.name) (same_Some _ _ (sym c.relation-entry.ensures.is ∙ at)))
    (looks_itself (tt {0}) (c.args.self.now.ready c.requires.up).session) c.requires.up
    (λ told state kept shows. absent_past kept relation.name c.args.tid (λ slot. absurd (omega (arith, slot, c.if-from-ge-PAGE_ENTRIES.true, c.from.ensures))))

pub returns-in_err-found-clause-ends : goal.returns-in_err-found-clause-ends
returns-in_err-found-clause-ends g c = λ relation at. passed_test c.from_residual.result c.from_residual.ensures.1 (test_fails (λ (state : State). unless_live state relation.name c.args.tid) _ c.in_err-found.ensures.looks (λ up. absurd (cc (up))))

pub invariant_of-self-2 : goal.invariant_of-self-2
invariant_of-self-2 g c = record { ready = λ up. ready_looked (parts_of c.args.self.now) _ {found = c.in_ok-found.found} (c.args.self.now.ready c.requires.up) c.in_ok-found.ensures.looks (record { locks = refl; scans = refl }) }

pub returns-in-None-clause-ends : goal.returns-in-None-clause-ends
returns-in-None-clause-ends g c = λ relation at.
    let same = same_Some _ _ (sym c.relation-entry.ensures.is ∙ at) in
    test_lacks relation.name c.relation-entry.result.now.name c.args.tid c.no_tuple-in-None.result c.no_tuple-in-None.ensures.is c.no_tuple-in-None.ensures.short (ap (λ (r : RelationEntry). r.name) same)
    c.in_ok-found.ensures.looks refl
    (λ told state kept shows. ((rw c.in-None.is at c.in_ok-found.ensures.finds) told).none refl state relation kept shows (record { at = at; within = ap (λ (r : RelationEntry). r.segment) (sym same) }))

pub returns-in-Some-clause-ends : goal.returns-in-Some-clause-ends
returns-in-Some-clause-ends g c = λ relation at.
    let same = same_Some _ _ (sym c.relation-entry.ensures.is ∙ at) in
    test_passes (λ (state : State). unless_live state relation.name c.args.tid) (tt {0}) c.in_ok-found.ensures.looks refl
    (λ told state kept shows.
    let stands = (rw c.in-Some.is at c.in_ok-found.ensures.finds) told in
    passes_unless (NoTuple relation.name c.args.tid) (ap is_some (stands.so.some refl state relation kept shows (record { at = at; within = ap (λ (r : RelationEntry). r.segment) (sym same) })).holds))
