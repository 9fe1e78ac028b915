use Rattle.std.proofs.Common.{◌≡◌, ◌∙◌, ℕ, ap, sym}
use Rattle.std.specs.Prelude.{is_some}
use Rattle.std.proofs.lemmas.Bool.{true≢false}
use Rattle.rss_base.specs.Listings.{relation_at}
use Rattle.rss_model.specs.Machine.{State}
use Rattle.rss_model.specs.Steps.{unless_live}
use Rattle.rss_rsi.specs.Linking.{above_test}
use Rattle.rss_rsi.specs.Parts.{session_of}
use Rattle.rss_rsi.proofs.Chained.{parent_entry}
use Rattle.rss_rsi.proofs.LinkEnds.{test_as}
use Rattle.rss_rsi.proofs.Places.{above_as}
use Rattle.rss_rsi.proofs.engine.Rss.test_parent.Goals as goal

pub returns-clause-ends : goal.returns-clause-ends
returns-clause-ends g c =
    let upper = parent_entry (relation_at c.args.self.now.session.store.catalog.listing) (λ (n : ℕ). n ≡ c.link.result.now.child → ⊥) c.link.result.now.parent c.in-Some-parent.relation c.in-Some-parent.is c.link.ensures.safe.parent in
    test_as (λ (state : State). unless_live state upper.0.name c.in-Some.tid) (above_test c.args.link.now c.args.parent)
    (λ told state kept shows. above_as (session_of c.args.self.now) c.args.link.now c.args.number c.requires.known c.link.ensures.is c.in-Some-parent.relation c.in-Some-parent.is upper.1 c.args.parent c.in-Some.tid c.in-Some.is state shows)
    c.test_there.result (c.test_there.ensures.ends upper.0 upper.1)

pub unreachable-requires : goal.unreachable-requires
unreachable-requires g c = true≢false (sym (ap is_some c.in-Some.is) ∙ sym (c.requires.form c.link.result.now c.link.ensures.is) ∙ ap is_some c.in_default-parent.is)
