use Rattle.std.proofs.Common.{refl, sym, ◌∙◌, ap, List, ℕ}
use Rattle.std.proofs.lemmas.Option.{same_Some}
use Rattle.rss_base.specs.declared.relation.RelationEntry.{RelationEntry}
use Rattle.rss_model.specs.Chains.{is_there}
use Rattle.rss_members.specs.Calls.{both, begins}
use Rattle.rss_members.proofs.Asked.{fetched_says}
use Rattle.rss_members.proofs.reading.is_there.Goals as goal

pub returns-then-live-clause-finds : goal.returns-then-live-clause-finds
returns-then-live-clause-finds g c = λ told tables relation spells at.
    let same = same_Some _ _ (sym at ∙ c.relation.ensures.is) in
    c.begins.ensures ∙ ap (λ (body : List ℕ). begins c.args.relation body) c.as_slice.ensures.bytes
    ∙ (fetched_says (both (g.T.Tuples.view c.args.tuples.now) c.args.catalog.now) spells c.args.relation c.relation.result.now c.relation.ensures.is c.args.tid _ refl _ _ (c.in_ok-live.ensures.fetched told)).0 c.if-live.true
    ∙ ap (λ (r : RelationEntry). is_there tables.contents r.name c.args.tid) (sym same)

pub returns-else-live-clause-finds : goal.returns-else-live-clause-finds
returns-else-live-clause-finds g c = λ told tables relation spells at.
    let same = same_Some _ _ (sym at ∙ c.relation.ensures.is) in
    (fetched_says (both (g.T.Tuples.view c.args.tuples.now) c.args.catalog.now) spells c.args.relation c.relation.result.now c.relation.ensures.is c.args.tid _ refl _ _ (c.in_ok-live.ensures.fetched told)).1 c.if-live.false
    ∙ ap (λ (r : RelationEntry). is_there tables.contents r.name c.args.tid) (sym same)
