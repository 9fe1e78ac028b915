-- The next tuple that pages have of a relation is what its list has next.
use Rattle.std.proofs.Common.{ℕ, true, List, ◌++◌, sym, ◌∙◌, ap, subst}
use Rattle.std.specs.Prelude.{Option, Some, None}
use Rattle.std.proofs.lemmas.Option.{same_Some}
use Rattle.rss_base.specs.Steps.{PagesView}
use Rattle.rss_base.specs.TupleTypes.{tuple_bytes}
use Rattle.rss_base.specs.declared.relation.RelationEntry.{RelationEntry}
use Rattle.rss_base.specs.declared.tid.Tid.{Tid}
use Rattle.rss_model.specs.Machine.{State, now}
use Rattle.rss_stored.specs.Store.{fields_at, prefix_of}
use Rattle.rss_model.proofs.RelationLists.{StandsAfter, next_is, next_none}
use Rattle.rss_model.proofs.StepKeeping.{kept_fit}
use Rattle.rss_base.specs.Paged.{Held}
use Rattle.rss_tuple.specs.declared.body_at.BodyAt.{BodyAt}
use Rattle.rss_tuple.proofs.Located.{stands_so}
use Rattle.rss_access.specs.Tuples.{body_at, FindsBody, IsNextOf, IsNextBody, FindsNextBodyAt}
use Rattle.rss_access.proofs.Spelling.{found_values}
use Rattle.rss_session.specs.Sessions.{SessionView}
use Rattle.rss_session.specs.Shown.{Shows}
use Rattle.rss_session.specs.Looks.{IsRelationIn, FindsNextTuple, FindsNextTupleAt}

-- a body of the relation
body_found : {pages : PagesView} {segment number : ℕ} {after : Option Tid} {bytes : List ℕ} {tid : Tid} → IsNextBody segment number after pages bytes tid → FindsBody segment number tid pages true bytes
body_found is = record {
  rest = is.least.has.rest;
  some = λ there. (same_Some _ _ (sym is.body ∙ is.least.has.body), is.body);
  none = λ there. absurd (cc (there));
}

module _ (view : SessionView) (segment number : ℕ) (after : Option Tid) where
  -- a tuple of the relation has its body in the pages
  next_of : (state : State) (relation : RelationEntry) → Shows view state → IsRelationIn view segment number relation → (tid : Tid) → StandsAfter (now state) relation.name after tid → IsNextOf segment number after view.store.pages tid
  next_of state relation shows in_it tid stands = record {
    rest = prefix_of view.store.catalog.listing (now state).contents number tid ++ tuple_bytes (fields_at view.store.catalog.listing number) stands.values;
    behind = stands.behind;
    body = ap (λ (s : ℕ). body_at view.store.pages s tid) (sym in_it.within) ∙ shows.store.spells.contents.stands number relation tid stands.values in_it.at stands.there;
  }

  next_tuple : (tid : Tid) (body : List ℕ) → IsNextBody segment number after view.store.pages body tid → FindsNextTuple view segment number after (Some tid) body
  next_tuple tid body is = λ state relation kept shows in_it.
      let found = found_values shows.store.spells (kept_fit state kept).1 number relation in_it.at tid body (subst (λ (s : ℕ). FindsBody s number tid view.store.pages true body) (sym in_it.within) (body_found is)) in (
        next_is (now state) relation.name after tid (record { values = found.values; there = found.holds; behind = is.least.has.behind })
            (λ other before stands. is.least.least other before (next_of state relation shows in_it other stands)),
        record { values = found.values; spelled = found.body; holds = found.holds },
      )

  pub finds_next : (pages : Held) (found : Option (Tid × BodyAt)) → FindsNextBodyAt segment number after view.store.pages pages found → FindsNextTupleAt view segment number after pages found
  finds_next pages None none = λ state relation kept shows in_it. (next_none (now state) relation.name after (λ tid stands. none tid (next_of state relation shows in_it tid stands)), tt)
  finds_next pages (Some next) is = stands_so (λ bytes its. next_tuple next.0 bytes its) is
