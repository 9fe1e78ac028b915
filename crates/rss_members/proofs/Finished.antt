-- How a call that changes a chain ends.
use Rattle.std.proofs.Common.{◌≡◌, ℕ, ◌+◌, ◌*◌, Bool, true, Option, Some, refl, sym, ◌∙◌, ap, subst, arith}
use Rattle.std.specs.Prelude.{is_some, Result, Ok, Err, OnOk, OnErr, IfErr, IsErrAnd}
use Rattle.std.proofs.Math.Logic.{∥∥₁_elim}
use mathlib.Core.HLevel.{⊥_prop}
use Rattle.std.proofs.lemmas.Result.{err_from_is_err_and}
use Rattle.rss_base.specs.Listings.{link_at}
use Rattle.rss_base.specs.Prefixes.{Ends}
use Rattle.rss_base.specs.Steps.{Keys, no_page}
use Rattle.rss_base.specs.declared.fault.PageFault.{PageFault}
use Rattle.rss_base.specs.declared.fault.PageFault.TheVariants.{Damaged}
use Rattle.rss_base.specs.declared.key.PageKey.{PageKey}
use Rattle.rss_base.specs.declared.link.LinkEntry.{LinkEntry}
use Rattle.rss_base.specs.declared.place.Place.{Place}
use Rattle.rss_base.specs.declared.tid.Tid.{Tid}
use Rattle.rss_base.proofs.Steps as pages
use Rattle.rss_catalog.specs.Catalogs.{CatalogView}
use Rattle.rss_tuple.specs.Placing.{TakesOnly}
use Rattle.rss_tuple.specs.TupleSteps.{TuplesView, Tuples, TuplesCall, no_tuple}
use Rattle.rss_link.specs.declared.link.Chains.{Chains}
use Rattle.rss_link.specs.Calls.{TellsBodies, link_pages, link_tuples}
use Rattle.rss_link.proofs.TupleSteps.{TuplesStep, then, then_call, within, widens, untouched, done, same_slots, told_then, takes_after}
use Rattle.rss_members.specs.Members.{chains_of}
use Rattle.rss_members.specs.Calls.{both, TriesTuples, Relinks, SetsEnds, pages_of_link, pages_in_link, tuples_of_link, tuples_in_link, relink_cost}

-- a call that finds no damage on a device that tells its contents tries as well
pub tried : {T : Type 0} {touched : Keys} {tuples : Tuples} {cost : ℕ} {old new : TuplesView} {result : Result T PageFault} → TuplesCall touched tuples cost old new result → TriesTuples touched tuples cost old new result
tried call = record { step = call.below.step; failed = call.below.failed; memory = call.below.memory; heaps = call.heaps; others = call.others }

-- the error of a call is passed on
pub passed_on : {T : Type 0} (P : Result T PageFault → Type 0) (result : Result T PageFault) {fault : PageFault} → IsErrAnd result (λ why. why ≡ fault) → P (Err fault) → P result
passed_on P result is holds = let why = err_from_is_err_and result is in subst P (sym (why.1 ∙ ap Err why.2)) holds

pub not_told : {T X : Type 0} {result : Result T PageFault} {fault : PageFault} → result ≡ Err fault → OnErr result X → X
not_told {X = X} is says = subst (λ r. OnErr r X) is says

-- what is said of an error, where something is known
pub never_by : {T A B K : Type 0} {told : Type 0} (result : Result T PageFault) → OnErr result (A → B → ⊥) → (told → ∥ K ∥₁) → (told → K → A × B) → OnErr result (told → ⊥)
never_by (Ok value) unlike knows has = tt
never_by (Err fault) unlike knows has = λ is. ∥∥₁_elim (knows is) ⊥_prop (λ k. let both = has is k in unlike both.0 both.1)

-- what the link's calls may touch
module _ (number : ℕ) (catalog : CatalogView) (works : Chains) (link : LinkEntry) (at : link_at catalog.listing number ≡ Some link) (is : works ≡ chains_of catalog.listing number link) where
  in_pages : (key : PageKey) → link_pages works key → pages_of_link catalog.listing number key
  in_pages key there = subst (λ (o : Option LinkEntry). pages_in_link catalog.listing number o key) (sym at) (subst (λ (w : Chains). link_pages w key) is there)

  in_tuples : (segment : ℕ) (tid : Tid) → link_tuples works segment tid → tuples_of_link catalog.listing number segment tid
  in_tuples segment tid there = subst (λ (o : Option LinkEntry). tuples_in_link catalog.listing number o segment tid) (sym at) (subst (λ (w : Chains). link_tuples w segment tid) is there)

module _ {T : Type 0} (number : ℕ) (old mid : TuplesView) (catalog : CatalogView) where
  -- the test failed
  pub test_fails : (fault : PageFault) → TuplesCall {T = Bool} no_page no_tuple 16 old mid (Err fault) → Relinks {T = T} number (both old catalog) (both mid catalog) (Err fault)
  test_fails fault call = record {
    did = record {
      step = pages.within (λ key none. absurd none) (omega arith) (omega arith) call.below.step;
      failed = λ is. call.below.failed (ap (λ (r : Result T PageFault). moved r) is);
      memory = λ is. call.below.memory (ap (λ (r : Result T PageFault). moved r) is);
      heaps = tt;
      others = tt;
    };
    takes = tt;
    lists = tt;
    listed = tt;
    unlisted = refl;
    kept = λ place is told. call.below.step;
  }
    where
      moved : Result T PageFault → Result Bool PageFault
      moved (Ok value) = Ok true
      moved (Err fault) = Err fault

  -- it can't be done
  pub refuses : (fault : PageFault) (place : Place) → fault ≡ Damaged place → TuplesStep no_page no_tuple 16 old mid → Relinks {T = T} number (both old catalog) (both mid catalog) (Err fault)
  refuses fault place is step = subst (λ (f : PageFault). Relinks {T = T} number (both old catalog) (both mid catalog) (Err f)) (sym is) (record {
    did = record {
      step = pages.within (λ key none. absurd none) (omega arith) (omega arith) step.below;
      failed = λ is. absurd (cc (is));
      memory = λ is. absurd (cc (is));
      heaps = tt;
      others = tt;
    };
    takes = tt;
    lists = tt;
    listed = tt;
    unlisted = refl;
    kept = λ place is told. step.below;
  })

  module _ (new : TuplesView) (works : Chains) (link : LinkEntry) (at : link_at catalog.listing number ≡ Some link) (is : works ≡ chains_of catalog.listing number link) (step : TuplesStep no_page no_tuple 16 old mid) where
    -- the link's call failed
    pub link_fails : (fault : PageFault) → TuplesCall {T = T} (link_pages works) (link_tuples works) (3 * mid.pages.slots + 29) mid new (Err fault) → Relinks {T = T} number (both old catalog) (both new catalog) (Err fault)
    link_fails fault call =
        let whole = widens (Err fault) (in_pages number catalog works link at is) (in_tuples number catalog works link at is) (omega (arith, same_slots step)) (then_call (Err fault) (untouched step) call) in
        record {
          did = tried whole;
          takes = tt;
          lists = tt;
          listed = tt;
          unlisted = refl;
          kept = λ place is told. absurd (whole.below.sound place is told);
        }

    -- and all is done but that the ends are listed
    pub finishes : (now : CatalogView) (ends : Ends) (place : Place) (result : Result T PageFault) → TuplesStep (link_pages works) (link_tuples works) (3 * mid.pages.slots + 29) mid new
        → (TellsBodies mid → TakesOnly no_page mid.pages new.pages) → OnOk result (SetsEnds number ends catalog now) → OnErr result (now ≡ catalog) → IfErr result (λ fault. fault ≡ Damaged place)
        → OnErr result (TellsBodies old → ⊥) → Relinks number (both old catalog) (both new now) result
    finishes now ends place (Ok value) more takes sets same fault never = record {
      did = tried (done value (within (in_pages number catalog works link at is) (in_tuples number catalog works link at is) (omega (arith, same_slots step)) (then (untouched step) more)));
      takes = λ told. takes_after new.pages step (takes (told_then step told));
      lists = λ link at. (sets link at).0;
      listed = ap is_some at;
      unlisted = tt;
      kept = λ place is. absurd (cc (is));
    }
    finishes now ends place (Err found) more takes sets same fault never =
        let whole : TuplesStep (pages_of_link catalog.listing number) (tuples_of_link catalog.listing number) (relink_cost old.pages.slots) old new = within (in_pages number catalog works link at is) (in_tuples number catalog works link at is) (omega (arith, same_slots step)) (then (untouched step) more) in
        subst (λ (f : PageFault). Relinks {T = T} number (both old catalog) (both new now) (Err f)) (sym fault) (record {
          did = record {
            step = whole.below;
            failed = λ is. absurd (cc (is));
            memory = λ is. absurd (cc (is));
            heaps = tt;
            others = tt;
          };
          takes = tt;
          lists = tt;
          listed = tt;
          unlisted = same;
          kept = λ place is told. absurd (never told);
        })
