-- The call that opens a scan of a chain: what its step comes to.
use Rattle.std.proofs.Common.{◌≡◌, inl, inr, ℕ, ◌+◌, List, [], ◌∷◌, refl, sym, ◌∙◌, ap, subst, arith}
use Rattle.std.specs.Prelude.{Option, Some, None, Result, Ok, Err, is_some}
use Rattle.std.specs.FinMap as map
use Rattle.std.proofs.lemmas.Bool.{cases_lt}
use Rattle.rss_base.specs.DiskRule.{IsTold}
use Rattle.rss_base.specs.Listings.{Listing, IsNumberOf}
use Rattle.rss_base.specs.declared.refusal.Kind.TheVariants.{Link as LinkKind}
use Rattle.rss_catalog.specs.Catalogs.{HasNoLesser}
use Rattle.rss_members.specs.Calls.{HasForm}
use Rattle.rss_base.specs.declared.answer.CallError.{CallError}
use Rattle.rss_base.specs.declared.answer.CallError.TheVariants.{Refused}
use Rattle.rss_base.specs.declared.answer.Reply.TheVariants.{Number}
use Rattle.rss_base.specs.declared.call.Call.TheVariants.{OpenLink}
use Rattle.rss_base.specs.declared.name.Name.{Name}
use Rattle.rss_base.specs.declared.need.Need.{Need}
use Rattle.rss_base.specs.declared.refusal.LimitKind.TheVariants.{Scans as ScanLimit}
use Rattle.rss_base.specs.declared.refusal.Refusal.{Refusal}
use Rattle.rss_base.specs.declared.refusal.Refusal.TheVariants.{Limit}
use Rattle.rss_base.specs.declared.tid.Tid.{Tid}
use Rattle.rss_lock.specs.Locks.{LocksView}
use Rattle.rss_stored.specs.Calls.{IsCallOf}
use Rattle.rss_model.specs.Locks.{granted}
use Rattle.rss_model.specs.Machine.{State}
use Rattle.rss_model.specs.Needs.{needs}
use Rattle.rss_model.specs.Refusals.{if_scans_used_up}
use Rattle.rss_model.specs.Scans.{LinkPath, scans_most, new_scan}
use Rattle.rss_model.specs.Steps.{first_of, locked_by, with_scan}
use Rattle.rss_model.specs.Steps.StepBy.{opens}
use Rattle.rss_stored.proofs.Endings.{comes_to}
use Rattle.rss_model.proofs.Tests.{goes_on}
use Rattle.rss_scan.specs.Scans.{IsLeastFree, begun}
use Rattle.rss_scan.specs.declared.cursor.Path.TheVariants.{Link}
use Rattle.rss_session.specs.Admissions.{Says, link_admission}
use Rattle.rss_session.specs.Sessions.{SessionView}
use Rattle.rss_rsi.specs.Imaging.{Searches}
use Rattle.rss_rsi.specs.Linking.{SaysFound, TestEnds, above_test}
use Rattle.rss_rsi.specs.Locking.{IsClaimed, Lists}
use Rattle.rss_rsi.specs.Views.{RssParts, AreScans, HasChain, IsIn, engine_view}
use Rattle.rss_rsi.proofs.Claims.{free_as, grants_as}
use Rattle.rss_rsi.proofs.LinkTests.{linked_passes, linked_unfit, open_link_linked, open_link_tests}
use Rattle.rss_rsi.proofs.Looks.{goes_costly}
use Rattle.rss_rsi.proofs.ScanCalls.{number_placed}
use Rattle.rss_rsi.proofs.Scans.{scans_full, scans_left, unused}
use Rattle.rss_rsi.proofs.Spelled.{added_scans}
use Rattle.rss_rsi.proofs.TransactionSteps.{number_line}
use Rattle.rss_rsi.proofs.Ways.{answers, leads_by, left_same, refused_alike, shows_locked, shows_scanned}

-- the first link of the name has parents exactly where one is given
pub chain_first : (listing : Listing) (link : Name) (number : ℕ) (parent : Option Tid) → IsNumberOf LinkKind listing link number → HasNoLesser LinkKind listing link number → HasForm listing number parent → HasChain listing link parent
chain_first listing link number parent named first form = (
  (λ unlisted. unlisted number named),
  (λ other named_too first_too. subst (λ (n : ℕ). HasForm listing n parent) (same other named_too first_too) form),
)
  where
    same : (other : ℕ) → IsNumberOf LinkKind listing link other → HasNoLesser LinkKind listing link other → number ≡ other
    same other named_too first_too = elim (cases_lt number other) [
      | inl low ↦ absurd (first_too number low named)
      | inr high ↦ elim (cases_lt other number) [
        | inl low ↦ absurd (first other low named_too)
        | inr low ↦ omega (arith, high, low)
      ]
    ]

-- a test that doesn't fail is passed
pub test_passed : {old new : SessionView} {up : Type 0} {test : State → Option Refusal} {T : Type 0} (result : Result T CallError) → ((why : CallError) → result ≡ Err why → ⊥) → TestEnds old new up test result → up × Searches old new × SaysFound old test None
test_passed (Ok found) fails ends = ends.by
test_passed (Err why) fails ends = absurd (fails why refl)

module _ (parts : RssParts) (t : ℕ) (link : Name) (parent : Option Tid) (admitted : Says parts.session (λ state. link_admission state t link (Some (is_some parent))) None) where
  -- as many scans are open as may be
  pub link_full : {n m : ℕ} {up up_now : Type 0} → m ≡ n + 1 → up → up_now → map.len parts.scans ≡ scans_most → IsCallOf (engine_view parts n up) (engine_view parts m up_now) (OpenLink t link parent) (Err (Refused (Limit ScanLimit)))
  link_full calls was_up is_up full = refused_alike (Err (Refused (Limit ScanLimit))) refl was_up is_up calls (omega arith) (λ told state is_in. (
    linked_unfit (open_link_linked t link parent) state (goes_on (if_scans_used_up state ∷ []) (admitted told state is_in.shows) ∙ ap (λ (o : Option Refusal). first_of (o ∷ [])) (scans_full is_in full)),
    left_same (OpenLink t link parent) (Limit ScanLimit) refl is_in,
  ))

  module _ (room : map.len parts.scans ≡ scans_most → ⊥) where
    -- it is admitted else
    pub link_admitted : IsTold parts.session.store.pages.disk → (state : State) → IsIn parts state → open_link_tests t link parent state ≡ None
    link_admitted told state is_in = goes_on (if_scans_used_up state ∷ []) (admitted told state is_in.shows) ∙ goes_on [] (scans_left is_in room)

    -- and the scan is open, where the parent is there
    pub link_opens : {list : List Need} → Lists parts (λ tables. needs tables (OpenLink t link parent)) list → {claimed : LocksView} → IsClaimed parts.locks claimed t list → {new : RssParts} → Searches parts.session new.session → SaysFound parts.session (above_test link parent) None
        → new.locks.locks ≡ granted t list parts.locks.locks → (number : ℕ) → IsLeastFree parts.scans number → new.scans ≡ map.insert parts.scans number (begun t (Link link parent))
        → {n m : ℕ} {up up_now : Type 0} → m ≡ n + 1 → up → up_now → IsCallOf (engine_view parts n up) (engine_view new m up_now) (OpenLink t link parent) (Ok (Number number))
    link_opens {list = list} lists claim {new = new} looks passed taken number least added {n = n} {up = up} calls was_up is_up = comes_to was_up (goes_costly parts new looks calls (open_link_linked t link parent).may)
        (answers is_up (number_line number (omega (arith, least.within))) (λ told state is_in. number_placed (engine_view parts n up) state (OpenLink t link parent) number) (λ told state is_in.
        let listed = lists told state is_in in
        leads_by (with_scan number (new_scan t (LinkPath link parent)) (locked_by (Some t) (OpenLink t link parent) state)) looks.moments told is_in
        (opens (OpenLink t link parent) t number (LinkPath link parent)
        (linked_passes (open_link_linked t link parent) state (link_admitted told state is_in) (free_as is_in (OpenLink t link parent) listed claim) (passed told state is_in.kept is_in.shows))
        refl refl (omega (arith, least.within)) (unused is_in number least.free))
        (shows_scanned _ (shows_locked _ (looks.shows told state is_in.shows)))
        (grants_as is_in (OpenLink t link parent) listed t ∙ sym taken)
        (subst (AreScans state.base.definitions (map.insert state.scans number (new_scan t (LinkPath link parent)))) (sym added)
        (added_scans t number (LinkPath link parent) (Link link parent) is_in.scanned refl tt))))
