-- What the calls on links are refused for, by the first of their tests that fails.
use Rattle.std.proofs.Common.{◌≡◌, ℕ, true, false, List, [], ◌∷◌, ◌++◌, refl, sym, ◌∙◌, subst}
use Rattle.std.specs.Prelude.{Bool, Option, Some, None, is_some}
use Rattle.rss_base.specs.declared.call.Call.{Call}
use Rattle.rss_base.specs.declared.call.Call.TheVariants.{Connect, Disconnect, Parent, OpenLink, Delete}
use Rattle.rss_base.specs.declared.name.Name.{Name}
use Rattle.rss_base.specs.declared.refusal.Kind.TheVariants.{Link as LinkKind}
use Rattle.rss_base.specs.declared.refusal.LimitKind.TheVariants.{Scans as ScanLimit}
use Rattle.rss_base.specs.declared.refusal.Refusal.{Refusal}
use Rattle.rss_base.specs.declared.refusal.Refusal.TheVariants.{NoTransaction, NoSuch, NotConnected, Limit}
use Rattle.rss_base.specs.declared.spot.Spot.{Spot}
use Rattle.rss_base.specs.declared.tid.Tid.{Tid}
use Rattle.rss_model.specs.Callers.{caller}
use Rattle.rss_model.specs.Defining.{refused_unless}
use Rattle.rss_model.specs.Locks.{Bar, first_bar}
use Rattle.rss_model.specs.Machine.{State, now, is_open}
use Rattle.rss_model.specs.Needs.{needs}
use Rattle.rss_model.specs.Refusals.{busy, has_form, if_busy, if_connected, if_scans_used_up, is_in_chain, link_of, unless_spot}
use Rattle.rss_model.specs.Steps.{admission, first_of, if_full, keeps_locks, refusal, unless_defined, unless_live, unless_open}
use Rattle.rss_model.proofs.Tests.{goes_on, refuses_at}
use Rattle.rss_session.specs.Admissions.{link_admission, unless_link}
use Rattle.rss_rsi.specs.Linking.{above_test, below_test, connect_tests, if_placed, passes_all}
use Rattle.rss_rsi.specs.Placing.{MayCost}
use Rattle.rss_rsi.proofs.ScanCalls.{busy_is}
use Rattle.rss_rsi.proofs.TupleTests.{KeepsNone, admission_keeps, first_keeps, if_keeps, last_test, unless_keeps}

-- ---- lists of tests

-- the first of two lists
first_append : (list rest : List (Option Refusal)) → first_of (list ++ rest) ≡ first_of (first_of list ∷ rest)
first_append [] rest = refl
first_append (None ∷ list) rest = first_append list rest
first_append (Some why ∷ list) rest = refl

first_behind : (first : Option Refusal) (one other : List (Option Refusal)) → first_of one ≡ first_of other → first_of (first ∷ one) ≡ first_of (first ∷ other)
first_behind None one other same = same
first_behind (Some why) one other same = refl

-- ---- calls that look at links

-- A call of a transaction is refused by the tests that it begins with, which keep no locks; then where another transaction holds one of its locks; then by what it finds; and what is left are the rules, or nothing.
pub record IsLinked (t : ℕ) (front behind last : State → Option Refusal) (call : Call) : Type 0 where
  pub by : caller call ≡ Some t
  pub may : MayCost call
  pub bare : (state : State) (why : Refusal) → front state ≡ Some why → keeps_locks why ≡ false
  pub comes : (state : State) → refusal state call ≡ first_of (front state ∷ if_busy state call ∷ behind state ∷ last state ∷ [])

module _ {t : ℕ} {front behind last : State → Option Refusal} {call : Call} (linked : IsLinked t front behind last call) (state : State) where
  pub linked_unfit : {why : Refusal} → front state ≡ Some why → refusal state call ≡ Some why
  linked_unfit is = linked.comes state ∙ refuses_at _ is

  module _ (admitted : front state ≡ None) where
    pub linked_busy : (bar : Bar) → first_bar state.locks t (needs (now state) call) ≡ Some bar → refusal state call ≡ Some (busy bar)
    linked_busy bar is = linked.comes state ∙ goes_on _ admitted ∙ refuses_at _ (busy_is call linked.by state (Some bar) is)

    module _ (free : first_bar state.locks t (needs (now state) call) ≡ None) where
      linked_free : refusal state call ≡ first_of (behind state ∷ last state ∷ [])
      linked_free = linked.comes state ∙ goes_on _ admitted ∙ goes_on _ (busy_is call linked.by state None free)

      pub linked_refused : {why : Refusal} → behind state ≡ Some why → refusal state call ≡ Some why
      linked_refused is = linked_free ∙ refuses_at _ is

      pub linked_passes : behind state ≡ None → refusal state call ≡ last state
      linked_passes is = linked_free ∙ goes_on _ is ∙ last_test (last state)

-- ---- which they are

-- the tests of a call that takes a tuple out of its chain, behind those of its locks
abbrev pub unless_placed : Name → Tid → State → Option Refusal
unless_placed link child state = refused_unless (is_in_chain state link child) (NotConnected link)

abbrev pub outside_tests : Name → Tid → State → Option Refusal
outside_tests link child state = first_of (below_test link child state ∷ unless_placed link child state ∷ [])

link_keeps : (state : State) (link : Name) (given : Option Bool) → KeepsNone (unless_link state link given)
link_keeps state link None = unless_keeps (is_some (link_of state link)) (NoSuch LinkKind) refl
link_keeps state link (Some given) = unless_keeps (has_form (link_of state link) given) (NoSuch LinkKind) refl

pub link_admission_keeps : (state : State) (t : ℕ) (link : Name) (given : Option Bool) (why : Refusal) → link_admission state t link given ≡ Some why → keeps_locks why ≡ false
link_admission_keeps state t link given why is =
    subst KeepsNone is (first_keeps (unless_open state t ∷ unless_link state link given ∷ []) (unless_keeps (is_open state t) NoTransaction refl, (link_keeps state link given, tt)))

pub connect_linked : (t : ℕ) (link : Name) (child : Tid) (parent : Option Tid) (spot : Spot)
    → IsLinked t (λ state. link_admission state t link (Some (is_some parent))) (connect_tests link child parent spot) (λ state. if_full state (Connect t link child parent spot)) (Connect t link child parent spot)
connect_linked t link child parent spot = record {
  by = refl;
  may = record { stop = record { names = tt; granule = tt; memory = refl }; asks = refl; writes = refl };
  bare = λ state why is. link_admission_keeps state t link (Some (is_some parent)) why is;
  comes = λ state.
      let call = Connect t link child parent spot in
      let front = unless_open state t ∷ unless_link state link (Some (is_some parent)) ∷ [] in
      let behind = below_test link child state ∷ above_test link parent state ∷ if_placed link child state ∷ unless_spot state link parent spot ∷ [] in
      first_append front (if_busy state call ∷ (behind ++ if_full state call ∷ []))
      ∙ first_behind (first_of front) _ _ (first_behind (if_busy state call) _ _ (first_append behind (if_full state call ∷ [])));
}

pub disconnect_linked : (t : ℕ) (link : Name) (child : Tid) → IsLinked t (λ state. link_admission state t link None) (outside_tests link child) (λ state. if_full state (Disconnect t link child)) (Disconnect t link child)
disconnect_linked t link child = record {
  by = refl;
  may = record { stop = record { names = tt; granule = tt; memory = refl }; asks = refl; writes = refl };
  bare = λ state why is. link_admission_keeps state t link None why is;
  comes = λ state.
      let call = Disconnect t link child in
      let front = unless_open state t ∷ unless_link state link None ∷ [] in
      let behind = below_test link child state ∷ unless_placed link child state ∷ [] in
      first_append front (if_busy state call ∷ (behind ++ if_full state call ∷ []))
      ∙ first_behind (first_of front) _ _ (first_behind (if_busy state call) _ _ (first_append behind (if_full state call ∷ [])));
}

pub parent_linked : (t : ℕ) (link : Name) (child : Tid) → IsLinked t (λ state. link_admission state t link (Some true)) (below_test link child) passes_all (Parent t link child)
parent_linked t link child = record {
  by = refl;
  may = record { stop = record { names = tt; granule = tt; memory = refl }; asks = refl; writes = refl };
  bare = λ state why is. link_admission_keeps state t link (Some true) why is;
  comes = λ state.
      let front = unless_open state t ∷ unless_link state link (Some true) ∷ [] in
      let busy_first = if_busy state (Parent t link child) in
      first_append front (busy_first ∷ below_test link child state ∷ [])
      ∙ first_behind (first_of front) _ _ (first_behind busy_first _ _ (first_behind (below_test link child state) _ _ refl));
}

-- what an opening of a scan begins with
abbrev pub open_link_tests : ℕ → Name → Option Tid → State → Option Refusal
open_link_tests t link parent state = first_of (link_admission state t link (Some (is_some parent)) ∷ if_scans_used_up state ∷ [])

pub open_link_linked : (t : ℕ) (link : Name) (parent : Option Tid) → IsLinked t (open_link_tests t link parent) (above_test link parent) passes_all (OpenLink t link parent)
open_link_linked t link parent = record {
  by = refl;
  may = record { stop = record { names = tt; granule = tt; memory = refl }; asks = refl; writes = refl };
  bare = λ state why is. by_two state (link_admission state t link (Some (is_some parent))) why (link_admission_keeps state t link (Some (is_some parent))) is;
  comes = λ state.
      let front = unless_open state t ∷ unless_link state link (Some (is_some parent)) ∷ [] in
      let busy_first = if_busy state (OpenLink t link parent) in
      first_append front (if_scans_used_up state ∷ busy_first ∷ above_test link parent state ∷ [])
      ∙ first_append (first_of front ∷ if_scans_used_up state ∷ []) (busy_first ∷ above_test link parent state ∷ [])
      ∙ first_behind (open_link_tests t link parent state) _ _ (first_behind busy_first _ _ (first_behind (above_test link parent state) _ _ refl));
}
  where
    scans_keep : (state : State) → KeepsNone (if_scans_used_up state)
    scans_keep state = if_keeps _ (Limit ScanLimit) refl

    by_two : (state : State) (first : Option Refusal) (why : Refusal) → ((why : Refusal) → first ≡ Some why → keeps_locks why ≡ false) → first_of (first ∷ if_scans_used_up state ∷ []) ≡ Some why → keeps_locks why ≡ false
    by_two state None why one is = subst KeepsNone (sym (last_test (if_scans_used_up state)) ∙ is) (scans_keep state)
    by_two state (Some other) why one is = one why is

-- a delete, behind the look for its tuple
pub delete_linked : (t : ℕ) (relation : Name) (tid : Tid) → IsLinked t (λ state. admission state t relation) (λ state. first_of (unless_live state relation tid ∷ if_connected state relation tid ∷ [])) (λ state. if_full state (Delete t relation tid)) (Delete t relation tid)
delete_linked t relation tid = record {
  by = refl;
  may = record { stop = record { names = tt; granule = tt; memory = refl }; asks = refl; writes = refl };
  bare = λ state why is. admission_keeps state t relation is;
  comes = λ state.
      let call = Delete t relation tid in
      let front = unless_open state t ∷ unless_defined state relation ∷ [] in
      let behind = unless_live state relation tid ∷ if_connected state relation tid ∷ [] in
      first_append front (if_busy state call ∷ (behind ++ if_full state call ∷ []))
      ∙ first_behind (first_of front) _ _ (first_behind (if_busy state call) _ _ (first_append behind (if_full state call ∷ [])));
}
