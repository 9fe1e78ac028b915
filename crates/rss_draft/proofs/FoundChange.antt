-- A change that is found is one that can be done to an item.
use Rattle.std.proofs.Common.{◌≡◌, true, false, List, [], ◌∷◌, refl, sym, ◌∙◌, ap, subst}
use Rattle.std.specs.Prelude.{Option, Some, None, IfSome}
use Rattle.rss_base.specs.Listings.{Listing}
use Rattle.rss_base.specs.Prefixes.{is_tid}
use Rattle.rss_base.specs.declared.tid.Tid.{Tid}
use Rattle.rss_base.specs.declared.change.Change as told
use Rattle.rss_base.specs.declared.change.Change.TheVariants.{Insert, Delete, Update, Connect, Disconnect}
use Rattle.rss_model.specs.Tables.{Tables}
use Rattle.rss_model.specs.Chains.{tuples_in, chain_content, stands_in, with_behind, without}
use Rattle.rss_model.specs.Changes.{Change, IsChange}
use Rattle.rss_model.specs.Changes.IsTupleChange.{insert, delete, update}
use Rattle.rss_model.specs.Changes.IsChange.{of_tuple, connect, disconnect}
use Rattle.rss_model.proofs.LogLists.{by_test}
use Rattle.rss_model.proofs.Standing.{tid_itself, or_first, or_none, stands_behind, tuples_of}
use Rattle.rss_members.proofs.Alone.{off_apart}
use Rattle.rss_draft.specs.Looks.{IsFoundAs}

off_again : (child : Tid) (tids : List Tid) → stands_in child tids ≡ false → without child tids ≡ tids
off_again child [] off = refl
off_again child (tid ∷ tids) off =
    let parts = or_none (is_tid child tid) (stands_in child tids) off in
    let other : is_tid tid child ≡ false = off_apart child tid parts.0 in
    rw other (ap (λ (l : List Tid). tid ∷ l) (off_again child tids parts.1))

-- a tuple that comes and goes leaves the chain as it was
pub without_behind : (left : Option Tid) (child : Tid) (tids : List Tid) → stands_in child tids ≡ false → without child (with_behind left child tids) ≡ tids
without_behind None child tids off = let here : is_tid child child ≡ true = tid_itself child in rw here (off_again child tids off)
without_behind (Some left) child [] off = let here : is_tid child child ≡ true = tid_itself child in rw here
without_behind (Some left) child (tid ∷ tids) off =
    let here : is_tid child child ≡ true = tid_itself child in
    let parts = or_none (is_tid child tid) (stands_in child tids) off in
    let other : is_tid tid child ≡ false = off_apart child tid parts.0 in
    by_test (is_tid tid left)
    (λ e. rw (e, other, here) (ap (λ (l : List Tid). tid ∷ l) (off_again child tids parts.1)))
    (λ e. rw (e, other) (ap (λ (l : List Tid). tid ∷ l) (without_behind (Some left) child tids parts.1)))

pub found_change : {listing : Listing} {tables : Tables} (told_change : told.Change) (change : Change) → IsFoundAs listing told_change tables change → IsChange change
found_change (Insert number tid bytes) change found = of_tuple found.tells.item (insert found.means.0 found.means.1.is)
found_change (Delete number tid bytes) change found = of_tuple found.tells.item (delete found.means.0.is found.means.1)
found_change (Update number tid from to) change found = of_tuple found.tells.item (update found.means.0.is found.means.1.is)
found_change (Connect number parent child left) change found =
    let place = found.means in
    let tids : tuples_in change.old ≡ place.tids = ap tuples_in place.without ∙ tuples_of place.tids in
    connect found.tells.item (record {
      child = child;
      left = left;
      off = ap (stands_in child) tids ∙ place.apart;
      behind = subst (λ (l : List Tid). IfSome left (λ tid. stands_in tid l ≡ true)) (sym tids) place.behind;
      new = place.with ∙ ap (λ (l : List Tid). chain_content (with_behind left child l)) (sym tids);
    })
found_change (Disconnect number parent child left) change found =
    let place = found.means in
    let tids : tuples_in change.old ≡ with_behind left child place.tids = ap tuples_in place.with ∙ tuples_of (with_behind left child place.tids) in
    disconnect found.tells.item (record {
      child = child;
      on = ap (stands_in child) tids ∙ stands_behind left child place.tids child ∙ or_first (is_tid child child) (stands_in child place.tids) (tid_itself child);
      new = place.without ∙ ap chain_content (sym (ap (without child) tids ∙ without_behind left child place.tids place.apart));
    })
