use Rattle.std.proofs.Common.{◌≡◌, ℕ, true, List, subst, arith}
use Rattle.std.specs.Prelude.{◌↔◌, Some, None}
use Rattle.std.proofs.lemmas.Result.{IfOk-weaker}
use Rattle.rss_base.proofs.Steps.{widens}
use Rattle.rss_draft.specs.Looks.{HoldsTuple}
use Rattle.rss_draft.proofs.FoundAs.{insert_found, delete_found, update_found, connect_found, disconnect_found, decides_as}
use Rattle.rss_draft.proofs.finding.finds.Goals as goal

pub returns-in-Insert-clause-finds : goal.returns-in-Insert-clause-finds
returns-in-Insert-clause-finds g c = rw c.in-Insert.is (IfOk-weaker c.finds_tuple.result _ _ (λ found so saved tables over.
    decides_as (subst (λ (b : List ℕ). (found ≡ true) ↔ HoldsTuple c.args.catalog.now.listing tables c.in-Insert.relation c.in-Insert.tid None (Some b)) c.as_slice.ensures.bytes (so saved tables over))
    (insert_found over c.in-Insert.relation c.in-Insert.tid c.in-Insert.values)) c.finds_tuple.ensures.finds)

pub returns-in-Insert-clause-did : goal.returns-in-Insert-clause-did
returns-in-Insert-clause-did g c = widens (λ key none. none) (omega arith) (omega arith) c.finds_tuple.ensures.did

pub returns-in-Delete-clause-finds : goal.returns-in-Delete-clause-finds
returns-in-Delete-clause-finds g c = rw c.in-Delete.is (IfOk-weaker c.finds_tuple-in-Delete.result _ _ (λ found so saved tables over.
    decides_as (subst (λ (b : List ℕ). (found ≡ true) ↔ HoldsTuple c.args.catalog.now.listing tables c.in-Delete.relation c.in-Delete.tid (Some b) None) c.as_slice-in-Delete.ensures.bytes (so saved tables over))
    (delete_found over c.in-Delete.relation c.in-Delete.tid c.in-Delete.values)) c.finds_tuple-in-Delete.ensures.finds)

pub returns-in-Delete-clause-did : goal.returns-in-Delete-clause-did
returns-in-Delete-clause-did g c = widens (λ key none. none) (omega arith) (omega arith) c.finds_tuple-in-Delete.ensures.did

pub returns-in-Update-clause-finds : goal.returns-in-Update-clause-finds
returns-in-Update-clause-finds g c = rw c.in-Update.is (IfOk-weaker c.finds_tuple-in-Update.result _ _ (λ found so saved tables over.
    decides_as (subst (λ (b : List ℕ). (found ≡ true) ↔ HoldsTuple c.args.catalog.now.listing tables c.in-Update.relation c.in-Update.tid (Some c.in-Update.from) (Some b)) c.as_slice-in-Update-2.ensures.bytes
    (subst (λ (b : List ℕ). (found ≡ true) ↔ HoldsTuple c.args.catalog.now.listing tables c.in-Update.relation c.in-Update.tid (Some b) (Some c.as_slice-in-Update-2.result.now)) c.as_slice-in-Update.ensures.bytes (so saved tables over)))
    (update_found over c.in-Update.relation c.in-Update.tid c.in-Update.from c.in-Update.to)) c.finds_tuple-in-Update.ensures.finds)

pub returns-in-Update-clause-did : goal.returns-in-Update-clause-did
returns-in-Update-clause-did g c = widens (λ key none. none) (omega arith) (omega arith) c.finds_tuple-in-Update.ensures.did

pub returns-in-Connect-clause-finds : goal.returns-in-Connect-clause-finds
returns-in-Connect-clause-finds g c = rw c.in-Connect.is (IfOk-weaker c.finds_gap.result _ _ (λ found so saved tables over.
    decides_as (so saved tables over) (connect_found over c.in-Connect.link c.in-Connect.parent c.in-Connect.child c.in-Connect.left)) c.finds_gap.ensures.finds)

pub returns-in-Disconnect-clause-finds : goal.returns-in-Disconnect-clause-finds
returns-in-Disconnect-clause-finds g c = rw c.in-Disconnect.is (IfOk-weaker c.finds_place.result _ _ (λ found so saved tables over.
    decides_as (so saved tables over) (disconnect_found over c.in-Disconnect.link c.in-Disconnect.parent c.in-Disconnect.child c.in-Disconnect.left)) c.finds_place.ensures.finds)
