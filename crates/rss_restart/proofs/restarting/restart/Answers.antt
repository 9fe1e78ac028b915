use Rattle.std.proofs.Common.{◌≡◌, ℕ, List, refl, ◌∙◌, ap, Ok, Err}
use Rattle.std.specs.Prelude.{Result, OnOk}
use Rattle.rss_base.specs.declared.fault.PageFault.{PageFault}
use Rattle.rss_access.specs.Changes.{both}
use Rattle.rss_model.specs.Meanings.{Logged}
use Rattle.rss_restart.specs.Surveys.{Surveys}
use Rattle.rss_restart.proofs.Leading.{passed_on, walks_then, walks_fail}
use Rattle.rss_restart.proofs.Recovering.{not_undone, not_redone, recovers_all, few_undone, few_both, passes_walk, passes_nothing, counted_all}
use Rattle.rss_restart.proofs.restarting.restart.Goals as goal

-- of the same positions
surveyed : {older newer : List Logged} {undone redone undone_too redone_too : List ℕ} → undone_too ≡ undone → redone_too ≡ redone → Surveys older newer undone redone → Surveys older newer undone_too redone_too
surveyed one two surveys = record { undone_is = one ∙ surveys.undone_is; redone_is = two ∙ surveys.redone_is }

on_ok : {T A B : Type 0} (result : Result T PageFault) → (A → B) → OnOk result A → OnOk result B
on_ok (Ok value) then is = then is
on_ok (Err fault) then is = tt

pub returns-in_err-found-clause-sound : goal.returns-in_err-found-clause-sound
returns-in_err-found-clause-sound g c = λ place is told r can. c.in_err-found.ensures.sound place (passed_on c.from_residual.ensures.1 is) c.args.catalog.now.listing r.older r.newer can.records

pub returns-in_err-found-clause-did : goal.returns-in_err-found-clause-did
returns-in_err-found-clause-did g c = passes_nothing (both (g.P.Pages.view c.args.tuples.now.pages) c.args.catalog.now) c.from_residual.result c.from_residual.ensures.1 (λ is. c.in_err-found.ensures.device (ap Err is)) (λ place is. c.in_err-found.ensures.place place (ap Err is))

pub returns-in_err-walk-clause-sound : goal.returns-in_err-walk-clause-sound
returns-in_err-walk-clause-sound g c = λ place is told r can.
    not_undone can (surveyed c.deref.ensures.value refl (c.in_ok-found.ensures.finds c.args.catalog.now.listing r.older r.newer can.records)) (c.in_err-walk.ensures.sound place (passed_on c.from_residual-in_err-walk.ensures.1 is) told)

pub returns-in_err-walk-clause-did : goal.returns-in_err-walk-clause-did
returns-in_err-walk-clause-did g c = passes_walk (λ older newer is. few_undone (surveyed c.deref.ensures.value refl (c.in_ok-found.ensures.finds c.args.catalog.now.listing older newer is))) (walks_fail _ c.from_residual-in_err-walk.ensures.1 c.in_err-walk.ensures.did)

pub returns-clause-recovers : goal.returns-clause-recovers
returns-clause-recovers g c = on_ok c.walk-2.result (λ redoes told r can.
    recovers_all can (surveyed c.deref.ensures.value c.deref-2.ensures.value (c.in_ok-found.ensures.finds c.args.catalog.now.listing r.older r.newer can.records)) told c.in_ok-walk.ensures.leads (c.in_ok-walk.ensures.did.step.passes.leaves.told.0 told) redoes) c.walk-2.ensures.leads

pub returns-clause-sound : goal.returns-clause-sound
returns-clause-sound g c = λ place is told r can.
    not_redone can (surveyed c.deref.ensures.value c.deref-2.ensures.value (c.in_ok-found.ensures.finds c.args.catalog.now.listing r.older r.newer can.records)) told c.in_ok-walk.ensures.leads (c.walk-2.ensures.sound place is (c.in_ok-walk.ensures.did.step.passes.leaves.told.0 told))

pub returns-clause-did : goal.returns-clause-did
returns-clause-did g c = passes_walk (λ older newer is. few_both (surveyed c.deref.ensures.value c.deref-2.ensures.value (c.in_ok-found.ensures.finds c.args.catalog.now.listing older newer is))) (walks_then c.in_ok-walk.ensures.did c.walk-2.ensures.did)

pub returns-clause-counted : goal.returns-clause-counted
returns-clause-counted g c = on_ok c.walk-2.result (λ redoes older newer is. counted_all (surveyed c.deref.ensures.value c.deref-2.ensures.value (c.in_ok-found.ensures.finds c.args.catalog.now.listing older newer is)) c.in_ok-walk.ensures.counted redoes) c.walk-2.ensures.counted
