-- How calls make steps.
use Rattle.std.proofs.Common.{◌≡◌, ℕ, Bool, true, false, [], refl, sym, ◌∙◌, ap}
use Rattle.std.specs.Prelude.{Some, None, Ok, Err, if◌then◌else◌}
use Rattle.std.specs.FinMap as map
use Rattle.rss_base.specs.declared.call.Call.{Call}
use Rattle.rss_base.specs.declared.call.Call.TheVariants.{Begin, Checkpoint}
use Rattle.rss_base.specs.declared.answer.Reply.TheVariants.{Ok as Done}
use Rattle.rss_base.specs.declared.refusal.Refusal.{Refusal}
use Rattle.rss_model.specs.Machine.{State}
use Rattle.rss_model.specs.Rules.{saved_now}
use Rattle.rss_model.specs.Steps.{refuses, begins, checkpoints, begun, keeps_locks, left_by, locked}
use Rattle.rss_plain.specs.Seen.{Seen, seen_of, state_of}
use Rattle.rss_plain.specs.Judging.{judged}
use Rattle.rss_plain.specs.Making.{Makes}
use Rattle.rss_plain.proofs.Alike.{judged_of}
use Rattle.rss_plain.proofs.Judged.{judged_checkpoint}

-- a call that locks nothing, where it is refused
stays : (state : State) (call : Call) (why : Refusal) → seen_of (locked call state) ≡ seen_of state
    → seen_of (left_by state call why) ≡ seen_of state
stays state call why same = by (keeps_locks why)
  where
    by : (b : Bool) → seen_of (if b then locked call state else state) ≡ seen_of state
    by true = same
    by false = refl

pub refused_stays : (seen : Seen) (call : Call) (why : Refusal)
    → ((state : State) → seen_of (locked call state) ≡ seen_of state)
    → Some why ≡ judged (state_of seen) call → Makes seen call (Err why) seen
refused_stays seen call why same is = λ state shown. (
  left_by state call why,
  refuses call why (sym (judged_of seen state call shown) ∙ sym is),
  shown ∙ sym (stays state call why (same state)),
)

pub begins_so : (old new : Seen) (t : ℕ) → None ≡ judged (state_of old) (Begin t)
    → new ≡ record old { marks = map.insert old.marks t [] } → Makes old (Begin t) (Ok Done) new
begins_so old new t is made = λ state shown. (
  begun t state,
  begins t (sym (judged_of old state (Begin t) shown) ∙ sym is),
  made ∙ ap (λ (s : Seen). record s { marks = map.insert s.marks t [] }) shown,
)

pub checkpoints_so : (seen : Seen) → Makes seen Checkpoint (Ok Done) seen
checkpoints_so seen = λ state shown. (
  record state { meter = saved_now state },
  checkpoints (sym (judged_of seen state Checkpoint shown) ∙ judged_checkpoint (state_of seen)),
  shown,
)
