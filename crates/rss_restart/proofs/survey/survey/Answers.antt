use Rattle.std.proofs.Common.{ℕ, All, sym, ◌∙◌, subst, arith}
use Rattle.std.proofs.lemmas.Grind.{common_steps}
use Rattle.rss_restart.specs.Events.{redone_in, undone_in}
use Rattle.rss_restart.specs.Reading.{Reads, Stand}
use Rattle.rss_restart.specs.Surveys.{IsChangeAt}
use Rattle.rss_model.specs.Meanings.{as_bytes}
use Rattle.rss_restart.proofs.Surveying.{undone_stand, redone_stand, older_stands, newer_stands, surveyed}
use Rattle.rss_restart.proofs.survey.survey.Goals as goal

pub returns-in_err-older-clause-sound : goal.returns-in_err-older-clause-sound
returns-in_err-older-clause-sound c place is listing older newer of =
    c.in_err-older.ensures.sound place (grind (arith, common_steps)) (as_bytes older) (subst (λ (n : ℕ). Stand c.args.log.now n (as_bytes older) c.args.checkpoint) (sym c.head.ensures.head) (older_stands listing c.args.log.now c.args.checkpoint older newer c.head.ensures.log c.requires.low c.requires.high of))

pub returns-in_err-newer-clause-sound : goal.returns-in_err-newer-clause-sound
returns-in_err-newer-clause-sound c place is listing older newer of =
    c.in_err-newer.ensures.sound place (grind (arith, common_steps)) (as_bytes newer) (subst (λ (n : ℕ). Stand c.args.log.now c.args.checkpoint (as_bytes newer) n) (sym c.end.ensures.end) (newer_stands listing c.args.log.now c.args.checkpoint older newer c.head.ensures.log c.requires.low c.requires.high of))

pub returns-in-Ok-clause-finds : goal.returns-in-Ok-clause-finds
returns-in-Ok-clause-finds c listing older newer of =
    let first = subst (λ (n : ℕ). Reads c.args.log.now n c.args.checkpoint c.in_ok-older.older.items) c.head.ensures.head c.in_ok-older.ensures.read in
    let second = subst (λ (n : ℕ). Reads c.args.log.now c.args.checkpoint n c.in_ok-newer.newer.items) c.end.ensures.end c.in_ok-newer.ensures.read in
    let done = surveyed listing c.args.log.now c.args.checkpoint older newer c.head.ensures.log c.requires.low c.requires.high of c.in_ok-older.older.items c.in_ok-newer.newer.items first second in
    record {
      undone_is = c.in-Ok.ensures.undone ∙ (λ i. undone_in (c.as_slice.ensures.value i) (c.as_slice-2.ensures.value i)) ∙ done.undone_is;
      redone_is = c.in-Ok.ensures.redone ∙ (λ i. redone_in (c.as_slice-2.ensures.value i)) ∙ done.redone_is;
    }

pub returns-in-Ok-clause-undone : goal.returns-in-Ok-clause-undone
returns-in-Ok-clause-undone c =
    subst (All (IsChangeAt c.args.log.now)) (sym (c.in-Ok.ensures.undone ∙ (λ i. undone_in (c.as_slice.ensures.value i) (c.as_slice-2.ensures.value i))))
    (undone_stand c.args.log.now c.head.result c.args.checkpoint c.in_ok-older.older.items c.in_ok-newer.newer.items (omega (arith, c.head.ensures.head)) c.requires.high c.in_ok-older.ensures.read)

pub returns-in-Ok-clause-redone : goal.returns-in-Ok-clause-redone
returns-in-Ok-clause-redone c =
    subst (All (IsChangeAt c.args.log.now)) (sym (c.in-Ok.ensures.redone ∙ (λ i. redone_in (c.as_slice-2.ensures.value i))))
    (redone_stand c.args.log.now c.args.checkpoint c.end.result c.in_ok-newer.newer.items c.requires.low (omega (arith, c.end.ensures.end)) c.in_ok-newer.ensures.read)
