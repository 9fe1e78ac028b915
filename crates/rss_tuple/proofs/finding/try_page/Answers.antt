use Rattle.std.proofs.Common.{◌≡◌, ◌∙◌, rules, arith, true, false, sym, ap}
use Rattle.rss_base.specs.Paged.{Held, Mapped, is_same}
use Rattle.rss_base.specs.Notes.{Noted}
use Rattle.rss_base.proofs.Keys.{is_same-itself}
use Rattle.std.proofs.lemmas.Bool.{cond-true}
use Rattle.rss_base.proofs.Steps.{untouched, then, done, fails, all_mapped, all_held, none_changed_more}
use Rattle.rss_tuple.specs.Edits.{IsRead}
use Rattle.rss_tuple.proofs.Seen.{formed_after, found_damaged, kept_after}
use Rattle.rss_tuple.proofs.Spots.{noted_heap, covers, noted_kept, passed_by}
use Rattle.rss_tuple.proofs.finding.try_page.Goals as goal

pub returns-in_err-load-clause-did : goal.returns-in_err-load-clause-did
returns-in_err-load-clause-did g c = fails _ c.from_residual.ensures.1 (λ key none. absurd none) (omega arith) (omega arith) c.in_err-load.ensures.did

pub returns-in_err-load-clause-kept : goal.returns-in_err-load-clause-kept
returns-in_err-load-clause-kept g c = kept_after c.in_err-load.ensures.did.step c.requires.formed

pub returns-in_default-clause-kept : goal.returns-in_default-clause-kept
returns-in_default-clause-kept g c = kept_after c.in_ok-load.ensures.did.step c.requires.formed

pub returns-in_default-clause-did : goal.returns-in_default-clause-did
returns-in_default-clause-did g c =
    let key = c.args.key in
    let step = c.in_ok-load.ensures.did.step in
    found_damaged c.damaged.result c.damaged.ensures (untouched step) (λ told.
    let there = ap (λ (h : Held). h key) (sym (all_held step told)) ∙ c.loaded-page.ensures (step.passes.leaves.told.0 told) in
    let heap = c.requires.formed told key _ (noted_heap key.space c.requires.noted) there in
    let formed = c.survey.ensures.formed.1 heap.formed in
    let never : false ≡ true = rw c.in_default.is at formed in absurd (cc))

pub returns-in-Some-spot_in-clause-kept : goal.returns-in-Some-spot_in-clause-kept
returns-in-Some-spot_in-clause-kept g c = kept_after c.in_ok-load.ensures.did.step c.requires.formed

pub returns-in-Some-spot_in-clause-did : goal.returns-in-Some-spot_in-clause-did
returns-in-Some-spot_in-clause-did g c = done _ (untouched c.in_ok-load.ensures.did.step)

pub returns-clause-noted : goal.returns-clause-noted
returns-clause-noted g c = λ none.
    let noted = ap (λ (n : Noted). n c.args.key) c.note.ensures.noted.notes ∙ cond-true (is_same c.args.key c.args.key) _ _ (is_same-itself c.args.key) in
    passed_by _ c.args.key _ c.args.length c.args.barred.now c.args.key.number c.room_of-room.result noted c.room_of-room.ensures (rw c.in_default-spot_in.is at c.spot_in.ensures)

pub returns-clause-kept : goal.returns-clause-kept
returns-clause-kept g c =
    let step = c.in_ok-load.ensures.did.step in
    let noted = c.note.ensures.noted in
    let read : IsRead (g.P.Pages.view c.load.new.self) c.args.key c.loaded-page.result.now = record {
      mapped = search rules;
      formed = c.survey.ensures.formed.0 (search rules);
      held = c.loaded-page.ensures;
    } in
    record {
      mapped = noted.mapped ∙ all_mapped step;
      held = λ told. noted.held ∙ all_held step told;
      changed = λ key is. none_changed_more step key (sym (ap (λ (m : Mapped). m key) noted.changed) ∙ is);
      formed = λ told.
          let now = step.passes.leaves.told.0 told in
          noted_kept c.args.key c.room_of-room.result c.loaded-page.result.now _ _ noted c.note.ensures.did read (covers _ c.room_of-room.result c.room_of-room.ensures) now (formed_after step c.requires.formed now);
    }

pub returns-clause-did : goal.returns-clause-did
returns-clause-did g c = done _ (then (untouched c.in_ok-load.ensures.did.step) c.note.ensures.did)
