use Rattle.std.proofs.Common.{◌≡◌, ◌+◌, Some, None, sym, ◌∙◌, ap, arith}
use Rattle.std.specs.List.{slice_range}
use Rattle.std.proofs.lemmas.Option.{same_Some}
use Rattle.std.proofs.lemmas.Result.{on_ok_weaker}
use Rattle.rss_base.specs.Notes.{Noted, with_note}
use Rattle.rss_base.specs.Paged.{Held, with_page}
use Rattle.rss_base.specs.Steps.{with_bytes}
use Rattle.rss_base.proofs.Steps.{then, then_call, untouched, fails, all_mapped, all_held, all_notes}
use Rattle.rss_base.proofs.pages.Pages.copy.Goals as goal

pub returns-in_err-read-clause-did : goal.returns-in_err-read-clause-did
returns-in_err-read-clause-did g c = fails _ c.from_residual.ensures.1 (λ key none. absurd none) (omega arith) (omega arith) c.in_err-read.ensures.did

pub returns-in_err-read-2-clause-did : goal.returns-in_err-read-2-clause-did
returns-in_err-read-2-clause-did g c = fails _ c.from_residual-in_err-read-2.ensures.1 (λ key none. absurd none) (omega arith) (omega arith) (then_call c.in_ok-read.ensures.did.step c.in_err-read-2.ensures.did)

pub returns-clause-copied : goal.returns-clause-copied
returns-clause-copied g c =
    let first = c.in_ok-read.ensures.did.step in
    let second = c.in_ok-read-2.ensures.did.step in
    let at = c.args.to_at in
    let from_at = c.args.from_at in
    let count = c.args.count in
    on_ok_weaker c.write.result (λ wrote. record {
      mapped = wrote.mapped ∙ all_mapped second ∙ all_mapped first;
      held = λ told source page is_source is_page.
          let told_mid = first.passes.leaves.told.0 told in
          let held_mid = all_held first told in
          let here : c.read.new.into ≡ source = same_Some _ _ (sym (c.in_ok-read.ensures.page told) ∙ is_source) in
          let there : c.read-2.new.into ≡ page = same_Some _ _ (sym (c.in_ok-read-2.ensures.page told_mid) ∙ ap (λ (h : Held). h c.args.to) held_mid ∙ is_page) in
          wrote.held (second.passes.leaves.told.0 told_mid)
          ∙ (λ i. with_page ((all_held second told_mid ∙ held_mid) i) c.args.to (Some ((c.copy_bytes.ensures ∙ (λ i. with_bytes (there i) at (slice_range (here i) from_at (from_at + count)))) i)));
      notes = wrote.notes ∙ ap (λ (n : Noted). with_note n c.args.to None) (all_notes second ∙ all_notes first);
    }) c.write.ensures.written

pub returns-clause-did : goal.returns-clause-did
returns-clause-did g c = then_call (then (untouched c.in_ok-read.ensures.did.step) (untouched c.in_ok-read-2.ensures.did.step)) c.write.ensures.did
