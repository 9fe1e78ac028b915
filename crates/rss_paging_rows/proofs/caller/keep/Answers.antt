use Rattle.std.proofs.Common.{◌∙◌, refl, sym, ap, arith, Some}
use Rattle.std.proofs.lemmas.Option.{same_Some}
use Rattle.rss_base.specs.Paged.{Held, with_page, page_key}
use Rattle.rss_base.specs.declared.key.Space.TheVariants.{Home}
use Rattle.rss_base.proofs.Steps.{among, then, then_call, untouched, untouched_call, all_held, fails, done, is_in, written_here}
use Rattle.rss_paging_rows.proofs.Held.{with_page-twice}
use Rattle.rss_paging_rows.proofs.caller.keep.Goals as goal

pub returns-clause-kept : goal.returns-clause-kept
returns-clause-kept g c = λ told.
    let then_told = c.in_ok-number.ensures.did.step.passes.leaves.told.0 told in
    let key = page_key c.args.segment Home c.in_ok-number.number in
    let written = c.in_ok-write.ensures.written.held then_told ∙ ap (λ (h : Held). with_page h key (Some c.args.from.now)) (c.in_ok-number.ensures.taken.held told) in
    all_held c.in_ok-read.ensures.did.step (c.in_ok-write.ensures.did.step.passes.leaves.told.0 then_told) ∙ written ∙ with_page-twice (g.P.Pages.view c.args.pages.now).held key _ (Some c.args.from.now)

pub returns-clause-read : goal.returns-clause-read
returns-clause-read g c = λ told.
    let then_told = c.in_ok-number.ensures.did.step.passes.leaves.told.0 told in
    let wrote = c.in_ok-write.ensures.did.step.passes.leaves.told.0 then_told in
    same_Some _ _ (sym (c.in_ok-read.ensures.page wrote) ∙ written_here (page_key c.args.segment Home c.in_ok-number.number) _ _ c.in_ok-write.ensures.written then_told)

pub returns-in_err-number-clause-did : goal.returns-in_err-number-clause-did
returns-in_err-number-clause-did g c = fails _ c.from_residual.ensures.1 (λ key none. absurd none) (omega arith) (omega arith) c.in_err-number.ensures.did

pub returns-in_err-write-clause-did : goal.returns-in_err-write-clause-did
returns-in_err-write-clause-did g c =
    let put = is_in (page_key c.args.segment Home c.in_ok-number.number) refl in
    fails _ c.from_residual-in_err-write.ensures.1 put (omega arith) (omega arith) (then_call c.in_ok-number.ensures.did.step (untouched_call c.in_err-write.ensures.did))

pub returns-in_err-read-clause-did : goal.returns-in_err-read-clause-did
returns-in_err-read-clause-did g c =
    let put = is_in (page_key c.args.segment Home c.in_ok-number.number) refl in
    fails _ c.from_residual-in_err-read.ensures.1 (λ key none. none) (omega arith) (omega arith) (then_call (among put (then c.in_ok-number.ensures.did.step c.in_ok-write.ensures.did.step)) (untouched_call c.in_err-read.ensures.did))

pub returns-clause-did : goal.returns-clause-did
returns-clause-did g c =
    let put = is_in (page_key c.args.segment Home c.in_ok-number.number) refl in
    done _ (among put (then (then c.in_ok-number.ensures.did.step c.in_ok-write.ensures.did.step) (untouched c.in_ok-read.ensures.did.step)))
