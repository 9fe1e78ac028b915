-- What a search through pages passes on.
use Rattle.std.proofs.Common.{◌≡◌, ◌+◌, Err, sym, ◌∙◌, ap, subst, arith}
use Rattle.std.specs.Prelude.{Result, IsErrAnd, IsErrOf}
use Rattle.std.proofs.lemmas.Result.{err_from_is_err_and}
use Rattle.rss_base.specs.Steps.{PagesView, PagesStep, PagesCall, no_page}
use Rattle.rss_base.specs.declared.fault.PageFault.{PageFault}
use Rattle.rss_base.specs.declared.fault.PageFault.TheVariants.{Device as DeviceFailed}
use Rattle.rss_base.proofs.Steps.{then}
use Rattle.rss_access.specs.Filling.{SearchesPages}

module _ {T : Type 0} {old new : PagesView} where
  pub searches : {most : _} {result : Result T PageFault} → PagesCall no_page most most old new result → SearchesPages old new result
  searches {most = most} call = record { most = most; step = call.step; failed = call.failed }

  -- where no device failed
  pub searched : {most : _} (result : Result T PageFault) → (IsErrOf result DeviceFailed → ⊥) → PagesStep no_page most most old new → SearchesPages old new result
  searched {most = most} result not step = record { most = most; step = step; failed = λ is. absurd (not is) }

  -- a search after a step
  pub then_search : {mid : PagesView} {most : _} {result : Result T PageFault} → PagesStep no_page most most old mid → SearchesPages mid new result → SearchesPages old new result
  then_search {most = most} step more = record {
    most = most + more.most;
    step = then step more.step;
    failed = λ is. let rose = more.failed is in omega (arith, rose, step.passes.later);
  }

  -- the error of a search is passed on
  pub search_fails : {U : Type 0} {fault : PageFault} (result : Result T PageFault) → IsErrAnd result (λ why. why ≡ fault) → SearchesPages {T = U} old new (Err fault) → SearchesPages old new result
  search_fails {fault = fault} result is search =
      let why = err_from_is_err_and result is in
      subst (λ (r : Result T PageFault). SearchesPages old new r) (sym (why.1 ∙ ap Err why.2)) (record {
        most = search.most;
        step = search.step;
        failed = λ failed. let same : fault ≡ DeviceFailed = cc in search.failed (ap Err same);
      })
