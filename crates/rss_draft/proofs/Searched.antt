-- What a search through pages passes on, by how it ends.
use Rattle.std.proofs.Common.{◌≡◌, ℕ, ◌+◌, Ok, Err, sym, ◌∙◌, ap, subst, arith}
use Rattle.std.specs.Prelude.{Result, IsErrAnd}
use Rattle.std.proofs.lemmas.Result.{err_from_is_err_and}
use Rattle.rss_base.specs.Steps.{PagesView, PagesStep, PagesCall, no_page}
use Rattle.rss_base.specs.declared.fault.PageFault.{PageFault}
use Rattle.rss_base.specs.declared.fault.PageFault.TheVariants.{Device as DeviceFailed, Damaged, NoMemory}
use Rattle.rss_base.proofs.Steps.{then}
use Rattle.rss_draft.specs.Looks.{Searches}

module _ {T : Type 0} {old new : PagesView} {most : ℕ} where
  -- as a call on pages does
  pub searches_call : {result : Result T PageFault} → PagesCall no_page most most old new result → Searches old new result
  searches_call call = record { searches = record { most = most; step = call.step; failed = call.failed }; sound = call.sound }

  -- memory ran out
  pub lacks_memory : PagesStep no_page most most old new → Searches {T = T} old new (Err NoMemory)
  lacks_memory step = record { searches = record { most = most; step = step; failed = λ is. absurd (cc) }; sound = λ place is. absurd (cc) }

-- the error of a search is passed on
pub search_fails : {T U : Type 0} {old new : PagesView} {fault : PageFault} (result : Result U PageFault) → IsErrAnd result (λ why. why ≡ fault) → Searches {T = T} old new (Err fault) → Searches old new result
search_fails {U = U} {old = old} {new = new} {fault = fault} result is search =
    let why = err_from_is_err_and result is in
    subst (λ (r : Result U PageFault). Searches old new r) (sym (why.1 ∙ ap Err why.2)) (record {
      searches = record {
        most = search.searches.most;
        step = search.searches.step;
        failed = λ failed. let same : fault ≡ DeviceFailed = cc in search.searches.failed (ap Err same);
      };
      sound = λ place damaged told. let same : fault ≡ Damaged place = cc in search.sound place (ap Err same) told;
    })

-- a search after another one
pub searches_then : {T : Type 0} {old mid new : PagesView} {most : ℕ} {result : Result T PageFault} → PagesStep no_page most most old mid → Searches mid new result → Searches old new result
searches_then {most = most} step search = record {
  searches = record {
    most = most + search.searches.most;
    step = then step search.searches.step;
    failed = λ is. let rose = search.searches.failed is in omega (arith, rose, step.passes.later);
  };
  sound = λ place is told. search.sound place is (step.passes.leaves.told.0 told);
}

-- and another value is answered
pub search_done : {T U : Type 0} {old mid new : PagesView} {most : ℕ} {result : Result T PageFault} → PagesStep no_page most most old mid → Searches mid new result → (value : U) → Searches old new (Ok value)
search_done {most = most} step search value = record {
  searches = record { most = most + search.searches.most; step = then step search.searches.step; failed = λ is. absurd (cc) };
  sound = λ place is. absurd (cc);
}
