use Rattle.std.proofs.Common.{◌≡◌, ◌∙◌, ◌++◌, sym, ap, ap₂, arith, Some, codes}
use Rattle.rss_line.proofs.Combining.{some_same, none_some}
use Rattle.rss_line.proofs.Tids.{tid_cut, tid_parts, cut_at, same_tid}
use Rattle.rss_line.proofs.number.read_tid.Goals as goal

pub returns-in_err-page : goal.returns-in_err-page
returns-in_err-page c = rw c.from_residual.ensures (record {
  some = tt;
  all = λ tid is. absurd (tid_cut c.args.word.now c.split_once.result tid c.split_once.ensures.cases is c.in_err-page.was);
})

pub returns-in_err-page-2 : goal.returns-in_err-page-2
returns-in_err-page-2 c = rw c.from_residual-in_err-page-2.ensures (record {
  some = tt;
  all = λ tid is.
      let parts = tid_parts c.args.word.now c.split_once.result tid c.split_once.ensures.cases is _ c.in_ok-page.was in
      absurd (none_some (c.in_err-page-2.ensures.all tid.page (c.as_bytes.ensures.value ∙ parts.0, is.page)));
})

pub returns-in_err-slot : goal.returns-in_err-slot
returns-in_err-slot c = rw c.from_residual-in_err-slot.ensures (record {
  some = tt;
  all = λ tid is.
      let parts = tid_parts c.args.word.now c.split_once.result tid c.split_once.ensures.cases is _ c.in_ok-page.was in
      let below = is.slot in
      absurd (none_some (c.in_err-slot.ensures.all tid.slot (c.as_bytes-2.ensures.value ∙ parts.1, omega arith)));
})

pub returns : goal.returns
returns c =
    let page = c.in_ok-page-2.ensures.some in
    let slot = c.in_ok-slot.ensures.some in
    let cut : c.args.word.now ≡ c.in_ok-page.page.now ++ codes "." ++ c.in_ok-page.slot.now =
    cut_at 46 (omega arith) c.args.word.now c.split_once.result _ c.split_once.ensures.cases c.in_ok-page.was in
    record {
      some = record { spelled = cut ∙ ap₂ (λ p s. p ++ codes "." ++ s) (sym c.as_bytes.ensures.value ∙ page.0) (sym c.as_bytes-2.ensures.value ∙ slot.0); page = page.1; slot = slot.1 };
      all = λ tid is.
          let parts = tid_parts c.args.word.now c.split_once.result tid c.split_once.ensures.cases is _ c.in_ok-page.was in
          ap Some (same_tid _ tid (some_same (c.in_ok-page-2.ensures.all tid.page (c.as_bytes.ensures.value ∙ parts.0, is.page))) (some_same (c.in_ok-slot.ensures.all tid.slot (c.as_bytes-2.ensures.value ∙ parts.1, let below = is.slot in omega arith))));
    }
