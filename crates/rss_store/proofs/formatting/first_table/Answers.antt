use Rattle.std.proofs.Common.{List, Option, Some, ◌∙◌, sym, ap, arith, set}
use Rattle.rss_base.specs.PageMap.{owner_of}
use Rattle.rss_base.specs.Paged.{page_key}
use Rattle.rss_base.specs.declared.key.Space.TheVariants.{System}
use Rattle.rss_base.specs.declared.key.PageKey.{PageKey}
use Rattle.rss_store.proofs.FirstOwners.{owner_is, owners_more}
use Rattle.rss_store.proofs.formatting.first_table.Goals as goal

pub set-requires-clause-alone : goal.set-requires-clause-alone
set-requires-clause-alone c = λ other is.
    let there = owner_is c.args.slots c.loop-number.number other (page_key 0 System c.loop-number.number) (ap (λ (l : List (Option PageKey)). owner_of l other) (sym c.loop-number.invariant) ∙ is) in
    sym (ap (λ (k : PageKey). k.number) there.page)

pub loop-number-preserved : goal.loop-number-preserved
loop-number-preserved c =
    c.set.ensures ∙ ap (λ (l : List (Option PageKey)). set l c.loop-number.number (Some (page_key 0 System c.loop-number.number))) c.loop-number.invariant ∙ owners_more c.args.slots c.loop-number.number (omega arith)
