use Rattle.std.proofs.Common.{◌↔◌, inl, inr, ℕ, refl, Ok}
use Rattle.rss_base.specs.DiskRule.{Told, IsTold}
use Rattle.rss_base.specs.declared.answer.Reply.TheVariants.{Ok as Done}
use Rattle.rss_model.specs.ReplyText.{answer_line}
use Rattle.rss_model.specs.Tables.{no_tables}
use Rattle.rss_stored.specs.Store.{OpensTo}
use Rattle.rss_store.specs.Formatted.{AreSizes, HoldsFormatted}
use Rattle.rss_top.specs.Run.{World}
use Rattle.rss_top.specs.Format.{IsMade, IsFormat}
use Rattle.rss_top.specs.Says.{Says}
use Rattle.rss_top.specs.declared.status.Status.{Status}
use Rattle.rss_top.specs.declared.status.Status.TheVariants.{Ok as Made}
use Rattle.rss_top.specs.Lines.{on}
use Rattle.rss_top.proofs.Endings.{by_said}
use Rattle.rss_top.proofs.making.make_store.Goals as goal

format_made : {slots log_pages : ℕ} {old new : World} → HoldsFormatted slots log_pages new.disk → Told new.disk (λ pages. OpensTo pages (record { slots = slots; log_pages = log_pages }) no_tables) → AreSizes slots log_pages
    → (IsTold old.disk ↔ IsTold new.disk) → (status : Status) → Says Made (answer_line (Ok Done)) status old.sink new.sink → IsFormat slots log_pages status old new
format_made {slots = slots} {log_pages = log_pages} {old = old} {new = new} holds opens sizes told status line =
    let made : Told new.disk (IsMade new.disk slots log_pages) = λ pages at. record { formatted = holds.formatted pages at; opens = opens pages at; only = holds.synced pages at } in
    by_said (λ (s : Status). IsFormat slots log_pages s old new) line
    (λ takes. record { ends = (made, takes); told = told; wrong = λ not. absurd (not sizes); complete = λ fit sink device. inl refl })
    (λ front rises. record {
      ends = (made, front, rises);
      told = told;
      wrong = λ not. absurd (not sizes);
      complete = λ fit sink device. absurd (sink rises);
    })
    (λ silent. record { ends = silent; told = told; wrong = λ not. absurd (not sizes); complete = λ fit sink device. inr refl })

pub returns-in-Ok-clause-format : goal.returns-in-Ok-clause-format
returns-in-Ok-clause-format g c =
    let old = on (g.D.Device.view c.args.device.now) (g.K.Sink.view c.args.sink.now) in
    let new = on (g.D.Device.view c.format.new.device) (g.K.Sink.view c.say_done.new.sink) in
    rw c.in-Ok-Ok.ensures.1 at (rw c.in-Ok-Ok.ensures'.1 at (format_made {old = old} {new = new} c.in-Ok.ensures.made c.in-Ok.ensures.opens c.in-Ok.ensures.sizes c.format.ensures.goes_on.told c.say_done.result c.say_done.ensures))
