use Rattle.std.proofs.Common.{refl, rules}
use Rattle.rss_c.specs.Texts.{text_view}
use Rattle.rss_c.specs.Stores.{ran, failed}
use Rattle.rss_c.proofs.open_store.OpenStore.run.Goals as goal

pub returns-in-Ok : goal.returns-in-Ok
returns-in-Ok c = ran refl refl (rw c.requires at c.in-Ok.ensures)

pub returns : goal.returns
returns c =
    failed c.in-Err.status c.tell.result (text_view c.line-ran.new.sink) refl refl
    (rw c.requires at c.in-Err.ensures) c.tell.ensures (search rules)
