use Rattle.std.proofs.Common.{◌∙◌, List, ℕ, sym, ap}
use Rattle.std.specs.Prelude.{Some, option_map}
use Rattle.rss_page.specs.Slotted.{part}
use Rattle.rss_tuple.proofs.store.StoreTuples.body.Goals as goal

pub returns-clause-are : goal.returns-clause-are
returns-clause-are g c = λ told.
    ap (option_map (λ (page : List ℕ). part page c.args.at.place c.args.at.length)) (c.loaded.ensures told) ∙ ap Some (sym c.bytes_in.ensures.are)
