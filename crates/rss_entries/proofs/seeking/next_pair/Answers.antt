use Rattle.std.proofs.Common.{true, false, sym, ◌∙◌}
use Rattle.rss_node.specs.Pairs.{pair_bytes}
use Rattle.rss_image.specs.Images.{least_tid}
use Rattle.rss_entries.proofs.Nexts.{finds_same, wide_same, next_found, starts, goes_on}
use Rattle.rss_entries.proofs.Telling.{shown, shown_tree}
use Rattle.rss_entries.proofs.seeking.next_pair.Goals.{in-Some+in_ok-found-in-Some, in-None+in_ok-found-in-None}
use Rattle.rss_entries.proofs.seeking.next_pair.Goals as goal

pub returns-clause-next : goal.returns-clause-next
returns-clause-next g c = λ told listing tables number entry relation shows image_is from from_fits start_is given given_fits last_is.
    let view = g.P.Pages.view c.args.pages.now in
    let tree = shown_tree view shows (g.met.P.Pages.few_slots c.args.pages.now) (g.met.P.Pages.holds c.args.pages.now told) (g.met.P.Pages.allowed c.args.pages.now) in
    elim c.match-last.branch [
      | in-Some+in_ok-found-in-Some w ↦
          let found = w.in_ok-found-in-Some.ensures in
          let finds = finds_same image_is w.found-is true (pair_bytes w.in-Some.key w.in-Some.tid) view (found.found told) in
          next_found (shown shows) from given c.match-last.found (wide_same image_is w.found-is found.wide) c.is_pair_spelled.ensures
          (finds _ tree ∙ goes_on (shown shows) from given given_fits w.in-Some.key w.in-Some.tid (sym w.in-Some.is ∙ last_is))
      | in-None+in_ok-found-in-None w ↦
          let found = w.in_ok-found-in-None.ensures in
          let finds = finds_same image_is w.found-is false (pair_bytes c.args.start.now least_tid) view (found.found told) in
          next_found (shown shows) from given c.match-last.found (wide_same image_is w.found-is found.wide) c.is_pair_spelled.ensures
          (finds _ tree ∙ starts (shown shows) from from_fits given (sym w.in-None.is ∙ last_is) c.args.start.now start_is)
    ]
