use Rattle.std.proofs.Common.{◌≡◌, false, Some, List, ℕ, sym, ◌∙◌, ap}
use Rattle.std.proofs.Math.Logic.{∥∥₁_map}
use Rattle.rss_levels.specs.Sought.{first_from}
use Rattle.rss_node.specs.Pairs.{pair_bytes}
use Rattle.rss_image.proofs.Others.{pairs_rise, found_is, is_first}
use Rattle.rss_image.proofs.Putting.{long_pair, spot_of}
use Rattle.rss_image.proofs.image.Image.has.Goals as goal

pub seek_in-requires-clause-there : goal.seek_in-requires-clause-there
seek_in-requires-clause-there g c = λ told. ∥∥₁_map (c.requires.there told) (λ has. record { pairs = has.pairs; may = record { spot = spot_of c.args.self.now (g.P.Pages.view c.args.pages.now).held c.pair_of-pair.result has.pairs has.tree (long_pair c.args.self.now.width c.args.key.now c.args.tid c.pair_of-pair.result c.pair_of-pair.ensures c.requires.long); filled = tt } })

pub returns-clause-found : goal.returns-clause-found
returns-clause-found g c = λ told pairs tree.
    let pair : List ℕ = pair_bytes c.args.key.now c.args.tid in
    let same = c.pair_of-pair.ensures in
    let sought : c.in_ok-found.found ≡ first_from false pair pairs =
    c.in_ok-found.ensures.found told pairs (record { spot = spot_of c.args.self.now (g.P.Pages.view c.args.pages.now).held c.pair_of-pair.result pairs tree (long_pair c.args.self.now.width c.args.key.now c.args.tid c.pair_of-pair.result same c.requires.long); filled = tt })
    ∙ ap (λ (p : List ℕ). first_from false p pairs) same in (
      (λ yes. (is_first false pair pairs pair (pairs_rise tree) (sym sought ∙ c.is_found.ensures.0 yes ∙ ap (λ (p : List ℕ). Some p) same)).there),
      (λ there. c.is_found.ensures.1 (sought ∙ found_is pair pairs (pairs_rise tree) there ∙ ap (λ (p : List ℕ). Some p) (sym same))),
    )
