use Rattle.std.proofs.Common.{false, ℕ, List, ◌∙◌, ap, arith}
use Rattle.std.proofs.Math.Logic.{∥∥₁_map}
use Rattle.rss_base.proofs.Steps.{done, fails, widens}
use Rattle.rss_levels.specs.Sought.{first_from}
use Rattle.rss_image.specs.Images.{least_tid}
use Rattle.rss_image.proofs.Putting.{long_pair, spot_of}
use Rattle.rss_image.proofs.image.Image.seek.Goals as goal

pub seek_in-requires-clause-there : goal.seek_in-requires-clause-there
seek_in-requires-clause-there g c = λ told. ∥∥₁_map (c.requires.there told) (λ has. record { pairs = has.pairs; may = record { spot = spot_of c.args.self.now (g.P.Pages.view c.args.pages.now).held c.pair_of-pair.result has.pairs has.tree (long_pair c.args.self.now.width c.args.key.now least_tid c.pair_of-pair.result c.pair_of-pair.ensures c.requires.long); filled = tt } })

pub seek_in-requires-clause-long : goal.seek_in-requires-clause-long
seek_in-requires-clause-long g c = (long_pair c.args.self.now.width c.args.key.now least_tid c.pair_of-pair.result c.pair_of-pair.ensures c.requires.long)

pub returns-in_err-found-clause-did : goal.returns-in_err-found-clause-did
returns-in_err-found-clause-did g c = fails _ c.from_residual.ensures.1 (λ key there. there) (omega arith) (omega arith) c.in_err-found.ensures.did

pub returns-clause-found : goal.returns-clause-found
returns-clause-found g c = λ told pairs tree.
    c.keyed.ensures.found
    ∙ c.in_ok-found.ensures.found told pairs (record { spot = spot_of c.args.self.now (g.P.Pages.view c.args.pages.now).held c.pair_of-pair.result pairs tree (long_pair c.args.self.now.width c.args.key.now least_tid c.pair_of-pair.result c.pair_of-pair.ensures c.requires.long); filled = tt })
    ∙ ap (λ (p : List ℕ). first_from false p pairs) c.pair_of-pair.ensures

pub returns-clause-did : goal.returns-clause-did
returns-clause-did g c = widens (λ key there. there) (omega arith) (omega arith) (done _ c.in_ok-found.ensures.did.step)
