use Rattle.std.proofs.Common.{Option, List, ℕ, sym, subst, arith}
use Rattle.std.specs.Prelude.{OnOk}
use Rattle.std.proofs.Math.Logic.{∥∥₁_map}
use Rattle.rss_base.specs.DiskRule.{IsTold}
use Rattle.rss_base.proofs.Steps.{widens}
use Rattle.rss_image.proofs.Kept.{one_made}
use Rattle.rss_entries.specs.Keyed.{MayCutKey, CutsKey}
use Rattle.rss_entries.proofs.Composed.{shrinks_by_none}
use Rattle.rss_entries.proofs.moving.cut.Goals as goal

pub remove-requires-clause-may : goal.remove-requires-clause-may
remove-requires-clause-may g c = λ told. ∥∥₁_map (c.requires.may told) (λ may. subst (λ (k : Option (List ℕ)). MayCutKey k c.args.tid c.args.image.now (g.P.Pages.view c.args.pages.now)) c.in-Some.is may)

pub returns-in-Some-clause-cuts : goal.returns-in-Some-clause-cuts
returns-in-Some-clause-cuts g c = subst (λ (k : Option (List ℕ)). OnOk c.remove.result (IsTold (g.P.Pages.view c.args.pages.now).disk → CutsKey k c.args.tid c.args.image.now c.remove.new.self (g.P.Pages.view c.args.pages.now) (g.P.Pages.view c.remove.new.pages))) (sym c.in-Some.is) c.remove.ensures.cuts

pub returns-in-Some-clause-did : goal.returns-in-Some-clause-did
returns-in-Some-clause-did g c = widens (λ key there. there) (omega arith) (omega arith) c.remove.ensures.did

pub returns-in-None-clause-cuts : goal.returns-in-None-clause-cuts
returns-in-None-clause-cuts g c = λ told. subst (λ (k : Option (List ℕ)). CutsKey k c.args.tid c.args.image.now c.args.image.now (g.P.Pages.view c.args.pages.now) (g.P.Pages.view c.args.pages.now)) (sym c.in-None.is) (λ pairs tree has. shrinks_by_none c.args.image.now (g.P.Pages.view c.args.pages.now) pairs tree)

pub returns-in-None-clause-made : goal.returns-in-None-clause-made
returns-in-None-clause-made g c = λ told good pairs tree made. one_made c.args.image.now (g.P.Pages.view c.args.pages.now).held good pairs tree made
