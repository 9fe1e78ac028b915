use Rattle.std.proofs.Common.{Option, List, ℕ, sym, subst, arith}
use Rattle.std.specs.Prelude.{OnOk}
use Rattle.std.proofs.Math.Logic.{∥∥₁_map}
use Rattle.rss_base.specs.DiskRule.{IsTold}
use Rattle.rss_base.proofs.Steps.{widens}
use Rattle.rss_image.proofs.Kept.{one_made}
use Rattle.rss_entries.specs.Keyed.{MayPutKey, PutsKey, MakesKey}
use Rattle.rss_entries.proofs.Composed.{becomes_itself}
use Rattle.rss_entries.proofs.moving.put.Goals as goal

pub insert-requires-clause-may : goal.insert-requires-clause-may
insert-requires-clause-may g c = λ told. ∥∥₁_map (c.requires.may told) (λ may. subst (λ (k : Option (List ℕ)). MayPutKey k c.args.tid c.args.image.now (g.P.Pages.view c.args.pages.now)) c.in-Some.is may)

pub returns-in-Some-clause-puts : goal.returns-in-Some-clause-puts
returns-in-Some-clause-puts g c = subst (λ (k : Option (List ℕ)). OnOk c.insert.result (IsTold (g.P.Pages.view c.args.pages.now).disk → PutsKey k c.args.tid c.args.image.now c.insert.new.self (g.P.Pages.view c.args.pages.now) (g.P.Pages.view c.insert.new.pages))) (sym c.in-Some.is) c.insert.ensures.puts

pub returns-in-Some-clause-did : goal.returns-in-Some-clause-did
returns-in-Some-clause-did g c = widens (λ key there. there) (omega arith) (omega arith) c.insert.ensures.did

pub returns-in-None-clause-puts : goal.returns-in-None-clause-puts
returns-in-None-clause-puts g c = λ told. subst (λ (k : Option (List ℕ)). PutsKey k c.args.tid c.args.image.now c.args.image.now (g.P.Pages.view c.args.pages.now) (g.P.Pages.view c.args.pages.now)) (sym c.in-None.is) (λ pairs tree lacks. becomes_itself c.args.image.now (g.P.Pages.view c.args.pages.now) pairs tree)

pub returns-in-Some-clause-made : goal.returns-in-Some-clause-made
returns-in-Some-clause-made g c = subst (λ (k : Option (List ℕ)). OnOk c.insert.result (IsTold (g.P.Pages.view c.args.pages.now).disk → MakesKey k c.args.tid c.args.image.now c.insert.new.self (g.P.Pages.view c.args.pages.now) (g.P.Pages.view c.insert.new.pages))) (sym c.in-Some.is) c.insert.ensures.made

pub returns-in-None-clause-made : goal.returns-in-None-clause-made
returns-in-None-clause-made g c = λ told good fine pairs tree made. one_made c.args.image.now (g.P.Pages.view c.args.pages.now).held good pairs tree made
