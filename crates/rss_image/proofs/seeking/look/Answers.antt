use Rattle.std.proofs.Common.{refl}
use Rattle.std.proofs.Math.Logic.{∥∥₁_elim}
use Rattle.std.proofs.Math.Bool.{Bool-set}
use mathlib.Core.HLevel.{⊥_prop}
use Rattle.rss_base.proofs.Steps.{done}
use Rattle.rss_image.proofs.Calls.{damage, held_is_mapped, lent_page, never_ill}
use Rattle.rss_image.proofs.seeking.look.Goals as goal

pub load_page-requires : goal.load_page-requires
load_page-requires g c = record {
  mapped = λ told. ∥∥₁_elim (c.requires.there told) (Bool-set _ _) (λ has. held_is_mapped c.args.of (g.P.Pages.view c.args.pages.now) 0 c.args.number has.next has.entries (g.met.P.Pages.holds c.args.pages.now told) has.holds);
}

pub returns-in-Some-clause-looks : goal.returns-in-Some-clause-looks
returns-in-Some-clause-looks g c = λ told. record {
  page = c.loaded.result.now;
  held_is = lent_page c.args.of c.args.number c.in_ok-key.key c.loaded.result.now (g.P.Pages.view c.args.pages.now) (g.P.Pages.view c.load_page.new.pages) c.in_ok-key.ensures.did.step c.in_ok-key.ensures.is c.loaded.ensures told;
  such = c.in-Some.ensures.some;
}

pub returns-in-Some-clause-did : goal.returns-in-Some-clause-did
returns-in-Some-clause-did g c = done _ c.in_ok-key.ensures.did.step

pub returns-in-None-clause-did : goal.returns-in-None-clause-did
returns-in-None-clause-did g c = damage c.in_ok-key.ensures.did.step c.damaged.ensures (λ told. ∥∥₁_elim (c.requires.there told) ⊥_prop (λ has.
    let old = g.P.Pages.view c.args.pages.now in
    let there = lent_page c.args.of c.args.number c.in_ok-key.key c.loaded.result.now old (g.P.Pages.view c.load_page.new.pages) c.in_ok-key.ensures.did.step c.in_ok-key.ensures.is c.loaded.ensures told in
    never_ill c.args.of 0 c.args.number old.held c.loaded.result.now there has (c.in-None.ensures.none refl)))
