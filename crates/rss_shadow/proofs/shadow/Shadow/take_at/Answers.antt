use Rattle.std.proofs.Common.{◌<◌, length, sym, subst}
use Rattle.rss_base.specs.PageMap.{IsKey}
use Rattle.rss_shadow.specs.Maps.{Maps, LacksPage, spare}
use Rattle.rss_shadow.proofs.Found.{IsFree-unused, some_unused}
use Rattle.rss_shadow.proofs.Kept.{IsShadow-gains, spare-gains}
use Rattle.rss_shadow.proofs.shadow.Shadow.take_at.Goals as goal

pub unreachable-requires : goal.unreachable-requires
unreachable-requires c = some_unused c.self.invariant c.in_default.ensures.none (subst (λ (m : Maps). 0 < spare m) (sym c.self.view_is) c.requires.room)

pub invariant_of-self : goal.invariant_of-self
invariant_of-self c =
    let back = sym c.self.view_is in
    let free = IsFree-unused c.self.invariant c.in-Some.ensures.within c.in-Some.ensures.some.has in
    rw (c.set.ensures, c.insert.ensures, c.heap_pages.ensures, c.image_pages.ensures)
    (IsShadow-gains c.self.invariant free
    (subst (λ (m : Maps). IsKey (length m.current) c.args.key) back c.requires.allowed)
    (subst (λ (m : Maps). LacksPage m.current c.args.key) back c.requires.lacking)
    (subst (λ (m : Maps). 0 < spare m) back c.requires.room)
    c.put.ensures)

pub returns-clause-spare : goal.returns-clause-spare
returns-clause-spare c =
    let free = IsFree-unused c.self.invariant c.in-Some.ensures.within c.in-Some.ensures.some.has in
    rw (c.set.ensures, ← c.self.view_is)
    (spare-gains _ _ c.args.key c.self.invariant.maps_hold free (subst (λ (m : Maps). 0 < spare m) (sym c.self.view_is) c.requires.room))
