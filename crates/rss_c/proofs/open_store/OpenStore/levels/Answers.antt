use Rattle.std.proofs.Common.{◌≡◌, refl, subst}
use Rattle.rss_base.specs.Listings.{IsUnlisted}
use Rattle.rss_base.specs.declared.name.Name.{Name}
use Rattle.rss_base.specs.declared.refusal.Kind.TheVariants.{Image}
use Rattle.rss_rsi.specs.Parts.{session_of}
use Rattle.rss_c.specs.Stores.{defined, none}
use Rattle.rss_c.proofs.open_store.OpenStore.levels.Goals as goal

pub returns-in-Some-levels : goal.returns-in-Some-levels
returns-in-Some-levels c = defined c.in-Some.name c.in-Some.ensures.some c.in-Some-levels.ensures.some

pub returns-in-None : goal.returns-in-None
returns-in-None c =
    none (λ other is.
    let same : c.in-Some.name ≡ other = cc (c.in-Some.ensures.all other is) in
    subst (λ (name : Name). IsUnlisted Image (session_of c.args.self.now.engine).store.catalog.listing name) same c.in-None.ensures.none)
    refl
