-- The bytes behind the blocks are those of values, or there are none.
use Rattle.std.proofs.Common.{◌∙◌, refl, sym, subst}
use Rattle.std.proofs.lemmas.Bool.{false≢true}
use Rattle.rss_base.specs.TupleTypes.{kinds, SpellsSome}
use Rattle.rss_access.proofs.Bodied.{one_bytes}
use Rattle.rss_access.proofs.bodies.spelled_in.Goals as goal

pub returns-in_err-bytes-clause-none : goal.returns-in_err-bytes-clause-none
returns-in_err-bytes-clause-none c = λ none bytes stands. c.in_err-bytes.ensures.none refl bytes stands.holds

pub returns-then-spells-clause-some : goal.returns-then-spells-clause-some
returns-then-spells-clause-some c = record { holds = c.in_ok-bytes.ensures.some; spelled = c.spells.ensures.exact.0 c.if-spells.true }

pub returns-else-spells-clause-none : goal.returns-else-spells-clause-none
returns-else-spells-clause-none c = λ none bytes stands.
    let same = one_bytes stands.holds c.in_ok-bytes.ensures.some in
    false≢true (sym c.if-spells.false ∙ c.spells.ensures.exact.1 (subst (SpellsSome (kinds c.args.fields.now)) same stands.spelled))
