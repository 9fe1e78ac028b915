use Rattle.std.proofs.Common.{Option, List, ℕ, Bor, subst}
use Rattle.std.specs.Prelude.{IfSome, option_copied}
use Rattle.rss_base.specs.TupleTypes.{kinds, chosen, SpellsSome}
use Rattle.rss_entries.proofs.Entries.{length-key}
use Rattle.rss_entries.proofs.moving.key_of.Goals as goal

pub returns-in-Some-clause-long : goal.returns-in-Some-clause-long
returns-in-Some-clause-long c =
    let fields = kinds c.args.key.fields.now in
    let which = c.args.key.which.now in
    let spelled : SpellsSome fields c.in-Some.bytes.now = subst (λ (o : Option (Bor (List ℕ))). IfSome (option_copied o) (SpellsSome fields)) c.in-Some.is c.requires.spelled in
    length-key (chosen which fields) (chosen which spelled.0) c.key.new.into (c.key.ensures spelled.0 spelled.1)
