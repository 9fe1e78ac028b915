use Rattle.std.proofs.Common.{◌≡◌, ◌∙◌, ap, sym}
use Rattle.std.specs.Prelude.{None, Some, option_map}
use Rattle.rss_base.specs.declared.refusal.Refusal.TheVariants.{Duplicate}
use Rattle.rss_session.proofs.FilledKeys.{keys_free, keys_told}
use Rattle.rss_session.proofs.session.Session.test_image_keys.Goals as goal
use Rattle.rss_session.proofs.session.Session.test_image_keys.Goals.{then-image+in_default, else-image}

pub returns-in-Some-clause-tests : goal.returns-in-Some-clause-tests
returns-in-Some-clause-tests g c = λ name relation is_unique fields plans told state kept shows.
    keys_told c.requires.ready c.requires.closed c.requires.entries name relation is_unique fields plans told kept shows c.if-image.true
    ∙ ap (option_map (Duplicate c.args.image.now.name)) (sym c.repeated.ensures ∙ c.in-Some.is)
    ∙ ap Some (sym c.duplicate.ensures.is)

pub returns-clause-tests : goal.returns-clause-tests
returns-clause-tests g c = λ name relation is_unique fields plans told state kept shows.
    elim c.if-image.branch [
      | then-image+in_default w ↦
          let none : w.repeated.result ≡ None = cc in
          keys_told c.requires.ready c.requires.closed c.requires.entries name relation is_unique fields plans told kept shows w.if-image.true
          ∙ ap (option_map (Duplicate c.args.image.now.name)) (sym w.repeated.ensures ∙ none)
      | else-image w ↦ keys_free c.requires.ready c.requires.closed c.requires.entries name relation is_unique fields plans told kept shows w.if-image.false
    ]
