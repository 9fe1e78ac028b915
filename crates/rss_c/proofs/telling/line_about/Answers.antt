use Rattle.std.proofs.Common.{◌≡◌, [], refl, sym, ◌∙◌}
use Rattle.rss_base.specs.declared.place.Place.{Place}
use Rattle.rss_top.specs.declared.status.Status.{Status}
use Rattle.rss_top.specs.declared.status.Status.TheVariants.{Ok, Words, ReadFault, WriteFault, DeviceFault, NotAStore, Damaged, NoMemory, TooLong, WrongSize}
use Rattle.rss_c.specs.Ends.{line_of}
use Rattle.rss_c.proofs.telling.line_about.Goals as goal

none_of : (status : Status) → ((place : Place) → status ≡ NotAStore place → ⊥)
    → ((place : Place) → status ≡ Damaged place → ⊥) → line_of status ≡ []
none_of (NotAStore place) layout sound = absurd (layout place refl)
none_of (Damaged place) layout sound = absurd (sound place refl)
none_of Ok layout sound = refl
none_of Words layout sound = refl
none_of ReadFault layout sound = refl
none_of WriteFault layout sound = refl
none_of DeviceFault layout sound = refl
none_of NoMemory layout sound = refl
none_of TooLong layout sound = refl
none_of WrongSize layout sound = refl

pub returns-in_default : goal.returns-in_default
returns-in_default c =
    c.new-line.ensures.items ∙ sym (none_of c.args.status c.in_default.not-NotAStore c.in_default.not-Damaged)
