-- The laws of a device, for one in memory.
use Rattle.std.proofs.Common.{◌≡◌, inl, inr, List, length, take, Some, refl, sym, ◌∙◌, subst, arith}
use Rattle.std.proofs.lemmas.List.{take_all}
use Rattle.rss_base.specs.DiskRule.{Pages}
use Rattle.rss_device.specs.Memory.{replay, at_first, Held, IsImage, IsKept}
use Rattle.rss_device.specs.declared.event.Event.{Event}

pub same_some : {p q : Pages} → Some p ≡ Some q → p ≡ q
same_some e = cc

-- what a read gives is an image
pub as_read : (held : Held) → IsImage held held.pages
as_read held = record { size = refl; kept = λ q not. refl; loose = λ q loose. inr (inl refl) }

pub all_events : (events : List Event) → take (length events) events ≡ events
all_events events = take_all (length events) events (omega arith)

pub reads : (first : Pages) (events : List Event) (pages : Pages) → IsKept first events pages
    → (now : Pages) → Some pages ≡ Some now
    → IsImage (replay (at_first first) (take (length events) events)) now
reads first events pages kept now told =
    let start = at_first first in
    subst (λ (es : List Event). IsImage (replay start es) now) (sym (all_events events))
    (subst (λ (p : Pages). IsImage (replay start events) p) (sym kept ∙ same_some told) (as_read (replay start events)))
