-- An identifier that is chosen stays chosen where more are barred, but not it.
use Rattle.std.proofs.Common.{ℕ, List}
use Rattle.std.specs.Prelude.{Contains}
use Rattle.rss_base.specs.Steps.{PagesView}
use Rattle.rss_base.specs.declared.key.Space.{Space}
use Rattle.rss_base.specs.declared.tid.Tid.{Tid}
use Rattle.rss_page.specs.Content.{Content}
use Rattle.rss_tuple.specs.TupleSteps.{IsLeast, NoneIs}
use Rattle.rss_tuple.specs.Placing.{Wanted, IsOpen, IsSpot, IsNew, IsChosen, in_room, on_new, by_entry}

-- what is looked for, where these are barred
abbrev wanted_in : ℕ → Space → ℕ → List Tid → Wanted
wanted_in segment space length barred = record { segment = segment; space = space; length = length; barred = barred }

module _ {barred more : List Tid} (within : (t : Tid) → Contains barred t → Contains more t) where
  open_fewer : {contents : List Content} {tid : Tid} → IsOpen contents more tid → IsOpen contents barred tid
  open_fewer {tid = tid} is = record { low = is.low; empty = is.empty; allowed = λ has. is.allowed (within tid has) }

  -- ---- of the entries that are looked for

  module _ {view : PagesView} {segment : ℕ} {space : Space} {length : ℕ} where
    spot_fewer : {tid : Tid} → IsSpot view (wanted_in segment space length more) tid → IsSpot view (wanted_in segment space length barred) tid
    spot_fewer is = record { mapped = is.mapped; bytes = is.bytes; open_there = open_fewer is.open_there }

    no_spot : NoneIs (IsSpot view (wanted_in segment space length barred)) → NoneIs (IsSpot view (wanted_in segment space length more))
    no_spot none = λ tid is. none tid (spot_fewer is)

    least_spot : {tid : Tid} → IsLeast (IsSpot view (wanted_in segment space length barred)) tid → (Contains more tid → ⊥) → IsLeast (IsSpot view (wanted_in segment space length more)) tid
    least_spot least free = record {
      has = record {
        mapped = least.has.mapped;
        bytes = least.has.bytes;
        open_there = record { low = least.has.open_there.low; empty = least.has.open_there.empty; allowed = free };
      };
      least = λ other below is. least.least other below (spot_fewer is);
    }

  -- ---- of the home pages that aren't mapped

  module _ {view : PagesView} {segment : ℕ} where
    new_fewer : {tid : Tid} → IsNew view segment more tid → IsNew view segment barred tid
    new_fewer is = record { within = is.within; unmapped = is.unmapped; open_there = open_fewer is.open_there }

    no_new : NoneIs (IsNew view segment barred) → NoneIs (IsNew view segment more)
    no_new none = λ tid is. none tid (new_fewer is)

    least_new : {tid : Tid} → IsLeast (IsNew view segment barred) tid → (Contains more tid → ⊥) → IsLeast (IsNew view segment more) tid
    least_new least free = record {
      has = record {
        within = least.has.within;
        unmapped = least.has.unmapped;
        open_there = record { low = least.has.open_there.low; empty = least.has.open_there.empty; allowed = free };
      };
      least = λ other below is. least.least other below (new_fewer is);
    }

-- ---- the identifier of a new tuple

pub chosen_barred : {view : PagesView} {segment length : ℕ} {barred more : List Tid} {tid : Tid} → IsChosen view segment length barred tid → ((t : Tid) → Contains barred t → Contains more t) → (Contains more tid → ⊥) → IsChosen view segment length more tid
chosen_barred (in_room least) within free = in_room (least_spot within least free)
chosen_barred (on_new none least) within free = on_new (no_spot within none) (least_new within least free)
chosen_barred (by_entry none never least) within free = by_entry (no_spot within none) (no_new within never) (least_spot within least free)
