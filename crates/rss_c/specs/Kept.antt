-- What a store that C keeps owns: what a box of it does; and none owns nothing.
use Rattle.std.specs.Prelude.{Option, None, Some}
use base.Fml.{Fml, ftrue}
use base.Stored.{Coded}
use denote.RawPtr.{Ptr}
use Rattle.std.specs.Coded.{coded_option}
use Rattle.std.specs.Box.Ownership.{box_owns}
use Rattle.std.specs.Global.{Global}
use Rattle.std.specs.contracts.impls.GlobalAllocator.TheImpl.{ghosts}
use Rattle.rss_c.specs.contracts.open_store.OpenStore.{the_row}

abbrev pub kept_owns : Global → Ptr → Option the_row.Denot → Fml
kept_owns alloc at None = ftrue
kept_owns alloc at (Some store) = box_owns (ghosts.dealloc_token alloc) the_row at store

abbrev pub store_coded : Coded (Option the_row.Denot)
store_coded = coded_option the_row.coded
