-- What frames end as, once what was lent of them has ended.
use Rattle.std.specs.Prelude.{ℕ, List, Option, OnSome, IfNone, ⊤}
use Rattle.std.specs.Borrow.{Fml, MutBor, Array, Lends, LendsSo, follows_so, follows_both, u8}
use mathlib.Core.Option.{none}
use Rattle.rss_base.specs.declared.key.PageKey.{PageKey}
use Rattle.rss_frames.specs.State.{State}
use Rattle.rss_frames.specs.Entries.{Shows, entries, fronted, written, room}
use Rattle.rss_frames.specs.Places.{with_all, with_both, with_frames}
use Rattle.rss_frames.specs.declared.pairs.TwoPages.{TwoPages}
use Rattle.rss_frames.specs.contracts.frames.Frames.{the_row}

-- the page is the one that was used last, if it is there
abbrev pub EndsUsed : MutBor State → PageKey → Fml
EndsUsed s key = follows_so the_row the_row s.ghost_name none (λ _ _. ⊤) (λ n. Shows n (fronted key (entries s.now)) (room s.now))

-- the page is the one that was used last, as changed, with what was written to it last; if it isn't there, all is as it was
abbrev pub LendsPage : MutBor State → PageKey → Option (MutBor (List ℕ)) → Fml
LendsPage s key r = LendsSo the_row (Array u8 4096) s r (λ n w. OnSome r (Shows n (written key w (entries s.now)) (room s.now))) (λ n. IfNone r (Shows n (entries s.now) (room s.now)))

-- the frames have the bytes that were written last
abbrev pub LendsAll : MutBor State → MutBor (List (List ℕ)) → Fml
LendsAll s r = Lends the_row (Array (Array u8 4096) 0) s r (with_all s.now)

-- two frames have the bytes that were written to them last, which are v and w
abbrev pub LendsBytes : MutBor State → TwoPages → (List ℕ → List ℕ → State) → Fml
LendsBytes s r = follows_both the_row (Array u8 4096) (Array u8 4096) s.ghost_name r.first.ghost_name r.second.ghost_name

abbrev pub LendsFrames : MutBor State → ℕ → ℕ → TwoPages → Fml
LendsFrames s first second r = LendsBytes s r (with_frames s.now first second)

-- both pages are the ones that were used last, the first one before the second, as changed, with what was written to each last
abbrev pub LendsTwo : MutBor State → PageKey → PageKey → TwoPages → Fml
LendsTwo s first second r = LendsBytes s r (λ v w. with_both first v second w s.now)
