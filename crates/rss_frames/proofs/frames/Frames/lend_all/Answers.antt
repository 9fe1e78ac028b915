use Rattle.std.proofs.Common.{◌++◌, length, take, drop, refl}
use Rattle.std.specs.Vec.{with_items}
use Rattle.rss_frames.specs.contracts.frames.Frames.{the_view}
use Rattle.rss_frames.proofs.Both.{refill_length}
use Rattle.rss_frames.proofs.Changes.{rewritten}
use Rattle.rss_frames.proofs.frames.Frames.lend_all.Goals as goal

pub invariant_of-self-lent : goal.invariant_of-self-lent
invariant_of-self-lent c = λ w.
    let f = c.self.inside in (
      rewritten (the_view f) _ _ c.self.invariant.0 (with_items f.pages w).items f.changed.items
          (refill_length f.pages.len f.pages.items w f.pages.ok.0) refl,
      c.self.invariant.1,
      c.self.invariant.2,
    )

pub returns : goal.returns
returns c =
    let f = c.self.inside in
    let s = the_view f in
    rw (← c.self.view_is) (
      (
        refl,
        λ w x. record {
          keys = s.keys;
          used = s.used;
          pages = take (f.pages.ok.0 x) (w ++ drop (length w) s.pages);
          marks = s.marks;
        },
      ),
      record { writes_back = tt; value = c.as_mut_slice.ensures.value },
    )
