use Rattle.std.proofs.Common.{refl}
use Rattle.rss_frames.proofs.Halves.{both, low_page, high_page}
use Rattle.rss_frames.proofs.pairs.low_high.Goals as goal

pub returns : goal.returns
returns c =
    let s = c.split_at_mut-left.ensures in
    let r = c.requires in (
      ((refl, refl), both c.args.pages.now c.args.low c.args.high r.order r.within _ _ s.front s.back),
      record {
        writes_back = tt;
        first = low_page c.args.pages.now c.args.low c.args.high r.order r.within _ _ s.front s.back;
        second = high_page c.args.pages.now c.args.low c.args.high r.order r.within _ _ s.front s.back;
      },
    )
