use Rattle.std.proofs.Common.{sym, ◌∙◌, arith}
use Rattle.rss_frames.proofs.frames.Frames.drop.Goals as goal

pub give-from_marks-requires : goal.give-from_marks-requires
give-from_marks-requires c =
    let s = c.self.invariant.1 in let k = c.self.invariant.2 in
    (s.1, k.rest_next, omega (arith, k.whole, k.small))

pub give-from_pages-requires : goal.give-from_pages-requires
give-from_pages-requires c =
    let s = c.self.invariant.1 in let k = c.self.invariant.2 in let m = c.give-from_marks.ensures in
    (s.0, m.0 ∙ s.2, omega (arith, m.1, k.whole, k.small))

pub into_part-from_free-requires : goal.into_part-from_free-requires
into_part-from_free-requires c =
    let k = c.self.invariant.2 in let m = c.give-from_marks.ensures in let p = c.give-from_pages.ensures in
    record { next = p.0 ∙ k.pages_next; small = omega (arith, p.1, m.1, k.whole, k.small) }

pub into_part-from_used-requires : goal.into_part-from_used-requires
into_part-from_used-requires c =
    let k = c.self.invariant.2 in let m = c.give-from_marks.ensures in let p = c.give-from_pages.ensures in
    let f = c.into_part-from_free.ensures in
    record { next = f.at ∙ k.free_next; small = omega (arith, f.len, p.1, m.1, k.whole, k.small) }

pub into_part-block-requires : goal.into_part-block-requires
into_part-block-requires c =
    let k = c.self.invariant.2 in let m = c.give-from_marks.ensures in let p = c.give-from_pages.ensures in
    let f = c.into_part-from_free.ensures in let u = c.into_part-from_used.ensures in
    record { next = u.at ∙ k.used_next; small = omega (arith, u.len, f.len, p.1, m.1, k.whole, k.small) }

pub give_back-requires : goal.give_back-requires
give_back-requires c =
    let k = c.self.invariant.2 in let m = c.give-from_marks.ensures in let p = c.give-from_pages.ensures in
    let f = c.into_part-from_free.ensures in let u = c.into_part-from_used.ensures in
    let b = c.into_part-block.ensures in (
      sym k.begins ∙ sym b.at,
      omega (arith, b.len, u.len, f.len, p.1, m.1, k.whole),
      k.by,
      omega (arith, b.len, u.len, f.len, p.1, m.1, k.whole, k.small),
    )
