use Rattle.std.proofs.Common.{◌≡◌, ◌+◌, ◌<◌, length, get_or, None, sym, ◌∙◌, ap, subst, arith}
use Rattle.std.proofs.lemmas.List.{get_or_read}
use Rattle.rss_frames.specs.Keyed.{Keyed}
use Rattle.rss_frames.specs.Table.{key_at, IsAbsent}
use Rattle.rss_frames.proofs.Table.{inserted, bucket_within}
use Rattle.rss_frames.proofs.key_table.KeyTable.insert.Goals as goal

pub invariant_of-self : goal.invariant_of-self
invariant_of-self c =
    let t = c.self.inside in
    let low = bucket_within t.mask c.args.key in
    let read = get_or_read t.links.items (t.room + c.bucket.result) c.index.result.now (omega (arith, c.self.invariant.0.links_len, c.bucket.ensures.within)) c.index.ensures 0 in
    let at = ap (λ b. get_or t.links.items (t.room + b) 0) c.bucket.ensures.value in (
      rw (read ∙ at, c.bucket.ensures.value) (inserted t.keys.items t.links.items t.room t.mask c.args.frame c.args.key
          (omega (arith, subst (λ (ks : Keyed). c.args.frame < length ks.keys) (sym c.self.view_is) c.requires.within, c.self.invariant.0.keys_len))
          (subst (λ (ks : Keyed). key_at ks.keys c.args.frame ≡ None) (sym c.self.view_is) c.requires.free)
          (subst (λ (ks : Keyed). IsAbsent ks.keys c.args.key) (sym c.self.view_is) c.requires.absent)
          c.self.invariant.0),
      c.self.invariant.1,
    )
