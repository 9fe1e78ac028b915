use Rattle.std.proofs.Common.{◌≡◌, ◌+◌, ℕ, List, Option, Some, sym, subst, arith}
use Rattle.std.proofs.lemmas.List.{get_or_read}
use Rattle.rss_base.specs.declared.key.PageKey.{PageKey}
use Rattle.rss_frames.specs.Keyed.{Keyed}
use Rattle.rss_frames.specs.Table.{key_at, bucket_of}
use Rattle.rss_frames.specs.Chains.{IsTable, Reaches, IsBefore}
use Rattle.rss_frames.proofs.Table.{removed, bucket_within, frame_within}
use Rattle.rss_frames.proofs.key_table.KeyTable.remove.Goals as goal

reaches : (keys : List (Option PageKey)) (links : List ℕ) (room mask frame : ℕ) (key : PageKey) → IsTable keys links room mask → key_at keys frame ≡ Some key → Reaches links room (room + bucket_of mask key) frame
reaches keys links room mask frame key t is =
    let low = bucket_within mask key in
    record {
      chain = t.chain (bucket_of mask key);
      is = t.chains (bucket_of mask key) low;
      has = t.whole frame key is;
      cells = omega (arith, t.links_len);
      head_in = omega (arith, t.links_len, low);
    }

pub before-at-requires : goal.before-at-requires
before-at-requires c =
    let t = c.self.inside in
    let is = subst (λ (ks : Keyed). key_at ks.keys c.args.frame ≡ Some c.args.key) (sym c.self.view_is) c.requires in
    rw (c.as_slice.ensures.value, c.bucket-bucket.ensures.value) (reaches t.keys.items t.links.items t.room t.mask c.args.frame c.args.key c.self.invariant.0 is)

pub invariant_of-self : goal.invariant_of-self
invariant_of-self c =
    let t = c.self.inside in
    let is = subst (λ (ks : Keyed). key_at ks.keys c.args.frame ≡ Some c.args.key) (sym c.self.view_is) c.requires in
    let in_keys = frame_within t.keys.items c.args.frame c.args.key is in
    let before : IsBefore t.links.items t.room (t.room + bucket_of t.mask c.args.key) c.args.frame c.before-at.result =
    rw (c.as_slice.ensures.value, c.bucket-bucket.ensures.value) at c.before-at.ensures in
    let read = get_or_read t.links.items c.args.frame c.index.result.now (omega (arith, in_keys, c.self.invariant.0.keys_len, c.self.invariant.0.links_len)) c.index.ensures 0 in
    (rw read (removed t.keys.items t.links.items t.room t.mask c.args.frame c.args.key c.before-at.result is before c.self.invariant.0), c.self.invariant.1)
