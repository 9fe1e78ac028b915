use Rattle.std.proofs.Common.{arith, ap, length, length-append, ◌∙◌, ◌++◌, ℕ, List}
use Rattle.rss_access.proofs.Fronts.{short_insert, short_update, absent_insert}
use Rattle.rss_access.proofs.applying.put.Goals as goal

pub with_values-body-requires : goal.with_values-body-requires
with_values-body-requires g c =
    let long = ap (λ (b : List ℕ). length (b ++ c.in-Insert.values.now)) c.as_slice.ensures.bytes in
    let short = short_insert c.args.change.number c.args.change.tid c.in-Insert.is c.args.front c.requires.short in
    omega (arith, long, short)

pub put_at-requires : goal.put_at-requires
put_at-requires g c =
    let long = ap (λ (b : List ℕ). length b) (c.as_slice-in-Insert.ensures.bytes ∙ c.with_values-body.ensures ∙ ap (λ (b : List ℕ). b ++ c.in-Insert.values.now) c.as_slice.ensures.bytes) in
    let short = short_insert c.args.change.number c.args.change.tid c.in-Insert.is c.args.front c.requires.short in
    let parts = length-append c.args.front c.in-Insert.values.now in
    record {
      may = record { segment = c.requires.segment; length = record { some = omega (arith, long, parts, c.requires.begun); most = omega (arith, long, short) } };
      page = c.requires.named.page;
      slot = c.requires.named.slot;
      room = omega (arith, c.requires.may.spare);
      heaps = c.requires.may.heaps;
      absent = λ told. absent_insert c.args.change.number c.args.change.tid c.in-Insert.is c.args.front _ (c.requires.found told);
    }

pub with_values-body-requires-in-Update : goal.with_values-body-requires-in-Update
with_values-body-requires-in-Update g c =
    let long = ap (λ (b : List ℕ). length (b ++ c.in-Update.to.now)) c.as_slice-in-Update.ensures.bytes in
    let short = short_update c.args.change.number c.args.change.tid c.in-Update.is c.args.front c.requires.short in
    omega (arith, long, short)

pub update-requires-clause-put : goal.update-requires-clause-put
update-requires-clause-put g c =
    let long = ap (λ (b : List ℕ). length b) (c.as_slice-in-Update-2.ensures.bytes ∙ c.with_values-body-in-Update.ensures ∙ ap (λ (b : List ℕ). b ++ c.in-Update.to.now) c.as_slice-in-Update.ensures.bytes) in
    let short = short_update c.args.change.number c.args.change.tid c.in-Update.is c.args.front c.requires.short in
    let parts = length-append c.args.front c.in-Update.to.now in
    record { segment = c.requires.segment; length = record { some = omega (arith, long, parts, c.requires.begun); most = omega (arith, long, short) } }
