use Rattle.std.proofs.Common.{◌∙◌, replicate, refl, sym, subst, rules}
use Rattle.std.proofs.lemmas.Option.{same_Some}
use Rattle.rss_base.specs.DiskRule.{LeavesOnly}
use Rattle.rss_store.specs.Formatted.{IsFormatted}
use Rattle.rss_base.proofs.Moments.{goes_on, goes_then}
use Rattle.rss_store.proofs.Formats.{formatted}
use Rattle.rss_store.proofs.formatting.write_store.Goals as goal

pub returns-in_err-write-clause-goes_on : goal.returns-in_err-write-clause-goes_on
returns-in_err-write-clause-goes_on g c =
    goes_then c.set_size.ensures.goes_on
    (goes_then (goes_on c.write_zeros.ensures.did.only)
    (goes_then (goes_on c.write_table.ensures.did.only)
    (goes_on c.write.ensures.did.only)))

pub returns-in_err-put-clause-goes_on : goal.returns-in_err-put-clause-goes_on
returns-in_err-put-clause-goes_on g c =
    goes_then c.set_size.ensures.goes_on
    (goes_then (goes_on c.write_zeros.ensures.did.only)
    (goes_then (goes_on c.write_table.ensures.did.only)
    (goes_then (goes_on c.write.ensures.did.only)
    (goes_on c.put.ensures.did.only))))

pub returns-clause-goes_on : goal.returns-clause-goes_on
returns-clause-goes_on g c =
    goes_then c.set_size.ensures.goes_on
    (goes_then (goes_on c.write_zeros.ensures.did.only)
    (goes_then (goes_on c.write_table.ensures.did.only)
    (goes_then (goes_on c.write.ensures.did.only)
    (goes_on c.put.ensures.did.only))))

pub returns-clause-made : goal.returns-clause-made
returns-clause-made g c = record {
  formatted = λ pages told.
      let rooted = c.put.ensures.did.only.told.1 (record { pages = pages; is = told }) in
      let mapped = c.write.ensures.did.only.told.1 rooted in
      let zeroed = c.write_table.ensures.did.only.told.1 mapped in
      let sized = c.write_zeros.ensures.did.only.told.1 zeroed in
      let zeros = c.in_ok-write_zeros.ensures.zeros sized.pages sized.is in
      let written = c.in_ok-write_table.ensures.written zeros.after zeros.told in
      let image = c.in_ok-put.ensures.written _ (c.in_ok-write.ensures.written written.after written.told) in
      let size = g.met.D.Device.sized c.set_size.new.self sized.pages sized.is ∙ c.in_ok-set_size.ensures.size ∙ c.device_pages.ensures in
      subst (IsFormatted c.args.slots c.args.log_pages) (same_Some _ pages (sym image ∙ told))
      (formatted _ _ c.slots_at.result c.from.result c.first_root-root.result c.args.table.now sized.pages _ _ c.encode.result (replicate 4096 0) c.requires.sizes c.first_root-root.ensures c.requires.table c.slots_at.ensures (search rules) size c.encode.ensures refl zeros written);
  synced = λ pages told.
      let was = c.put.ensures.did.only.told.1 (record { pages = pages; is = told }) in
      let same = same_Some _ pages (sym (c.in_ok-put.ensures.written was.pages was.is) ∙ told) in
      subst (LeavesOnly (g.D.Device.view c.put.new.device).disk) same (c.in_ok-put.ensures.durable was.pages was.is);
}
