use Rattle.std.proofs.Common.{◌≡◌, ◌+◌, ◌++◌, ◌∷◌, [], take, sym, ◌∙◌, ap, subst}
use Rattle.std.proofs.lemmas.List.{take_at}
use Rattle.rss_base.specs.LogRecords.{record_bytes}
use Rattle.rss_log.specs.Logs.{LogView, HasRecords, with_bytes}
use Rattle.rss_log.specs.Inside.{view_of, log_view}
use Rattle.rss_log.proofs.LogViews.{is_log, ring_kept, appended_view, more_records}
use Rattle.rss_log.proofs.log.Log.append.Goals as goal

pub returns-clause-appended : goal.returns-clause-appended
returns-clause-appended c =
    let bytes : take c.write_record-size.result c.write_record-size.new.into ≡ record_bytes c.args.record_value.now = ap (take c.write_record-size.result) c.write_record-size.ensures.written ∙ take_at (record_bytes c.args.record_value.now) _ _ (sym c.write_record-size.ensures.size) in
    let put = rw (bytes, c.deref_mut.ensures.value) at c.put.ensures in
    let room = rw (← c.self.view_is) at c.requires.room in
    ap (view_of c.self.inside.pages c.self.inside.head (c.self.inside.end + c.write_record-size.result)) (ring_kept c.self.inside.ring c.put.new.ring put.long)
    ∙ appended_view c.self.inside c.put.new.ring (record_bytes c.args.record_value.now) c.write_record-size.result c.self.invariant c.write_record-size.ensures.size room put
    ∙ ap (λ (v : LogView). with_bytes v (record_bytes c.args.record_value.now)) c.self.view_is

pub returns-clause-records : goal.returns-clause-records
returns-clause-records c = λ ps has.
    let bytes : take c.write_record-size.result c.write_record-size.new.into ≡ record_bytes c.args.record_value.now = ap (take c.write_record-size.result) c.write_record-size.ensures.written ∙ take_at (record_bytes c.args.record_value.now) _ _ (sym c.write_record-size.ensures.size) in
    let put = rw (bytes, c.deref_mut.ensures.value) at c.put.ensures in
    let room = rw (← c.self.view_is) at c.requires.room in
    let grown =
    ap (view_of c.self.inside.pages c.self.inside.head (c.self.inside.end + c.write_record-size.result)) (ring_kept c.self.inside.ring c.put.new.ring put.long)
    ∙ appended_view c.self.inside c.put.new.ring (record_bytes c.args.record_value.now) c.write_record-size.result c.self.invariant c.write_record-size.ensures.size room put in
    let more = more_records (log_view c.self.inside) c.args.record_value.now ps (is_log c.self.inside c.self.invariant) c.write_record-size.ensures.spellable (subst (λ (v : LogView). HasRecords v ps) (sym c.self.view_is) has) in
    subst (λ (v : LogView). HasRecords v (ps ++ record { at = c.self.inside.end; is = c.args.record_value.now } ∷ [])) (sym grown) more
