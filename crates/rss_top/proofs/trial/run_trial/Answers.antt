use Rattle.std.proofs.Common.{◌≡◌, ◌⊎◌, inl, inr, ⊎_elim, ℕ, List, Some, refl}
use Rattle.rss_base.specs.DiskRule.{Pages}
use Rattle.rss_base.specs.Faults.{Rises}
use Rattle.rss_base.specs.Streams.{Stream}
use Rattle.rss_model.specs.Machine.{StoreSize}
use Rattle.rss_stored.specs.Store.{OpensTo}
use Rattle.rss_model.specs.Tables.{Tables}
use Rattle.rss_check.proofs.Refused.{found_none}
use Rattle.rss_top.specs.Run.{World}
use Rattle.rss_top.specs.Trial.{TellsTrial}
use Rattle.rss_top.specs.Programs.{IsRunEnd, with_sink}
use Rattle.rss_top.proofs.Endings.{not_too_long, by_said}
use Rattle.rss_top.specs.declared.status.Status.{Status}
use Rattle.rss_top.specs.declared.status.Status.TheVariants.{Ok, ReadFault, WriteFault, DeviceFault, NotAStore, Damaged, NoMemory}
use Rattle.rss_top.specs.Lines.{on}
use Rattle.rss_top.specs.GeneratedScript.{view_of as script_of}
use Rattle.rss_device.specs.MemSink.{view_of as replies_of}
use Rattle.rss_top.proofs.ScriptSize.{generated_short}
use Rattle.rss_top.proofs.trial.run_trial.Goals as goal

-- over a store, where neither device nor sink fails
module _ (old new : World) (sink_old sink_new source_old source_new : Stream) (replies : List ℕ) {status : Status} {pages : Pages} {size : StoreSize} {tables : Tables}
    (told : old.disk.contents ≡ Some pages) (opens : OpensTo pages size tables)
    (sink : Rises old.sink.faults new.sink.faults → ⊥) (device : Rises old.faults new.faults → ⊥) where
  completes_trial : (ran : Status) → IsRunEnd (with_sink old sink_old) (with_sink new sink_new) source_old source_new ran → TellsTrial ran replies status old.sink new.sink → (status ≡ Ok) ⊎ (status ≡ NoMemory)
  completes_trial Ok cause tells = by_said (λ s. (s ≡ Ok) ⊎ (s ≡ NoMemory)) tells.says
      (λ _. inl refl) (λ front rises. absurd (sink rises)) (λ silent. inr refl)
  completes_trial (NotAStore place) cause tells = absurd (found_none (cause.0 pages told) opens.stored opens.store)
  completes_trial (Damaged place) cause tells = absurd (⊎_elim
      (λ turned. turned.why size tables opens)
      (λ found. found.none size tables opens)
      (cause pages told))
  completes_trial DeviceFault cause tells = absurd (device cause)
  completes_trial ReadFault cause tells = inr tells.same_status
  completes_trial WriteFault cause tells = inr tells.same_status
  completes_trial NoMemory cause tells = inr tells.same_status
  completes_trial ran cause tells = absurd tells

pub tell-status-requires-clause-short : goal.tell-status-requires-clause-short
tell-status-requires-clause-short g c = not_too_long _ c.new-script.ensures (generated_short c.args.number c.args.count c.requires.few) c.run_script-ran.ensures.taken

pub returns : goal.returns
returns g c =
    let source_old = script_of c.new-script.result in
    let source_new = script_of c.run_script-ran.new.source in
    let sink_old = replies_of c.new-replies.result in
    let sink_new = replies_of c.run_script-ran.new.sink in
    let old = on (g.D.Device.view c.args.device) (g.K.Sink.view c.args.sink.now) in
    let new = on (g.D.Device.view c.run_script-ran.result.1) (g.K.Sink.view c.tell-status.new.sink) in
    record {
      source_old = source_old;
      source_new = source_new;
      sink_old = sink_old;
      sink_new = sink_new;
      script = c.new-script.ensures;
      none = c.new-replies.ensures.written;
      replies = c.bytes.result.now;
      kept = c.bytes.ensures;
      ran = c.run_script-ran.result.0;
      runs = c.run_script-ran.ensures;
      tells = c.tell-status.ensures;
      complete = λ size tables pages told opens sink device. completes_trial old new sink_old sink_new source_old source_new c.bytes.result.now told opens sink device c.run_script-ran.result.0 c.run_script-ran.ensures.cause c.tell-status.ensures;
    }
