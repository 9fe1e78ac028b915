use Rattle.std.proofs.Common.{ℕ, sym, ◌∙◌, ap, subst}
use Rattle.std.specs.Prelude.{min}
use Rattle.rss_base.specs.declared.fault.OpenFault.{OpenFault}
use Rattle.rss_buffer.specs.Devices.{device_of}
use Rattle.rss_store.specs.Opening.{IsHandedBack}
use Rattle.rss_store.proofs.Unopened.{opens_store, refuses_store, handed_sized}
use Rattle.rss_store.proofs.opening.open_layout.Goals as goal

pub returns-in-Ok-clause-opened : goal.returns-in-Ok-clause-opened
returns-in-Ok-clause-opened g c = opens_store c.in_ok-store.ensures.read c.in-Ok.ensures.did c.in-Ok.ensures.rested

pub returns-in-Ok-clause-frames : goal.returns-in-Ok-clause-frames
returns-in-Ok-clause-frames g c = c.in-Ok.ensures.did.frames ∙ c.in_ok-store.ensures.frames ∙ ap (λ (n : ℕ). min n c.args.frames) (sym c.in-Ok.ensures.did.slots)

pub returns-in-Err-clause-refused : goal.returns-in-Err-clause-refused
returns-in-Err-clause-refused g c =
    subst (λ (d : _). IsHandedBack (g.D.Device.view c.args.device) (g.D.Device.view d) c.refused.result.fault) (sym c.refused.ensures.device)
    (subst (λ (fault : OpenFault). IsHandedBack (g.D.Device.view c.args.device) (g.D.Device.view (device_of c.bring_to_rest.new.self.tuples.pages)) fault) (sym c.refused.ensures.fault)
    (handed_sized _ (refuses_store c.in-Err.fault c.in_ok-store.ensures.read c.in-Err.ensures.did c.in-Err.ensures.rested)))
