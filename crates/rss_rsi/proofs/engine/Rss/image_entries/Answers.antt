-- A search leaves the engine ready, also where memory ran out.
use Rattle.std.proofs.Common.{refl, subst}
use Rattle.std.specs.Prelude.{Err}
use Rattle.rss_base.specs.declared.fault.PageFault.{PageFault}
use Rattle.rss_session.specs.Looks.{SearchesOn}
use Rattle.rss_session.specs.Parts.{view as session_view}
use Rattle.rss_rsi.specs.Parts.{parts_of, session_of}
use Rattle.rss_rsi.proofs.Looks.{ready_looked}
use Rattle.rss_rsi.proofs.engine.Rss.image_entries.Goals as goal

pub invariant_of-self : goal.invariant_of-self
invariant_of-self g c = record {
  ready = λ up. ready_looked (parts_of c.args.self.now) _ {found = tt} (c.args.self.now.ready c.requires.up) c.in-Ok.ensures.searches (record { locks = refl; scans = refl });
}

pub invariant_of-self-in-Err-NoMemory : goal.invariant_of-self-in-Err-NoMemory
invariant_of-self-in-Err-NoMemory g c =
    let lacks = c.in-Err-NoMemory in
    let searches = subst (λ (fault : PageFault). SearchesOn {T = Unit {0}} (session_of c.args.self.now) (session_view g.S.Pages.view c.entries_of.new.self) (Err fault)) lacks.field-0-is lacks.ensures.searches in
    record { ready = λ up. ready_looked (parts_of c.args.self.now) _ {found = tt} (c.args.self.now.ready c.requires.up) searches (record { locks = refl; scans = refl }) }
