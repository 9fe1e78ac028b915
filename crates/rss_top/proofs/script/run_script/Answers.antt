use Rattle.std.proofs.Common.{refl}
use Rattle.rss_top.specs.Tellings.{told_by}
use Rattle.rss_top.specs.TellingLaws.{told_sound}
use Rattle.rss_top.proofs.Openings.{script_ran, failed_opening, lacked_opening, look_refused, store_refused}
use Rattle.rss_top.proofs.script.run_script.Goals as goal

pub returns-in-Ok : goal.returns-in-Ok
returns-in-Ok g c =
    let made = c.new-scripted.ensures in
    let runs = rw (made.engine, made.names, made.teller, c.requires) at c.run_store-status.ensures.runs in
    rw c.into_device.ensures (rw c.into_pages.ensures (rw c.into_engine.ensures
    (script_ran (told_sound g.T.Teller.telling g.met.T.Teller.is_telling) c.in-Ok.ensures.opened.opened c.in-Ok.ensures.opened.passes (λ image left. left) runs c.run_store-status.ensures.tells)))

-- ---- the device is handed back

pub returns-in-Device : goal.returns-in-Device
returns-in-Device g c = failed_opening (told_by g.T.Teller.telling) c.in-Err.ensures.refused _ _ _ c.in-Device.is refl

pub returns-in-NoMemory : goal.returns-in-NoMemory
returns-in-NoMemory g c = lacked_opening (told_by g.T.Teller.telling) c.in-Err.ensures.refused _ _ _ refl

pub returns-in-NotAStore : goal.returns-in-NotAStore
returns-in-NotAStore g c = look_refused (told_by g.T.Teller.telling) c.in-Err.ensures.refused _ _ _ c.in-NotAStore.is c.refuse_layout.ensures

pub returns-in-Damaged : goal.returns-in-Damaged
returns-in-Damaged g c = store_refused (told_by g.T.Teller.telling) c.in-Err.ensures.refused _ _ _ c.in-Damaged.is c.refuse_damaged.ensures
