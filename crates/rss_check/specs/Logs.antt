-- The log as a check reads it.
use Rattle.std.specs.Prelude.{◌≡◌, List, ◌++◌, Contains}
use Rattle.rss_base.specs.DiskRule.{Pages}
use Rattle.rss_model.specs.Meanings.{Logged, Says}
use Rattle.rss_stored.specs.Store.{Stored, SpellsTables}
use Rattle.rss_stored.specs.LogLaws.{HoldsLog}
use Rattle.rss_check.specs.Spellings.{Spelling, held_of}

-- The log has these records up to the last checkpoint and from it on, and they say these entries. What the items of changes held is left open.
pub record IsRead {pages : Pages} (at : Spelling pages) (older newer : List Logged) : Type 0 where
  pub holds : HoldsLog pages at.laid.root older newer
  pub say : (l : Logged) → Contains (older ++ newer) l → Says at.listing l.told l.is

-- what the layout and the system pages name, with these tables of the checkpoint
pub record IsOver {pages : Pages} (at : Spelling pages) (stored : Stored) : Type 0 where
  pub number : stored.number ≡ at.laid.number
  pub root : stored.root ≡ at.laid.root
  pub owners : stored.owners ≡ at.laid.owners
  pub listing : stored.listing ≡ at.listing
  pub saved : SpellsTables (held_of pages at) at.listing stored.saved
