-- Restart: which changes survive, what is undone on the tables of the checkpoint, and what is done again.
use Rattle.std.specs.Prelude.{◌≡◌, ℕ, Bool, true, false, not, ◌&&◌, ◌==◌, if◌then◌else◌, nat_le, List, [], ◌∷◌, filter, ⊤}
use Rattle.std.specs.List.{AllByRecursion}
use Rattle.rss_base.specs.declared.item.Item.{Item}
use Rattle.rss_model.specs.Tables.{Contents, Tables, content}
use Rattle.rss_model.specs.Changes.{Change, apply, undo, undone}
use Rattle.rss_model.specs.Fits.{Fits}
use Rattle.rss_model.specs.Records.{LogEntry, Changed, Restore, End, Abort, Checkpoint, Placed, Listed, changes_in, listed}

-- ---- what survives

-- A change of a transaction at a position stays in its list until its End record.
abbrev pub survives_by : ℕ → ℕ → LogEntry → Bool → Bool
survives_by t at (Changed c) later = later
survives_by t at (Restore u first) later = not ((t == u) && nat_le first at) && later
survives_by t at (End u) later = if t == u then true else later
survives_by t at (Abort u) later = not (t == u) && later
survives_by t at (Checkpoint named) later = later

abbrev pub survives : ℕ → ℕ → List Placed → Bool
survives t at [] = false
survives t at (p ∷ ps) = survives_by t at p.is (survives t at ps)

abbrev pub stays : List Placed → Listed → Bool
stays ps l = survives l.change.by l.at ps

abbrev pub losers : List Placed → List Listed → List Listed
losers ps ls = filter (λ l. not (stays ps l)) ls

-- ---- what is done again

abbrev pub redo : Contents → ℕ → LogEntry → List Placed → Contents
redo contents at (Changed c) ps = if survives c.by at ps then apply contents c else contents
redo contents at (Restore t first) ps = contents
redo contents at (End t) ps = contents
redo contents at (Abort t) ps = contents
redo contents at (Checkpoint named) ps = contents

-- what survives, in the order of the log
abbrev pub redone : Contents → List Placed → Contents
redone contents [] = contents
redone contents (p ∷ ps) = redone (redo contents p.at p.is ps) ps

-- first what doesn't survive is undone, and then what survives is done again
abbrev pub restarted : Contents → List Listed → List Placed → Contents
restarted contents ls ps = redone (undone contents (changes_in (losers ps ls))) ps

-- ---- what is found on the way

-- each undo finds the new content
abbrev pub UndoFinds : Contents → List Change → Type 0
UndoFinds contents [] = ⊤
UndoFinds contents (c ∷ cs) = (content contents c.item ≡ c.new) × UndoFinds (undo contents c) cs

-- each redo finds the old content
abbrev pub FindsOld : Contents → ℕ → LogEntry → List Placed → Type 0
FindsOld contents at (Changed c) ps = survives c.by at ps ≡ true → content contents c.item ≡ c.old
FindsOld contents at (Restore t first) ps = ⊤
FindsOld contents at (End t) ps = ⊤
FindsOld contents at (Abort t) ps = ⊤
FindsOld contents at (Checkpoint named) ps = ⊤

abbrev pub RedoFinds : Contents → List Placed → Type 0
RedoFinds contents [] = ⊤
RedoFinds contents (p ∷ ps) = FindsOld contents p.at p.is ps × RedoFinds (redo contents p.at p.is ps) ps

-- the tables with other contents fit
abbrev pub FitWith : ℕ → Tables → Contents → Type 0
FitWith slots tables contents = Fits slots (record tables { contents = contents })

-- all tables on the way fit: at each undo, and at each redo
abbrev pub UndoFits : ℕ → Tables → Contents → List Change → Type 0
UndoFits slots tables contents [] = FitWith slots tables contents
UndoFits slots tables contents (c ∷ cs) =
    FitWith slots tables contents × UndoFits slots tables (undo contents c) cs

abbrev pub RedoFits : ℕ → Tables → Contents → List Placed → Type 0
RedoFits slots tables contents [] = FitWith slots tables contents
RedoFits slots tables contents (p ∷ ps) =
    FitWith slots tables contents × RedoFits slots tables (redo contents p.at p.is ps) ps

-- ---- whose changes an item has

-- the changes of an item are one transaction's
abbrev pub OnlyBy : ℕ → Item → List Change → Type 0
OnlyBy t item cs = AllByRecursion (λ c. c.item ≡ item → c.by ≡ t) cs

abbrev pub Lone : List Change → Type 0
Lone [] = ⊤
Lone (c ∷ cs) = OnlyBy c.by c.item cs × Lone cs

-- at each record of the log
abbrev pub LoneAlong : List Listed → List Placed → Type 0
LoneAlong ls [] = Lone (changes_in ls)
LoneAlong ls (p ∷ ps) = Lone (changes_in ls) × LoneAlong (listed ls p.at p.is) ps
