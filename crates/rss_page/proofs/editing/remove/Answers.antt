use Rattle.std.proofs.Common.{List, ℕ, refl, sym, subst}
use Rattle.rss_page.specs.Content.{Empty}
use Rattle.rss_page.specs.Slotted.{IsSlotted}
use Rattle.rss_page.specs.declared.entry_form.Entry.TheVariants.{Empty as EmptyEntry}
use Rattle.rss_page.proofs.Edits.{Edit, entry_edit, edited, edit_stay}
use Rattle.rss_page.proofs.editing.remove.Goals as goal

-- what was done, as an edit
edit : (c : goal.After-set_entry) → IsSlotted c.args.page.now → Edit c.args.page.now c.set_entry.new.page c.args.slot EmptyEntry Empty
edit c slotted = subst (λ (l : List ℕ). Edit c.args.page.now l c.args.slot EmptyEntry Empty) (sym c.set_entry.ensures) (entry_edit c.args.page.now c.args.slot EmptyEntry Empty slotted c.requires tt refl (λ bytes. refl))

pub returns-clause-becomes : goal.returns-clause-becomes
returns-clause-becomes c = λ slotted. edited _ _ _ _ _ slotted c.requires (edit c slotted)

pub returns-clause-stay : goal.returns-clause-stay
returns-clause-stay c = λ slotted. edit_stay (edit c slotted)
