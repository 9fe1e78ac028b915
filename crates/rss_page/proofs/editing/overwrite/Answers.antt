use Rattle.std.proofs.Common.{◌+◌, ◌*◌, ◌++◌, List, ℕ, length, take, drop, ap, sym, ◌∙◌, subst}
use Rattle.rss_page.specs.Slotted.{put, entry_bytes}
use Rattle.rss_page.specs.Content.{Here}
use Rattle.rss_page.specs.declared.entry_form.Entry.TheVariants.{Here as HereEntry}
use Rattle.rss_page.proofs.Edits.{Edit, body_edit, edited, edit_here, edit_stay}
use Rattle.rss_page.proofs.editing.overwrite.Goals as goal

pub returns : goal.returns
returns c = λ slotted beside.
    let page = c.args.page.now in
    let body = c.args.body.now in
    let bytes : List ℕ = entry_bytes (HereEntry c.args.place (length body)) in
    let mid = c.put_bytes.ensures ∙ ap (λ (n : ℕ). take n page ++ body ++ drop (n + length body) page) c.from.ensures in
    let same = c.set_entry.ensures ∙ ap (λ (l : List ℕ). put l (16 + 8 * c.args.slot) bytes) mid in
    let edit = subst (λ (l : List ℕ). Edit page l c.args.slot (HereEntry c.args.place (length body)) (Here body)) (sym same) (body_edit page c.args.slot c.args.place body slotted c.requires.slot beside c.requires.place) in
    record {
      becomes = edited _ _ _ _ _ slotted c.requires.slot edit;
      stay = edit_stay edit;
      stands = edit_here edit;
    }
