use Rattle.std.proofs.Common.{◌-◌, ℕ, refl, ap, subst, arith, set}
use Rattle.std.proofs.lemmas.Result.{IfOk-weaker}
use Rattle.rss_base.specs.declared.relation.RelationEntry.{RelationEntry}
use Rattle.rss_stored.specs.Store.{IsListedImage}
use Rattle.rss_entries.proofs.Showing.{same_entry, at_same}
use Rattle.rss_access.specs.Changes.{both}
use Rattle.rss_access.specs.Rows.{HasRowsIn}
use Rattle.rss_check.specs.Marks.{row_of, KeepsRows}
use Rattle.rss_check.proofs.Marks.{keeps_at, marks_at}
use Rattle.rss_check.proofs.marking.check_marked.Goals as goal

pub returns-clause-kept : goal.returns-clause-kept
returns-clause-kept g c = λ image relation listed.
    let here : IsListedImage c.args.catalog.now.listing c.args.number c.image.result.now c.relation-relation.result.now = record { at = c.image.ensures.is; within = c.relation-relation.ensures.is } in
    let safe = c.relation-relation.ensures.safe in
    subst (λ (r : RelationEntry). KeepsRows r.segment c.args.rows.now.items
    (set c.args.rows.now.items (c.from.result - 1) c.check_in.new.row)) (same_entry here listed refl).relation
    (keeps_at c.args.rows.now.items c.relation-relation.result.now.segment c.index_mut-row.result.now safe.segment_low
    (omega (arith, safe.segment_high, c.requires.eight))
    (ap (λ (n : ℕ). n - 1) c.from.ensures) c.index_mut-row.ensures.value c.check_in.new.row c.check_in.ensures.size)

pub returns-clause-rows : goal.returns-clause-rows
returns-clause-rows g c = IfOk-weaker c.check_in.result _ _ (λ count rows told image relation listed.
    let here : IsListedImage c.args.catalog.now.listing c.args.number c.image.result.now c.relation-relation.result.now = record { at = c.image.ensures.is; within = c.relation-relation.ensures.is } in
    let safe = c.relation-relation.ensures.safe in
    at_same (λ n e r. HasRowsIn count (row_of c.args.rows.now.items r.segment)
    (row_of (set c.args.rows.now.items (c.from.result - 1) c.check_in.new.row) r.segment)
    (both (g.P.Pages.view c.args.tuples.now.pages) c.args.catalog.now) n e r) refl (same_entry here listed refl)
    (marks_at c.args.rows.now.items c.relation-relation.result.now.segment c.index_mut-row.result.now safe.segment_low
    (omega (arith, safe.segment_high, c.requires.eight))
    (ap (λ (n : ℕ). n - 1) c.from.ensures) c.index_mut-row.ensures.value c.check_in.new.row
    (rows told c.image.result.now c.relation-relation.result.now here))) c.check_in.ensures.rows
