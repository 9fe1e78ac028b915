use Rattle.std.proofs.Common.{◌≡◌, None, false, true, ◌∙◌, sym, inl, inr, rules}
use Rattle.std.specs.Prelude.{is_some}
use Rattle.rss_link.proofs.BlockBytes.{none_some, child_within, child_outside, child_parts}
use Rattle.rss_link.proofs.blocks.child_at.Goals as goal
use Rattle.rss_link.proofs.blocks.child_at.Goals.{else-is_none-via-then-is_none+else-is_none-2, else-is_none-via-else-is_none}

pub returns-then-is_some : goal.returns-then-is_some
returns-then-is_some c = child_within c.args.body.now c.args.at c.pointer_at-previous.result c.pointer_at-next.result c.pointer_at-previous.ensures.fits c.pointer_at-next.ensures.fits c.pointer_at-parent.result c.pointer_at-parent.ensures.fits c.pointer_at-parent.ensures.spelled c.pointer_at-previous.ensures.spelled c.pointer_at-next.ensures.spelled (sym c.if-is_some.ensures)

pub returns-then-is_none-2 : goal.returns-then-is_none-2
returns-then-is_none-2 c =
    let none_first : c.pointer_at-parent.result ≡ None = search rules in
    let none : c.pointer_at-previous.result ≡ None = search rules in
    let none_too : c.pointer_at-next.result ≡ None = search rules in
    child_outside c.args.body.now c.args.at c.pointer_at-previous.result c.pointer_at-next.result c.pointer_at-previous.ensures.fits c.pointer_at-next.ensures.fits c.pointer_at-parent.result c.pointer_at-parent.ensures.fits c.pointer_at-parent.ensures.spelled c.pointer_at-previous.ensures.spelled c.pointer_at-next.ensures.spelled none_first none none_too

pub returns-else-is_none : goal.returns-else-is_none
returns-else-is_none c = λ standing has.
    let parts = child_parts c.args.body.now c.args.at c.pointer_at-previous.result c.pointer_at-next.result c.pointer_at-previous.ensures.fits c.pointer_at-next.ensures.fits c.pointer_at-parent.result c.pointer_at-parent.ensures.fits c.pointer_at-parent.ensures.spelled c.pointer_at-previous.ensures.spelled c.pointer_at-next.ensures.spelled standing has in
    elim parts [
      | inr some ↦ let not : is_some c.pointer_at-parent.result ≡ false = sym c.if-is_some.ensures in let e : true ≡ false = sym some ∙ not in absurd (cc)
      | inl none ↦ elim c.else-is_none.branch [
        | else-is_none-via-then-is_none+else-is_none-2 w ↦ none_some c.pointer_at-next.result none.1 (w.if-is_none-2.ensures)
        | else-is_none-via-else-is_none w ↦ none_some c.pointer_at-previous.result none.0 (w.if-is_none.ensures)
      ]
    ]
