use Rattle.std.proofs.Common.{◌≡◌, ℕ, map, replicate, sym, ◌∙◌, ap, rules}
use Rattle.std.specs.Prelude.{Option, None, is_some, is_none}
use Rattle.rss_shadow.proofs.Mapped.{map-replicate}
use Rattle.rss_shadow.proofs.column.Column.new.Goals as goal

pub invariant_of-result : goal.invariant_of-result
invariant_of-result c =
    let none : Option ℕ = None in
    let items : c.in_ok-vec.field-0.items ≡ replicate c.args.pages none = search rules in
    record {
      slotted_told = c.in_ok-new.ensures ∙ sym (ap (map is_some) items ∙ map-replicate is_some c.args.pages none);
      free_told = c.in_ok-all.ensures ∙ sym (ap (map is_none) items ∙ map-replicate is_none c.args.pages none);
    }
