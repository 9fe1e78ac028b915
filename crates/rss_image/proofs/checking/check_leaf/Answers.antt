use Rattle.std.proofs.Common.{ℕ, List, Option, Some, refl, sym, ◌∙◌, ap, subst}
use Rattle.rss_levels.specs.Rows.{items}
use Rattle.rss_image.specs.Fitting.{AreBetween}
use Rattle.rss_image.specs.Checking.{leaf_part}
use Rattle.rss_image.proofs.Ordered.{leaf_rises, leaf_between}
use Rattle.rss_image.proofs.checking.check_leaf.Goals as goal

pub returns-then-not-are_between-clause-no : goal.returns-then-not-are_between-clause-no
returns-then-not-are_between-clause-no c = λ no row seen leads rises.
    c.are_between.ensures.no c.if-not-are_between.true
    (subst (λ (l : Option (List ℕ)). AreBetween c.args.low.now c.args.node.now.entries l) (sym seen.low_is) (leaf_between (leaf_part c.args.number c.args.low.now c.args.node.now.entries) row rises))

pub returns-clause-yes : goal.returns-clause-yes
returns-clause-yes c = λ yes row seen rises.
    let between = subst (λ (l : Option (List ℕ)). AreBetween c.args.low.now c.args.node.now.entries l) seen.low_is (c.are_between.ensures.yes c.if-not-are_between.false) in
    let entries = c.see_leaf.ensures.seen (items row) seen.entries_are in
    record {
      leads = sym c.next.ensures ∙ c.if-next-seen.false ∙ seen.next_is;
      rises = leaf_rises (leaf_part c.args.number c.args.low.now c.args.node.now.entries) row between rises;
      seen_is = record {
        next_is = refl;
        low_is = ap (λ (p : List ℕ). Some p) c.copy_of.ensures;
        pages_are = c.see_leaf.ensures.pages;
        entries_are = record { first_is = entries.first_is; pairs_are = entries.pairs_are; repeats_are = entries.repeats_are };
      };
    }
