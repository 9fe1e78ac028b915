use Rattle.std.proofs.Common.{List, sym, ◌∙◌, ap, rules, tests}
use Rattle.std.specs.Prelude.{Option, option_map, option_copied}
use Rattle.std.specs.FinMap.{get}
use Rattle.std.specs.Ordering.{eq_by_cmp}
use Rattle.std.proofs.lemmas.Iterator.{YieldsList-from_slice}
use Rattle.std.proofs.lemmas.Iterator.Search.{find_from_yields_List}
use Rattle.rss_plain.specs.Maps.{mapped}
use Rattle.rss_plain.proofs.Maps.{get_first}
use Rattle.rss_plain.proofs.sorted.Sorted.get.Goals as goal

pub returns-in_err-entry : goal.returns-in_err-entry
returns-in_err-entry g c =
    let R = g.K.Keyed.order in
    let key = c.args.key.now in
    let es = c.self.inside.list.items in
    let found = find_from_yields_List (λ e. eq_by_cmp R key e.0) _ _ c.find.result c.find.ensures.ran
    (YieldsList-from_slice es cc) (λ x b q k. search (rules, tests)) in
    ap option_copied c.from_residual.ensures
    ∙ ap (λ (r : Option _). option_map (λ e. e.1) (option_copied r)) (sym c.in_err-entry.was)
    ∙ ap (λ (r : Option _). option_map (λ e. e.1) r) found
    ∙ sym (get_first R key es c.self.invariant)
    ∙ ap (λ (l : List _). get (mapped R l) key) c.self.view_is

pub returns : goal.returns
returns g c =
    let R = g.K.Keyed.order in
    let key = c.args.key.now in
    let es = c.self.inside.list.items in
    let found = find_from_yields_List (λ e. eq_by_cmp R key e.0) _ _ c.find.result c.find.ensures.ran
    (YieldsList-from_slice es cc) (λ x b q k. search (rules, tests)) in
    ap (λ (r : Option _). option_map (λ e. e.1) (option_copied r)) (sym c.in_ok-entry.was)
    ∙ ap (λ (r : Option _). option_map (λ e. e.1) r) found
    ∙ sym (get_first R key es c.self.invariant)
    ∙ ap (λ (l : List _). get (mapped R l) key) c.self.view_is
