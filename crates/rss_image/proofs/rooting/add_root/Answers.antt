use Rattle.std.proofs.Common.{◌≡◌, ⊎_elim, ℕ, List, [], ◌∷◌, sym, ap, subst, ◌∙◌, arith, Some, None}
use Rattle.rss_base.proofs.Steps.{then, then_call, done, fails, widens}
use Rattle.rss_base.specs.Entries.{Entry}
use Rattle.rss_levels.specs.Entries.{zeros}
use Rattle.rss_node.specs.Nodes.{NodeView, with_entries, spliced, blank_node}
use Rattle.rss_image.specs.Trees.{cells_of, HoldsNode}
use Rattle.rss_image.proofs.rooting.add_root.Goals as goal

pub returns-in_err-write_node-clause-did : goal.returns-in_err-write_node-clause-did
returns-in_err-write_node-clause-did g c = fails _ c.from_residual-in_err-write_node.ensures.1 (λ key there. there) (omega arith) (omega arith) (then_call c.in_ok-number.ensures.did.step c.in_err-write_node.ensures.did)

pub returns-clause-rooted : goal.returns-clause-rooted
returns-clause-rooted g c = λ told.
    let of = c.args.of in
    let e : Entry = record { pair = c.args.split.now.pair; child = c.args.split.now.number } in
    let one : c.put.new.self ≡ with_entries (blank_node of c.args.level c.in_ok-number.number) (record { pair = zeros of.width; child = c.args.root } ∷ []) =
    c.put.ensures
    ∙ ap (λ (n : NodeView). with_entries n (spliced n.entries 0 0 (record { pair = c.zeros-none.result; child = c.args.root } ∷ []))) c.blank-node.ensures
    ∙ ap (λ (p : List ℕ). with_entries (blank_node of c.args.level c.in_ok-number.number) (record { pair = p; child = c.args.root } ∷ [])) c.zeros-none.ensures in
    let two : c.put-2.new.self ≡ with_entries (blank_node of c.args.level c.in_ok-number.number) (record { pair = zeros of.width; child = c.args.root } ∷ e ∷ []) =
    c.put-2.ensures ∙ ap (λ (n : NodeView). with_entries n (spliced n.entries 1 0 (e ∷ []))) one in
    let taken = c.in_ok-number.ensures in
    let wrote = c.in_ok-write_node.ensures.writes (taken.did.step.passes.leaves.told.0 told) in
    record {
      held = subst (λ (n : NodeView). HoldsNode of (g.P.Pages.view c.write_node.new.pages).held c.args.level c.in_ok-number.number n.next n.entries) two wrote.holds;
      fresh = taken.fresh told;
      keeps = record { same = λ n bytes off was. wrote.keeps.same n bytes (λ is. ⊎_elim (λ (same : c.in_ok-number.number ≡ n). let never : Some bytes ≡ None = sym was ∙ ap (cells_of of (g.P.Pages.view c.args.pages.now).held) (sym same) ∙ taken.fresh told in absurd (cc)) (λ (none : ⊥). none) is) ((taken.keeps told).same n bytes off was) };
      loses_none = λ n is. wrote.loses_none n (taken.loses_none told n is);
    }

pub returns-clause-did : goal.returns-clause-did
returns-clause-did g c = widens (λ key there. there) (omega arith) (omega arith) (done _ (then c.in_ok-number.ensures.did.step c.in_ok-write_node.ensures.did.step))
