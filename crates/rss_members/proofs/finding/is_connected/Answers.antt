use Rattle.std.proofs.Common.{◌≡◌, Some, true, sym, ◌∙◌, ap, subst, arith}
use Rattle.std.specs.Prelude.{Option, ℕ, nat_eq}
use Rattle.std.specs.Option.{option_eq}
use Rattle.std.proofs.Math.Logic.{∥∥₁_map}
use Rattle.std.proofs.lemmas.Option.{same_Some}
use Rattle.std.proofs.lemmas.Result.{IfOk-weaker}
use Rattle.rss_base.specs.Listings.{relation_at}
use Rattle.rss_base.specs.declared.link.LinkEntry.{LinkEntry}
use Rattle.rss_base.specs.declared.name.Name.{Name}
use Rattle.rss_model.specs.Chains.{is_there, HasParent}
use Rattle.rss_model.proofs.LogLists.{false_true}
use Rattle.rss_members.proofs.Defined.{child_listed, its_child, its_parent}
use Rattle.rss_members.proofs.LinkFound.{by_child, by_parent, by_none, parent_same, parent_itself}
use Rattle.rss_members.proofs.finding.is_connected.Goals as goal

pub stands-requires : goal.stands-requires
stands-requires g c =
    let same : c.link-entry.result.now.child ≡ c.args.relation = omega (arith, c.if-entry-relation.true) in
    record {
      listed = c.requires.listed;
      heaps = c.requires.may.heaps;
      knows = λ told. ∥∥₁_map (c.requires.may.knows told) (λ knows. record {
        tables = knows.tables;
        link = c.link-entry.result.now;
        child = knows.relation;
        spells = knows.spells;
        listed = record { at = c.link-entry.ensures.is; within = ap (relation_at c.args.catalog.now.listing) same ∙ knows.listed };
        there = knows.there;
      });
    }

pub has_chain-requires : goal.has_chain-requires
has_chain-requires g c =
    let above = parent_same c.link-entry.result.now.parent c.args.relation (sym c.eq.ensures ∙ c.if-eq.true) in
    record {
      listed = c.requires.listed;
      heaps = c.requires.may.heaps;
      knows = λ told. ∥∥₁_map (c.requires.may.knows told) (λ knows.
          let child = child_listed knows.spells c.args.link c.link-entry.result.now c.link-entry.ensures.is in
          record {
            tables = knows.tables;
            link = c.link-entry.result.now;
            child = child.0;
            spells = knows.spells;
            listed = child.1;
            under = subst (λ (o : Option Name). HasParent knows.tables.contents o (Some c.args.tid)) (sym (its_parent knows.spells c.args.relation knows.relation knows.listed c.args.link c.link-entry.result.now child.0 child.1 above)) knows.there;
          });
    }

pub returns-then-entry-relation-clause-is : goal.returns-then-entry-relation-clause-is
returns-then-entry-relation-clause-is g c =
    let same : c.link-entry.result.now.child ≡ c.args.relation = omega (arith, c.if-entry-relation.true) in
    IfOk-weaker c.stands.result _ _ (λ found answers told tables relation spells at there listed child is_listed.
    let here : listed.child ≡ c.args.relation = ap (λ (l : LinkEntry). l.child) (same_Some _ _ (sym is_listed.at ∙ c.link-entry.ensures.is)) ∙ same in
    by_child spells c.args.relation relation at c.args.tid c.args.link listed child is_listed here found
    (answers told tables listed child spells is_listed
    (subst (λ (n : Name). is_there tables.contents n c.args.tid ≡ true) (sym (its_child spells c.args.relation relation at c.args.link listed child is_listed here)) there))) c.stands.ensures.stands

pub returns-then-eq-clause-is : goal.returns-then-eq-clause-is
returns-then-eq-clause-is g c =
    let above = parent_same c.link-entry.result.now.parent c.args.relation (sym c.eq.ensures ∙ c.if-eq.true) in
    IfOk-weaker c.has_chain.result _ _ (λ found answers told tables relation spells at there listed child is_listed.
    let same = same_Some _ _ (sym is_listed.at ∙ c.link-entry.ensures.is) in
    let is : listed.parent ≡ Some c.args.relation = ap (λ (l : LinkEntry). l.parent) same ∙ above in
    by_parent spells c.args.relation relation at c.args.tid c.args.link listed child is_listed
    (λ e. let its : c.link-entry.result.now.child ≡ c.args.relation = sym (ap (λ (l : LinkEntry). l.child) same) ∙ e in absurd (omega (arith, c.if-entry-relation.false, its)))
    is found
    (answers told tables listed child spells is_listed
    (subst (λ (o : Option Name). HasParent tables.contents o (Some c.args.tid)) (sym (its_parent spells c.args.relation relation at c.args.link listed child is_listed is)) there))) c.has_chain.ensures.has

pub returns-else-eq-clause-is : goal.returns-else-eq-clause-is
returns-else-eq-clause-is g c = λ told tables relation spells at there listed child is_listed.
    let same = same_Some _ _ (sym is_listed.at ∙ c.link-entry.ensures.is) in
    by_none spells c.args.relation relation at c.args.tid c.args.link listed child is_listed
    (λ e. let its : c.link-entry.result.now.child ≡ c.args.relation = sym (ap (λ (l : LinkEntry). l.child) same) ∙ e in absurd (omega (arith, c.if-entry-relation.false, its)))
    (λ e. let its : c.link-entry.result.now.parent ≡ Some c.args.relation = sym (ap (λ (l : LinkEntry). l.parent) same) ∙ e in
    false_true (c.eq.ensures ∙ ap (λ (o : Option ℕ). option_eq nat_eq o (Some c.args.relation)) its ∙ parent_itself c.args.relation) c.if-eq.false)
