use Rattle.std.proofs.Common.{◌≡◌, [], ◌∷◌, ◌++◌, ◌∙◌, ap, refl, sym, subst, Vec, Global}
use Rattle.std.specs.Prelude.{None}
use Rattle.rss_base.specs.declared.need.Need.{Need}
use Rattle.rss_model.specs.Needs.{segment_needs}
use Rattle.rss_rsi.specs.Locking.{AreSayable}
use Rattle.rss_rsi.specs.Parts.{parts_of}
use Rattle.rss_rsi.proofs.LinkNeeds.{segment_behind, no_segment_behind, relation_behind}
use Rattle.rss_rsi.proofs.Sayable.{more_sayable}
use Rattle.rss_rsi.proofs.engine.Rss.push_relation.Goals as goal
use Rattle.rss_rsi.proofs.engine.Rss.push_relation.Goals.{in-Some+in_ok-push, in_default}

pub returns-clause-pushed : goal.returns-clause-pushed
returns-clause-pushed g c =
    let first : c.match-name_at.needs.items ≡ c.args.needs.now.items ++ segment_needs c.name_at.result c.args.coarse = elim c.match-name_at.branch [
      | in-Some+in_ok-push w ↦ ap (λ (v : Vec Need Global). v.items) w.needs-is ∙ segment_behind c.name_at.result c.args.coarse c.args.needs.now.items w.in-Some.is w.in_ok-push.ensures.items w.segment_need.ensures.is
      | in_default w ↦ let none : c.name_at.result ≡ None = cc in ap (λ (v : Vec Need Global). v.items) w.needs-is ∙ no_segment_behind c.name_at.result c.args.coarse none refl
    ] in
    relation_behind (parts_of c.args.self.now) c.args.relation.now c.args.number c.relation.result.now c.args.coarse c.args.mode c.requires.known c.relation.ensures.is c.name_at.result c.name_at.ensures c.args.needs.now.items c.match-name_at.needs.items c.push-2.new.self.items c.relation_need.result first c.in_ok-push-2.ensures.items c.relation_need.ensures.is

pub returns-clause-sayable : goal.returns-clause-sayable
returns-clause-sayable g c =
    let first : AreSayable c.match-name_at.needs.items = elim c.match-name_at.branch [
      | in-Some+in_ok-push w ↦ subst AreSayable (sym (ap (λ (v : Vec Need Global). v.items) w.needs-is))
          (more_sayable c.args.needs.now.items w.push.new.self.items _ _ (w.in_ok-push.ensures.items ∙ ap (λ (n : Need). c.args.needs.now.items ++ n ∷ []) w.segment_need.ensures.is) c.requires.sayable w.segment_need.ensures.sayable)
      | in_default w ↦ subst AreSayable (sym (ap (λ (v : Vec Need Global). v.items) w.needs-is)) c.requires.sayable
    ] in
    more_sayable c.match-name_at.needs.items c.push-2.new.self.items _ _ (c.in_ok-push-2.ensures.items ∙ ap (λ (n : Need). c.match-name_at.needs.items ++ n ∷ []) c.relation_need.ensures.is) first c.relation_need.ensures.sayable
