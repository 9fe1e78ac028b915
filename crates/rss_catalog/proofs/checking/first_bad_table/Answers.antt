-- What a test refused is no part of what fits, and what stands before it fits.
use Rattle.std.proofs.Common.{◌∙◌, ◌+◌, ◌*◌, ◌<◌, length, None, sym, arith}
use Rattle.std.proofs.lemmas.Bool.{false≢true}
use Rattle.std.proofs.lemmas.List.{get_or_default}
use Rattle.rss_base.specs.declared.relation.RelationEntry.{RelationEntry}
use Rattle.rss_catalog.specs.Checking.{IsRelationIn}
use Rattle.rss_catalog.proofs.Numbered.{has_number}
use Rattle.rss_catalog.proofs.Fronts.{once_below, twice_front, each_below, at_front}
use Rattle.rss_catalog.proofs.Tested.{each_more, once_more}
use Rattle.rss_catalog.proofs.checking.first_bad_table.Goals as goal

pub loop-place-preserved : goal.loop-place-preserved
loop-place-preserved c =
    let names = c.names_of-names.result in
    let low : c.loop-place.place < length names = omega arith in
    record {
      once = once_more names c.loop-place.place low (λ taken. false≢true (sym c.if-is_taken.false ∙ c.is_taken.ensures.1 taken)) c.loop-place.invariant.once;
      each = each_more (IsRelationIn c.args.segment_names.now) c.args.relations.now c.loop-place.place c.index-relations-place.result (c.index-relations-place.is ∙ get_or_default c.args.relations.now c.loop-place.place c.index-relations-place.result None c.loop-place-test.true) (c.may_stand.ensures.0 c.if-not-may_stand.false) c.loop-place.invariant.each;
    }

pub returns-then-is_taken : goal.returns-then-is_taken
returns-then-is_taken c =
    let names = c.names_of-names.result in
    let low : c.loop-place.place < length names = omega arith in
    let page = c.page_of.ensures.page in
    record {
      within = omega (arith, page, low);
      not = λ less fits. twice_front (λ (x : RelationEntry). x.name) 48 (8 * c.page_of.result) c.args.relations.now (omega arith) names c.loop-place.place c.names_of-names.ensures low (omega (arith, page)) (c.is_taken.ensures.0 c.if-is_taken.true) fits.relations_once;
      before = λ k less. record {
        names_fit = c.are_names.ensures.0 c.if-not-are_names.false;
        names_once = c.are_once.ensures.0 c.if-not-are_once.false;
        relations_once = once_below (λ (x : RelationEntry). x.name) 48 (8 * k) c.args.relations.now (omega arith) c.names_of-names.result c.loop-place.place c.names_of-names.ensures (omega (arith, page, less)) c.loop-place.invariant.once;
        relations = each_below (IsRelationIn c.args.segment_names.now) 48 (8 * k) c.args.relations.now c.loop-place.place (omega arith) (omega (arith, page, less)) c.loop-place.invariant.each;
      };
    }

pub returns-then-not-may_stand : goal.returns-then-not-may_stand
returns-then-not-may_stand c =
    let names = c.names_of-names.result in
    let low : c.loop-place.place < length names = omega arith in
    let page = c.page_of-then-not-may_stand.ensures.page in
    record {
      within = omega (arith, page, low);
      not = λ less fits. false≢true (sym c.if-not-may_stand.true ∙ c.may_stand.ensures.1 (λ entry is. fits.relations (c.loop-place.place + 1) entry (at_front 48 (8 * c.page_of-then-not-may_stand.result) c.args.relations.now (c.loop-place.place + 1) entry (omega arith) (omega (arith, page)) (has_number c.args.relations.now c.loop-place.place c.index-relations-place.result entry c.loop-place-test.true (sym c.index-relations-place.is ∙ is)))));
      before = λ k less. record {
        names_fit = c.are_names.ensures.0 c.if-not-are_names.false;
        names_once = c.are_once.ensures.0 c.if-not-are_once.false;
        relations_once = once_below (λ (x : RelationEntry). x.name) 48 (8 * k) c.args.relations.now (omega arith) c.names_of-names.result c.loop-place.place c.names_of-names.ensures (omega (arith, page, less)) c.loop-place.invariant.once;
        relations = each_below (IsRelationIn c.args.segment_names.now) 48 (8 * k) c.args.relations.now c.loop-place.place (omega arith) (omega (arith, page, less)) c.loop-place.invariant.each;
      };
    }

pub returns : goal.returns
returns c = record {
  within = omega arith;
  not = λ less fits. absurd (omega (arith, less));
  before = λ k less. record {
    names_fit = c.are_names.ensures.0 c.if-not-are_names.false;
    names_once = c.are_once.ensures.0 c.if-not-are_once.false;
    relations_once = once_below (λ (x : RelationEntry). x.name) 48 (8 * k) c.args.relations.now (omega arith) c.names_of-names.result c.loop-place.place c.names_of-names.ensures (omega (arith, less)) c.loop-place.invariant.once;
    relations = each_below (IsRelationIn c.args.segment_names.now) 48 (8 * k) c.args.relations.now c.loop-place.place (omega arith) (omega (arith, less)) c.loop-place.invariant.each;
  };
}

pub returns-then-not-are_names : goal.returns-then-not-are_names
returns-then-not-are_names c = record { within = omega arith; not = λ less fits. false≢true (sym c.if-not-are_names.true ∙ c.are_names.ensures.1 fits.names_fit); before = λ k less. absurd (omega (arith, less)) }

pub returns-then-not-are_once : goal.returns-then-not-are_once
returns-then-not-are_once c = record { within = omega arith; not = λ less fits. false≢true (sym c.if-not-are_once.true ∙ c.are_once.ensures.1 fits.names_once); before = λ k less. absurd (omega (arith, less)) }
