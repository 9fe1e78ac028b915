-- What a test refused is no part of what fits, and what stands before it fits.
use Rattle.std.proofs.Common.{◌∙◌, ◌+◌, ◌-◌, ◌*◌, ◌<◌, length, get_or, None, refl, sym, arith}
use Rattle.std.proofs.lemmas.Bool.{false≢true}
use Rattle.rss_base.specs.declared.image.ImageEntry.{ImageEntry}
use Rattle.rss_catalog.specs.Checking.{IsImageIn}
use Rattle.rss_catalog.proofs.Numbered.{has_number}
use Rattle.rss_catalog.proofs.Fronts.{once_below, twice_front, each_below, at_front}
use Rattle.rss_catalog.proofs.Tested.{each_more, once_more}
use Rattle.rss_catalog.proofs.checking.first_bad_image.Goals as goal

pub loop-place-preserved : goal.loop-place-preserved
loop-place-preserved c =
    let names = c.names_of-names.result in
    let low : c.loop-place.place < length names = omega arith in
    record {
      once = once_more names c.loop-place.place low (λ taken. false≢true (sym c.if-is_taken.false ∙ c.is_taken.ensures.1 taken)) c.loop-place.invariant.once;
      each = each_more (IsImageIn c.args.relations.now) c.args.images.now c.loop-place.place (get_or c.args.images.now c.loop-place.place None) refl (c.may_index.ensures.0 c.if-not-may_index.false) c.loop-place.invariant.each;
    }

pub returns-then-is_taken-clause-first : goal.returns-then-is_taken-clause-first
returns-then-is_taken-clause-first c =
    let names = c.names_of-names.result in
    let low : c.loop-place.place < length names = omega arith in
    let page = c.image_page_of.ensures.page in
    record {
      within = omega (arith, page, low);
      not = λ less fits. twice_front (λ (x : ImageEntry). x.name) 128 (64 * (c.image_page_of.result - 6)) c.args.images.now (omega arith) names c.loop-place.place c.names_of-names.ensures low (omega (arith, page)) (c.is_taken.ensures.0 c.if-is_taken.true) fits.once;
      before = λ k less. record {
        once = once_below (λ (x : ImageEntry). x.name) 128 (64 * (k - 6)) c.args.images.now (omega arith) c.names_of-names.result c.loop-place.place c.names_of-names.ensures (omega (arith, page, less)) c.loop-place.invariant.once;
        each = each_below (IsImageIn c.args.relations.now) 128 (64 * (k - 6)) c.args.images.now c.loop-place.place (omega arith) (omega (arith, page, less)) c.loop-place.invariant.each;
      };
    }

pub returns-then-not-may_index-clause-first : goal.returns-then-not-may_index-clause-first
returns-then-not-may_index-clause-first c =
    let names = c.names_of-names.result in
    let low : c.loop-place.place < length names = omega arith in
    let page = c.image_page_of-then-not-may_index.ensures.page in
    record {
      within = omega (arith, page, low);
      not = λ less fits. false≢true (sym c.if-not-may_index.true ∙ c.may_index.ensures.1 (λ image is. fits.each (c.loop-place.place + 1) image (at_front 128 (64 * (c.image_page_of-then-not-may_index.result - 6)) c.args.images.now (c.loop-place.place + 1) image (omega arith) (omega (arith, page)) (has_number c.args.images.now c.loop-place.place None image c.loop-place-test.true is))));
      before = λ k less. record {
        once = once_below (λ (x : ImageEntry). x.name) 128 (64 * (k - 6)) c.args.images.now (omega arith) c.names_of-names.result c.loop-place.place c.names_of-names.ensures (omega (arith, page, less)) c.loop-place.invariant.once;
        each = each_below (IsImageIn c.args.relations.now) 128 (64 * (k - 6)) c.args.images.now c.loop-place.place (omega arith) (omega (arith, page, less)) c.loop-place.invariant.each;
      };
    }

pub returns-clause-first : goal.returns-clause-first
returns-clause-first c = record {
  within = omega arith;
  not = λ less fits. absurd (omega (arith, less));
  before = λ k less. record {
    once = once_below (λ (x : ImageEntry). x.name) 128 (64 * (k - 6)) c.args.images.now (omega arith) c.names_of-names.result c.loop-place.place c.names_of-names.ensures (omega (arith, less)) c.loop-place.invariant.once;
    each = each_below (IsImageIn c.args.relations.now) 128 (64 * (k - 6)) c.args.images.now c.loop-place.place (omega arith) (omega (arith, less)) c.loop-place.invariant.each;
  };
}
