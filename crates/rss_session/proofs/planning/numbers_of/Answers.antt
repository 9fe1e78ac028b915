use Rattle.std.proofs.Common.{◌∙◌, sym}
use Rattle.std.proofs.lemmas.List.Sums.{AllPass-from_list_all}
use Rattle.rss_model.specs.Fits.{is_field_of}
use Rattle.rss_session.proofs.KeyFields.{numbers_step}
use Rattle.rss_session.proofs.planning.numbers_of.Goals as goal

pub loop-place-preserved : goal.loop-place-preserved
loop-place-preserved c =
    let fields = c.args.fields.now in
    let names = c.args.names.now in
    numbers_step fields names c.loop-place.place _ c.unwrap.result c.loop-place.numbers (AllPass-from_list_all (is_field_of fields) names c.requires.known)
    c.loop-place-test.true c.requires.few c.loop-place.invariant (sym c.number_of.ensures ∙ c.unwrap.ensures)
