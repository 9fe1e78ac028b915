use Rattle.std.proofs.Common.{refl, arith}
use Rattle.std.proofs.lemmas.List.Sums.{AllPass-from_list_all}
use Rattle.rss_model.specs.Fits.{is_field_of}
use Rattle.rss_session.proofs.KeyFields.{all_numbers, width_taken}
use Rattle.rss_session.proofs.planning.key_numbers.Goals as goal

pub key_width-requires-clause-numbers : goal.key_width-requires-clause-numbers
key_width-requires-clause-numbers c =
    all_numbers c.args.fields.now c.args.names.now (AllPass-from_list_all (is_field_of c.args.fields.now) c.args.names.now c.requires.known) c.numbers_of-numbers.result c.numbers_of-numbers.ensures

pub returns-then-key_width-gt-KEY_BYTES-clause-wide :
    goal.returns-then-key_width-gt-KEY_BYTES-clause-wide
returns-then-key_width-gt-KEY_BYTES-clause-wide c =
    let is = width_taken c.args.fields.now c.args.names.now (AllPass-from_list_all (is_field_of c.args.fields.now) c.args.names.now c.requires.known) c.numbers_of-numbers.result c.numbers_of-numbers.ensures in
    record { wide = omega (arith, c.if-key_width-gt-KEY_BYTES.true, c.key_width.ensures, is); is = refl }

pub returns-clause-narrow : goal.returns-clause-narrow
returns-clause-narrow c =
    let is = width_taken c.args.fields.now c.args.names.now (AllPass-from_list_all (is_field_of c.args.fields.now) c.args.names.now c.requires.known) c.numbers_of-numbers.result c.numbers_of-numbers.ensures in
    omega (arith, c.if-key_width-gt-KEY_BYTES.false, c.key_width.ensures, is)
