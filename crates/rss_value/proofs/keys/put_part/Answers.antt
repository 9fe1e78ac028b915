use Rattle.std.proofs.Common.{ℕ, List, length, sym, subst}
use Rattle.rss_base.specs.TupleTypes.{kinds}
use Rattle.rss_value.proofs.Walking.{Walk, walk_of}
use Rattle.rss_value.proofs.Choosing.{walk_taken, read_number, is_read, part_put, room_of_number}
use Rattle.rss_value.proofs.keys.put_part.Goals as goal

pub loop-field-init : goal.loop-field-init
loop-field-init c tuple spelled = subst (λ (s : List ℕ). Walk (kinds c.args.fields.now) s tuple) (sym c.new-cursor.ensures) (walk_of (kinds c.args.fields.now) c.args.values.now tuple spelled)

pub loop-field-preserved : goal.loop-field-preserved
loop-field-preserved c tuple spelled =
    walk_taken c.args.fields.now _ c.loop-field.field-index _ c.loop-field.cursor c.read-passed.result c.read-passed.new.self tuple c.loop-field-test.true (c.loop-field.invariant tuple spelled) (rw c.form.ensures at c.read-passed.ensures)

pub unwrap-value-requires : goal.unwrap-value-requires
unwrap-value-requires c =
    let tuple = c.requires.spelled.0 in
    let one =
    read_number c.args.fields.now c.from-at.result c.args.number c.loop-field.field-index _ c.loop-field.cursor c.read.result c.read.new.self tuple c.from-at.ensures c.requires.number c.loop-field-test.false c.loop-field.auto.field-index-end
    (c.loop-field.invariant tuple c.requires.spelled.1) (rw c.form-form.ensures at c.read.ensures) in
    is_read c.read.result one.value one.read

pub write_key_part-requires-clause-room : goal.write_key_part-requires-clause-room
write_key_part-requires-clause-room c = rw c.form-form.ensures (room_of_number c.args.fields.now c.from-at.result c.args.number _ (length c.args.into.now) c.from-at.ensures c.requires.number c.requires.room)

pub returns : goal.returns
returns c tuple spelled =
    let one =
    read_number c.args.fields.now c.from-at.result c.args.number c.loop-field.field-index _ c.loop-field.cursor c.read.result c.read.new.self tuple c.from-at.ensures c.requires.number c.loop-field-test.false c.loop-field.auto.field-index-end
    (c.loop-field.invariant tuple spelled) (rw c.form-form.ensures at c.read.ensures) in
    part_put c.args.fields.now c.from-at.result c.args.number _ c.read.new.self tuple c.unwrap-value.result c.read.result c.args.into.now c.write_key_part.new.into c.from-at.ensures c.requires.number one c.unwrap-value.ensures (rw c.form-form.ensures at c.write_key_part.ensures.written)
