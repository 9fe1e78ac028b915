use Rattle.std.proofs.Common.{length, ap, arith}
use Rattle.std.proofs.lemmas.List.{with_items_is}
use Rattle.rss_shadow.proofs.Bits.{within_view, in_use-put, AreNumbers-put}
use Rattle.rss_shadow.proofs.numbers.NumberSet.put.Goals as goal

pub put_bit-word_full-requires : goal.put_bit-word_full-requires
put_bit-word_full-requires c =
    let s = c.self.inside in
    let within = within_view s.len s.numbers.items c.args.self.now c.args.number c.self.view_is c.requires in
    omega (arith, ap length c.deref_mut.ensures.value)

pub put_bit-group_full-requires : goal.put_bit-group_full-requires
put_bit-group_full-requires c =
    let s = c.self.inside in
    let within = within_view s.len s.numbers.items c.args.self.now c.args.number c.self.view_is c.requires in
    omega (arith, ap length c.deref_mut-2.ensures.value)

pub put_bit-requires : goal.put_bit-requires
put_bit-requires c =
    let s = c.self.inside in
    let within = within_view s.len s.numbers.items c.args.self.now c.args.number c.self.view_is c.requires in
    omega (arith, c.self.told)

pub invariant_of-self : goal.invariant_of-self
invariant_of-self c =
    let s = c.self.inside in
    let within = within_view s.len s.numbers.items c.args.self.now c.args.number c.self.view_is c.requires in
    let put_word = rw c.deref_mut.ensures.value at c.put_bit-word_full.ensures.put in
    let put_group = rw c.deref_mut-2.ensures.value at c.put_bit-group_full.ensures.put in
    rw (with_items_is s.numbers c.put_bit-word_full.new.words (omega (arith, put_word.count, s.numbers.ok.0)), with_items_is s.full_words c.put_bit-group_full.new.words (omega (arith, put_group.count, s.full_words.ok.0)))
    (AreNumbers-put c.self.invariant within put_word c.put_bit-word_full.ensures.full put_group c.put_bit-group_full.ensures.full c.put_bit.ensures.put)

pub returns : goal.returns
returns c =
    let s = c.self.inside in
    let within = within_view s.len s.numbers.items c.args.self.now c.args.number c.self.view_is c.requires in
    let put_word = rw c.deref_mut.ensures.value at c.put_bit-word_full.ensures.put in
    rw (with_items_is s.numbers c.put_bit-word_full.new.words (omega (arith, put_word.count, s.numbers.ok.0)), ← c.self.view_is) (in_use-put put_word s.len within)
