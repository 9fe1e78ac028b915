use Rattle.rss_shadow.proofs.Firsts.{first_open, none_open, first_absent_told, none_absent_told, within_told}
use Rattle.rss_shadow.proofs.numbers.NumberSet.first_absent.Goals as goal

pub first_clear-open_word-requires-clause-some : goal.first_clear-open_word-requires-clause-some
first_clear-open_word-requires-clause-some c =
    let all = c.self.invariant in
    rw c.deref.ensures.value (first_open all.groups_full all.groups_hold _ _ c.first_clear-open_group.ensures.some)

pub first_clear-open_word-requires-clause-none : goal.first_clear-open_word-requires-clause-none
first_clear-open_word-requires-clause-none c =
    let all = c.self.invariant in
    rw c.deref.ensures.value (none_open all.groups_full all.groups_hold _ _ c.first_clear-open_group.ensures.none)

pub first_clear-requires-clause-some : goal.first_clear-requires-clause-some
first_clear-requires-clause-some c =
    let all = c.self.invariant in
    rw c.deref-2.ensures.value (first_open all.words_full all.words_hold _ _ (rw c.deref.ensures.value at c.first_clear-open_word.ensures.some))

pub first_clear-requires-clause-none : goal.first_clear-requires-clause-none
first_clear-requires-clause-none c =
    let all = c.self.invariant in
    rw c.deref-2.ensures.value (none_open all.words_full all.words_hold _ _ (rw c.deref.ensures.value at c.first_clear-open_word.ensures.none))

pub returns-clause-some : goal.returns-clause-some
returns-clause-some c =
    first_absent_told c.self.invariant.numbers_hold c.self.view_is _ _ (rw c.deref-2.ensures.value at c.first_clear.ensures.some)

pub returns-clause-within : goal.returns-clause-within
returns-clause-within c = within_told _ _ _ (returns-clause-some c)

pub returns-clause-none : goal.returns-clause-none
returns-clause-none c =
    none_absent_told c.self.invariant.numbers_hold c.self.view_is _ _ (rw c.deref-2.ensures.value at c.first_clear.ensures.none)
