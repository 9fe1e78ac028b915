use Rattle.std.proofs.Common.{◌≡◌, ℕ, ◌-◌, length, refl, ap, ◌∙◌, arith}
use Rattle.rss_shadow.specs.Index.{Columns}
use Rattle.rss_shadow.proofs.Columns.{empty_columns, empty_columns_more, length-empty_columns, slot_in-empty, pages_in-empty, numbers_of-empty, AreColumns-empty}
use Rattle.rss_shadow.proofs.index.PageIndex.new.Goals as goal

pub loop-init : goal.loop-init
loop-init c = record {
  columns = rw (c.push_reserved.ensures.items, c.in_ok-columns.ensures.items, c.in_ok-new.ensures) refl;
  room = omega (arith, c.in_ok-columns.ensures.capacity);
  some = omega arith;
}

pub push_reserved-requires-in-loop : goal.push_reserved-requires-in-loop
push_reserved-requires-in-loop c = omega (arith, ap length c.loop.invariant.columns, length-empty_columns c.args.slots (c.loop.counter - 1))

pub loop-preserved : goal.loop-preserved
loop-preserved c = record {
  columns = rw (c.push_reserved-in-loop.ensures.items, c.loop.invariant.columns, c.in_ok-new-2.ensures) (empty_columns_more c.args.slots c.loop.counter c.loop.invariant.some);
  room = omega arith;
  some = omega arith;
}

all_done : (slots counter : ℕ) (items : Columns) → items ≡ empty_columns slots (counter - 1) → counter ≡ 25 → items ≡ empty_columns slots 24
all_done slots counter items is end = is ∙ ap (λ (n : ℕ). empty_columns slots (n - 1)) end

pub invariant_of-result : goal.invariant_of-result
invariant_of-result c = rw (all_done _ _ _ c.loop.invariant.columns (omega arith)) (AreColumns-empty c.args.slots)

pub returns-clause-numbers : goal.returns-clause-numbers
returns-clause-numbers c = rw (all_done _ _ _ c.loop.invariant.columns (omega arith)) (numbers_of-empty c.args.slots 24 (omega arith))

pub returns-clause-empty : goal.returns-clause-empty
returns-clause-empty c = rw (all_done _ _ _ c.loop.invariant.columns (omega arith)) (slot_in-empty c.args.slots 24)

pub returns-clause-pages : goal.returns-clause-pages
returns-clause-pages c = rw (all_done _ _ _ c.loop.invariant.columns (omega arith)) (pages_in-empty c.args.slots 24)
