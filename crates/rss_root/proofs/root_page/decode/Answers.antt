use Rattle.std.proofs.Common.{rules, ◌≡◌, ◌∙◌, sym, ap, subst, arith, refl, true, ℕ, take, drop, get_or}
use Rattle.std.specs.Cmp.Lexicographic.{other_text}
use Rattle.rss_base.specs.declared.root.Root.{Root}
use Rattle.rss_base.specs.Layout.{root_page, IsWellFormed}
use Rattle.rss_root.proofs.Reading.{read_back, same_fields, root_in, tail_in}
use Rattle.rss_root.proofs.root_page.decode.Goals.{else-is_well_formed-via-then-is_well_formed+else-eq, else-is_well_formed-via-else-is_well_formed}
use Rattle.rss_root.proofs.root_page.decode.Goals as goal

pub returns-then-eq-clause-some : goal.returns-then-eq-clause-some
returns-then-eq-clause-some c =
    let same : c.args.page.now ≡ c.encode.result = search rules in
    record { spelled = same ∙ c.encode.ensures; formed = c.is_well_formed.ensures.0 c.if-is_well_formed.true }

pub returns-else-is_well_formed-clause-none : goal.returns-else-is_well_formed-clause-none
returns-else-is_well_formed-clause-none c = λ root is.
    let page = c.args.page.now in
    let read : Root = record { version = get_or page 5 0; slots = c.u32_at.result; log_pages = c.u32_at-2.result; area = get_or page 16 0; head = c.u64_at.result; checkpoint = c.u64_at-2.result; end = c.u64_at-end.result; tail = c.from_slice.result } in
    let tail : c.from_slice.result ≡ tail_in page c.u64_at-end.result = c.from_slice.ensures ∙ ap (λ (n : ℕ). take n (drop 96 page)) (omega arith) in
    let same : read ≡ root = same_fields read (root_in page) refl c.u32_at.ensures c.u32_at-2.ensures refl c.u64_at.ensures c.u64_at-2.ensures c.u64_at-end.ensures (tail ∙ ap (tail_in page) c.u64_at-end.ensures) ∙ read_back page root is in
    elim c.else-is_well_formed.branch [
      | else-is_well_formed-via-then-is_well_formed+else-eq w ↦
          let apart = other_text page w.encode.result (sym w.if-eq.false ∙ w.eq.ensures) in
          apart (is.spelled ∙ ap root_page (sym same) ∙ sym w.encode.ensures)
      | else-is_well_formed-via-else-is_well_formed w ↦
          let formed : c.is_well_formed.result ≡ true = c.is_well_formed.ensures.1 (subst IsWellFormed (sym same) is.formed) in
          cc
    ]
