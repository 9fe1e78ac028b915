use Rattle.std.proofs.Common.{◌≡◌, ◌∙◌, ℕ, List, All, sym, subst, arith, take, drop}
use Rattle.std.proofs.lemmas.List.{take-append-drop, take_rest}
use Rattle.rss_catalog.proofs.Tested.{name_of_text, text_long, text_of_name}
use Rattle.rss_catalog.proofs.checking.is_name.Goals as goal

pub returns-then-is_name_text : goal.returns-then-is_name_text
returns-then-is_name_text c =
    let bytes = c.as_slice-bytes.result.now in
    let long = c.text_bytes-long.result in
    let same = c.as_slice-bytes.ensures in
    let rest = take_rest bytes long in (
      λ it. name_of_text c.args.name.now (take long bytes) (drop long bytes) (sym same ∙ sym (take-append-drop long bytes)) (omega arith) (c.is_name_text.ensures.0 c.if-is_name_text.true) (subst (λ (l : List ℕ). All (λ byte. byte ≡ 0) l) rest (c.are_zeros.ensures.0 it)),
      λ is.
          let here = text_long is bytes long same c.text_bytes-long.ensures.within c.text_bytes-long.ensures.text c.text_bytes-long.ensures.ends in
          c.are_zeros.ensures.1 (subst (λ (l : List ℕ). All (λ byte. byte ≡ 0) l) (sym rest) (text_of_name is bytes long same here).1),
    )

pub returns-else-is_name_text : goal.returns-else-is_name_text
returns-else-is_name_text c =
    let bytes = c.as_slice-bytes.result.now in
    let long = c.text_bytes-long.result in
    let same = c.as_slice-bytes.ensures in (
      λ it. absurd (cc),
      λ is.
          let here = text_long is bytes long same c.text_bytes-long.ensures.within c.text_bytes-long.ensures.text c.text_bytes-long.ensures.ends in
          c.is_name_text.ensures.1 (text_of_name is bytes long same here).0,
    )
