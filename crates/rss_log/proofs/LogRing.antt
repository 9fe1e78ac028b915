-- The ring of log pages: what grows leaves what was there, and a head that moves leaves the rest.
use Rattle.std.proofs.Common.{◌≡◌, ℕ, zero, suc, ◌+◌, ◌-◌, ◌*◌, ◌/◌, ◌%◌, ◌<◌, ◌≤◌, List, ◌++◌, length, take, drop, append_assoc, append-nil, refl, sym, ◌∙◌, ap, subst, arith, drop-drop}
use Rattle.std.proofs.lemmas.List.{length-append, length-drop, length-take, take-append-drop, drop-append-le}
use Rattle.std.proofs.Math.Seq.{take-add, drop-append-add}
use Rattle.rss_base.specs.DiskRule.{Pages, page}
use Rattle.rss_base.specs.Layout.{log_at}
use Rattle.rss_base.specs.declared.root.Root.{Root}
use Rattle.rss_base.specs.LogRecords.{Placed, ArePlaced, Parses}
use Rattle.rss_base.proofs.LogPages.{IsLogPage}
use Rattle.rss_base.specs.LogPages.{piece, pieces, log_from, log_bytes, IsPiecePage, IsNewPiece, HasRoom, HoldsPieces, Grows}
use Rattle.rss_log.proofs.RingBytes.{ring_apart}
use Rattle.rss_record.proofs.Parsing.{parses_append, parses_length, parses_drop, placed_length}

-- ---- pages of pieces

-- the pages of new pieces are none that the root's log needs
pub new_off : (root : Root) (end q : ℕ) → root.head ≤ root.end → HasRoom root end → IsLogPage root q → IsNewPiece root end q → ⊥
new_off root end q order room old new =
    ring_apart root.log_pages old.index new.index (omega (arith, old.high, new.low)) (omega (arith, old.low, new.high)) (same_rest (sym old.is ∙ new.is))
  where
    same_rest : log_at root.slots + old.index % root.log_pages ≡ log_at root.slots + new.index % root.log_pages → old.index % root.log_pages ≡ new.index % root.log_pages
    same_rest e = omega arith

-- ---- pieces in a row

module _ (pages : Pages) (first ring : ℕ) where
  pub pieces_split : (k m n : ℕ) → pieces pages first ring k (m + n) ≡ pieces pages first ring k m ++ pieces pages first ring (k + m) n
  pieces_split k zero n = let none : 0 + n ≡ n = omega arith in let here : k ≡ k + 0 = omega arith in ap (pieces pages first ring k) none ∙ ap (λ (j : ℕ). pieces pages first ring j n) here
  pieces_split k (suc m) n =
      let one : suc m + n ≡ suc (m + n) = omega arith in
      let next : k + 1 + m ≡ k + suc m = omega arith in
      ap (pieces pages first ring k) one
      ∙ ap (λ (l : List ℕ). piece pages first ring k ++ l) (pieces_split (k + 1) m n ∙ ap (λ (j : ℕ). pieces pages first ring (k + 1) m ++ pieces pages first ring j n) next)
      ∙ sym (append_assoc (piece pages first ring k) (pieces pages first ring (k + 1) m) (pieces pages first ring (k + suc m) n))

  pub pieces_more : (k n : ℕ) → pieces pages first ring k (n + 1) ≡ pieces pages first ring k n ++ piece pages first ring (k + n)
  pieces_more k n = pieces_split k n 1 ∙ ap (λ (l : List ℕ). pieces pages first ring k n ++ l) (append-nil (piece pages first ring (k + n)))

  pub pieces_most : (k n : ℕ) → length (pieces pages first ring k n) ≤ 4000 * n
  pieces_most k zero = omega arith
  pieces_most k (suc n) = omega (arith, length-append (piece pages first ring k) (pieces pages first ring (k + 1) n), length-take 4000 (page pages (first + k % ring)), pieces_most (k + 1) n)

  pub pieces_held : (k n : ℕ) (bytes : List ℕ) → HoldsPieces pages first ring k n bytes → pieces pages first ring k n ≡ take (4000 * n) bytes
  pieces_held k zero bytes held = refl
  pieces_held k (suc n) bytes held =
      let here : piece pages first ring k ≡ take 4000 bytes = ap (piece pages first ring) (omega arith) ∙ held.each 0 (omega arith) in
      let rest : HoldsPieces pages first ring (k + 1) n (drop 4000 bytes) = record {
        each = λ i lt. ap (piece pages first ring) (omega arith) ∙ held.each (i + 1) (omega arith) ∙ ap (take 4000) (ap (λ (m : ℕ). drop m bytes) (omega arith) ∙ sym (drop-drop (4000 * i) 4000 bytes));
        enough = omega (arith, held.enough, length-drop 4000 bytes);
      } in
      (λ i. here i ++ pieces_held (k + 1) n (drop 4000 bytes) rest i) ∙ sym (take-add 4000 (4000 * n) bytes) ∙ ap (λ (m : ℕ). take m bytes) (omega arith)

pub pieces_same : (image before : Pages) (first ring k n : ℕ) → ((q : ℕ) → IsPiecePage first ring k n q → page image q ≡ page before q) → pieces image first ring k n ≡ pieces before first ring k n
pieces_same image before first ring k zero same = refl
pieces_same image before first ring k (suc n) same =
    λ i. take 4000 (same (first + k % ring) (record { index = k; low = omega arith; high = omega arith; is = refl }) i)
    ++ pieces_same image before first ring (k + 1) n (λ q is. same q (record { index = is.index; low = omega (arith, is.low); high = omega (arith, is.high); is = is.is })) i

-- what a root tells of the log is in the pages of its pieces alone
pub log_same : (image before : Pages) (root : Root) → ((q : ℕ) → IsLogPage root q → page image q ≡ page before q) → log_bytes image root ≡ log_bytes before root
log_same image before root same =
    ap (λ (l : List ℕ). drop (root.head % 4000) (l ++ root.tail)) (pieces_same image before (log_at root.slots) root.log_pages (root.head / 4000) (root.end / 4000 - root.head / 4000) same)

-- ---- the log grows, and its head moves

module _ (pages : Pages) (first ring head end : ℕ) (tail : List ℕ) (long : length (log_from pages first ring head end tail) ≡ end - head) (order : head < end) (short : length tail ≡ end % 4000) where
  -- each piece is full
  pub pieces_full : length (pieces pages first ring (head / 4000) (end / 4000 - head / 4000)) ≡ 4000 * (end / 4000 - head / 4000)
  pieces_full =
      let all : List ℕ = pieces pages first ring (head / 4000) (end / 4000 - head / 4000) in
      omega (arith, long, length-drop (head % 4000) (all ++ tail), length-append all tail)

  pub log_head : (head_now : ℕ) → head ≤ head_now → head_now ≤ end → log_from pages first ring head_now end tail ≡ drop (head_now - head) (log_from pages first ring head end tail)
  log_head head_now later within =
      let k : ℕ = head / 4000 in
      let m : ℕ = head_now / 4000 - head / 4000 in
      let n : ℕ = end / 4000 - head_now / 4000 in
      let front : List ℕ = pieces pages first ring k m in
      let back : List ℕ = pieces pages first ring (k + m) n in
      let split : pieces pages first ring k (end / 4000 - head / 4000) ≡ front ++ back = ap (pieces pages first ring k) (count m n) ∙ pieces_split pages first ring k m n in
      let front_full : length front ≡ 4000 * m = omega (arith, pieces_full, ap length split, length-append front back, pieces_most pages first ring k m, pieces_most pages first ring (k + m) n) in
      let at : head % 4000 + (head_now - head) ≡ length front + head_now % 4000 = omega (arith, front_full) in
      let here : pieces pages first ring (head_now / 4000) n ≡ back = ap (λ (j : ℕ). pieces pages first ring j n) (omega arith) in
      ap (λ (l : List ℕ). drop (head_now % 4000) (l ++ tail)) here
      ∙ sym (drop-append-add front (back ++ tail) (head_now % 4000))
      ∙ ap (λ (j : ℕ). drop j (front ++ (back ++ tail))) (sym at)
      ∙ ap (drop (head % 4000 + (head_now - head))) (sym (append_assoc front back tail) ∙ ap (λ (l : List ℕ). l ++ tail) (sym split))
      ∙ sym (drop-drop (head_now - head) (head % 4000) (pieces pages first ring k (end / 4000 - head / 4000) ++ tail))
    where
      count : (m n : ℕ) → end / 4000 - head / 4000 ≡ (head_now / 4000 - head / 4000) + (end / 4000 - head_now / 4000)
      count m n = omega arith

pub log_grows : (before pages : Pages) (first ring head end end_now : ℕ) (tail tail_now more : List ℕ) → head < end → end_now ≡ end + length more → length (log_from before first ring head end tail) ≡ end - head
    → ((q : ℕ) → IsPiecePage first ring (head / 4000) (end / 4000 - head / 4000) q → page pages q ≡ page before q) → HoldsPieces pages first ring (end / 4000) (end_now / 4000 - end / 4000) (tail ++ more) → tail_now ≡ drop (4000 * (end_now / 4000 - end / 4000)) (tail ++ more)
    → log_from pages first ring head end_now tail_now ≡ log_from before first ring head end tail ++ more
log_grows before pages first ring head end end_now tail tail_now more order longer long same held tail_is =
    let k : ℕ = head / 4000 in
    let m : ℕ = end / 4000 - head / 4000 in
    let n : ℕ = end_now / 4000 - end / 4000 in
    let old : List ℕ = pieces before first ring k m in
    let count : end_now / 4000 - head / 4000 ≡ m + n = omega arith in
    let front : pieces pages first ring k m ≡ old = pieces_same pages before first ring k m same in
    let back : pieces pages first ring (k + m) n ≡ take (4000 * n) (tail ++ more) = ap (λ (j : ℕ). pieces pages first ring j n) (omega arith) ∙ pieces_held pages first ring (end / 4000) n (tail ++ more) held in
    let all : pieces pages first ring k (end_now / 4000 - head / 4000) ++ tail_now ≡ (old ++ tail) ++ more =
    (λ i. (ap (pieces pages first ring k) count ∙ pieces_split pages first ring k m n ∙ (λ j. front j ++ back j)) i ++ tail_is i)
    ∙ append_assoc old (take (4000 * n) (tail ++ more)) (drop (4000 * n) (tail ++ more))
    ∙ ap (λ (l : List ℕ). old ++ l) (take-append-drop (4000 * n) (tail ++ more))
    ∙ sym (append_assoc old tail more) in
    ap (drop (head % 4000)) all ∙ drop-append-le (head % 4000) (old ++ tail) more (omega (arith, long, length-drop (head % 4000) (old ++ tail)))

-- ---- the log of the next root

-- Behind the log of a root more records were written, and the head moved behind those that are dropped.
pub next_log : (before pages : Pages) (root next : Root) (more : List ℕ) (ps qs dropped kept : List Placed) → next.slots ≡ root.slots → next.log_pages ≡ root.log_pages → root.head < root.end → length next.tail ≡ next.end % 4000
    → ((q : ℕ) → IsLogPage root q → page pages q ≡ page before q) → Grows root more pages next.end next.tail → Parses (log_bytes before root) root.head ps root.end → Parses more root.end qs next.end
    → ps ++ qs ≡ dropped ++ kept → ArePlaced root.head dropped next.head → ArePlaced next.head kept next.end → Parses (log_bytes pages next) next.head kept next.end
next_log before pages root next more ps qs dropped kept slots log_pages order short same grows old new split gone stay =
    let first : ℕ = log_at root.slots in
    let ring : ℕ = root.log_pages in
    let long : length (log_bytes before root) ≡ root.end - root.head = omega (arith, parses_length old) in
    let grown : log_from pages first ring root.head next.end next.tail ≡ log_bytes before root ++ more = log_grows before pages first ring root.head root.end next.end root.tail next.tail more order grows.end_is long same grows.full grows.tail_is in
    let all : Parses (log_from pages first ring root.head next.end next.tail) root.head (dropped ++ kept) next.end =
    subst (λ (ps : List Placed). Parses (log_from pages first ring root.head next.end next.tail) root.head ps next.end) split (subst (λ (bytes : List ℕ). Parses bytes root.head (ps ++ qs) next.end) (sym grown) (parses_append old new)) in
    let moved : log_from pages first ring next.head next.end next.tail ≡ drop (next.head - root.head) (log_from pages first ring root.head next.end next.tail) =
    log_head pages first ring root.head next.end next.tail (omega (arith, parses_length all)) (omega (arith, grows.end_is)) short next.head (omega (arith, placed_length root.head next.head dropped gone)) (omega (arith, placed_length next.head next.end kept stay)) in
    let is : log_bytes pages next ≡ log_from pages first ring next.head next.end next.tail = λ i. log_from pages (log_at (slots i)) (log_pages i) next.head next.end next.tail in
    subst (λ (bytes : List ℕ). Parses bytes next.head kept next.end) (sym (is ∙ moved)) (parses_drop next.head dropped kept all gone stay)
