-- What stands in the bytes of a root: a page is that of one root at most.
use Rattle.std.proofs.Common.{◌≡◌, ℕ, ◌-◌, ◌%◌, List, length, take, drop, get_or, replicate, ◌++◌, refl, sym, ◌∙◌, ap, arith}
use Rattle.std.specs.Int.{w32, w64, from_be_bytes}
use Rattle.std.proofs.lemmas.Nat.{from_be_bytes-to_be_bytes_4, from_be_bytes-to_be_bytes_8}
use Rattle.std.proofs.lemmas.List.{take_at}
use Rattle.rss_base.specs.Layout.{root_page, IsRootPage}
use Rattle.rss_base.specs.declared.root.Root.{Root}

-- what reads as the tail, in a page that tells this end
abbrev pub tail_in : List ℕ → ℕ → List ℕ
tail_in bytes end = take (end % 4000) (drop 96 bytes)

-- what reads as a root
abbrev pub root_in : List ℕ → Root
root_in bytes = record {
  version = get_or bytes 5 0;
  slots = from_be_bytes w32 (take 4 (drop 8 bytes));
  log_pages = from_be_bytes w32 (take 4 (drop 12 bytes));
  area = get_or bytes 16 0;
  head = from_be_bytes w64 (take 8 (drop 24 bytes));
  checkpoint = from_be_bytes w64 (take 8 (drop 32 bytes));
  end = from_be_bytes w64 (take 8 (drop 40 bytes));
  tail = tail_in bytes (from_be_bytes w64 (take 8 (drop 40 bytes)));
}

pub same_fields : (a b : Root) → a.version ≡ b.version → a.slots ≡ b.slots → a.log_pages ≡ b.log_pages → a.area ≡ b.area → a.head ≡ b.head → a.checkpoint ≡ b.checkpoint → a.end ≡ b.end → a.tail ≡ b.tail → a ≡ b
same_fields a b version slots log_pages area head checkpoint end tail = λ i. record { version = version i; slots = slots i; log_pages = log_pages i; area = area i; head = head i; checkpoint = checkpoint i; end = end i; tail = tail i }

-- the page of a root reads as that root
pub read_back : (bytes : List ℕ) (root : Root) → IsRootPage bytes root → root_in bytes ≡ root
read_back bytes root is =
    let formed = is.formed in
    let end : from_be_bytes w64 (take 8 (drop 40 (root_page root))) ≡ root.end = from_be_bytes-to_be_bytes_8 root.end (omega arith) in
    let tail : tail_in (root_page root) (from_be_bytes w64 (take 8 (drop 40 (root_page root)))) ≡ root.tail =
    ap (tail_in (root_page root)) end ∙ ap (λ (n : ℕ). take n (root.tail ++ replicate (4000 - length root.tail) 0)) (sym formed.tail) ∙ take_at root.tail (replicate (4000 - length root.tail) 0) (length root.tail) refl in
    ap root_in is.spelled
    ∙ same_fields (root_in (root_page root)) root
    refl
    (from_be_bytes-to_be_bytes_4 root.slots (omega arith))
    (from_be_bytes-to_be_bytes_4 root.log_pages (omega arith))
    refl
    (from_be_bytes-to_be_bytes_8 root.head (omega arith))
    (from_be_bytes-to_be_bytes_8 root.checkpoint (omega arith))
    end tail

pub same_root : (bytes : List ℕ) (a b : Root) → IsRootPage bytes a → IsRootPage bytes b → a ≡ b
same_root bytes a b first second = sym (read_back bytes a first) ∙ read_back bytes b second
