use Rattle.std.proofs.Common.{◌≡◌, ℕ, ◌-◌, List, [], ◌∷◌, ◌++◌, length, set, replicate, refl, arith}
use Rattle.std.specs.Prelude.{codes}
use Rattle.std.specs.Int.{w32, w64, to_be_bytes}
use Rattle.rss_root.proofs.Spelling.{field_put, byte_put}
use Rattle.rss_root.proofs.root_page.encode.Goals as goal

pub returns : goal.returns
returns c =
    let root = c.args.root.now in
    let front : List ℕ = codes "RSSR" ++ 0 ∷ [] in
    let zero : c.put_bytes.new.page ≡ front ++ replicate 4091 0 = field_put [] front (replicate 4096 0) front _ 0 4096 0 4091 refl refl c.put_bytes.ensures refl refl in
    let mark : List ℕ = front ++ root.version ∷ [] in
    let one : set c.put_bytes.new.page 5 root.version ≡ mark ++ replicate 4090 0 = byte_put front _ root.version 5 4091 4090 zero refl refl in
    let to_slots : List ℕ = mark ++ replicate 2 0 ++ to_be_bytes w32 root.slots in
    let two : c.put_u32.new.page ≡ to_slots ++ replicate 4084 0 = field_put mark (to_be_bytes w32 root.slots) _ _ _ 8 4090 2 4084 one refl c.put_u32.ensures refl refl in
    let to_log : List ℕ = to_slots ++ to_be_bytes w32 root.log_pages in
    let three : c.put_u32-2.new.page ≡ to_log ++ replicate 4080 0 = field_put to_slots (to_be_bytes w32 root.log_pages) _ _ _ 12 4084 0 4080 two refl c.put_u32-2.ensures refl refl in
    let four : set c.put_u32-2.new.page 16 root.area ≡ to_log ++ root.area ∷ [] ++ replicate 4079 0 = byte_put to_log _ root.area 16 4080 4079 three refl refl in
    let to_head : List ℕ = to_log ++ root.area ∷ replicate 7 0 ++ to_be_bytes w64 root.head in
    let five : c.put_u64.new.page ≡ to_head ++ replicate 4064 0 = field_put (to_log ++ root.area ∷ []) (to_be_bytes w64 root.head) _ _ _ 24 4079 7 4064 four refl c.put_u64.ensures refl refl in
    let to_checkpoint : List ℕ = to_head ++ to_be_bytes w64 root.checkpoint in
    let six : c.put_u64-2.new.page ≡ to_checkpoint ++ replicate 4056 0 = field_put to_head (to_be_bytes w64 root.checkpoint) _ _ _ 32 4064 0 4056 five refl c.put_u64-2.ensures refl refl in
    let to_end : List ℕ = to_checkpoint ++ to_be_bytes w64 root.end in
    let seven : c.put_u64-3.new.page ≡ to_end ++ replicate 4048 0 = field_put to_checkpoint (to_be_bytes w64 root.end) _ _ _ 40 4056 0 4048 six refl c.put_u64-3.ensures refl refl in
    field_put to_end root.tail _ _ _ 96 4048 48 (4000 - length root.tail) seven c.as_slice.ensures.bytes c.put_bytes-2.ensures refl (omega (arith, c.as_slice.ensures.short))
