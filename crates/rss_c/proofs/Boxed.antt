-- A store that C keeps owns what a box of it owns, and none owns nothing.
use mathlib.Core.Path.{refl}
use mathlib.Core.List.{List, [], ◌∷◌}
use seplogic.Ra.Ura.{Ura}
use mir.Syntax.{impl, tnil, dnil}
use mir.Val.{Val, vstruct, of_list}
use types.Logic.{Logic}
use types.Kit.{Goal, Item, Step, step, ‵, ◌$◌, move, fjoin, fpack, feq_i}
use denote.RattleType.{Valss}
use denote.Builtin.{RawPtr}
use denote.RawPtr.{null_ptr, ptr_val}
use denote.Signature.{Slot, plain}
use denote.Steps.{nothing}
use denote.Struct.Struct.{within}
use denote.Struct.Owning.{shape, to}
use Rattle.std.specs.Prelude.{None}
use Rattle.std.specs.Global.{Global}
use Rattle.std_alloc.proofs.BoxSteps.Form.{Bx}
use Rattle.std.specs.contracts.alloc.Global as Heap
use Rattle.std.specs.contracts.impls.GlobalAllocator.TheImpl.{ghosts, dict}
use Rattle.std.proofs.alloc.Global.TheLaws as heap
use Rattle.rss_c.specs.contracts.open_store.OpenStore as Store
use Rattle.rss_c.proofs.open_store.OpenStore.TheLaws as store
use Rattle.rss_c.specs.contracts.parts.Parts as Parts
use Rattle.rss_c.specs.contracts.kept.Kept as Kept

abbrev pub E : Bx
E = record { row = Store.the_row; laws = store.the_row_laws; al = record { row = Heap.the_row; laws = heap.the_row_laws; g = ghosts; d = dict; drops = impl [] tnil dnil } }

abbrev pub FromParts : Slot 0
FromParts = plain (λ _. Parts.the_row Store.the_row Heap.the_row ghosts)

abbrev pub FromKept : Slot 0
FromKept = plain (λ _. Kept.the_row)

-- the machine value of none
abbrev pub none_word : Val → Val
none_word h = vstruct (of_list (ptr_val null_ptr ∷ h ∷ []))

module _ {M : Type 1} {𝓤 : Ura M} {𝓛 : Logic 𝓤} {K : Type 0} {Γ : List (Item 𝓤)} {G : Goal 𝓤 𝓛.H} where
  pub none_in : K → (h : Val) (a : Global)
      → Step K 𝓛 (‵ ((Kept.the_row).own_val (record { at = null_ptr; alloc = a; store = None }) (none_word h ∷ [])) ∷ Γ) G (‵ ((Heap.the_row).own_val a (h ∷ [])) ∷ Γ) G
  none_in t h a = step (λ s.
      nothing t $ nothing t $ move t (2 ∷ 1 ∷ 0 ∷ []) $ fjoin t $ feq_i t (List Val) (ptr_val null_ptr ∷ []) (ptr_val null_ptr ∷ []) refl $ fjoin t $ feq_i t (List Val) (none_word h ∷ []) (none_word h ∷ []) refl $ fjoin t $
      fpack t (Valss (RawPtr ∷ Heap.the_row ∷ [])) (within (shape Kept.the_type) (to Kept.the_type (record { at = null_ptr; alloc = a; store = None })) (none_word h ∷ [])) (ptr_val null_ptr ∷ [], (h ∷ [], tt)) $ fjoin t $ s)
