-- What the calls are refused for hangs, but for the rules on room, on what an auditor sees.
use Rattle.std.proofs.Common.{◌≡◌, ℕ, List, sym, ◌∙◌, ap}
use Rattle.rss_base.specs.declared.name.Name.{Name}
use Rattle.rss_base.specs.declared.value.Value.{Value}
use Rattle.rss_base.specs.declared.call.Call.{Call}
use Rattle.rss_base.specs.declared.call.Call.TheVariants.{Begin, Save, Restore, End, Abort, Insert, Fetch, Update, Delete, Connect, Disconnect, Parent, OpenRelation, OpenImage, OpenLink, Next, CloseScan, Lock, Checkpoint, MakeSegment, MakeRelation, MakeImage, MakeLink, DropSegment, DropRelation, DropImage, DropLink}
use Rattle.rss_model.specs.Machine.{State}
use Rattle.rss_model.specs.Refusals.{some_free}
use Rattle.rss_plain.specs.Judging.{is_of_room, refusal_but, judged}
use Rattle.rss_plain.specs.Seen.{Seen, seen_of, state_of, IsSeenOf}
use Rattle.rss_plain.proofs.Judged.{judged_begin, judged_save, judged_restore, judged_end, judged_abort, judged_lock, judged_fetch, judged_insert, judged_update, judged_delete, judged_connect, judged_disconnect, judged_parent, judged_open_relation, judged_open_image, judged_open_link, judged_next, judged_close, judged_checkpoint}
use Rattle.rss_plain.proofs.DefinitionTests.{judged_make_segment, judged_make_relation, judged_make_image, judged_make_link, judged_drop_segment, judged_drop_relation, judged_drop_image, judged_drop_link}

module _ (state : State) where
  abbrev plain : State
  plain = state_of (seen_of state)

  insert_alike : (t : ℕ) (relation : Name) (values : List Value)
      → judged plain (Insert t relation values) ≡ judged state (Insert t relation values)
  unfolding some_free
  insert_alike t relation values = judged_insert plain t relation values ∙ sym (judged_insert state t relation values)

  pub judged_alike : (call : Call) → judged plain call ≡ judged state call
  judged_alike (Begin t) = judged_begin plain t ∙ sym (judged_begin state t)
  judged_alike (Save t) = judged_save plain t ∙ sym (judged_save state t)
  judged_alike (Restore t save) = judged_restore plain t save ∙ sym (judged_restore state t save)
  judged_alike (End t) = judged_end plain t ∙ sym (judged_end state t)
  judged_alike (Abort t) = judged_abort plain t ∙ sym (judged_abort state t)
  judged_alike (Insert t relation values) = insert_alike t relation values
  judged_alike (Fetch t relation tid) = judged_fetch plain t relation tid ∙ sym (judged_fetch state t relation tid)
  judged_alike (Update t relation tid values) =
      judged_update plain t relation tid values ∙ sym (judged_update state t relation tid values)
  judged_alike (Delete t relation tid) = judged_delete plain t relation tid ∙ sym (judged_delete state t relation tid)
  judged_alike (Connect t link child parent spot) =
      judged_connect plain t link child parent spot ∙ sym (judged_connect state t link child parent spot)
  judged_alike (Disconnect t link child) = judged_disconnect plain t link child
      ∙ sym (judged_disconnect state t link child)
  judged_alike (Parent t link child) = judged_parent plain t link child ∙ sym (judged_parent state t link child)
  judged_alike (OpenRelation t relation) = judged_open_relation plain t relation
      ∙ sym (judged_open_relation state t relation)
  judged_alike (OpenImage t image start) = judged_open_image plain t image start
      ∙ sym (judged_open_image state t image start)
  judged_alike (OpenLink t link parent) = judged_open_link plain t link parent
      ∙ sym (judged_open_link state t link parent)
  judged_alike (Next t scan) = judged_next plain t scan ∙ sym (judged_next state t scan)
  judged_alike (CloseScan t scan) = judged_close plain t scan ∙ sym (judged_close state t scan)
  judged_alike (Lock t item exclusive) = judged_lock plain t item exclusive ∙ sym (judged_lock state t item exclusive)
  judged_alike Checkpoint = judged_checkpoint plain ∙ sym (judged_checkpoint state)
  judged_alike (MakeSegment name) = judged_make_segment plain name ∙ sym (judged_make_segment state name)
  judged_alike (MakeRelation name segment fields) =
      judged_make_relation plain name segment fields ∙ sym (judged_make_relation state name segment fields)
  judged_alike (MakeImage name relation is_unique fields) =
      judged_make_image plain name relation is_unique fields
      ∙ sym (judged_make_image state name relation is_unique fields)
  judged_alike (MakeLink name parent child) = judged_make_link plain name parent child
      ∙ sym (judged_make_link state name parent child)
  judged_alike (DropSegment name) = judged_drop_segment plain name ∙ sym (judged_drop_segment state name)
  judged_alike (DropRelation name) = judged_drop_relation plain name ∙ sym (judged_drop_relation state name)
  judged_alike (DropImage name) = judged_drop_image plain name ∙ sym (judged_drop_image state name)
  judged_alike (DropLink name) = judged_drop_link plain name ∙ sym (judged_drop_link state name)

-- so of each state that is seen so
pub judged_of : (seen : Seen) (state : State) (call : Call) → IsSeenOf seen state
    → judged (state_of seen) call ≡ refusal_but is_of_room state call
unfolding judged
judged_of seen state call is = ap (λ (s : Seen). judged (state_of s) call) is ∙ judged_alike state call
