-- What each call that defines is refused for, but for the rules on room: its other tests.
use Rattle.std.proofs.Common.{◌≡◌, Bool, true, false, List, [], ◌∷◌, refl}
use Rattle.std.specs.Prelude.{Option, Some, None, if◌then◌else◌}
use Rattle.std.specs.FinMap as map
use Rattle.rss_base.specs.declared.name.Name.{Name}
use Rattle.rss_base.specs.declared.field.FieldDef.{FieldDef}
use Rattle.rss_base.specs.declared.call.Call.TheVariants.{MakeSegment, MakeRelation, MakeImage, MakeLink, DropSegment, DropRelation, DropImage, DropLink}
use Rattle.rss_base.specs.declared.refusal.Refusal.{Refusal}
use Rattle.rss_base.specs.declared.refusal.Kind.TheVariants.{Relation as RelationKind, Link as LinkKind, Image as ImageKind, Field as FieldKind, Segment as SegmentKind}
use Rattle.rss_base.specs.declared.refusal.LimitKind.TheVariants.{Segments, Relations, Images, Links, Fields, Width, KeyWidth, Roles}
use Rattle.rss_base.specs.declared.refusal.Refusal.TheVariants.{NoSuch, NameTaken, Limit, Duplicate, NotEmpty, TransactionsOpen, Full}
use Rattle.rss_model.specs.Tables.{ImageDef, LinkDef}
use Rattle.rss_model.specs.Machine.{State}
use Rattle.rss_model.specs.Rules.{if_no_room_for}
use Rattle.rss_model.specs.Defining.{least_open, if_any_open, unless_segment, unless_relation, if_segments_used_up, if_relations_used_up, unless_image, unless_link, if_images_used_up, if_links_used_up, unless_fields, unless_narrow, if_repeated, image_def, with_image, relations_of_link, unless_relations, if_any_holds_tuples, if_link_holds_tuples}
use Rattle.rss_plain.specs.Judging.{but, is_of_room, judged}
use Rattle.rss_plain.specs.Defining.{if_segment_taken, if_relation_taken, if_image_taken, if_link_taken, if_segment_used, if_relation_used, unless_formed, unless_slim, unless_some, if_in_most}
use Rattle.rss_plain.proofs.Judged.{Kept, kept_if, kept_unless, kept_map, kept_ors, room_ors, ors}

kept_any : (state : State) → Kept (if_any_open state)
kept_any state = kept_map TransactionsOpen (least_open state) (λ t. refl)

kept_repeated : (state : State) (name : Name) (is_unique : Bool) (image : ImageDef)
    → Kept (if_repeated state name is_unique image)
kept_repeated state name false image = refl
kept_repeated state name true image = kept_map (Duplicate name) _ (λ tid. refl)

kept_holding : (state : State) (names : List Name) → Kept (if_any_holds_tuples state names)
kept_holding state names = kept_if _ NotEmpty refl

kept_link : (state : State) (link : Option LinkDef) → Kept (if_link_holds_tuples state link)
kept_link state None = refl
kept_link state (Some link) = kept_holding state (relations_of_link link.parent link.child)

room_if : (b : Bool) (why : Refusal) → is_of_room why ≡ true → but is_of_room (if b then Some why else None) ≡ None
room_if true why of = rw of refl
room_if false why of = refl

pub judged_make_segment : (state : State) (name : Name) → judged state (MakeSegment name)
    ≡ ors (if_any_open state) (if_segment_taken state name ∷ if_segments_used_up state ∷ [])
unfolding judged
judged_make_segment state name = kept_ors (if_any_open state)
    (if_segment_taken state name ∷ if_segments_used_up state ∷ [])
    (kept_any state, (kept_if _ NameTaken refl, (kept_if _ (Limit Segments) refl, tt)))

pub judged_make_relation : (state : State) (name segment : Name) (fields : List FieldDef)
    → judged state (MakeRelation name segment fields)
    ≡ ors (if_any_open state)
    (unless_segment state segment ∷ if_relation_taken state name fields ∷ if_relations_used_up state
    ∷ unless_formed fields ∷ unless_slim fields ∷ [])
unfolding judged
judged_make_relation state name segment fields =
    kept_ors (if_any_open state)
    (unless_segment state segment ∷ if_relation_taken state name fields ∷ if_relations_used_up state
    ∷ unless_formed fields ∷ unless_slim fields ∷ []) (
      kept_any state,
      (
        kept_unless _ (NoSuch SegmentKind) refl,
        (
          kept_if _ NameTaken refl,
          (
            kept_if _ (Limit Relations) refl,
            (kept_unless _ (Limit Fields) refl, (kept_unless _ (Limit Width) refl, tt)),
          ),
        ),
      ),
    )

pub judged_make_image : (state : State) (name relation : Name) (is_unique : Bool) (fields : List Name)
    → judged state (MakeImage name relation is_unique fields)
    ≡ ors (if_any_open state)
    (unless_relation state relation ∷ unless_fields state relation fields ∷ if_image_taken state name fields
    ∷ if_images_used_up state ∷ unless_some fields ∷ unless_narrow state relation fields
    ∷ if_repeated state name is_unique (image_def relation is_unique fields) ∷ [])
unfolding judged
judged_make_image state name relation is_unique fields =
    room_ors (if_any_open state)
    (unless_relation state relation ∷ unless_fields state relation fields ∷ if_image_taken state name fields
    ∷ if_images_used_up state ∷ unless_some fields ∷ unless_narrow state relation fields
    ∷ if_repeated state name is_unique (image_def relation is_unique fields) ∷ [])
    (if_no_room_for state (with_image state.base.definitions name (image_def relation is_unique fields))) (
      kept_any state,
      (
        kept_unless _ (NoSuch RelationKind) refl,
        (
          kept_unless _ (NoSuch FieldKind) refl,
          (
            kept_if _ NameTaken refl,
            (
              kept_if _ (Limit Images) refl,
              (
                kept_unless _ (Limit Fields) refl,
                (
                  kept_unless _ (Limit KeyWidth) refl,
                  (kept_repeated state name is_unique (image_def relation is_unique fields), tt),
                ),
              ),
            ),
          ),
        ),
      ),
    )
    (room_if _ (Full _ _) refl)

pub judged_make_link : (state : State) (name : Name) (parent : Option Name) (child : Name)
    → judged state (MakeLink name parent child)
    ≡ ors (if_any_open state)
    (unless_relations state (relations_of_link parent child) ∷ if_link_taken state name
    (relations_of_link parent child) ∷ if_links_used_up state ∷ if_in_most state (relations_of_link parent child)
    ∷ if_any_holds_tuples state (relations_of_link parent child) ∷ [])
unfolding judged
judged_make_link state name parent child = kept_ors (if_any_open state)
    (unless_relations state (relations_of_link parent child) ∷ if_link_taken state name
    (relations_of_link parent child) ∷ if_links_used_up state ∷ if_in_most state (relations_of_link parent child)
    ∷ if_any_holds_tuples state (relations_of_link parent child) ∷ []) (
      kept_any state,
      (
        kept_unless _ (NoSuch RelationKind) refl,
        (
          kept_if _ NameTaken refl,
          (
            kept_if _ (Limit Links) refl,
            (kept_if _ (Limit Roles) refl, (kept_holding state (relations_of_link parent child), tt)),
          ),
        ),
      ),
    )

pub judged_drop_segment : (state : State) (name : Name) → judged state (DropSegment name)
    ≡ ors (if_any_open state) (unless_segment state name ∷ if_segment_used state name ∷ [])
unfolding judged
judged_drop_segment state name = kept_ors (if_any_open state)
    (unless_segment state name ∷ if_segment_used state name ∷ [])
    (kept_any state, (kept_unless _ (NoSuch SegmentKind) refl, (kept_if _ NotEmpty refl, tt)))

pub judged_drop_relation : (state : State) (name : Name) → judged state (DropRelation name)
    ≡ ors (if_any_open state) (unless_relation state name ∷ if_relation_used state name ∷ [])
unfolding judged
judged_drop_relation state name = kept_ors (if_any_open state)
    (unless_relation state name ∷ if_relation_used state name ∷ [])
    (kept_any state, (kept_unless _ (NoSuch RelationKind) refl, (kept_if _ NotEmpty refl, tt)))

pub judged_drop_image : (state : State) (name : Name)
    → judged state (DropImage name) ≡ ors (if_any_open state) (unless_image state name ∷ [])
unfolding judged
judged_drop_image state name = kept_ors (if_any_open state) (unless_image state name ∷ [])
    (kept_any state, (kept_unless _ (NoSuch ImageKind) refl, tt))

pub judged_drop_link : (state : State) (name : Name) → judged state (DropLink name)
    ≡ ors (if_any_open state)
    (unless_link state name ∷ if_link_holds_tuples state (map.get state.base.definitions.links name) ∷ [])
unfolding judged
judged_drop_link state name = kept_ors (if_any_open state)
    (unless_link state name ∷ if_link_holds_tuples state (map.get state.base.definitions.links name) ∷ []) (
      kept_any state,
      (kept_unless _ (NoSuch LinkKind) refl, (kept_link state (map.get state.base.definitions.links name), tt)),
    )
