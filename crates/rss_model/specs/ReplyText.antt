-- A reply as text.
use Rattle.std.specs.Prelude.{ℕ, ◌≤◌, length, List, [], ◌∷◌, ◌++◌, Some, None, Ok, Err, codes, decimal}
use Rattle.rss_base.specs.declared.value.Value.{Value}
use Rattle.rss_base.specs.declared.item.Item.{Item}
use Rattle.rss_base.specs.declared.item.Item.TheVariants.{Segment as SegmentItem, Relation as RelationItem, Tuple as TupleItem, Chain as ChainItem, Key as KeyItem}
use Rattle.rss_base.specs.declared.answer.Reply.{Reply}
use Rattle.rss_base.specs.declared.answer.Reply.TheVariants.{Ok as Done, Tid as Identifier, Number, Tuple as TupleReply, Row, End, Nothing}
use Rattle.rss_base.specs.declared.refusal.Kind.{Kind}
use Rattle.rss_base.specs.declared.refusal.Kind.TheVariants.{Segment, Relation, Image, Link, Field, Scan}
use Rattle.rss_base.specs.declared.refusal.LimitKind.{LimitKind}
use Rattle.rss_base.specs.declared.refusal.LimitKind.TheVariants.{Segments, Relations, Images, Links, Fields, Width, KeyWidth, Roles, Tuples, Identifiers, Scans}
use Rattle.rss_base.specs.declared.refusal.Refusal.{Refusal}
use Rattle.rss_base.specs.declared.refusal.Refusal.TheVariants.{Words, NoTransaction, AlreadyOpen, TooMany, NoSuch, NameTaken, Limit, BadTuple, NoTuple, Duplicate, Connected, NotConnected, NotEmpty, Busy, Full, LogFull, TransactionsOpen, NoSave}
use Rattle.rss_base.specs.declared.place.Place.{Place}
use Rattle.rss_base.specs.declared.place.Place.TheVariants.{Size, Root, Slot, Catalog, Page, Tuple as TuplePlace, Count, Image as ImagePlace, Link as LinkPlace, Log, Room}
use Rattle.rss_base.specs.declared.key.Space.{Space}
use Rattle.rss_base.specs.declared.key.Space.TheVariants.{Home, Overflow, Image as ImageSpace, System}
use Rattle.rss_model.specs.Steps.{Answer}
use Rattle.rss_model.specs.Spellings.{space, name_text, tid_text, value_text}
use Rattle.rss_model.specs.Script.{line_limit}

-- each value after a space
abbrev pub values_text : List Value → List ℕ
values_text [] = []
values_text (value ∷ values) = space ∷ (value_text value ++ values_text values)

abbrev pub item_text : Item → List ℕ
item_text (SegmentItem name) = codes "segment " ++ name_text name
item_text (RelationItem name) = codes "relation " ++ name_text name
item_text (TupleItem relation tid) = codes "tuple " ++ name_text relation ++ codes " " ++ tid_text tid
item_text (ChainItem link None) = codes "chain " ++ name_text link ++ codes " none"
item_text (ChainItem link (Some parent)) = codes "chain " ++ name_text link ++ codes " " ++ tid_text parent
item_text (KeyItem image values) = codes "key " ++ name_text image ++ values_text values

abbrev pub kind_text : Kind → List ℕ
kind_text Segment = codes "segment"
kind_text Relation = codes "relation"
kind_text Image = codes "image"
kind_text Link = codes "link"
kind_text Field = codes "field"
kind_text Scan = codes "scan"

abbrev pub limit_text : LimitKind → List ℕ
limit_text Segments = codes "segments"
limit_text Relations = codes "relations"
limit_text Images = codes "images"
limit_text Links = codes "links"
limit_text Fields = codes "fields"
limit_text Width = codes "width"
limit_text KeyWidth = codes "key"
limit_text Roles = codes "roles"
limit_text Tuples = codes "tuples"
limit_text Identifiers = codes "identifiers"
limit_text Scans = codes "scans"

abbrev pub reply_text : Reply → List ℕ
reply_text Done = codes "ok"
reply_text (Identifier tid) = codes "ok " ++ tid_text tid
reply_text (Number n) = codes "ok " ++ decimal n
reply_text (TupleReply values) = codes "ok" ++ values_text values
reply_text (Row tid values) = codes "ok " ++ tid_text tid ++ values_text values
reply_text End = codes "end"
reply_text Nothing = codes "none"

abbrev pub refusal_text : Refusal → List ℕ
refusal_text Words = codes "refused 1 words"
refusal_text NoTransaction = codes "refused 2 no transaction"
refusal_text AlreadyOpen = codes "refused 3 already open"
refusal_text TooMany = codes "refused 4 too many"
refusal_text (NoSuch kind) = codes "refused 5 no such " ++ kind_text kind
refusal_text NameTaken = codes "refused 6 name taken"
refusal_text (Limit limit) = codes "refused 7 limit " ++ limit_text limit
refusal_text (BadTuple field) = codes "refused 8 bad tuple " ++ decimal field
refusal_text (NoTuple relation tid) = codes "refused 9 no tuple " ++ name_text relation ++ codes " " ++ tid_text tid
refusal_text (Duplicate image tid) = codes "refused 10 duplicate " ++ name_text image ++ codes " " ++ tid_text tid
refusal_text (Connected link) = codes "refused 11 connected " ++ name_text link
refusal_text (NotConnected link) = codes "refused 12 not connected " ++ name_text link
refusal_text NotEmpty = codes "refused 13 not empty"
refusal_text (Busy item holder) = codes "refused 14 busy " ++ item_text item ++ codes " by " ++ decimal holder
refusal_text (Full slots needed) = codes "refused 15 full " ++ decimal slots ++ codes " " ++ decimal needed
refusal_text (LogFull free needed) = codes "refused 16 log full " ++ decimal free ++ codes " " ++ decimal needed
refusal_text (TransactionsOpen least) = codes "refused 17 transactions open " ++ decimal least
refusal_text NoSave = codes "refused 18 no save"

-- the line of an answer, with its end
abbrev pub answer_line : Answer → List ℕ
answer_line (Ok reply) = reply_text reply ++ codes "\n"
answer_line (Err why) = refusal_text why ++ codes "\n"

-- the line is no longer than a line may be
abbrev pub IsShort : Answer → Type 0
IsShort answer = length (answer_line answer) ≤ line_limit

abbrev pub space_text : Space → List ℕ
space_text Home = codes "home"
space_text Overflow = codes "overflow"
space_text ImageSpace = codes "image"
space_text System = codes "system"

abbrev pub place_text : Place → List ℕ
place_text Size = codes "size"
place_text (Root k) = codes "root " ++ decimal k
place_text (Slot slot) = codes "slot " ++ decimal slot
place_text (Catalog page) = codes "catalog " ++ decimal page
place_text (Page key) = codes "page " ++ decimal key.segment ++ codes " " ++ space_text key.space ++ codes " " ++ decimal key.number
place_text (TuplePlace segment tid) = codes "tuple " ++ decimal segment ++ codes " " ++ tid_text tid
place_text (Count relation) = codes "count " ++ decimal relation
place_text (ImagePlace image) = codes "image " ++ decimal image
place_text (LinkPlace link) = codes "link " ++ decimal link
place_text (Log position) = codes "log " ++ decimal position
place_text Room = codes "room"

-- the line of a device that is not a store
abbrev pub not_a_store_line : Place → List ℕ
not_a_store_line place = codes "not a store " ++ place_text place ++ codes "\n"

-- the line of a device whose layout is sound, and whose pages are no store
abbrev pub damaged_line : Place → List ℕ
damaged_line place = codes "damaged " ++ place_text place ++ codes "\n"
