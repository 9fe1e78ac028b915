-- Which call a line of a script spells: the forms of lines, and the table of all calls.
use Rattle.std.specs.Prelude.{◌≡◌, ◌⊎◌, ℕ, ◌≤◌, true, false, List, [], ◌∷◌, ◌++◌, length, Option, Some, None, codes}
use Rattle.rss_base.specs.declared.name.Name.{Name}
use Rattle.rss_base.specs.declared.tid.Tid.{Tid}
use Rattle.rss_base.specs.declared.item.Item.{Item}
use Rattle.rss_base.specs.declared.item.Item.TheVariants.{Segment, Relation}
use Rattle.rss_base.specs.declared.spot.Spot.{Spot}
use Rattle.rss_base.specs.declared.spot.Spot.TheVariants.{First, Last as LastOne, After as AfterOne}
use Rattle.rss_base.specs.declared.call.Call.{Call}
use Rattle.rss_base.specs.declared.call.Call.TheVariants.{Begin, Save, Restore, End, Abort, Insert, Fetch, Update, Delete, Connect, Disconnect, Parent, OpenRelation, OpenImage, OpenLink, Next, CloseScan, Lock, Checkpoint, MakeSegment, MakeRelation, MakeImage, MakeLink, DropSegment, DropRelation, DropImage, DropLink}
use Rattle.rss_model.specs.Variables.{Variable}
use Rattle.rss_model.specs.Script.{AreSpaces, HasWords, line_limit, IsTransaction, IsNameWord, IsVariable, IsTidIn, IsNumberIn, IsMode, AreValues, AreNames, AreFieldWords}

-- ---- forms

-- A form says of words what they spell.
abbrev pub Form : Type 0 → Type 1
Form T = List (List ℕ) → T → Type 0

-- no word is left, and this is spelled
abbrev pub Last : {T : Type 0} → T → List (List ℕ) → T → Type 0
Last made words x = (words ≡ []) × (x ≡ made)

-- the next word stands for something, and this follows it
abbrev pub Word : {T U : Type 0} → (List ℕ → T → Type 0) → (T → List (List ℕ) → U → Type 0)
    → List (List ℕ) → U → Type 0
Word {T = T} Is After words x =
    (word : List ℕ) × (rest : List (List ℕ)) × (y : T)
    × (words ≡ word ∷ rest) × Is word y × After y rest x

-- the next word is this one, and this follows it
abbrev pub Fixed : {T : Type 0} → List ℕ → (List (List ℕ) → T → Type 0)
    → List (List ℕ) → T → Type 0
Fixed word After words x = (rest : List (List ℕ)) × (words ≡ word ∷ rest) × After rest x

-- all the words left spell something, and of that is made what is spelled
abbrev pub Rest : {T U : Type 0} → (List (List ℕ) → T → Type 0) → (T → U)
    → List (List ℕ) → U → Type 0
Rest {T = T} Are make words x = (y : T) × Are words y × (x ≡ make y)

-- one of two forms
abbrev pub Either : {T : Type 0} → (List (List ℕ) → T → Type 0) → (List (List ℕ) → T → Type 0)
    → List (List ℕ) → T → Type 0
Either One Other words x = One words x ⊎ Other words x

-- ---- choices by the next word

-- a word, and the form of what stands behind it
pub record Row (T : Type 0) : Type 1 where
  pub word : List ℕ
  pub form : List (List ℕ) → T → Type 0

abbrev pub behind : {T : Type 0} → List ℕ → (List (List ℕ) → T → Type 0) → Row T
behind word form = record { word = word; form = form }

-- the next word is that of a row, whose form follows it
abbrev pub OneOf : {T : Type 0} → List (Row T) → List (List ℕ) → T → Type 0
OneOf [] words x = ⊥
OneOf (row ∷ rows) words x = Fixed row.word row.form words x ⊎ OneOf rows words x

-- ---- the forms of calls

-- a name, with which the line ends
abbrev pub Named : (Name → Call) → List (List ℕ) → Call → Type 0
Named make = Word IsNameWord (λ name. Last (make name))

-- a name, that of what it is of, and what it is made of
abbrev pub DefinedOf : {T : Type 0} → (List (List ℕ) → T → Type 0) → (Name → Name → T → Call)
    → List (List ℕ) → Call → Type 0
DefinedOf Are make = Word IsNameWord (λ name. Word IsNameWord (λ whole. Rest Are (make name whole)))

-- a link: of a relation alone, or of a parent relation and then a child
abbrev pub LinkForm : List (List ℕ) → Call → Type 0
LinkForm = Word IsNameWord (λ name. Word IsNameWord (λ relation.
    Either (Last (MakeLink name None relation)) (Named (MakeLink name (Some relation)))))

-- a transaction, with which the line ends
abbrev pub Ordered : (ℕ → Call) → List (List ℕ) → Call → Type 0
Ordered make = Word IsTransaction (λ t. Last (make t))

-- a transaction and a number, with which the line ends
abbrev pub Numbered : List Variable → (ℕ → ℕ → Call) → List (List ℕ) → Call → Type 0
Numbered names make = Word IsTransaction (λ t. Word (IsNumberIn names) (λ n. Last (make t n)))

-- a transaction and the name of what it calls on, and what follows them
abbrev pub Targeted : (ℕ → Name → List (List ℕ) → Call → Type 0) → List (List ℕ) → Call → Type 0
Targeted After = Word IsTransaction (λ t. Word IsNameWord (λ name. After t name))

-- then a tuple's identifier, with which the line ends
abbrev pub OnTuple : List Variable → (ℕ → Name → Tid → Call) → List (List ℕ) → Call → Type 0
OnTuple names make = Targeted (λ t name. Word (IsTidIn names) (λ tid. Last (make t name tid)))

abbrev pub InsertForm : List (List ℕ) → Call → Type 0
InsertForm = Targeted (λ t relation. Rest AreValues (Insert t relation))

abbrev pub UpdateForm : List Variable → List (List ℕ) → Call → Type 0
UpdateForm names =
    Targeted (λ t relation. Word (IsTidIn names) (λ tid. Rest AreValues (Update t relation tid)))

-- a tuple's identifier, behind which the line ends
abbrev pub AfterForm : List Variable → List (List ℕ) → Spot → Type 0
AfterForm names = Word (IsTidIn names) (λ tid. Last (AfterOne tid))

-- where a tuple is put into a chain
abbrev pub spots : List Variable → List (Row Spot)
spots names =
    behind (codes "first") (Last First)
    ∷ behind (codes "last") (Last LastOne)
    ∷ behind (codes "after") (AfterForm names)
    ∷ []

-- a spot, and before it the parent of the chain where the link has parents
abbrev pub PlaceForm : List Variable → List (List ℕ) → Option Tid × Spot → Type 0
PlaceForm names =
    Either (Rest (OneOf (spots names)) (λ spot. (None, spot)))
    (Word (IsTidIn names) (λ parent. Rest (OneOf (spots names)) (λ spot. (Some parent, spot))))

-- the tuple that comes into a chain, and its place
abbrev pub ConnectForm : List Variable → List (List ℕ) → Call → Type 0
ConnectForm names = Targeted (λ t link. Word (IsTidIn names) (λ child.
    Rest (PlaceForm names) (λ place. Connect t link child place.0 place.1)))

-- an image, and the values from which it is read, where there are some
abbrev pub ImageScan : ℕ → List (List ℕ) → Call → Type 0
ImageScan t = Word IsNameWord (λ image.
    Either (Last (OpenImage t image None))
    (Fixed (codes "from") (Rest AreValues (λ values. OpenImage t image (Some values)))))

-- a link, and the parent of the chain where the link has parents
abbrev pub LinkScan : List Variable → ℕ → List (List ℕ) → Call → Type 0
LinkScan names t = Word IsNameWord (λ link.
    Either (Last (OpenLink t link None))
    (Word (IsTidIn names) (λ parent. Last (OpenLink t link (Some parent)))))

-- what a scan goes over
abbrev pub scans : List Variable → ℕ → List (Row Call)
scans names t =
    behind (codes "relation") (Named (OpenRelation t))
    ∷ behind (codes "image") (ImageScan t)
    ∷ behind (codes "link") (LinkScan names t)
    ∷ []

-- the name of an item, and how it is locked
abbrev pub LockOf : ℕ → (Name → Item) → List (List ℕ) → Call → Type 0
LockOf t item = Word IsNameWord (λ name. Word IsMode (λ exclusive. Last (Lock t (item name) exclusive)))

-- what is locked
abbrev pub locks : ℕ → List (Row Call)
locks t =
    behind (codes "segment") (LockOf t Segment)
    ∷ behind (codes "relation") (LockOf t Relation)
    ∷ []

-- what is dropped
abbrev pub drops : List (Row Call)
drops =
    behind (codes "segment") (Named DropSegment)
    ∷ behind (codes "relation") (Named DropRelation)
    ∷ behind (codes "image") (Named DropImage)
    ∷ behind (codes "link") (Named DropLink)
    ∷ []

-- The table of all calls: each by its first word, with the form of what stands behind that.
unfoldable pub calls : List Variable → List (Row Call)
calls names =
    behind (codes "segment") (Named MakeSegment)
    ∷ behind (codes "relation") (DefinedOf AreFieldWords MakeRelation)
    ∷ behind (codes "image") (DefinedOf AreNames (λ name relation. MakeImage name relation false))
    ∷ behind (codes "unique") (DefinedOf AreNames (λ name relation. MakeImage name relation true))
    ∷ behind (codes "link") LinkForm
    ∷ behind (codes "drop") (OneOf drops)
    ∷ behind (codes "begin") (Ordered Begin)
    ∷ behind (codes "save") (Ordered Save)
    ∷ behind (codes "restore") (Numbered names Restore)
    ∷ behind (codes "end") (Ordered End)
    ∷ behind (codes "abort") (Ordered Abort)
    ∷ behind (codes "checkpoint") (Last Checkpoint)
    ∷ behind (codes "insert") InsertForm
    ∷ behind (codes "fetch") (OnTuple names Fetch)
    ∷ behind (codes "update") (UpdateForm names)
    ∷ behind (codes "delete") (OnTuple names Delete)
    ∷ behind (codes "connect") (ConnectForm names)
    ∷ behind (codes "disconnect") (OnTuple names Disconnect)
    ∷ behind (codes "parent") (OnTuple names Parent)
    ∷ behind (codes "open") (Word IsTransaction (λ t. OneOf (scans names t)))
    ∷ behind (codes "next") (Numbered names Next)
    ∷ behind (codes "close") (Numbered names CloseScan)
    ∷ behind (codes "lock") (Word IsTransaction (λ t. OneOf (locks t)))
    ∷ []

-- ---- lines

-- a call, and the variable before it that is to stand for its reply
abbrev pub IsStatement : List Variable → List (List ℕ) → Option Name × Call → Type 0
IsStatement names =
    Either (Rest (OneOf (calls names)) (λ call. (None, call)))
    (Word IsVariable (λ name. Fixed (codes "=") (Rest (OneOf (calls names)) (λ call. (Some name, call)))))

abbrev pub IsShortLine : List ℕ → Type 0
IsShortLine line = length line ≤ line_limit

-- Under these variables, the line is this call; its reply is for this variable, if there is one.
pub record Spells (names : List Variable) (line : List ℕ) (variable : Option Name) (call : Call)
    : Type 0 where
  pub words : List (List ℕ)
  pub spaced : HasWords line words
  pub says : IsStatement names words (variable, call)
  pub short : IsShortLine line

-- the byte with which a comment begins
abbrev pub comment_mark : ℕ
comment_mark = 35

-- the first byte that is no space is that one
pub record IsComment (line : List ℕ) : Type 0 where
  pub spaces : List ℕ
  pub before : AreSpaces spaces
  pub comment : List ℕ
  pub parts : line ≡ spaces ++ comment_mark ∷ comment

-- the line has no word, or is a comment
abbrev pub IsEmpty : List ℕ → Type 0
IsEmpty line = AreSpaces line ⊎ IsComment line

pub record IsBlank (line : List ℕ) : Type 0 where
  pub empty : IsEmpty line
  pub short : IsShortLine line

-- the line is neither blank nor a call
pub record IsWords (names : List Variable) (line : List ℕ) : Type 0 where
  pub some : IsBlank line → ⊥
  pub no_call : (variable : Option Name) (call : Call) → Spells names line variable call → ⊥
