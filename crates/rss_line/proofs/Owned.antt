-- A line has the owner that its words spell.
use Rattle.std.proofs.Common.{◌≡◌, ◌∙◌, inl, inr, ℕ, Bool, true, false, List, [], ◌∷◌, ◌++◌, Option, Some, None, refl, ap, sym, subst, cond, append_assoc}
use Rattle.std.specs.Prelude.{nat_eq, codes, ⊤, Result, Ok, Err, IfSome}
use Rattle.std.specs.Result.{result_ok}
use Rattle.std.specs.Cmp.Lexicographic.{pointwise, bytes_decides}
use Rattle.rss_base.specs.declared.name.Name.{Name}
use Rattle.rss_base.specs.declared.tid.Tid.{Tid}
use Rattle.rss_base.specs.declared.spot.Spot.{Spot}
use Rattle.rss_base.specs.declared.spot.Spot.TheVariants.{First, Last as LastOne, After}
use Rattle.rss_base.specs.declared.value.Value.{Value}
use Rattle.rss_base.specs.declared.item.Item.TheVariants.{Segment, Relation}
use Rattle.rss_base.specs.declared.call.Call.{Call}
use Rattle.rss_base.specs.declared.call.Call.TheVariants.{Begin, Save, Restore, End, Abort, Insert, Fetch, Update, Delete, Connect, Disconnect, Parent, OpenRelation, OpenImage, OpenLink, Next, CloseScan, Lock, Checkpoint, MakeSegment, MakeRelation, MakeImage, MakeLink, DropSegment, DropRelation, DropImage, DropLink}
use Rattle.rss_model.specs.Callers.{caller}
use Rattle.rss_model.specs.Variables.{Identifier, Number, Variable, meaning_of, is_named}
use Rattle.rss_model.specs.Script.{IsTransaction, IsTidIn, IsNumberIn, AreValues, AreNames, AreFieldWords, HasWords, StandFor}
use Rattle.rss_model.specs.Forms.{Row, Last, Word, OneOf, Named, DefinedOf, LinkForm, drops, Ordered, Numbered, OnTuple, InsertForm, UpdateForm, PlaceForm, ConnectForm, spots, scans, locks, calls, IsStatement, IsShortLine}
use Rattle.rss_line.specs.Reads.{Behind, ReadsWords, NeedsNoMemory}
use Rattle.rss_line.specs.Owners.{IsOwnedBy, IsAnyTid, IsAnyNumber, IsAnyValue, AreAnyValues, AnyNumbered, OnAnyTuple, AnyInsert, AnyUpdate, any_spots, AnyPlace, AnyConnect, any_scans, any_locks, arguments, Owned, owned, HasOwner}
use Rattle.rss_line.specs.declared.fault.LineFault.{LineFault}
use Rattle.rss_line.proofs.Choosing.{same_first, same_rest, chosen, unchoose}

-- ---- the rows of owners

-- behind a row's word stands a transaction, and then what the row wants
pub row_owned : (rows : List (Row (Unit {0}))) (verb : List ℕ) (words : List (List ℕ)) (t : ℕ) → Owned (Behind rows verb) words t → Behind (owned rows) verb words t
row_owned [] verb words t (word, rest, u, same, is, (done, never, made)) = absurd never
row_owned (row ∷ rows) verb words t (word, rest, u, same, is, (done, inl (others, so_is, form), made)) =
    inl (words, ap (λ v. v ∷ words) (same_first so_is), (word, rest, u, same, is, (done, subst (λ (w : List (List ℕ)). row.form w done) (sym (same_rest so_is)) form, made)))
row_owned (row ∷ rows) verb words t (word, rest, u, same, is, (done, inr more, made)) = inr (row_owned rows verb words t (word, rest, u, same, is, (done, more, made)))

pub owned_row : (rows : List (Row (Unit {0}))) (verb : List ℕ) (words : List (List ℕ)) (t : ℕ) → Behind (owned rows) verb words t → Owned (Behind rows verb) words t
owned_row [] verb words t never = absurd never
owned_row (row ∷ rows) verb words t (inl (others, so_is, (word, rest, u, same, is, (done, form, made)))) =
    (word, rest, u, same_rest so_is ∙ same, is, (done, inl (rest, ap (λ v. v ∷ rest) (same_first so_is), form), made))
owned_row (row ∷ rows) verb words t (inr more) =
    let (word, rest, u, same, is, (done, form, made)) = owned_row rows verb words t more in
    (word, rest, u, same, is, (done, inr form, made))

-- ---- variables

abbrev no_tid : Tid
no_tid = record { page = 0; slot = 0 }

-- each of these variables stands for an identifier
abbrev idents : List Name → List Variable
idents [] = []
idents (name ∷ names) = record { name = name; meaning = Identifier no_tid } ∷ idents names

abbrev IsIdent : List Name → Name → Type 0
IsIdent names name = meaning_of (idents names) name ≡ Some (Identifier no_tid)

same_bytes : (bytes : List ℕ) → pointwise nat_eq bytes bytes ≡ true
same_bytes bytes = (bytes_decides bytes bytes).1 refl

found : {A : Type 0} (b : Bool) (x y : Option A) → b ≡ true → cond b x y ≡ x
found true x y is = refl
found false x y is = absurd (cc)

either : {A : Type 0} (b : Bool) (x y : Option A) (z : Option A) → x ≡ z → y ≡ z → cond b x y ≡ z
either true x y z one other = one
either false x y z one other = other

ident_here : (name : Name) (names : List Name) → IsIdent (name ∷ names) name
ident_here name names = found (is_named name (record { name = name; meaning = Identifier no_tid })) (Some (Identifier no_tid)) (meaning_of (idents names) name) (same_bytes name.bytes)

ident_more : (others names : List Name) (name : Name) → IsIdent names name → IsIdent (others ++ names) name
ident_more [] names name is = is
ident_more (other ∷ others) names name is =
    either (is_named name (record { name = other; meaning = Identifier no_tid })) (Some (Identifier no_tid)) (meaning_of (idents (others ++ names)) name) (Some (Identifier no_tid)) refl (ident_more others names name is)

-- the variable of a word, if it is one
abbrev tid_names : {word : List ℕ} → IsAnyTid word tt → List Name
tid_names (inl is) = []
tid_names (inr (name, is)) = name ∷ []

tid_in : {word : List ℕ} (any : IsAnyTid word tt) (others names : List Name) → (tid : Tid) × IsTidIn (idents (others ++ (tid_names any ++ names))) word tid
tid_in (inl (tid, is)) others names = (tid, inl is)
tid_in (inr (name, is)) others names = (no_tid, inr (record { name = name; is_variable = is; means = ident_more others (name ∷ names) name (ident_here name names) }))

abbrev number_names : {word : List ℕ} → IsAnyNumber word tt → List Variable
number_names (inl is) = []
number_names (inr (name, is)) = record { name = name; meaning = Number 0 } ∷ []

number_in : {word : List ℕ} (any : IsAnyNumber word tt) → (n : ℕ) × IsNumberIn (number_names any) word n
number_in (inl (n, is)) = (n, inl is)
number_in (inr (name, is)) = (0, inr (record { name = name; is_variable = is; means = found (is_named name (record { name = name; meaning = Number 0 })) (Some (Number 0)) None (same_bytes name.bytes) }))

any_tid : {names : List Variable} {word : List ℕ} {tid : Tid} → IsTidIn names word tid → IsAnyTid word tt
any_tid {tid = tid} (inl is) = inl (tid, is)
any_tid (inr set) = inr (set.name, set.is_variable)

any_number : {names : List Variable} {word : List ℕ} {n : ℕ} → IsNumberIn names word n → IsAnyNumber word tt
any_number {n = n} (inl is) = inl (n, is)
any_number (inr set) = inr (set.name, set.is_variable)

-- ---- values

are_values : (words : List (List ℕ)) (done : List (Unit {0})) → StandFor IsAnyValue words done → (values : List Value) × AreValues words values
are_values [] [] are = ([], tt)
are_values [] (d ∷ done) are = absurd are
are_values (word ∷ words) [] are = absurd are
are_values (word ∷ words) (d ∷ done) ((value, is), are) = let (values, more) = are_values words done are in (value ∷ values, (is, more))

any_values : (words : List (List ℕ)) (values : List Value) → AreValues words values → AreAnyValues words tt
any_values [] [] are = ([], tt)
any_values [] (value ∷ values) are = absurd are
any_values (word ∷ words) [] are = absurd are
any_values (word ∷ words) (value ∷ values) (is, are) = let (done, more) = any_values words values are in (tt ∷ done, ((value, is), more))

-- ---- a call has an owner

none_some : {t : ℕ} → None ≡ Some t → ⊥
none_some e = cc

-- whose call it is, where it is made of a transaction
whose : {call made : Call} {t u : ℕ} → call ≡ made → caller made ≡ Some u → caller call ≡ Some t → t ≡ u
whose is so has = cc (ap caller is, so, has)

nobodys : {call made : Call} {t : ℕ} → call ≡ made → caller made ≡ None → caller call ≡ Some t → ⊥
nobodys is so has = cc (ap caller is, so, has)

-- behind this word, what spells a call of a transaction has it as its owner
abbrev HasIts : Row Call → Type 0
HasIts row = (words : List (List ℕ)) (call : Call) (t : ℕ) → row.form words call → caller call ≡ Some t → Behind (owned arguments) row.word words t

abbrev EachHasIts : List (Row Call) → Type 0
EachHasIts [] = ⊤
EachHasIts (row ∷ rows) = HasIts row × EachHasIts rows

owner_of : (rows : List (Row Call)) → EachHasIts rows → (words : List (List ℕ)) (call : Call) (t : ℕ) → OneOf rows words call → caller call ≡ Some t → OneOf (owned arguments) words t
owner_of [] each words call t never its = absurd never
owner_of (row ∷ rows) each words call t (inl (rest, same, form)) its = subst (λ (w : List (List ℕ)). OneOf (owned arguments) w t) (sym same) (each.0 rest call t form its)
owner_of (row ∷ rows) each words call t (inr more) its = owner_of rows each.1 words call t more its

-- the arguments of this word have this form
one_row : (verb : List ℕ) (Form : List (List ℕ) → Unit {0} → Type 0) → ((words : List (List ℕ)) (done : Unit {0}) → Form words done → chosen arguments verb words done)
    → (words : List (List ℕ)) (t : ℕ) → Owned Form words t → Behind (owned arguments) verb words t
one_row verb Form to words t (word, rest, u, same, is, (done, form, made)) =
    row_owned arguments verb words t (word, rest, u, same, is, (done, unchoose arguments verb rest done (to rest done form), made))

-- a transaction, and then what is spelled of arguments
module _ {words : List (List ℕ)} {call : Call} {t : ℕ} (its : caller call ≡ Some t) where
  ordered_its : (make : ℕ → Call) → ((u : ℕ) → caller (make u) ≡ Some u) → Ordered make words call → Owned (Last tt) words t
  ordered_its make so (word, rest, u, same, is, (over, made)) = (word, rest, u, same, is, (tt, (over, refl), whose made (so u) its))

  numbered_its : (names : List Variable) (make : ℕ → ℕ → Call) → ((u n : ℕ) → caller (make u n) ≡ Some u) → Numbered names make words call → Owned AnyNumbered words t
  numbered_its names make so (word, rest, u, same, is, (next, left, n, so_is, number, (over, made))) =
      (word, rest, u, same, is, (tt, (next, left, tt, so_is, any_number number, (over, refl)), whose made (so u n) its))

  tuple_its : (names : List Variable) (make : ℕ → Name → Tid → Call) → ((u : ℕ) (name : Name) (tid : Tid) → caller (make u name tid) ≡ Some u) → OnTuple names make words call → Owned OnAnyTuple words t
  tuple_its names make so (word, rest, u, same, is, (second, behind, name, so_is, named, (third, left, tid, so_too, has, (over, made)))) =
      (word, rest, u, same, is, (tt, (second, behind, name, so_is, named, (third, left, tt, so_too, any_tid has, (over, refl))), whose made (so u name tid) its))

  insert_its : InsertForm words call → Owned AnyInsert words t
  insert_its (word, rest, u, same, is, (second, behind, name, so_is, named, (values, are, made))) =
      (word, rest, u, same, is, (tt, (second, behind, name, so_is, named, any_values behind values are), whose made refl its))

  update_its : (names : List Variable) → UpdateForm names words call → Owned AnyUpdate words t
  update_its names (word, rest, u, same, is, (second, behind, name, so_is, named, (third, left, tid, so_too, has, (values, are, made)))) =
      (word, rest, u, same, is, (tt, (second, behind, name, so_is, named, (third, left, tt, so_too, any_tid has, any_values left values are)), whose made refl its))

spot_its : (names : List Variable) (words : List (List ℕ)) (spot : Spot) → OneOf (spots names) words spot → OneOf any_spots words tt
spot_its names words spot (inl (rest, same, (over, made))) = inl (rest, same, (over, refl))
spot_its names words spot (inr (inl (rest, same, (over, made)))) = inr (inl (rest, same, (over, refl)))
spot_its names words spot (inr (inr (inl (rest, same, (word, left, tid, so_is, has, (over, made)))))) = inr (inr (inl (rest, same, (word, left, tt, so_is, any_tid has, (over, refl)))))
spot_its names words spot (inr (inr (inr never))) = absurd never

place_its : (names : List Variable) (words : List (List ℕ)) (place : Option Tid × Spot) → PlaceForm names words place → AnyPlace words tt
place_its names words place (inl (spot, form, made)) = inl (spot_its names words spot form)
place_its names words place (inr (word, rest, parent, same, has, (spot, form, made))) = inr (word, rest, tt, same, any_tid has, spot_its names rest spot form)

connect_its : {words : List (List ℕ)} {call : Call} {t : ℕ} → caller call ≡ Some t → (names : List Variable) → ConnectForm names words call → Owned AnyConnect words t
connect_its its names (word, rest, u, same, is, (second, behind, name, so_is, named, (third, left, child, so_too, has, (place, form, made)))) =
    (word, rest, u, same, is, (tt, (second, behind, name, so_is, named, (third, left, tt, so_too, any_tid has, place_its names left place form)), whose made refl its))

scan_its : (names : List Variable) (u : ℕ) (words : List (List ℕ)) (call : Call) → OneOf (scans names u) words call → OneOf any_scans words tt × (caller call ≡ Some u)
scan_its names u words call (inl (rest, same, (word, left, name, so_is, named, (over, made)))) = (inl (rest, same, (word, left, name, so_is, named, (over, refl))), ap caller made)
scan_its names u words call (inr (inl (rest, same, (word, left, image, so_is, named, inl (over, made))))) = (inr (inl (rest, same, (word, left, image, so_is, named, inl (over, refl)))), ap caller made)
scan_its names u words call (inr (inl (rest, same, (word, left, image, so_is, named, inr (behind, from, (values, are, made)))))) =
    (inr (inl (rest, same, (word, left, image, so_is, named, inr (behind, from, any_values behind values are)))), ap caller made)
scan_its names u words call (inr (inr (inl (rest, same, (word, left, link, so_is, named, inl (over, made)))))) = (inr (inr (inl (rest, same, (word, left, link, so_is, named, inl (over, refl))))), ap caller made)
scan_its names u words call (inr (inr (inl (rest, same, (word, left, link, so_is, named, inr (next, behind, parent, so_too, has, (over, made))))))) =
    (inr (inr (inl (rest, same, (word, left, link, so_is, named, inr (next, behind, tt, so_too, any_tid has, (over, refl)))))), ap caller made)
scan_its names u words call (inr (inr (inr never))) = absurd never

lock_its : (u : ℕ) (words : List (List ℕ)) (call : Call) → OneOf (locks u) words call → OneOf any_locks words tt × (caller call ≡ Some u)
lock_its u words call (inl (rest, same, (word, left, name, so_is, named, (next, behind, mode, so_too, has, (over, made))))) =
    (inl (rest, same, (word, left, name, so_is, named, (next, behind, mode, so_too, has, (over, refl)))), ap caller made)
lock_its u words call (inr (inl (rest, same, (word, left, name, so_is, named, (next, behind, mode, so_too, has, (over, made)))))) =
    (inr (inl (rest, same, (word, left, name, so_is, named, (next, behind, mode, so_too, has, (over, refl))))), ap caller made)
lock_its u words call (inr (inr never)) = absurd never

-- a choice behind the transaction
choice_its : {Calls : ℕ → List (List ℕ) → Call → Type 0} {Any : List (List ℕ) → Unit {0} → Type 0} → ((u : ℕ) (words : List (List ℕ)) (call : Call) → Calls u words call → Any words tt × (caller call ≡ Some u))
    → {words : List (List ℕ)} {call : Call} {t : ℕ} → caller call ≡ Some t → Word IsTransaction Calls words call → Owned Any words t
choice_its to {call = call} its (word, rest, u, same, is, form) = let both = to u rest call form in (word, rest, u, same, is, (tt, both.0, whose refl both.1 its))

-- ---- a definition has none

named_no : (make : Name → Call) → ((name : Name) → caller (make name) ≡ None) → (words : List (List ℕ)) (call : Call) (t : ℕ) → Named make words call → caller call ≡ Some t → ⊥
named_no make none words call t (word, rest, name, same, is, (over, made)) its = nobodys made (none name) its

defined_no : {T : Type 0} (Are : List (List ℕ) → T → Type 0) (make : Name → Name → T → Call) → ((name whole : Name) (x : T) → caller (make name whole x) ≡ None)
    → (words : List (List ℕ)) (call : Call) (t : ℕ) → DefinedOf Are make words call → caller call ≡ Some t → ⊥
defined_no Are make none words call t (word, rest, name, same, is, (second, behind, whole, so_is, has, (x, are, made))) its = nobodys made (none name whole x) its

link_no : (words : List (List ℕ)) (call : Call) (t : ℕ) → LinkForm words call → caller call ≡ Some t → ⊥
link_no words call t (word, rest, name, same, is, (second, behind, relation, so_is, has, inl (over, made))) its = nobodys made refl its
link_no words call t (word, rest, name, same, is, (second, behind, relation, so_is, has, inr form)) its = named_no (MakeLink name (Some relation)) (λ child. refl) behind call t form its

drop_no : (words : List (List ℕ)) (call : Call) (t : ℕ) → OneOf drops words call → caller call ≡ Some t → ⊥
drop_no words call t (inl (rest, same, form)) its = named_no DropSegment (λ name. refl) rest call t form its
drop_no words call t (inr (inl (rest, same, form))) its = named_no DropRelation (λ name. refl) rest call t form its
drop_no words call t (inr (inr (inl (rest, same, form)))) its = named_no DropImage (λ name. refl) rest call t form its
drop_no words call t (inr (inr (inr (inl (rest, same, form))))) its = named_no DropLink (λ name. refl) rest call t form its
drop_no words call t (inr (inr (inr (inr never)))) its = never

checkpoint_no : (words : List (List ℕ)) (call : Call) (t : ℕ) → Last Checkpoint words call → caller call ≡ Some t → ⊥
checkpoint_no words call t (over, made) its = nobodys made refl its

-- ---- the table of all calls

module _ (names : List Variable) where
  calls_its : EachHasIts (calls names)
  unfolding calls arguments
  calls_its = (
    λ words call t form its. absurd (named_no MakeSegment (λ name. refl) words call t form its),
    (
      λ words call t form its. absurd (defined_no AreFieldWords MakeRelation (λ name whole x. refl) words call t form its),
      (
        λ words call t form its. absurd (defined_no AreNames (λ name relation. MakeImage name relation false) (λ name whole x. refl) words call t form its),
        (
          λ words call t form its. absurd (defined_no AreNames (λ name relation. MakeImage name relation true) (λ name whole x. refl) words call t form its),
          (
            λ words call t form its. absurd (link_no words call t form its),
            (
              λ words call t form its. absurd (drop_no words call t form its),
              (
                λ words call t form its. one_row (codes "begin") (Last tt) (λ w d f. inl f) words t (ordered_its its Begin (λ u. refl) form),
                (
                  λ words call t form its. one_row (codes "save") (Last tt) (λ w d f. inl f) words t (ordered_its its Save (λ u. refl) form),
                  (
                    λ words call t form its. one_row (codes "restore") AnyNumbered (λ w d f. inl f) words t (numbered_its its names Restore (λ u n. refl) form),
                    (
                      λ words call t form its. one_row (codes "end") (Last tt) (λ w d f. inl f) words t (ordered_its its End (λ u. refl) form),
                      (
                        λ words call t form its. one_row (codes "abort") (Last tt) (λ w d f. inl f) words t (ordered_its its Abort (λ u. refl) form),
                        (
                          λ words call t form its. absurd (checkpoint_no words call t form its),
                          (
                            λ words call t form its. one_row (codes "insert") AnyInsert (λ w d f. inl f) words t (insert_its its form),
                            (
                              λ words call t form its. one_row (codes "fetch") OnAnyTuple (λ w d f. inl f) words t (tuple_its its names Fetch (λ u name tid. refl) form),
                              (
                                λ words call t form its. one_row (codes "update") AnyUpdate (λ w d f. inl f) words t (update_its its names form),
                                (
                                  λ words call t form its. one_row (codes "delete") OnAnyTuple (λ w d f. inl f) words t (tuple_its its names Delete (λ u name tid. refl) form),
                                  (
                                    λ words call t form its. one_row (codes "connect") AnyConnect (λ w d f. inl f) words t (connect_its its names form),
                                    (
                                      λ words call t form its. one_row (codes "disconnect") OnAnyTuple (λ w d f. inl f) words t (tuple_its its names Disconnect (λ u name tid. refl) form),
                                      (
                                        λ words call t form its. one_row (codes "parent") OnAnyTuple (λ w d f. inl f) words t (tuple_its its names Parent (λ u name tid. refl) form),
                                        (
                                          λ words call t form its. one_row (codes "open") (OneOf any_scans) (λ w d f. inl f) words t (choice_its (scan_its names) its form),
                                          (
                                            λ words call t form its. one_row (codes "next") AnyNumbered (λ w d f. inl f) words t (numbered_its its names Next (λ u n. refl) form),
                                            (
                                              λ words call t form its. one_row (codes "close") AnyNumbered (λ w d f. inl f) words t (numbered_its its names CloseScan (λ u n. refl) form),
                                              (λ words call t form its. one_row (codes "lock") (OneOf any_locks) (λ w d f. inl f) words t (choice_its lock_its its form), tt),
                                            ),
                                          ),
                                        ),
                                      ),
                                    ),
                                  ),
                                ),
                              ),
                            ),
                          ),
                        ),
                      ),
                    ),
                  ),
                ),
              ),
            ),
          ),
        ),
      ),
    ),
  )

  -- a line that is a call of a transaction has it so_is its owner
  pub line_owned : (words : List (List ℕ)) (variable : Option Name) (call : Call) (t : ℕ) → IsStatement names words (variable, call) → caller call ≡ Some t → HasOwner words t
  line_owned words variable call t (inl (made, form, same)) its =
      inl (owner_of (calls names) calls_its words made t form (sym (ap (λ (x : Option Name × Call). caller x.1) same) ∙ its))
  line_owned words variable call t (inr (word, rest, name, same, is, (left, so_is, (made, form, so)))) its =
      inr (word, rest, name, same, is, (left, so_is, owner_of (calls names) calls_its left made t form (sym (ap (λ (x : Option Name × Call). caller x.1) so) ∙ its)))

-- ---- an owner has a call

-- under some variables it is a call of the transaction
abbrev HasCall : List (List ℕ) → ℕ → Type 0
HasCall words t = (names : List Variable) × (call : Call) × OneOf (calls names) words call × (caller call ≡ Some t)

abbrev EachHasCall : List (Row (Unit {0})) → Type 0
EachHasCall [] = ⊤
EachHasCall (row ∷ rows) = ((words : List (List ℕ)) (t : ℕ) → Owned row.form words t → HasCall (row.word ∷ words) t) × EachHasCall rows

call_of : (rows : List (Row (Unit {0}))) → EachHasCall rows → (words : List (List ℕ)) (t : ℕ) → OneOf (owned rows) words t → HasCall words t
call_of [] each words t never = absurd never
call_of (row ∷ rows) each words t (inl (rest, same, form)) = subst (λ (w : List (List ℕ)). HasCall w t) (sym same) (each.0 rest t form)
call_of (row ∷ rows) each words t (inr more) = call_of rows each.1 words t more

-- the call of this word
the_call : (names : List Variable) (verb : List ℕ) (words : List (List ℕ)) (call : Call) (t u : ℕ) → chosen (calls names) verb words call → caller call ≡ Some u → t ≡ u → HasCall (verb ∷ words) t
the_call names verb words call t u form its made = (names, call, unchoose (calls names) verb words call form, its ∙ ap Some (sym made))

-- where a tuple is put
abbrev spot_names : (words : List (List ℕ)) (done : Unit {0}) → OneOf any_spots words done → List Name
spot_names words done (inl form) = []
spot_names words done (inr (inl form)) = []
spot_names words done (inr (inr (inl (rest, same, (word, left, x, so_is, has, over))))) = tid_names has
spot_names words done (inr (inr (inr never))) = []

spot_in : (words : List (List ℕ)) (done : Unit {0}) (form : OneOf any_spots words done) (others : List Name) → (spot : Spot) × OneOf (spots (idents (others ++ (spot_names words done form ++ [])))) words spot
spot_in words done (inl (rest, same, (over, made))) others = (First, inl (rest, same, (over, refl)))
spot_in words done (inr (inl (rest, same, (over, made)))) others = (LastOne, inr (inl (rest, same, (over, refl))))
spot_in words done (inr (inr (inl (rest, same, (word, left, x, so_is, has, (over, made)))))) others =
    let (tid, is) = tid_in has others [] in (After tid, inr (inr (inl (rest, same, (word, left, tid, so_is, is, (over, refl))))))
spot_in words done (inr (inr (inr never))) others = absurd never

abbrev place_names : (words : List (List ℕ)) (done : Unit {0}) → AnyPlace words done → List Name
place_names words done (inl form) = spot_names words done form ++ []
place_names words done (inr (word, rest, x, same, has, form)) = tid_names has ++ (spot_names rest done form ++ [])

place_in : (words : List (List ℕ)) (done : Unit {0}) (form : AnyPlace words done) (others : List Name) → (place : Option Tid × Spot) × PlaceForm (idents (others ++ place_names words done form)) words place
place_in words done (inl form) others = let (spot, is) = spot_in words done form others in ((None, spot), inl (spot, is, refl))
place_in words done (inr (word, rest, x, same, has, form)) others =
    let (parent, is) = tid_in has others (spot_names rest done form ++ []) in
    let (spot, at) = spot_in rest done form (others ++ tid_names has) in
    ((Some parent, spot), inr (word, rest, parent, same, is, (spot, subst (λ (ns : List Name). OneOf (spots (idents ns)) rest spot) (append_assoc others (tid_names has) (spot_names rest done form ++ [])) at, refl)))

-- ---- each row

ordered_call : (verb : List ℕ) (make : ℕ → Call) → ((words : List (List ℕ)) (call : Call) → Ordered make words call → chosen (calls []) verb words call) → ((u : ℕ) → caller (make u) ≡ Some u)
    → (words : List (List ℕ)) (t : ℕ) → Owned (Last tt) words t → HasCall (verb ∷ words) t
ordered_call verb make to so words t (word, rest, u, same, is, (done, (over, x), made)) = the_call [] verb words (make u) t u (to words (make u) (word, rest, u, same, is, (over, refl))) (so u) made

numbered_call : (verb : List ℕ) (make : ℕ → ℕ → Call) → ((names : List Variable) (words : List (List ℕ)) (call : Call) → Numbered names make words call → chosen (calls names) verb words call) → ((u n : ℕ) → caller (make u n) ≡ Some u)
    → (words : List (List ℕ)) (t : ℕ) → Owned AnyNumbered words t → HasCall (verb ∷ words) t
numbered_call verb make to so words t (word, rest, u, same, is, (done, (next, left, x, so_is, has, (over, y)), made)) =
    let (n, number) = number_in has in
    the_call (number_names has) verb words (make u n) t u (to (number_names has) words (make u n) (word, rest, u, same, is, (next, left, n, so_is, number, (over, refl)))) (so u n) made

tuple_call : (verb : List ℕ) (make : ℕ → Name → Tid → Call) → ((names : List Variable) (words : List (List ℕ)) (call : Call) → OnTuple names make words call → chosen (calls names) verb words call)
    → ((u : ℕ) (name : Name) (tid : Tid) → caller (make u name tid) ≡ Some u) → (words : List (List ℕ)) (t : ℕ) → Owned OnAnyTuple words t → HasCall (verb ∷ words) t
tuple_call verb make to so words t (word, rest, u, same, is, (done, (second, behind, name, so_is, named, (third, left, x, so_too, has, (over, y))), made)) =
    let (tid, at) = tid_in has [] [] in
    let names = idents (tid_names has ++ []) in
    the_call names verb words (make u name tid) t u (to names words (make u name tid) (word, rest, u, same, is, (second, behind, name, so_is, named, (third, left, tid, so_too, at, (over, refl))))) (so u name tid) made

insert_call : (words : List (List ℕ)) (t : ℕ) → Owned AnyInsert words t → HasCall (codes "insert" ∷ words) t
unfolding calls
insert_call words t (word, rest, u, same, is, (done, (second, behind, name, so_is, named, (units, are)), made)) =
    let (values, so) = are_values behind units are in
    the_call [] (codes "insert") words (Insert u name values) t u (inl (word, rest, u, same, is, (second, behind, name, so_is, named, (values, so, refl)))) refl made

update_call : (words : List (List ℕ)) (t : ℕ) → Owned AnyUpdate words t → HasCall (codes "update" ∷ words) t
unfolding calls
update_call words t (word, rest, u, same, is, (done, (second, behind, name, so_is, named, (third, left, x, so_too, has, (units, are))), made)) =
    let (values, so) = are_values left units are in
    let (tid, at) = tid_in has [] [] in
    the_call (idents (tid_names has ++ [])) (codes "update") words (Update u name tid values) t u (inl (word, rest, u, same, is, (second, behind, name, so_is, named, (third, left, tid, so_too, at, (values, so, refl))))) refl made

connect_call : (words : List (List ℕ)) (t : ℕ) → Owned AnyConnect words t → HasCall (codes "connect" ∷ words) t
unfolding calls
connect_call words t (word, rest, u, same, is, (done, (second, behind, name, so_is, named, (third, left, x, so_too, has, form)), made)) =
    let others = place_names left done form in
    let (child, at) = tid_in has [] others in
    let (place, placed) = place_in left done form (tid_names has) in
    the_call (idents (tid_names has ++ others)) (codes "connect") words (Connect u name child place.0 place.1) t u
    (inl (word, rest, u, same, is, (second, behind, name, so_is, named, (third, left, child, so_too, at, (place, placed, refl))))) refl made

scan_call : (u : ℕ) (words : List (List ℕ)) (done : Unit {0}) → OneOf any_scans words done → (names : List Variable) × (call : Call) × OneOf (scans names u) words call × (caller call ≡ Some u)
scan_call u words done (inl (rest, same, (word, left, name, so_is, named, (over, made)))) = ([], OpenRelation u name, inl (rest, same, (word, left, name, so_is, named, (over, refl))), refl)
scan_call u words done (inr (inl (rest, same, (word, left, image, so_is, named, inl (over, made))))) = ([], OpenImage u image None, inr (inl (rest, same, (word, left, image, so_is, named, inl (over, refl)))), refl)
scan_call u words done (inr (inl (rest, same, (word, left, image, so_is, named, inr (behind, from, (units, are)))))) =
    let (values, so) = are_values behind units are in
    ([], OpenImage u image (Some values), inr (inl (rest, same, (word, left, image, so_is, named, inr (behind, from, (values, so, refl))))), refl)
scan_call u words done (inr (inr (inl (rest, same, (word, left, link, so_is, named, inl (over, made)))))) = ([], OpenLink u link None, inr (inr (inl (rest, same, (word, left, link, so_is, named, inl (over, refl))))), refl)
scan_call u words done (inr (inr (inl (rest, same, (word, left, link, so_is, named, inr (next, behind, x, so_too, has, (over, made))))))) =
    let (parent, at) = tid_in has [] [] in
    (idents (tid_names has ++ []), OpenLink u link (Some parent), inr (inr (inl (rest, same, (word, left, link, so_is, named, inr (next, behind, parent, so_too, at, (over, refl)))))), refl)
scan_call u words done (inr (inr (inr never))) = absurd never

open_call : (words : List (List ℕ)) (t : ℕ) → Owned (OneOf any_scans) words t → HasCall (codes "open" ∷ words) t
unfolding calls
open_call words t (word, rest, u, same, is, (done, form, made)) =
    let (names, call, one, its) = scan_call u rest done form in
    the_call names (codes "open") words call t u (inl (word, rest, u, same, is, one)) its made

lock_call : (u : ℕ) (words : List (List ℕ)) (done : Unit {0}) → OneOf any_locks words done → (call : Call) × OneOf (locks u) words call × (caller call ≡ Some u)
lock_call u words done (inl (rest, same, (word, left, name, so_is, named, (next, behind, mode, so_too, has, (over, made))))) =
    (Lock u (Segment name) mode, inl (rest, same, (word, left, name, so_is, named, (next, behind, mode, so_too, has, (over, refl)))), refl)
lock_call u words done (inr (inl (rest, same, (word, left, name, so_is, named, (next, behind, mode, so_too, has, (over, made)))))) =
    (Lock u (Relation name) mode, inr (inl (rest, same, (word, left, name, so_is, named, (next, behind, mode, so_too, has, (over, refl))))), refl)
lock_call u words done (inr (inr never)) = absurd never

item_call : (words : List (List ℕ)) (t : ℕ) → Owned (OneOf any_locks) words t → HasCall (codes "lock" ∷ words) t
unfolding calls
item_call words t (word, rest, u, same, is, (done, form, made)) =
    let (call, one, its) = lock_call u rest done form in
    the_call [] (codes "lock") words call t u (inl (word, rest, u, same, is, one)) its made

arguments_call : EachHasCall arguments
unfolding calls arguments
arguments_call = (
  ordered_call (codes "begin") Begin (λ w c f. inl f) (λ u. refl),
  (
    ordered_call (codes "save") Save (λ w c f. inl f) (λ u. refl),
    (
      numbered_call (codes "restore") Restore (λ names w c f. inl f) (λ u n. refl),
      (
        ordered_call (codes "end") End (λ w c f. inl f) (λ u. refl),
        (
          ordered_call (codes "abort") Abort (λ w c f. inl f) (λ u. refl),
          (
            insert_call,
            (
              tuple_call (codes "fetch") Fetch (λ names w c f. inl f) (λ u name tid. refl),
              (
                update_call,
                (
                  tuple_call (codes "delete") Delete (λ names w c f. inl f) (λ u name tid. refl),
                  (
                    connect_call,
                    (
                      tuple_call (codes "disconnect") Disconnect (λ names w c f. inl f) (λ u name tid. refl),
                      (
                        tuple_call (codes "parent") Parent (λ names w c f. inl f) (λ u name tid. refl),
                        (
                          open_call,
                          (
                            numbered_call (codes "next") Next (λ names w c f. inl f) (λ u n. refl),
                            (
                              numbered_call (codes "close") CloseScan (λ names w c f. inl f) (λ u n. refl),
                              (item_call, tt),
                            ),
                          ),
                        ),
                      ),
                    ),
                  ),
                ),
              ),
            ),
          ),
        ),
      ),
    ),
  ),
)

-- words with an owner are a call of it
pub owned_line : {line : List ℕ} {words : List (List ℕ)} {t : ℕ} → IsShortLine line → HasWords line words → HasOwner words t → IsOwnedBy t line
owned_line {words = words} {t = t} short has (inl form) =
    let (names, call, one, its) = call_of arguments arguments_call words t form in
    (names, None, call, record { words = words; spaced = has; says = inl (call, one, refl); short = short }, its)
owned_line {words = words} {t = t} short has (inr (word, rest, name, same, is, (left, so_is, form))) =
    let (names, call, one, its) = call_of arguments arguments_call left t form in
    (names, Some name, call, record { words = words; spaced = has; says = inr (word, rest, name, same, is, (left, so_is, (call, one, refl))); short = short }, its)

-- ---- what is read of a line

module _ {line : List ℕ} where
  pub owner_owned : (read : Result ℕ LineFault) {found : Option ℕ} → found ≡ result_ok read → IsShortLine line → ReadsWords HasOwner line read → IfSome found (λ t. IsOwnedBy t line)
  owner_owned (Ok t) is short reads =
      let (words, has, form) = reads.ok in
      subst (λ (found : Option ℕ). IfSome found (λ t. IsOwnedBy t line)) (sym is) (owned_line short has form)
  owner_owned (Err fault) is short reads = subst (λ (found : Option ℕ). IfSome found (λ t. IsOwnedBy t line)) (sym is) tt

  pub owner_only : (read : Result ℕ LineFault) {found : Option ℕ} → found ≡ result_ok read → NeedsNoMemory read → ReadsWords HasOwner line read → (t : ℕ) → IsOwnedBy t line → found ≡ Some t
  owner_only (Ok u) is memory reads t (names, variable, call, spells, its) =
      is ∙ ap Some (reads.all spells.words t spells.spaced (line_owned names spells.words variable call t spells.says its)).0
  owner_only (Err fault) is memory reads t (names, variable, call, spells, its) =
      absurd (memory (ap Err (reads.all spells.words t spells.spaced (line_owned names spells.words variable call t spells.says its))))
