-- What a line is to define has a name, the engine makes its call, and it locks a segment or a relation.
use Rattle.std.proofs.Common.{inl, inr, ⊎_elim, ℕ, List, [], ◌∷◌, Option, ap, sym, subst}
use Rattle.std.specs.Prelude.{All, ⊤}
use Rattle.std.proofs.lemmas.List.Elements.{All-nil, All-cons}
use Rattle.rss_base.specs.declared.name.Name.{Name}
use Rattle.rss_base.specs.declared.field.FieldDef.{FieldDef}
use Rattle.rss_base.specs.declared.call.Call.{Call}
use Rattle.rss_base.specs.Names.{IsName}
use Rattle.rss_base.specs.TupleTypes.{field_names}
use Rattle.rss_model.specs.Defining.{DefinesNames, LocksGranule}
use Rattle.rss_model.specs.Variables.{Variable}
use Rattle.rss_model.specs.Script.{IsField, StandFor}
use Rattle.rss_base.specs.declared.call.Call.TheVariants.{MakeRelation}
use Rattle.rss_model.specs.Script.{IsNameWord, AreFieldWords}
use Rattle.rss_model.specs.Forms.{Row, Last, Word, Fixed, Rest, Either, OneOf, DefinedOf, calls, IsStatement, Spells}

-- such a call may be asked of an engine
abbrev IsAskable : Call → Type 0
IsAskable call = DefinesNames call × LocksGranule call

-- the form has such calls alone
record Asks (Form : List (List ℕ) → Call → Type 0) : Type 0 where
  ask : (words : List (List ℕ)) (call : Call) → Form words call → IsAskable call

asks_last : {made : Call} → DefinesNames made → LocksGranule made → Asks (Last made)
asks_last names granule = record { ask = λ words call form. subst IsAskable (sym form.1) (names, granule) }

asks_word : {T : Type 0} {Is : List ℕ → T → Type 0} {After : T → List (List ℕ) → Call → Type 0} → ((word : List ℕ) (y : T) → Is word y → Asks (After y)) → Asks (Word Is After)
asks_word to = record { ask = λ words call (word, rest, y, same, is, after). (to word y is).ask rest call after }

-- a name is one, by its word
asks_name : {After : Name → List (List ℕ) → Call → Type 0} → ((name : Name) → IsName name → Asks (After name)) → Asks (Word IsNameWord After)
asks_name to = record { ask = λ words call (word, rest, name, same, is, after). (to name is.is_name).ask rest call after }

asks_fixed : {After : List (List ℕ) → Call → Type 0} (expected : List ℕ) → Asks After → Asks (Fixed expected After)
asks_fixed expected to = record { ask = λ words call (rest, same, after). to.ask rest call after }

asks_rest : {T : Type 0} {Are : List (List ℕ) → T → Type 0} {make : T → Call} → ((words : List (List ℕ)) (y : T) → Are words y → DefinesNames (make y)) → ((y : T) → LocksGranule (make y)) → Asks (Rest Are make)
asks_rest names granule = record { ask = λ words call (y, are, same). subst IsAskable (sym same) (names words y are, granule y) }

asks_either : {One Other : List (List ℕ) → Call → Type 0} → Asks One → Asks Other → Asks (Either One Other)
asks_either one other = record { ask = λ words call form. ⊎_elim (one.ask words call) (other.ask words call) form }

asks_none : Asks (OneOf [])
asks_none = record { ask = λ words call form. absurd form }

abbrev AsksEach : List (Row Call) → Type 0
AsksEach [] = ⊤
AsksEach (row ∷ rows) = Asks row.form × AsksEach rows

asks_rows : (rows : List (Row Call)) → AsksEach rows → Asks (OneOf rows)
asks_rows [] each = asks_none
asks_rows (row ∷ rows) each = asks_either (asks_fixed row.word each.0) (asks_rows rows each.1)

-- ---- the table

fields_named : (words : List (List ℕ)) (fields : List FieldDef) → StandFor IsField words fields → All IsName (field_names fields)
fields_named [] [] are = All-nil IsName
fields_named [] (field ∷ fields) are = absurd are
fields_named (word ∷ words) [] are = absurd are
fields_named (word ∷ words) (field ∷ fields) (is, are) = All-cons IsName field.name (field_names fields) is.is_name (fields_named words fields are)

-- the one form with names behind its own
asks_relation : Asks (DefinedOf AreFieldWords MakeRelation)
asks_relation = asks_name (λ name is. asks_name (λ segment at. asks_rest (λ words fields are. (is, fields_named words fields are.each)) (λ fields. tt)))

calls_ask : (names : List Variable) → AsksEach (calls names)
unfolding calls
calls_ask names = search (asks_last, asks_name, asks_word, asks_fixed, asks_rest, asks_either, asks_none, asks_relation, tt {0}) depth 12 parts 40

asked : {names : List Variable} {line : List ℕ} {variable : Option Name} {call : Call} → Spells names line variable call → IsAskable call
asked {names = names} {variable = variable} {call = call} spells = cases spells.words spells.says
  where
    cases : (words : List (List ℕ)) → IsStatement names words (variable, call) → IsAskable call
    cases words (inl (made, form, same)) = subst IsAskable (sym (ap (λ (x : Option Name × Call). x.1) same)) ((asks_rows (calls names) (calls_ask names)).ask words made form)
    cases words (inr (word, rest, name, begins, is, (after, equals, (made, form, same)))) = subst IsAskable (sym (ap (λ (x : Option Name × Call). x.1) same)) ((asks_rows (calls names) (calls_ask names)).ask after made form)

-- a call that a line spells defines nothing but by names
pub spelled_defines_names : {names : List Variable} {line : List ℕ} {variable : Option Name} {call : Call} → Spells names line variable call → DefinesNames call
spelled_defines_names spells = (asked spells).0

-- and locks nothing but a segment or a relation
pub spelled_granule : {names : List Variable} {line : List ℕ} {variable : Option Name} {call : Call} → Spells names line variable call → LocksGranule call
spelled_granule spells = (asked spells).1
