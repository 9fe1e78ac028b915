-- How calls of a source or a sink follow one another.
use Rattle.std.proofs.Common.{◌≡◌, ℕ, ◌+◌, ◌-◌, length, List, [], ◌++◌, take, drop, Option, Some, refl, sym, ◌∙◌, ap, subst, append_assoc}
use Rattle.std.proofs.lemmas.List.{append-nil, take_rest}
use Rattle.std.proofs.Math.Seq.{take-add}
use Rattle.rss_base.specs.Streams.{Gives, Takes, TakesSome, TakesLast}

pub takes_none : (told : Option (List ℕ)) → Takes told [] told
takes_none told = record { appends = λ all is. is ∙ ap Some (sym (append-nil all)) }

pub takes_then : (old mid new : Option (List ℕ)) (first second : List ℕ) → Takes old first mid → Takes mid second new → Takes old (first ++ second) new
takes_then old mid new first second a b = record { appends = λ all is. b.appends (all ++ first) (a.appends all is) ∙ ap Some (append_assoc all first second) }

pub some_none : (told : Option (List ℕ)) → TakesSome told told
some_none told = record { said = []; takes = takes_none told }

pub some_then : {old mid new : Option (List ℕ)} → TakesSome old mid → TakesSome mid new → TakesSome old new
some_then {old = old} {mid = mid} {new = new} first second = record { said = first.said ++ second.said; takes = takes_then old mid new first.said second.said first.takes second.takes }

pub some_last : {old mid new : Option (List ℕ)} {bytes : List ℕ} → TakesSome old mid → Takes mid bytes new → TakesLast old bytes new
some_last {old = old} {mid = mid} {new = new} {bytes = bytes} first last = record { before = first.said; takes = takes_then old mid new first.said bytes first.takes last }

-- a call that takes nothing adds nothing
pub takes_kept : (old mid new : Option (List ℕ)) (bytes : List ℕ) → Takes old bytes mid → Takes mid [] new → Takes old bytes new
takes_kept old mid new bytes first none = subst (λ (l : List ℕ). Takes old l new) (append-nil bytes) (takes_then old mid new bytes [] first none)

pub gives_none : (told : Option (List ℕ)) → Gives told [] told
gives_none told = record { moves = λ all is. (all, is, refl) }

pub gives_then : (old mid new : Option (List ℕ)) (first second : List ℕ) → Gives old first mid → Gives mid second new → Gives old (first ++ second) new
gives_then old mid new first second a b = record {
  moves = λ all is.
      let one = a.moves all is in
      let two = b.moves one.0 one.1 in
      (two.0, two.1, one.2 ∙ ap (λ (l : List ℕ). first ++ l) two.2 ∙ sym (append_assoc first second two.0));
}

-- a call that gives nothing leaves what is left
pub gives_kept : (old mid new : Option (List ℕ)) (bytes : List ℕ) → Gives old bytes mid → Gives mid [] new → Gives old bytes new
gives_kept old mid new bytes first none = subst (λ (l : List ℕ). Gives old l new) (append-nil bytes) (gives_then old mid new bytes [] first none)

-- the next bytes of a text of which the front was taken
pub takes_more : (old mid new : Option (List ℕ)) (bytes : List ℕ) (done more : ℕ) → Takes old (take done bytes) mid → Takes mid (take more (take (length bytes - done) (drop done bytes))) new → Takes old (take (done + more) bytes) new
takes_more old mid new bytes done more first second =
    let rest : take more (take (length bytes - done) (drop done bytes)) ≡ take more (drop done bytes) = ap (λ (l : List ℕ). take more l) (take_rest bytes done) in
    subst (λ (l : List ℕ). Takes old l new) (ap (λ (l : List ℕ). take done bytes ++ l) rest ∙ sym (take-add done more bytes)) (takes_then old mid new _ _ first second)
