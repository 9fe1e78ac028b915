-- Calls on tuples that tell nothing.
use Rattle.std.proofs.Common.{inl}
use Rattle.std.specs.Prelude.{ℕ, List, Ok, Err}
use Rattle.rss_base.specs.Steps.{Keys}
use Rattle.rss_base.specs.declared.place.Place.{Place}
use Rattle.rss_base.specs.declared.fault.PageFault.TheVariants.{Damaged}
use Rattle.rss_base.specs.declared.tid.Tid.{Tid}
use Rattle.rss_base.proofs.Steps.{rests}
use Rattle.rss_base.specs.Paged.{page_key}
use Rattle.rss_base.specs.declared.key.Space.TheVariants.{Home}
use Rattle.rss_tuple.specs.Calls.{PutsTuple}
use Rattle.rss_tuple.specs.TupleSteps.{Tuples, TuplesCall}
use Rattle.rss_images.specs.Silent.{never_told}
use Rattle.rss_link_rows.specs.Silent.{no_pages, untold}

pub answered : {T : Type 0} (touched : Keys) (tuples : Tuples) (cost : ℕ) (value : T) → TuplesCall touched tuples cost untold untold (Ok value)
answered touched tuples cost value = record {
  below = record { step = rests no_pages; failed = λ is. absurd (cc); sound = λ place is told. never_told told; memory = λ is. absurd (cc) };
  heaps = λ told. absurd (never_told told);
  others = λ told. absurd (never_told told);
}

pub refused : {T : Type 0} (touched : Keys) (tuples : Tuples) (cost : ℕ) (place : Place) → TuplesCall {T = T} touched tuples cost untold untold (Err (Damaged place))
refused touched tuples cost place = record {
  below = record { step = rests no_pages; failed = λ is. absurd (cc); sound = λ other is told. never_told told; memory = λ is. absurd (cc) };
  heaps = tt;
  others = tt;
}

pub puts : (segment : ℕ) (tid : Tid) (body : List ℕ) (cost : ℕ) → PutsTuple {T = Unit {0}} segment tid body cost untold untold (Ok tt)
puts segment tid body cost = record {
  put = λ told. absurd (never_told told);
  placed = λ told. absurd (never_told told);
  takes = record {
    page = page_key segment Home tid.page;
    one = record { each = λ key is. inl is };
    may = λ told. absurd (never_told told);
  };
  did = answered _ _ cost tt;
}
