-- Accesses in one of several caches, and their histories.
use Rattle.std.proofs.Common.{◌≡◌, ℕ, ◌<◌, Bool, List, [], ◌∷◌, ◌++◌, length, get_or, set, Result, sym, ap, ◌∙◌, subst}
use Rattle.std.specs.Prelude.{IfOk}
use Rattle.std.specs.List.{All}
use Rattle.std.proofs.lemmas.List.{get_or-map, map-set}
use Rattle.std.proofs.lemmas.List.Elements.{All-map}
use Rattle.std.proofs.lemmas.Result.{IfOk-weaker}
use Rattle.cache_core.specs.History.{IsLegal, Shape}
use Rattle.cache_core.specs.declared.entry.SliceEntry.{SliceEntry}
use Rattle.pair_play.specs.Histories.{AddsAccess, AddsAccessIn, AreTaken, HasShape, RecordedValue, access_entry, histories_of}
use Rattle.pair_law.specs.Entries.{slice_in}
use Rattle.rc_base.specs.declared.names.Tag.{Tag}

-- the history of a cache
pub slice_in-histories_of : (caches : List RecordedValue) (k : ℕ) (d : RecordedValue) → k < length caches → slice_in (histories_of caches) k ≡ (get_or caches k d).history
slice_in-histories_of caches k d within = get_or-map (λ (c : RecordedValue). c.history) caches k d [] within

-- an access in one cache
pub AddsAccessIn-set : (op : ℕ) (tag : Tag) (line : ℕ) (hit : Bool) (caches : List RecordedValue) (d new : RecordedValue) → tag.domain < length caches
    → AddsAccess op tag line hit (get_or caches tag.domain d).history new.history → AddsAccessIn op tag line hit (histories_of caches) (histories_of (set caches tag.domain new))
AddsAccessIn-set op tag line hit caches d new within adds = (
  adds.0,
  map-set (λ (c : RecordedValue). c.history) caches tag.domain new
      ∙ ap (set (histories_of caches) tag.domain) (adds.1 ∙ ap (λ (h : List SliceEntry). h ++ access_entry op tag line hit adds.0 ∷ []) (sym (slice_in-histories_of caches tag.domain d within))),
)

-- where it was made
pub IfOk-AddsAccessIn : {E : Type 0} (r : Result Bool E) (op : ℕ) (tag : Tag) (line : ℕ) (caches : List RecordedValue) (d new : RecordedValue) → tag.domain < length caches
    → IfOk r (λ hit. AddsAccess op tag line hit (get_or caches tag.domain d).history new.history) → IfOk r (λ hit. AddsAccessIn op tag line hit (histories_of caches) (histories_of (set caches tag.domain new)))
IfOk-AddsAccessIn r op tag line caches d new within adds =
    IfOk-weaker r (λ hit. AddsAccess op tag line hit (get_or caches tag.domain d).history new.history) (λ hit. AddsAccessIn op tag line hit (histories_of caches) (histories_of (set caches tag.domain new)))
    (λ hit one. AddsAccessIn-set op tag line hit caches d new within one) adds

-- the histories of caches of one shape are legal there
pub IsLegal-AreTaken : (shape : Shape) (caches : List RecordedValue) (histories : List (List SliceEntry)) → AreTaken caches histories → All (HasShape shape) caches → All (IsLegal shape) (histories_of caches)
IsLegal-AreTaken shape caches histories taken same =
    All-map (IsLegal shape) (λ (c : RecordedValue). c.history) caches (λ k d within. subst (λ (s : Shape). IsLegal s (get_or caches k d).history) (same k d within) (taken.legal k d within))
