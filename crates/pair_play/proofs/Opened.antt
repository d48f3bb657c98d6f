-- Empty caches.
use Rattle.std.proofs.Common.{◌≡◌, ℕ, ◌+◌, List, [], ◌∷◌, ◌++◌, sym, ap, ◌∙◌, subst}
use Rattle.std.specs.List.{All}
use Rattle.std.proofs.lemmas.List.{length_push, map-append}
use Rattle.std.proofs.lemmas.List.Elements.{All-push}
use Rattle.cache_core.specs.History.{shape_of}
use Rattle.cache_core.specs.declared.entry.SliceEntry.{SliceEntry}
use Rattle.machine.specs.declared.parameters.Parameters.{Parameters}
use Rattle.pair_play.specs.Histories.{AreFresh, HasShape, RecordedValue, histories_of}

-- one more
pub AreFresh-push : (p : Parameters) (n : ℕ) (caches : List RecordedValue) (c : RecordedValue) → AreFresh p n caches → c.shape ≡ shape_of p 0 → c.history ≡ [] → AreFresh p (n + 1) (caches ++ c ∷ [])
AreFresh-push p n caches c fresh shape empty = record {
  count = length_push caches c ∙ ap (λ k. k + 1) fresh.count;
  shapes = All-push (HasShape (shape_of p 0)) caches c fresh.shapes shape;
  empty =
      subst (All (λ (h : List SliceEntry). h ≡ [])) (sym (map-append (λ (x : RecordedValue). x.history) caches (c ∷ [])))
      (All-push (λ (h : List SliceEntry). h ≡ []) (histories_of caches) c.history fresh.empty empty);
}
