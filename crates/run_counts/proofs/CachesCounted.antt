-- Several caches, counted one after the other.
use Rattle.std.proofs.Common.{◌≡◌, ℕ, ◌+◌, ◌<◌, ◌∷◌, [], ◌++◌, List, Vec, length, map, take, get_or, sym, subst, ap, ◌∙◌}
use Rattle.std.specs.Prelude.{◌%◌}
use Rattle.std.specs.declared.alloc.Global.{Global}
use Rattle.std.proofs.lemmas.List.{get_or-map, length-map, map-append, take_more}
use Rattle.cache_core.specs.History.{shape_of, valid_of}
use Rattle.cache_core.specs.declared.entry.SliceEntry.{SliceEntry}
use Rattle.machine.specs.declared.parameters.Parameters.{Parameters}
use Rattle.run_counts.specs.CacheCounts.{slices_alone, valid_in}
use Rattle.run_law.specs.Entries.{entries_of}
use Rattle.run_law.specs.Journals.{slice_at}
use Rattle.run_law.specs.Slices.{shape_in}

module _ (caches : List (Vec SliceEntry Global)) (i : ℕ) (cache : Vec SliceEntry Global) (lt : i < length caches) (is : cache ≡ get_or caches i cache) where
  -- the entries of a cache
  pub slice_at-alone : cache.items ≡ slice_at (slices_alone (map entries_of caches)) i
  slice_at-alone = ap entries_of is ∙ sym (get_or-map entries_of caches i cache [] lt)

  -- the lines of one cache more
  pub valid_in-more : (m : Parameters) → valid_in m (take i (map entries_of caches)) ++ valid_of (shape_of m 0) cache.items ∷ [] ≡ valid_in m (take (i + 1) (map entries_of caches))
  valid_in-more m =
      let all : List (List SliceEntry) = map entries_of caches in
      let less : i < length all = subst (λ n. i < n) (sym (length-map caches entries_of)) lt in
      ap (λ (l : List SliceEntry). valid_in m (take i all) ++ valid_of (shape_of m 0) l ∷ []) slice_at-alone
      ∙ sym (ap (valid_in m) (take_more all i [] less) ∙ map-append (valid_of (shape_of m 0)) (take i all) (get_or all i [] ∷ []))

-- a machine whose domains have one slice each
pub shape_in-alone : (m : Parameters) → m.slices ≡ 1 → shape_in m 0 ≡ shape_of m 0
shape_in-alone m one = ap (shape_of m) (zero-mod m.slices one)
  where
    zero-mod : (k : ℕ) → k ≡ 1 → 0 % k ≡ 0
    zero-mod k is = ap (λ n. 0 % n) is
