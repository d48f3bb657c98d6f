-- The windows of partitions, each with the counts that were made for it.
use Rattle.std.proofs.Common.{◌≡◌, ℕ, zero, suc, ◌+◌, ◌<◌, true, false, List, [], ◌∷◌, ◌++◌, length, map, take, get_or, refl, ap, ◌∙◌, arith}
use Rattle.cache_core.specs.declared.entry.SliceEntry.{SliceEntry}
use Rattle.cache_core.specs.declared.entry.What.{What}
use Rattle.cache_core.specs.declared.entry.What.TheVariants.{Access, Drop, Flush, Lock, Look, Raise}
use Rattle.pair_text.specs.Values.{PairScriptValue}
use Rattle.pair_windows.specs.CdpWindows.{windows_by}
use Rattle.pair_windows.specs.Counted.{counted_window, counted_windows}
use Rattle.pair_windows.specs.Fronts.{is_flush}
use Rattle.pair_windows.specs.declared.cdp_window.CdpWindow.{CdpWindow}
use Rattle.pair_windows.specs.declared.partition.Partition.{Partition}
use Rattle.private_lru.specs.declared.span.Span.{Span}
use Rattle.private_lru.specs.declared.counts.WindowCounts.{WindowCounts}

-- one partition more
pub counted_windows-more : (domain from i : ℕ) (ks : List (Span Partition)) (cs : List WindowCounts) (k : Span Partition) (c : WindowCounts) → i < length ks → length cs ≡ length ks
    → counted_windows domain from (take (i + 1) ks) (take (i + 1) cs) ≡ counted_windows domain from (take i ks) (take i cs) ++ counted_window domain from (get_or ks i k).held (get_or cs i c) ∷ []
counted_windows-more domain from i ks cs k c lt same = let one : i + 1 ≡ suc i = omega arith in ap (λ n. counted_windows domain from (take n ks) (take n cs)) one ∙ of i ks cs lt same
  where
    of : (i : ℕ) (ks : List (Span Partition)) (cs : List WindowCounts) → i < length ks → length cs ≡ length ks
        → counted_windows domain from (take (suc i) ks) (take (suc i) cs) ≡ counted_windows domain from (take i ks) (take i cs) ++ counted_window domain from (get_or ks i k).held (get_or cs i c) ∷ []
    of i [] cs lt same = absurd (omega (arith, lt))
    of i (x ∷ xs) [] lt same = absurd (omega (arith, same))
    of zero (x ∷ xs) (y ∷ ys) lt same = refl
    of (suc i) (x ∷ xs) (y ∷ ys) lt same = ap (λ ws. counted_window domain from x.held y ∷ ws) (of i xs ys (omega (arith, lt)) (omega (arith, same)))

-- windows that are each counted are the counted ones
pub counted_windows-map : (domain from : ℕ) (f : Span Partition → CdpWindow) (ks : List (Span Partition)) (cs : List WindowCounts) → length cs ≡ length ks
    → ((i : ℕ) (k : Span Partition) (c : WindowCounts) → i < length ks → f (get_or ks i k) ≡ counted_window domain from (get_or ks i k).held (get_or cs i c))
    → map f ks ≡ counted_windows domain from ks cs
counted_windows-map domain from f [] cs same each = refl
counted_windows-map domain from f (k ∷ ks) [] same each = absurd (omega (arith, same))
counted_windows-map domain from f (k ∷ ks) (c ∷ cs) same each =
    let here = each 0 k c (omega arith) in
    let rest = counted_windows-map domain from f ks cs (omega (arith, same)) (λ i d e lt. each (suc i) d e (omega (arith, lt))) in
    cc

-- ---- entry by entry

-- a flush is one
pub what-flush : (what : What) → is_flush what ≡ true → what ≡ Flush
what-flush Flush is = refl
what-flush (Access hit way owner rmid mask line) is = absurd (let f : false ≡ true = is in cc)
what-flush Raise is = absurd (let f : false ≡ true = is in cc)
what-flush (Lock mask first_line) is = absurd (let f : false ≡ true = is in cc)
what-flush (Look rmid lines) is = absurd (let f : false ≡ true = is in cc)
what-flush (Drop line at) is = absurd (let f : false ≡ true = is in cc)

module _ (script : PairScriptValue) (domain : ℕ) (entries : List SliceEntry) where
  pub windows_by-other : (from epoch : ℕ) (what : What) → is_flush what ≡ false → windows_by script domain entries from epoch what ≡ []
  windows_by-other from epoch Flush is = absurd (let f : true ≡ false = is in cc)
  windows_by-other from epoch (Access hit way owner rmid mask line) is = refl
  windows_by-other from epoch Raise is = refl
  windows_by-other from epoch (Lock mask first_line) is = refl
  windows_by-other from epoch (Look rmid lines) is = refl
  windows_by-other from epoch (Drop line at) is = refl
