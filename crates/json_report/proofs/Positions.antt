-- Lists of values, one value longer.
use Rattle.std.proofs.Common.{◌≡◌, ℕ, zero, suc, ◌+◌, ◌<◌, List, [], ◌∷◌, ◌++◌, length, map, take, get_or, refl, sym, ap, ◌∙◌, arith}
use Rattle.std.specs.List.{flat_map, range_with_len}
use Rattle.std.proofs.lemmas.Grind.{flat_map-append}
use Rattle.std.proofs.lemmas.List.{append-nil, length-map, length-take, map-append, take_more}
use Rattle.cache_core.specs.declared.entry.SliceEntry.{SliceEntry}
use Rattle.json_report.specs.Domains.{rmid_value, rmid_values}
use Rattle.json_report.specs.SliceValues.{entry_values}
use Rattle.lists.proofs.Ranges.{range_with_len-suc}
use Rattle.machine.specs.declared.parameters.Parameters.{Parameters}
use Rattle.report_pieces.specs.EntryTexts.{entry_text}
use Rattle.serde_json.specs.Data.{Data, string}

-- ---- the numbers below one

-- one more of them
range-suc : (n : ℕ) → range_with_len 0 (n + 1) ≡ range_with_len 0 n ++ n ∷ []
range-suc n = let here : 0 + n ≡ n = omega arith in range_with_len-suc 0 n ∙ ap (λ (k : ℕ). range_with_len 0 n ++ k ∷ []) here

-- their values
pub map-range_suc : (f : ℕ → Data) (n : ℕ) → map f (range_with_len 0 (n + 1)) ≡ map f (range_with_len 0 n) ++ f n ∷ []
map-range_suc f n = ap (map f) (range-suc n) ∙ map-append f (range_with_len 0 n) (n ∷ [])

-- how many they are
pub length-map_range : (f : ℕ → Data) (n : ℕ) → length (map f (range_with_len 0 n)) ≡ n
length-map_range f n = length-map (range_with_len 0 n) f ∙ count 0 n
  where
    count : (a k : ℕ) → length (range_with_len a k) ≡ k
    count a zero = refl
    count a (suc k) = ap suc (count (a + 1) k)

-- the RMIDs with lines, and one more
pub rmid_values-suc : (n : ℕ) (lines : ℕ → ℕ) → rmid_values (n + 1) lines ≡ rmid_values n lines ++ rmid_value n (lines n)
rmid_values-suc n lines =
    ap (flat_map (λ r. rmid_value r (lines r))) (range-suc n)
    ∙ (flat_map-append (λ r. rmid_value r (lines r)) (range_with_len 0 n) (n ∷ []) ∙ ap (λ (ds : List Data). rmid_values n lines ++ ds) (append-nil (rmid_value n (lines n))))

-- the same numbers of lines
pub rmid_values-same : (n : ℕ) (f g : ℕ → ℕ) → ((r : ℕ) → r < n → f r ≡ g r) → rmid_values n f ≡ rmid_values n g
rmid_values-same zero f g same = refl
rmid_values-same (suc n) f g same =
    let next : suc n ≡ n + 1 = omega arith in
    let less : rmid_values n f ≡ rmid_values n g = rmid_values-same n f g (λ r lt. same r (omega arith)) in
    ap (λ (k : ℕ). rmid_values k f) next
    ∙ (rmid_values-suc n f ∙ (ap (λ (ds : List Data). ds ++ rmid_value n (f n)) less ∙ (ap (λ (k : ℕ). rmid_values n g ++ rmid_value n k) (same n (omega arith)) ∙ (sym (rmid_values-suc n g) ∙ ap (λ (k : ℕ). rmid_values k g) (sym next)))))

-- ---- entries

-- one more entry
entry_values-append : (m : Parameters) (p : ℕ) (es : List SliceEntry) (e : SliceEntry) → entry_values m p (es ++ e ∷ []) ≡ entry_values m p es ++ string (entry_text m (p + length es) e) ∷ []
entry_values-append m p [] e = let here : p ≡ p + 0 = omega arith in ap (λ (k : ℕ). string (entry_text m k e) ∷ []) here
entry_values-append m p (x ∷ es) e =
    let next : (p + 1) + length es ≡ p + suc (length es) = omega arith in
    ap (λ (ds : List Data). string (entry_text m p x) ∷ ds) (entry_values-append m (p + 1) es e ∙ ap (λ (k : ℕ). entry_values m (p + 1) es ++ string (entry_text m k e) ∷ []) next)

-- how many they are
length-entry_values : (m : Parameters) (p : ℕ) (es : List SliceEntry) → length (entry_values m p es) ≡ length es
length-entry_values m p [] = refl
length-entry_values m p (e ∷ es) = ap suc (length-entry_values m (p + 1) es)

-- how many the first are
pub length-entry_values_take : (m : Parameters) (es : List SliceEntry) (k : ℕ) → k < length es → length (entry_values m 0 (take k es)) ≡ k
length-entry_values_take m es k within = length-entry_values m 0 (take k es) ∙ omega (arith, length-take k es)

-- the first entries, and one more
pub entry_values-take_suc : (m : Parameters) (es : List SliceEntry) (k : ℕ) (e : SliceEntry) → k < length es → e ≡ get_or es k e
    → entry_values m 0 (take (k + 1) es) ≡ entry_values m 0 (take k es) ++ string (entry_text m k e) ∷ []
entry_values-take_suc m es k e within is =
    let count : 0 + length (take k es) ≡ k = omega (arith, length-take k es) in
    ap (entry_values m 0) (take_more es k e within ∙ ap (λ (x : SliceEntry). take k es ++ x ∷ []) (sym is))
    ∙ (entry_values-append m 0 (take k es) e ∙ ap (λ (n : ℕ). entry_values m 0 (take k es) ++ string (entry_text m n e) ∷ []) count)
