-- Lines of entries, one after the other.
use Rattle.std.proofs.Common.{◌≡◌, ℕ, suc, ◌+◌, ◌<◌, List, [], ◌∷◌, ◌++◌, length, take, get_or, sym, ap, ◌∙◌, arith}
use Rattle.std.proofs.lemmas.List.{append-nil, append_assoc, length-take, take_more}
use Rattle.cache_core.specs.declared.entry.SliceEntry.{SliceEntry}
use Rattle.machine.specs.declared.parameters.Parameters.{Parameters}
use Rattle.report_pieces.specs.EntryTexts.{entry_line}
use Rattle.report_text.specs.SliceLines.{entry_lines}

-- one more entry
entry_lines-push : (m : Parameters) (p : ℕ) (es : List SliceEntry) (e : SliceEntry) → entry_lines m p (es ++ e ∷ []) ≡ entry_lines m p es ++ entry_line m (p + length es) e
entry_lines-push m p [] e = let here : p + 0 ≡ p = omega arith in append-nil (entry_line m p e) ∙ ap (λ k. entry_line m k e) (sym here)
entry_lines-push m p (x ∷ es) e =
    let next : (p + 1) + length es ≡ p + suc (length es) = omega arith in
    ap (λ rest. entry_line m p x ++ rest) (entry_lines-push m (p + 1) es e ∙ ap (λ k. entry_lines m (p + 1) es ++ entry_line m k e) next)
    ∙ sym (append_assoc (entry_line m p x) (entry_lines m (p + 1) es) (entry_line m (p + suc (length es)) e))

-- the lines of the first entries, and of one more
pub entry_lines-take_suc : (m : Parameters) (es : List SliceEntry) (k : ℕ) (e : SliceEntry) (old now new : List ℕ) → k < length es → e ≡ get_or es k e
    → now ≡ old ++ entry_lines m 0 (take k es) → new ≡ now ++ entry_line m k e → new ≡ old ++ entry_lines m 0 (take (k + 1) es)
entry_lines-take_suc m es k e old now new within is before more =
    let count : 0 + length (take k es) ≡ k = omega (arith, length-take k es) in
    let all : entry_lines m 0 (take (k + 1) es) ≡ entry_lines m 0 (take k es) ++ entry_line m k e =
    ap (entry_lines m 0) (take_more es k e within ∙ ap (λ x. take k es ++ x ∷ []) (sym is)) ∙ (entry_lines-push m 0 (take k es) e ∙ ap (λ n. entry_lines m 0 (take k es) ++ entry_line m n e) count) in
    more ∙ (ap (λ t. t ++ entry_line m k e) before ∙ (append_assoc old (entry_lines m 0 (take k es)) (entry_line m k e) ∙ ap (λ t. old ++ t) (sym all)))
