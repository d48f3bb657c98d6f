-- A text that grows by a number, or by a line.
use Rattle.std.proofs.Common.{◌≡◌, ℕ, ◌+◌, ◌<◌, List, [], ◌∷◌, ◌++◌, length, map, take, get_or, decimal, Result, Ok, Err, refl, sym, ap, ◌∙◌, append_assoc, codes, arith, length-take}
use Rattle.std.specs.Prelude.{OnOk}
use Rattle.std.proofs.lemmas.List.{append-nil, map-append, take_more}
use Rattle.cache_core.specs.declared.entry.SliceEntry.{SliceEntry}
use Rattle.machine.specs.declared.parameters.Parameters.{Parameters}
use Rattle.run_law.specs.Journals.{JournalsValue}
use Rattle.journal_text.specs.Lines.{command_line, entry_line, fields, first_line, journal_lines, journal_text, last_line, line_of, lines_from, slice_line, slice_lines, text_of}
use Rattle.journal_text.proofs.laws.Fields.{fields-append, fields-cons, fields-nil}
use Rattle.journal_text.proofs.laws.Texts.{lines_from-push, text_of-append, text_of-cons, text_of-nil, text_of-one}

-- no numbers added
pub fields-none : (old : List ℕ) → old ≡ old ++ fields []
fields-none old = sym (ap (λ (t : List ℕ). old ++ t) fields-nil ∙ append-nil old)

-- a number more
pub fields-take_suc : (ns old now space then : List ℕ) (k n d : ℕ) → k < length ns → n ≡ get_or ns k d → now ≡ old ++ fields (take k ns) → space ≡ now ++ 32 ∷ [] → then ≡ space ++ decimal n → then ≡ old ++ fields (take (k + 1) ns)
fields-take_suc ns old now space then k n d within is before mark last =
    let one : fields (n ∷ []) ≡ 32 ∷ decimal n = fields-cons n [] ∙ ap (λ (t : List ℕ). 32 ∷ (decimal n ++ t)) fields-nil ∙ ap (λ (t : List ℕ). 32 ∷ t) (append-nil (decimal n)) in
    let more : fields (take (k + 1) ns) ≡ fields (take k ns) ++ 32 ∷ decimal n = ap fields (take_more ns k d within) ∙ ap (λ (x : ℕ). fields (take k ns ++ x ∷ [])) (sym is) ∙ fields-append (take k ns) (n ∷ []) ∙ ap (λ (t : List ℕ). fields (take k ns) ++ t) one in
    last ∙ ap (λ (t : List ℕ). t ++ decimal n) mark ∙ append_assoc now (32 ∷ []) (decimal n) ∙ ap (λ (t : List ℕ). t ++ 32 ∷ decimal n) before ∙ append_assoc old (fields (take k ns)) (32 ∷ decimal n) ∙ ap (λ (t : List ℕ). old ++ t) (sym more)

-- what is shown of an `Ok` is shown of one fact by another
pub OnOk-map : {A E : Type 0} {P Q : Type 0} (r : Result A E) → (P → Q) → OnOk r P → OnOk r Q
OnOk-map (Ok a) f h = f h
OnOk-map (Err e) f h = tt

-- more numbers in a line
pub line_of-more : (old now then word : List ℕ) (ms ns : List ℕ) → now ≡ old ++ line_of word ms → then ≡ now ++ fields ns → then ≡ old ++ line_of word (ms ++ ns)
line_of-more old now then word ms ns before last =
    last ∙ ap (λ (t : List ℕ). t ++ fields ns) before ∙ append_assoc old (word ++ fields ms) (fields ns) ∙ ap (λ (t : List ℕ). old ++ t) (append_assoc word (fields ms) (fields ns) ∙ ap (λ (t : List ℕ). word ++ t) (sym (fields-append ms ns)))

-- a line and its newline
pub text_of-ended : (old now then line : List ℕ) → now ≡ old ++ line → then ≡ now ++ 10 ∷ [] → then ≡ old ++ text_of (line ∷ [])
text_of-ended old now then line before last = last ∙ ap (λ (t : List ℕ). t ++ 10 ∷ []) before ∙ append_assoc old line (10 ∷ []) ∙ ap (λ (t : List ℕ). old ++ t) (sym (text_of-one line))

-- no lines added
pub text_of-none : (old : List ℕ) → old ≡ old ++ text_of []
text_of-none old = sym (ap (λ (t : List ℕ). old ++ t) text_of-nil ∙ append-nil old)

-- a line more of a list that is told line by line
pub text_of-take_suc : {A : Type 0} (line : A → List ℕ) (xs : List A) (old now then : List ℕ) (k : ℕ) (x d : A) → k < length xs → x ≡ get_or xs k d
    → now ≡ old ++ text_of (map line (take k xs)) → then ≡ now ++ text_of (line x ∷ []) → then ≡ old ++ text_of (map line (take (k + 1) xs))
text_of-take_suc {A} line xs old now then k x d within is before last =
    let more : map line (take (k + 1) xs) ≡ map line (take k xs) ++ line x ∷ [] = ap (map line) (take_more xs k d within) ∙ map-append line (take k xs) (get_or xs k d ∷ []) ∙ ap (λ (y : A). map line (take k xs) ++ line y ∷ []) (sym is) in
    last ∙ ap (λ (t : List ℕ). t ++ text_of (line x ∷ [])) before ∙ append_assoc old (text_of (map line (take k xs))) (text_of (line x ∷ [])) ∙ ap (λ (t : List ℕ). old ++ t) (sym (text_of-append (map line (take k xs)) (line x ∷ [])) ∙ ap text_of (sym more))

-- the lines of all, told as they are seen
pub map-seen : {A B : Type 0} (line : B → List ℕ) (seen : A → B) (xs : List A) → map (λ (x : A). line (seen x)) xs ≡ map line (map seen xs)
map-seen line seen [] = refl
map-seen line seen (x ∷ xs) = ap (λ (rest : List (List ℕ)). line (seen x) ∷ rest) (map-seen line seen xs)

-- the lines of a slice, after its first
pub text_of-slice_lines : (m : Parameters) (i : ℕ) (entries : List SliceEntry) (old now ended then : List ℕ) → now ≡ old ++ slice_line m i (length entries) → ended ≡ now ++ 10 ∷ [] → then ≡ ended ++ text_of (map entry_line entries)
    → then ≡ old ++ text_of (slice_lines m i entries)
text_of-slice_lines m i entries old now ended then first newline last =
    last ∙ ap (λ (t : List ℕ). t ++ text_of (map entry_line entries)) (newline ∙ ap (λ (t : List ℕ). t ++ 10 ∷ []) first ∙ append_assoc old (slice_line m i (length entries)) (10 ∷ []))
    ∙ append_assoc old (slice_line m i (length entries) ++ 10 ∷ []) (text_of (map entry_line entries)) ∙ ap (λ (t : List ℕ). old ++ t) (sym (text_of-cons (slice_line m i (length entries)) (map entry_line entries)))

-- the lines of a slice more
pub text_of-lines_from : (m : Parameters) (slices : List (List SliceEntry)) (old now then : List ℕ) (k : ℕ) (entries : List SliceEntry) → k < length slices → entries ≡ get_or slices k []
    → now ≡ old ++ text_of (lines_from m 0 (take k slices)) → then ≡ now ++ text_of (slice_lines m k entries) → then ≡ old ++ text_of (lines_from m 0 (take (k + 1) slices))
text_of-lines_from m slices old now then k entries within is before last =
    let count : 0 + length (take k slices) ≡ k = omega (arith, length-take k slices) in
    let more : lines_from m 0 (take (k + 1) slices) ≡ lines_from m 0 (take k slices) ++ slice_lines m k entries = ap (lines_from m 0) (take_more slices k [] within ∙ ap (λ (s : List SliceEntry). take k slices ++ s ∷ []) (sym is)) ∙ lines_from-push m 0 (take k slices) entries ∙ ap (λ (n : ℕ). lines_from m 0 (take k slices) ++ slice_lines m n entries) count in
    last ∙ ap (λ (t : List ℕ). t ++ text_of (slice_lines m k entries)) before ∙ append_assoc old (text_of (lines_from m 0 (take k slices))) (text_of (slice_lines m k entries)) ∙ ap (λ (t : List ℕ). old ++ t) (sym (text_of-append (lines_from m 0 (take k slices)) (slice_lines m k entries)) ∙ ap text_of (sym more))

-- the whole text, part by part
pub journal_text-parts : (m : Parameters) (j : JournalsValue) (one two three four : List ℕ) → one ≡ codes "journal 1\n" → two ≡ one ++ text_of (map command_line j.tree) → three ≡ two ++ text_of (lines_from m 0 j.slices) → four ≡ three ++ codes "end\n" → four ≡ journal_text m j
unfolding journal_lines
journal_text-parts m j one two three four a b c d =
    let commands : List (List ℕ) = map command_line j.tree in
    let slices : List (List ℕ) = lines_from m 0 j.slices in
    let front : text_of (first_line ∷ commands) ≡ codes "journal 1\n" ++ text_of commands = text_of-cons first_line commands in
    let back : text_of (last_line ∷ []) ≡ codes "end\n" = text_of-one last_line in
    d ∙ ap (λ (t : List ℕ). t ++ codes "end\n") (c ∙ ap (λ (t : List ℕ). t ++ text_of slices) (b ∙ ap (λ (t : List ℕ). t ++ text_of commands) a ∙ sym front) ∙ sym (text_of-append (first_line ∷ commands) slices))
    ∙ ap (λ (t : List ℕ). text_of ((first_line ∷ commands) ++ slices) ++ t) (sym back) ∙ sym (text_of-append ((first_line ∷ commands) ++ slices) (last_line ∷ []))
