-- Curves that have counted loads of lines one after the other, and then stores to the same.
use Rattle.std.proofs.Common.{◌≡◌, ℕ, zero, suc, ◌+◌, Bool, false, not, List, [], ◌∷◌, ◌++◌, map, refl, sym, ap, ◌∙◌, subst, append_assoc}
use Rattle.std.specs.List.{filter, range_with_len}
use Rattle.std.proofs.lemmas.List.{map-append}
use Rattle.std.proofs.lemmas.List.Elements.{filter-append}
use Rattle.lackey_text.specs.declared.uses.LineUse.{LineUse}
use Rattle.way_curve.specs.Counting.{CurvesValue, HaveCounted, IsCurveOf, all_lines, code_lines, data_lines}
use Rattle.way_curve.specs.IsCurve.{CurveValue, IsCurve, RepeatsRun}

-- the uses as data of lines one after the other
abbrev pub run_of : ℕ → ℕ → List LineUse
run_of first n = map (λ (line : ℕ). record { line = line; code = false }) (range_with_len first n)

-- the lines of uses after others
all_lines-append : (xs ys : List LineUse) → all_lines (xs ++ ys) ≡ all_lines xs ++ all_lines ys
all_lines-append xs ys = map-append (λ (u : LineUse). u.line) xs ys

-- those of uses as data
data_lines-append : (xs ys : List LineUse) → data_lines (xs ++ ys) ≡ data_lines xs ++ data_lines ys
data_lines-append xs ys =
    let some : LineUse → Bool = λ (u : LineUse). not u.code in
    ap all_lines (filter-append some xs ys) ∙ all_lines-append (filter some xs) (filter some ys)

-- and those of uses as code
code_lines-append : (xs ys : List LineUse) → code_lines (xs ++ ys) ≡ code_lines xs ++ code_lines ys
code_lines-append xs ys =
    let some : LineUse → Bool = λ (u : LineUse). u.code in
    ap all_lines (filter-append some xs ys) ∙ all_lines-append (filter some xs) (filter some ys)

-- the lines of a run
all_lines-run : (first n : ℕ) → all_lines (run_of first n) ≡ range_with_len first n
all_lines-run first zero = refl
all_lines-run first (suc n) = ap (λ (l : List ℕ). first ∷ l) (all_lines-run (first + 1) n)

-- all are used as data
data_lines-run : (first n : ℕ) → data_lines (run_of first n) ≡ range_with_len first n
data_lines-run first zero = refl
data_lines-run first (suc n) = ap (λ (l : List ℕ). first ∷ l) (data_lines-run (first + 1) n)

-- none is used as code
code_lines-run : (first n : ℕ) → code_lines (run_of first n) ≡ []
code_lines-run first zero = refl
code_lines-run first (suc n) = code_lines-run (first + 1) n

-- a list with another behind it, twice
append-twice : (a b xs : List ℕ) → b ≡ xs → a ++ (b ++ b) ≡ (a ++ xs) ++ xs
append-twice a b xs same = ap (λ (l : List ℕ). a ++ (l ++ l)) same ∙ sym (append_assoc a xs xs)

-- a curve of these lines and a run, and then of the run once more
IsCurveOf-twice : (sets : ℕ) (now new : CurveValue) (earlier once twice : List ℕ) (first n : ℕ) → new.sets ≡ now.sets → RepeatsRun now new n
    → once ≡ earlier ++ range_with_len first n → twice ≡ (earlier ++ range_with_len first n) ++ range_with_len first n
    → IsCurveOf sets now once → IsCurveOf sets new twice
IsCurveOf-twice sets now new earlier once twice first n same again is_once is_twice is = record {
  has_sets = same ∙ is.has_sets;
  is_curve = subst (λ (l : List ℕ). IsCurve new l) (sym is_twice) (again earlier first (subst (λ (l : List ℕ). IsCurve now l) is_once is.is_curve));
}

module _ (sets : ℕ) (now : CurvesValue) (own both : CurveValue) (count first n : ℕ) (uses : List LineUse) where
  -- the curves that have counted a run of data, and then its lines once more
  pub HaveCounted-twice : HaveCounted sets now (uses ++ run_of first n) → own.sets ≡ now.of_data.sets → both.sets ≡ now.of_all.sets → RepeatsRun now.of_data own n → RepeatsRun now.of_all both n
      → HaveCounted sets (record { uses = count; of_data = own; of_code = now.of_code; of_all = both }) (uses ++ (run_of first n ++ run_of first n))
  HaveCounted-twice once same all_same again all =
      let run : List LineUse = run_of first n in
      record {
        of_data = IsCurveOf-twice sets now.of_data own (data_lines uses) _ _ first n same again
            (data_lines-append uses run ∙ ap (λ (l : List ℕ). data_lines uses ++ l) (data_lines-run first n))
            (data_lines-append uses (run ++ run) ∙ (ap (λ (l : List ℕ). data_lines uses ++ l) (data_lines-append run run) ∙ append-twice (data_lines uses) (data_lines run) (range_with_len first n) (data_lines-run first n)))
            once.of_data;
        of_code = subst (λ (l : List ℕ). IsCurveOf sets now.of_code l) (code_lines-again uses run (code_lines-run first n)) once.of_code;
        of_all = IsCurveOf-twice sets now.of_all both (all_lines uses) _ _ first n all_same all
            (all_lines-append uses run ∙ ap (λ (l : List ℕ). all_lines uses ++ l) (all_lines-run first n))
            (all_lines-append uses (run ++ run) ∙ (ap (λ (l : List ℕ). all_lines uses ++ l) (all_lines-append run run) ∙ append-twice (all_lines uses) (all_lines run) (range_with_len first n) (all_lines-run first n)))
            once.of_all;
      }
    where
      code_lines-again : (uses run : List LineUse) → code_lines run ≡ [] → code_lines (uses ++ run) ≡ code_lines (uses ++ (run ++ run))
      code_lines-again uses run none =
          code_lines-append uses run
          ∙ (ap (λ (l : List ℕ). code_lines uses ++ l) (none ∙ sym (code_lines-append run run ∙ ap (λ (l : List ℕ). l ++ l) none))
          ∙ sym (code_lines-append uses (run ++ run)))
