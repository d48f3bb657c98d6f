-- The uses of a trace are of memory, and so are those that levels leave.
use Rattle.std.proofs.Common.{◌≡◌, ℕ, ◌+◌, ◌<◌, ◌≤◌, Bool, true, false, cond, eqb, List, [], ◌∷◌, ◌++◌, length, Option, Some, None, refl, subst, arith}
use Rattle.std.specs.Prelude.{Result, Ok, Err, nat_lt, IfSome}
use Rattle.std.specs.List.{after_first, before_first, list_any}
use Rattle.std.specs.Option.{option_and_then}
use Rattle.std.specs.Str.Lines.{lines}
use Rattle.std.proofs.Math.Dec.{leb}
use Rattle.std.proofs.lemmas.Bool.{eqb-false, leb-true}
use Rattle.std.proofs.lemmas.List.Elements.{All-append, All-cons, All-head, All-nil, All-tail}
use Rattle.lackey_text.specs.Lines.{IsInMemory, addr_of, is_message, kind_of, said_by, size_of, use_at, use_of, comma}
use Rattle.lackey_text.specs.Uses.{uses_of}
use Rattle.lackey_text.specs.declared.line.LackeyKind.{LackeyKind}
use Rattle.lackey_text.specs.declared.line.LackeyLine.{LackeyLine}
use Rattle.lackey_text.specs.declared.line.LackeyLine.TheVariants.{Skip, Use}
use Rattle.lackey_text.specs.declared.uses.LineUse.{LineUse}
use Rattle.line_words.specs.Lines.{words}
use Rattle.num_text.proofs.laws.Limits.{below-lt}
use Rattle.num_text.specs.Numbers.{below, dec_of}
use Rattle.way_curve.proofs.UseRanges.{AreInMemory-uses_of}
use Rattle.way_curve.proofs.UseTexts.{trace_of-uses_text}
use Rattle.way_curve.specs.FilterTexts.{AreInMemory, FilteredReadsBack}
use Rattle.way_curve.specs.FirstLevels.{left_after, left_by, left_by_l1, left_by_l2, misses_l1, misses_l2}
use Rattle.way_curve.specs.TraceTexts.{said_of, uses_from, uses_with}
use Rattle.way_curve.specs.declared.first_level.LevelShape.{LevelShape}
use Rattle.way_curve.specs.declared.first_levels.LevelShapes.{LevelShapes}

-- ---- a line of a trace uses memory

abbrev said_in_memory : Option LackeyLine → Type 0
said_in_memory said = IfSome said IsInMemory

-- one step after another
IsInMemory-and_then : {A : Type 0} (o : Option A) (f : A → Option LackeyLine) → ((x : A) → o ≡ Some x → said_in_memory (f x)) → said_in_memory (option_and_then f o)
IsInMemory-and_then None f each = tt
IsInMemory-and_then (Some x) f each = each x refl

-- a size is from 1 to 4,096
size_of-range : (text : List ℕ) (n : ℕ) → size_of text ≡ Some n → (0 < n) × (n ≤ 4096)
size_of-range text n e = at (below 4097 (dec_of text)) refl e
  where
    at : (o : Option ℕ) → below 4097 (dec_of text) ≡ o → option_and_then (λ (k : ℕ). cond (eqb k 0) None (Some k)) o ≡ Some n → (0 < n) × (n ≤ 4096)
    at None is f = absurd (let g : None ≡ Some n = f in cc)
    at (Some k) is f = some (eqb k 0) refl f
      where
        some : (b : Bool) → eqb k 0 ≡ b → cond b None (Some k) ≡ Some n → (0 < n) × (n ≤ 4096)
        some true zero_is g = absurd (let h : None ≡ Some n = g in cc)
        some false pos g =
            let same : k ≡ n = (let h : Some k ≡ Some n = g in cc) in
            let few : k < 4097 = below-lt 4097 (dec_of text) k is in
            let other = eqb-false k 0 pos in
            (first_of (omega (arith, other, same), grind arith), omega (arith, few, same))

-- an address and a size that fit
IsInMemory-use_at : (kind : LackeyKind) (addr size : ℕ) → (0 < size) × (size ≤ 4096) → said_in_memory (use_at kind addr size)
IsInMemory-use_at kind addr size range = at (leb (addr + size) 281474976710656) refl
  where
    at : (b : Bool) → leb (addr + size) 281474976710656 ≡ b → said_in_memory (cond b (Some (Use kind addr size)) None)
    at true is = (range.0, range.1, leb-true (addr + size) 281474976710656 is)
    at false is = tt

IsInMemory-use_of : (kind : LackeyKind) (word : List ℕ) → said_in_memory (use_of kind word)
IsInMemory-use_of kind word = at (list_any comma word)
  where
    with_size : (addr size : ℕ) → size_of (after_first comma word) ≡ Some size → said_in_memory (use_at kind addr size)
    with_size addr size is = IsInMemory-use_at kind addr size (size_of-range (after_first comma word) size is)

    with_addr : (addr : ℕ) → said_in_memory (option_and_then (λ size. use_at kind addr size) (size_of (after_first comma word)))
    with_addr addr = IsInMemory-and_then (size_of (after_first comma word)) (λ size. use_at kind addr size) (λ size is. with_size addr size is)

    at : (b : Bool) → said_in_memory (cond b (option_and_then (λ addr. option_and_then (λ size. use_at kind addr size) (size_of (after_first comma word))) (addr_of (before_first comma word))) None)
    at true = IsInMemory-and_then (addr_of (before_first comma word)) (λ addr. option_and_then (λ size. use_at kind addr size) (size_of (after_first comma word))) (λ addr is. with_addr addr)
    at false = tt

IsInMemory-said_by : (ws : List (List ℕ)) → said_in_memory (said_by ws)
IsInMemory-said_by [] = tt
IsInMemory-said_by (kind ∷ []) = tt
IsInMemory-said_by (kind ∷ word ∷ []) = IsInMemory-and_then (kind_of kind) (λ k. use_of k word) (λ k is. IsInMemory-use_of k word)
IsInMemory-said_by (kind ∷ word ∷ other ∷ ws) = tt

-- what a line says
IsInMemory-said_of : (line : List ℕ) → said_in_memory (said_of line)
unfolding said_of
IsInMemory-said_of line = at (nat_lt 65536 (length line)) (is_message line)
  where
    at : (long message : Bool) → said_in_memory (cond long None (cond message (Some Skip) (said_by (words line))))
    at true message = tt
    at false true = tt
    at false false = IsInMemory-said_by (words line)

-- ---- uses of memory

-- the uses of lines
AreInMemory-uses_from : (n : ℕ) (ls : List (List ℕ)) (uses : List LineUse) → uses_from n ls ≡ Ok uses → AreInMemory uses
unfolding uses_from
AreInMemory-uses_from n [] uses is = let none : [] ≡ uses = (let e : Ok [] ≡ Ok uses = is in cc) in subst AreInMemory none (All-nil (λ (u : LineUse). u.line < 4398046511104))
AreInMemory-uses_from n (line ∷ later) uses is =
    at (said_of line) (uses_from (n + 1) later) (IsInMemory-said_of line) (λ more rest. AreInMemory-uses_from (n + 1) later more rest) is
  where
    at : (said : Option LackeyLine) (after : Result (List LineUse) ℕ) → said_in_memory said → ((more : List LineUse) → after ≡ Ok more → AreInMemory more) → uses_with n said after ≡ Ok uses → AreInMemory uses
    at None after small rest e = absurd (let f : Err (n + 1) ≡ Ok uses = e in cc)
    at (Some said) (Err bad) small rest e = absurd (let f : Err bad ≡ Ok uses = e in cc)
    at (Some said) (Ok more) small rest e =
        let all : uses_of said ++ more ≡ uses = (let f : Ok (uses_of said ++ more) ≡ Ok uses = e in cc) in
        subst AreInMemory all (All-append (λ (u : LineUse). u.line < 4398046511104) (uses_of said) more (AreInMemory-uses_of said small) (rest more refl))

-- those that a test lets through
AreInMemory-left_after : (passes : List LineUse → LineUse → Bool) (earlier uses : List LineUse) → AreInMemory uses → AreInMemory (left_after passes earlier uses)
AreInMemory-left_after passes earlier [] small = small
AreInMemory-left_after passes earlier (u ∷ uses) small =
    at (passes earlier u) (AreInMemory-left_after passes (earlier ++ u ∷ []) uses (All-tail (λ (x : LineUse). x.line < 4398046511104) u uses small))
  where
    at : (b : Bool) → AreInMemory (left_after passes (earlier ++ u ∷ []) uses) → AreInMemory (cond b (u ∷ []) [] ++ left_after passes (earlier ++ u ∷ []) uses)
    at true rest = All-cons (λ (x : LineUse). x.line < 4398046511104) u (left_after passes (earlier ++ u ∷ []) uses) (All-head (λ (x : LineUse). x.line < 4398046511104) u uses small) rest
    at false rest = rest

AreInMemory-left_by_l1 : (level : Option LevelShape) (uses : List LineUse) → AreInMemory uses → AreInMemory (left_by_l1 level uses)
AreInMemory-left_by_l1 None uses small = small
AreInMemory-left_by_l1 (Some level) uses small = AreInMemory-left_after (misses_l1 level) [] uses small

AreInMemory-left_by_l2 : (level : Option LevelShape) (uses : List LineUse) → AreInMemory uses → AreInMemory (left_by_l2 level uses)
AreInMemory-left_by_l2 None uses small = small
AreInMemory-left_by_l2 (Some level) uses small = AreInMemory-left_after (misses_l2 level) [] uses small

-- those that levels leave
AreInMemory-left_by : (levels : LevelShapes) (uses : List LineUse) → AreInMemory uses → AreInMemory (left_by levels uses)
AreInMemory-left_by levels uses small = AreInMemory-left_by_l2 levels.l2 (left_by_l1 levels.l1 uses) (AreInMemory-left_by_l1 levels.l1 uses small)

-- ---- what is written reads back

pub filtered_reads_back : FilteredReadsBack
filtered_reads_back levels bytes uses is = trace_of-uses_text (left_by levels uses) (AreInMemory-left_by levels uses (AreInMemory-uses_from 0 (lines bytes) uses is))
