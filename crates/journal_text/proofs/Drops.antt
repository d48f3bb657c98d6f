-- The rest of a drop's line, and of the lines that have none.
use Rattle.std.proofs.Common.{◌≡◌, ℕ, ◌<◌, ◌≤◌, false, List, [], ◌∷◌, get_or, Option, Some, None, MatchOption, codes, refl, sym, ap, subst, ◌∙◌}
use Rattle.cache_core.specs.declared.entry.What.{What}
use Rattle.cache_core.specs.declared.entry.What.TheVariants as entries
use Rattle.machine.specs.declared.parameters.Parameters.{Parameters}
use Rattle.rc_base.specs.Texts.{is_text}
use Rattle.journal_text.proofs.KindWords.{is_no_word}
use Rattle.journal_text.specs.declared.kind.EntryKind.{EntryKind}
use Rattle.journal_text.specs.Kinds.{IsRest}
use Rattle.journal_text.specs.Lines.{fields, way_word}
use Rattle.journal_text.specs.Taken.{IsNotJust, Takes, TakesNone}
use Rattle.journal_text.specs.Writable.{HasText, IsLineIn, IsWay}
use Rattle.journal_text.specs.declared.kind.EntryKind.TheVariants.{Raise, Flush, Drop}
use Rattle.journal_text.proofs.laws.EntryLines.{AreNumbers-drop_line, AreNumbers-way, EndsWord-way_word}
use Rattle.journal_text.proofs.laws.Fields.{Takes-all, Takes-unique}
use Rattle.std.proofs.lemmas.List.{append-nil}

-- ---- a drop

-- a text that is neither a dash nor a number is no way
pub no_way : (m : Parameters) (rest : List ℕ) → m.ways ≤ 32 → false ≡ is_text rest (codes " -") → IsNotJust 1 rest → (way : Option ℕ) → IsWay m way → way_word way ≡ rest → ⊥
no_way m rest narrow dash none None is same = is_no_word (codes " -") rest dash same
no_way m rest narrow dash none (Some way) is same = none (way ∷ []) refl (subst (λ (r : List ℕ). Takes (way ∷ []) [] r) same (Takes-all (way ∷ []) (AreNumbers-way m way narrow is)))

-- what a number says that is a way
pub way_says : (m : Parameters) (rest : List ℕ) (place : ℕ) → m.ways ≤ 32 → false ≡ is_text rest (codes " -") → Takes (place ∷ []) [] rest → (way : Option ℕ) → IsWay m way → way_word way ≡ rest → place < m.ways
way_says m rest place narrow dash t None is same = absurd (is_no_word (codes " -") rest dash same)
way_says m rest place narrow dash t (Some way) is same =
    let own : Takes (way ∷ []) [] rest = subst (λ (r : List ℕ). Takes (way ∷ []) [] r) same (Takes-all (way ∷ []) (AreNumbers-way m way narrow is)) in
    subst (λ (n : ℕ). n < m.ways) (ap (λ (xs : List ℕ). get_or xs 0 0) (Takes-unique (way ∷ []) (place ∷ []) [] [] rest refl own t).0) is

-- a number that says a way is its word
pub way_word-number : (rest : List ℕ) (place way : ℕ) → Takes (place ∷ []) [] rest → way ≡ place → way_word (Some way) ≡ rest
way_word-number rest place way t w = rw w (sym (t.same ∙ append-nil (fields (place ∷ []))))

-- the line and the way of a drop
record DropIs (m : Parameters) (i : ℕ) (rest : List ℕ) : Type 0 where
  line : ℕ
  way : Option ℕ
  text : HasText m i (entries.Drop line way)
  takes : Takes (line ∷ []) (way_word way) rest

-- the rest of a drop's line is these
DropIs-rest : (m : Parameters) (i : ℕ) (rest : List ℕ) (what : What) → IsRest m i Drop rest what → DropIs m i rest
DropIs-rest m i rest (entries.Drop line way) is =
    let text : HasText m i (entries.Drop line way) = is.writable in
    record { line = line; way = way; text = text; takes = record { same = sym is.same; fit = AreNumbers-drop_line m i line way text; ends = EndsWord-way_word way } }
DropIs-rest m i rest (entries.Access hit way owner rmid mask line) is = let e = is.kind_is in absurd cc
DropIs-rest m i rest entries.Raise is = let e = is.kind_is in absurd cc
DropIs-rest m i rest entries.Flush is = let e = is.kind_is in absurd cc
DropIs-rest m i rest (entries.Lock mask first_line) is = let e = is.kind_is in absurd cc
DropIs-rest m i rest (entries.Look rmid lines) is = let e = is.kind_is in absurd cc

-- a text that does not begin with a number is the rest of no drop
pub no_drop : (m : Parameters) (i : ℕ) (rest : List ℕ) → TakesNone 1 rest → (what : What) → IsRest m i Drop rest what → ⊥
no_drop m i rest none what is = let a = DropIs-rest m i rest what is in none (a.line ∷ []) (way_word a.way) refl a.takes

-- what the number and what follows it say that are the rest of a drop's line
pub record DropSays (m : Parameters) (i number : ℕ) (after : List ℕ) : Type 0 where
  pub line : IsLineIn m i number
  pub way : Option ℕ
  pub way_is : IsWay m way
  pub same : way_word way ≡ after

-- a number and more that are the rest of a drop's line
pub DropSays-rest : (m : Parameters) (i number : ℕ) (after rest : List ℕ) → Takes (number ∷ []) after rest → (what : What) → IsRest m i Drop rest what → DropSays m i number after
DropSays-rest m i number after rest t what is =
    let a = DropIs-rest m i rest what is in
    let both = Takes-unique (a.line ∷ []) (number ∷ []) (way_word a.way) after rest refl a.takes t in
    record { line = subst (λ (n : ℕ). IsLineIn m i n) (ap (λ (xs : List ℕ). get_or xs 0 0) both.0) a.text.0; way = a.way; way_is = a.text.1; same = both.1 }

-- a number and a way that each say what one of a drop says
pub IsRest-drop : (m : Parameters) (i number : ℕ) (after rest : List ℕ) (line : ℕ) (way : Option ℕ) → Takes (number ∷ []) after rest → (line ≡ number) × IsLineIn m i line → IsWay m way × (way_word way ≡ after) → IsRest m i Drop rest (entries.Drop line way)
IsRest-drop m i number after rest line way t li w = record { kind_is = refl; writable = (li.1, w.0); same = rw (li.0, w.1) (sym t.same) }

-- ---- entries with no numbers of their own

-- no text but the empty one is the rest of a raise
pub no_raise : (m : Parameters) (i : ℕ) (rest : List ℕ) → (rest ≡ [] → ⊥) → (what : What) → IsRest m i Raise rest what → ⊥
no_raise m i rest some entries.Raise is = some (sym is.same)
no_raise m i rest some (entries.Access hit way owner rmid mask line) is = let e = is.kind_is in absurd cc
no_raise m i rest some entries.Flush is = let e = is.kind_is in absurd cc
no_raise m i rest some (entries.Lock mask first_line) is = let e = is.kind_is in absurd cc
no_raise m i rest some (entries.Look rmid lines) is = let e = is.kind_is in absurd cc
no_raise m i rest some (entries.Drop line way) is = let e = is.kind_is in absurd cc

-- nor of a flush
pub no_flush : (m : Parameters) (i : ℕ) (rest : List ℕ) → (rest ≡ [] → ⊥) → (what : What) → IsRest m i Flush rest what → ⊥
no_flush m i rest some entries.Flush is = some (sym is.same)
no_flush m i rest some (entries.Access hit way owner rmid mask line) is = let e = is.kind_is in absurd cc
no_flush m i rest some entries.Raise is = let e = is.kind_is in absurd cc
no_flush m i rest some (entries.Lock mask first_line) is = let e = is.kind_is in absurd cc
no_flush m i rest some (entries.Look rmid lines) is = let e = is.kind_is in absurd cc
no_flush m i rest some (entries.Drop line way) is = let e = is.kind_is in absurd cc

-- the entry with no numbers that the kind is, where nothing follows
pub IsRest-nothing : (m : Parameters) (i : ℕ) (kind : EntryKind) (rest : List ℕ) (o : Option What) (what : What) → MatchOption o (rest ≡ [] → ⊥) (λ w. (w ≡ what) × (rest ≡ []))
    → IsRest m i kind [] what → ((rest ≡ [] → ⊥) → (w : What) → IsRest m i kind rest w → ⊥) → MatchOption o ((w : What) → IsRest m i kind rest w → ⊥) (IsRest m i kind rest)
IsRest-nothing m i kind rest None what told is none = none told
IsRest-nothing m i kind rest (Some w) what told is none = rw (told.0, told.1) is
