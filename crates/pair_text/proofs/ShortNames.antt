-- The name of a group in a path is no longer than that of a component.
use Rattle.std.proofs.Common.{◌≡◌, ℕ, ◌≤◌, Bool, true, false, not, cond, leb, ltb, List, [], ◌∷◌, length, codes, Option, Some, None, IfOk, IfSome, option_and_then, option_map, is_some, refl, subst, leb-true}
use Rattle.std.specs.List.{list_all}
use Rattle.std.proofs.lemmas.Bool.{and_parts}
use Rattle.line_words.specs.Lines.{words}
use Rattle.pair_text.specs.PairLines.{group_alone, or_fault}
use Rattle.pair_text.specs.PairPaths.{group_at, group_name, or_long}
use Rattle.pair_text.proofs.Readiness.{IfOk-or_fault}
use Rattle.path_names.specs.Components.{begins_with_slash, components, components_of, is_component, is_dots, is_visible, is_well_formed}
use Rattle.path_names.specs.PathTable.{entry_among, fixed_in}
use Rattle.path_names.specs.declared.dirs.DirRef.TheVariants.{Root}
use Rattle.rc_base.specs.Texts.{is_text}
use Rattle.script_lines.specs.Arguments.{only}
use Rattle.script_lines.specs.declared.fault.LineFault.TheVariants.{BadArgument, BadPath, TooLarge}

-- no longer than a component
abbrev pub IsShort : List ℕ → Type 0
IsShort name = length name ≤ 255

IsShort-component : (name : List ℕ) → is_component name ≡ true → IsShort name
unfolding is_component
IsShort-component name is =
    let p = and_parts _ (not (is_dots name)) is in
    let q = and_parts _ (list_all is_visible name) p.0 in
    let r = and_parts (leb 1 (length name)) (leb (length name) 255) q.0 in
    leb-true (length name) 255 r.1

IfSome-group_name : (name : List ℕ) → IsShort name → IfSome (group_name name) IsShort
IfSome-group_name name short = at (is_some (entry_among Root name (fixed_in Root)))
  where
    at : (b : Bool) → IfSome (cond b None (Some name)) IsShort
    at true = tt
    at false = short

IfSome-group_at : (parts : List (List ℕ)) → list_all is_component parts ≡ true → IfSome (group_at parts) IsShort
IfSome-group_at [] all = tt
IfSome-group_at (name ∷ []) all = IfSome-group_name name (IsShort-component name (and_parts (is_component name) true all).0)
IfSome-group_at (name ∷ file ∷ more) all = tt

-- the name of a group at a path
IfSome-components_of : (word : List ℕ) → IfSome (option_and_then group_at (components_of word)) IsShort
unfolding components_of is_well_formed
IfSome-components_of word = at (is_text word (codes "/")) (is_well_formed word) refl
  where
    at : (root fits : Bool) → is_well_formed word ≡ fits → IfSome (option_and_then group_at (cond root (Some []) (cond fits (Some (components word)) None))) IsShort
    at true fits e = tt
    at false true e = IfSome-group_at (components word) (and_parts (begins_with_slash word) _ e).1
    at false false e = tt

-- of a word that may be too long to say
IfSome-or_long : (word : List ℕ) → IfSome (or_long group_at word) (λ found. IfSome found IsShort)
IfSome-or_long word = at (ltb 2048 (length word)) (option_and_then group_at (components_of word)) (IfSome-components_of word)
  where
    at : (b : Bool) (o : Option (List ℕ)) → IfSome o IsShort → IfSome (cond b (Some None) (option_map (λ a. Some a) o)) (λ found. IfSome found IsShort)
    at true o short = tt
    at false None short = tt
    at false (Some name) short = short

-- the name that a line's only argument names
pub IfOk-group_alone : (rest : List ℕ) → IfOk (group_alone rest) IsShort
unfolding group_alone
IfOk-group_alone rest =
    IfOk-or_fault IsShort (only (words rest)) BadArgument _ (λ word e.
    IfOk-or_fault IsShort (or_long group_at word) BadPath _ (λ found is.
    last found (subst (λ o. IfSome o (λ f. IfSome f IsShort)) is (IfSome-or_long word))))
  where
    last : (found : Option (List ℕ)) → IfSome found IsShort → IfOk (or_fault found TooLarge) IsShort
    last None short = tt
    last (Some name) short = short
