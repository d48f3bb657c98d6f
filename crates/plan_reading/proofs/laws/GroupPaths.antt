-- The printed path of a file of a control group reads back, and adds no name.
use Rattle.std.proofs.Common.{◌≡◌, ℕ, ◌<◌, ◌≤◌, Bool, true, false, List, [], ◌∷◌, ◌++◌, length, Some, refl, ap, ◌∙◌, arith, append_assoc, length-append}
use Rattle.std.specs.Prelude.{codes}
use Rattle.std.specs.List.{list_any, slice_split}
use Rattle.std.specs.Str.{bytes_eq}
use Rattle.std.proofs.lemmas.List.Folds.{list_any-append}
use Rattle.lists.proofs.Cuts.{slice_split-none, slice_split-some}
use Rattle.num_text.proofs.laws.Pieces.{Cut-append}
use Rattle.num_text.specs.Blanks.{is_blank}
use Rattle.line_words.specs.Lines.{is_bad}
use Rattle.rc_base.specs.Texts.{is_text}
use Rattle.path_names.proofs.laws.ShortNames.{length-is_component}
use Rattle.path_names.specs.Components.{components_of, is_component, is_slash, is_visible, is_well_formed}
use Rattle.path_names.specs.Interned.{id_of, interned}
use Rattle.path_names.specs.PathTable.{entry_of, file_name}
use Rattle.path_names.specs.PathTexts.{name_in, path_text}
use Rattle.path_names.specs.Reading.{Reached, led, or_nowhere, path_of}
use Rattle.path_names.specs.declared.components.TheConstants.{MOST_NAME_BYTES}
use Rattle.path_names.specs.declared.dirs.DirRef.{DirRef}
use Rattle.path_names.specs.declared.dirs.DirRef.TheVariants.{Root, Info, InfoL3, InfoL3Mon, Ctrl, MonGroups, Mon, MonData, MonDomain}
use Rattle.path_names.specs.declared.files.FileKind.{FileKind}
use Rattle.path_names.specs.declared.files.FileKind.TheVariants as kinds
use Rattle.path_names.specs.declared.names.NameId.{NameId}
use Rattle.path_names.specs.declared.path_ref.PathRef.TheVariants.{Dir, File}
use Rattle.script_ops.specs.declared.limits.TheConstants.{MOST_PATH_BYTES}
use Rattle.plan_reading.proofs.laws.InternedNames.{list_any-known}
use Rattle.plan_reading.specs.GroupWrites.{IsGroupDir, IsGroupName, is_group_file}
use Rattle.plan_reading.proofs.laws.ComponentBytes.{list_any-component, some-component, is_blank-visible, is_bad-visible}

-- the names of its files
is_component-file : (kind : FileKind) → is_group_file kind ≡ true → is_component (file_name kind) ≡ true
unfolding is_component is_text
is_component-file kinds.Cpus is = refl
is_component-file kinds.CpusList is = refl
is_component-file kinds.Mode is = refl
is_component-file kinds.Schemata is = refl
is_component-file kinds.Size is = refl
is_component-file kinds.Tasks is = refl
is_component-file kind is = absurd cc

whole-file : (kind : FileKind) → is_group_file kind ≡ true → list_any is_slash (file_name kind) ≡ false
whole-file kinds.Cpus is = refl
whole-file kinds.CpusList is = refl
whole-file kinds.Mode is = refl
whole-file kinds.Schemata is = refl
whole-file kinds.Size is = refl
whole-file kinds.Tasks is = refl
whole-file kind is = absurd cc

-- they are entries of the root
entry_of-Root : (domains : ℕ) (kind : FileKind) → is_group_file kind ≡ true → entry_of domains Root (file_name kind) ≡ Some (File Root kind)
unfolding entry_of is_text
entry_of-Root domains kinds.Cpus is = refl
entry_of-Root domains kinds.CpusList is = refl
entry_of-Root domains kinds.Mode is = refl
entry_of-Root domains kinds.Schemata is = refl
entry_of-Root domains kinds.Size is = refl
entry_of-Root domains kinds.Tasks is = refl
entry_of-Root domains kind is = absurd cc

-- and of each other control group
entry_of-Ctrl : (domains : ℕ) (id : NameId) (kind : FileKind) → is_group_file kind ≡ true → entry_of domains (Ctrl id) (file_name kind) ≡ Some (File (Ctrl id) kind)
unfolding entry_of is_text
entry_of-Ctrl domains id kinds.Cpus is = refl
entry_of-Ctrl domains id kinds.CpusList is = refl
entry_of-Ctrl domains id kinds.Mode is = refl
entry_of-Ctrl domains id kinds.Schemata is = refl
entry_of-Ctrl domains id kinds.Size is = refl
entry_of-Ctrl domains id kinds.Tasks is = refl
entry_of-Ctrl domains id kind is = absurd cc

-- ---- the components of the paths

-- a piece, a separator and the rest
slice_split-piece : (p : ℕ → Bool) (x : List ℕ) (c : ℕ) (rest : List ℕ) → list_any p x ≡ false → p c ≡ true → slice_split p (x ++ c ∷ rest) ≡ x ∷ slice_split p rest
slice_split-piece p x c rest none sep =
    let cut = Cut-append p x c rest none sep in
    slice_split-some p (x ++ c ∷ rest) cut.any ∙ rw (cut.before, cut.behind) refl

-- a path with a component is not the root
is_text-root : (body : List ℕ) → 0 < length body → is_text (47 ∷ body) (codes "/") ≡ false
unfolding is_text
is_text-root [] some = absurd (omega (arith, some))
is_text-root (b ∷ bs) some = refl

-- one component
components_of-one : (file : List ℕ) → is_component file ≡ true → list_any is_slash file ≡ false → components_of (47 ∷ file) ≡ Some (file ∷ [])
unfolding components_of is_well_formed
components_of-one file is whole = rw (is_text-root file (some-component file is), slice_split-none is_slash file whole, is) refl

-- two
components_of-two : (name file : List ℕ) → is_component name ≡ true → is_component file ≡ true → list_any is_slash name ≡ false → list_any is_slash file ≡ false → components_of (47 ∷ (name ++ 47 ∷ file)) ≡ Some (name ∷ file ∷ [])
unfolding components_of is_well_formed
components_of-two name file first second whole last =
    let parts : slice_split is_slash (name ++ 47 ∷ file) ≡ name ∷ file ∷ [] = slice_split-piece is_slash name 47 file whole refl ∙ ap (λ (ps : List (List ℕ)). name ∷ ps) (slice_split-none is_slash file last) in
    rw (is_text-root (name ++ 47 ∷ file) (omega (arith, length-append name (47 ∷ file))), parts, first, second) refl

-- ---- the paths

-- A printed path of few bytes after its slash, none of which is a blank or a bad byte.
pub record IsPlainPath (path : List ℕ) : Type 0 where
  pub body : List ℕ
  pub is : path ≡ 47 ∷ body
  pub unbroken : list_any is_blank body ≡ false
  pub good : list_any is_bad body ≡ false
  pub short : length path ≤ MOST_PATH_BYTES

module _ (names : List (List ℕ)) (kind : FileKind) (has : is_group_file kind ≡ true) where
  -- the text of a path in a group's directory
  path_text-Ctrl : (id : NameId) → path_text names (File (Ctrl id) kind) ≡ 47 ∷ (name_in names id ++ 47 ∷ file_name kind)
  path_text-Ctrl id = ap (λ (bytes : List ℕ). 47 ∷ bytes) (append_assoc (name_in names id) (47 ∷ []) (file_name kind))

  -- what no visible byte is, no byte of such a path is
  list_any-Ctrl : (q : ℕ → Bool) → ((b : ℕ) → is_visible b ≡ true → q b ≡ false) → (id : NameId) → IsGroupName names id → list_any q (name_in names id ++ 47 ∷ file_name kind) ≡ false
  list_any-Ctrl q none id is =
      list_any-append q (name_in names id) (47 ∷ file_name kind)
      ∙ rw (list_any-component q none (name_in names id) is.component, none 47 refl, list_any-component q none (file_name kind) (is_component-file kind has)) refl

  -- it is plain
  pub IsPlainPath-group_file : (dir : DirRef) → IsGroupDir names dir → IsPlainPath (path_text names (File dir kind))
  IsPlainPath-group_file Root is = record {
    body = file_name kind;
    is = refl;
    unbroken = list_any-component is_blank is_blank-visible (file_name kind) (is_component-file kind has);
    good = list_any-component is_bad is_bad-visible (file_name kind) (is_component-file kind has);
    short = few (file_name kind) (length-is_component (file_name kind) (is_component-file kind has));
  }
    where
      few : (file : List ℕ) → length file ≤ MOST_NAME_BYTES → length (47 ∷ file) ≤ MOST_PATH_BYTES
      few file short = omega (arith, short)
  IsPlainPath-group_file (Ctrl id) is = record {
    body = name_in names id ++ 47 ∷ file_name kind;
    is = path_text-Ctrl id;
    unbroken = list_any-Ctrl is_blank is_blank-visible id is;
    good = list_any-Ctrl is_bad is_bad-visible id is;
    short = few (name_in names id) (file_name kind) (path_text names (File (Ctrl id) kind)) (path_text-Ctrl id) (length-is_component (name_in names id) is.component) (length-is_component (file_name kind) (is_component-file kind has));
  }
    where
      few : (name file path : List ℕ) → path ≡ 47 ∷ (name ++ 47 ∷ file) → length name ≤ MOST_NAME_BYTES → length file ≤ MOST_NAME_BYTES → length path ≤ MOST_PATH_BYTES
      few name file path same first second = omega (arith, ap length same, length-append name (47 ∷ file), first, second)
  IsPlainPath-group_file Info is = absurd is
  IsPlainPath-group_file InfoL3 is = absurd is
  IsPlainPath-group_file InfoL3Mon is = absurd is
  IsPlainPath-group_file (MonGroups owner) is = absurd is
  IsPlainPath-group_file (Mon owner id) is = absurd is
  IsPlainPath-group_file (MonData holder) is = absurd is
  IsPlainPath-group_file (MonDomain holder domain) is = absurd is

  -- the name of a group leads from the root to its directory
  led-Root : (domains : ℕ) (id : NameId) → IsGroupName names id → led domains (Some (Dir Root)) names (name_in names id) ≡ (Some (Dir (Ctrl id)), names)
  led-Root domains id is =
      let known : list_any (bytes_eq (name_in names id)) names ≡ true = list_any-known names id is.known in
      let same : id_of (name_in names id) names ≡ id = ap (λ (n : ℕ). record { 0 = n }) is.numbered in
      rw (is.free domains) (ap (λ (i : NameId). (Some (Dir (Ctrl i)), interned (name_in names id) names)) same ∙ rw known refl)

  -- its text reads back
  pub path_of-group_file : (domains : ℕ) (dir : DirRef) → IsGroupDir names dir → path_of domains names (path_text names (File dir kind)) ≡ Some (File dir kind, names)
  path_of-group_file domains Root is =
      rw (components_of-one (file_name kind) (is_component-file kind has) (whole-file kind has), entry_of-Root domains kind has) refl
  path_of-group_file domains (Ctrl id) is =
      let text = path_text names (File (Ctrl id) kind) in
      let parts : components_of text ≡ Some (name_in names id ∷ file_name kind ∷ []) =
      ap components_of (path_text-Ctrl id) ∙ components_of-two (name_in names id) (file_name kind) is.component (is_component-file kind has) is.whole (whole-file kind has) in
      let last : led domains (Some (Dir (Ctrl id))) names (file_name kind) ≡ (Some (File (Ctrl id) kind), names) = rw (entry_of-Ctrl domains id kind has) refl in
      rw parts (ap (λ (at : Reached). Some (or_nowhere text at)) (ap (λ (at : Reached). led domains at.0 at.1 (file_name kind)) (led-Root domains id is) ∙ last))
  path_of-group_file domains Info is = absurd is
  path_of-group_file domains InfoL3 is = absurd is
  path_of-group_file domains InfoL3Mon is = absurd is
  path_of-group_file domains (MonGroups owner) is = absurd is
  path_of-group_file domains (Mon owner id) is = absurd is
  path_of-group_file domains (MonData holder) is = absurd is
  path_of-group_file domains (MonDomain holder domain) is = absurd is
