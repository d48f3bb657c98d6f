-- What a look-up finds, and whether there is such a thing.
use Rattle.std.proofs.Common.{◌≡◌, ◌<◌, ◌&&◌, Bool, true, false, cond, ◌||◌, List, [], ◌∷◌, length, find, Option, None, Some, HoldsAt, Bor, true≢false, inl, inr, refl, sym, ap, ◌∙◌, arith}
use Rattle.std.specs.List.{list_any, position_or_len}
use Rattle.std.specs.Option.{is_some, option_copied}
use Rattle.std.proofs.lemmas.Bool.{cases_lt}
use Rattle.std.proofs.lemmas.Bool.Decides.{nat_tests}
use Rattle.std.proofs.lemmas.List.Folds.{find_at}
use Rattle.std.proofs.lemmas.List.Sums.{passes_at_first}
use Rattle.std.proofs.lemmas.Option.{slice_get_past}
use Rattle.path_names.specs.declared.names.NameId.{NameId}
use Rattle.rc_base.specs.declared.names.Gid.{Gid}
use Rattle.group_tree.specs.Keys.{by_directory, control_key, is_key, kind_number, monitor_key, name_number}
use Rattle.group_tree.specs.Records.{has_name, is_control, is_control_named, is_monitor_named, is_monitor_of}
use Rattle.group_tree.specs.declared.group.Group.{Group}
use Rattle.group_tree.specs.declared.group_kind.GroupKind.{GroupKind}
use Rattle.group_tree.specs.declared.group_kind.GroupKind.TheVariants.{Control, Monitor}

module _ {X : Type 0} where
  -- `find` gives something exactly where some element passes
  is_some-find : (p : X → Bool) (xs : List X) → is_some (find p xs) ≡ list_any p xs
  is_some-find p [] = refl
  is_some-find p (x ∷ xs) = at (p x) (is_some-find p xs)
    where
      at : (b : Bool) → is_some (find p xs) ≡ list_any p xs → is_some (cond b (Some x) (find p xs)) ≡ (b || list_any p xs)
      at true e = refl
      at false e = e

  -- a copy is there where the reference is
  is_some-copied : (r : Option (Bor X)) → is_some r ≡ is_some (option_copied r)
  is_some-copied None = refl
  is_some-copied (Some x) = refl

  -- something is found exactly where there is some
  pub is_some-list_any : (r : Option (Bor X)) (p : X → Bool) (xs : List X) → option_copied r ≡ find p xs → is_some r ≡ list_any p xs
  is_some-list_any r p xs found = is_some-copied r ∙ ap is_some found ∙ is_some-find p xs

  -- tests that agree find the same
  pub find-agree : (p q : X → Bool) → ((x : X) → p x ≡ q x) → (xs : List X) → find p xs ≡ find q xs
  find-agree p q same [] = refl
  find-agree p q same (x ∷ xs) = rw (same x, find-agree p q same xs) refl

-- a group has the key of a control group's name exactly where it is that group
pub is_key-control : (name : NameId) (g : Group) → is_key (control_key name) (by_directory g) ≡ is_control_named name g
is_key-control name g = at g.kind g.name
  where
    at : (kind : GroupKind) (own : Option NameId) → is_key (control_key name) (record { high = kind_number kind; low = name_number own }) ≡ (is_control kind && has_name name own)
    at Control None = grind (arith, nat_tests)
    at Control (Some own) = grind (arith, nat_tests)
    at (Monitor parent) own = grind (arith, nat_tests)

-- and that of a monitor group's name
pub is_key-monitor : (parent : Gid) (name : NameId) (g : Group) → is_key (monitor_key parent name) (by_directory g) ≡ is_monitor_named parent name g
is_key-monitor parent name g = at g.kind g.name
  where
    at : (kind : GroupKind) (own : Option NameId) → is_key (monitor_key parent name) (record { high = kind_number kind; low = name_number own }) ≡ (is_monitor_of parent kind && has_name name own)
    at Control own = grind (arith, nat_tests)
    at (Monitor other) None = grind (arith, nat_tests)
    at (Monitor other) (Some own) = grind (arith, nat_tests)

module _ {X : Type 0} (p : X → Bool) (xs : List X) (there : list_any p xs ≡ true) where
  -- where some element passes, the first that does is in the list
  pub position_or_len-within : position_or_len p xs < length xs
  position_or_len-within = elim (cases_lt (position_or_len p xs) (length xs)) [
    | inl lower ↦ lower
    | inr past ↦ absurd (let none : is_some (find p xs) ≡ false = ap is_some (find_at p xs ∙ slice_get_past xs (position_or_len p xs) past) in true≢false (sym there ∙ sym (is_some-find p xs) ∙ none))
  ]

  -- and it passes
  pub HoldsAt-position_or_len : HoldsAt (λ x. p x ≡ true) xs (position_or_len p xs)
  HoldsAt-position_or_len d = passes_at_first p xs d position_or_len-within
