-- An rmdir and a write of `tasks` keep a sound state.
use Rattle.std.proofs.Common.{◌≡◌, ◌≢◌, ℕ, suc, ◌<◌, Bool, true, false, not, ◌||◌, cond, eqb, List, [], ◌∷◌, length, filter, find, get_or, Option, None, Some, IsSomeAnd, refl, sym, ap, ◌∙◌, arith}
use Rattle.std.specs.List.{list_any, slice_get}
use Rattle.std.specs.Option.{option_map_or}
use Rattle.std.proofs.lemmas.Bool.{eq-eqb, eqb-true, eqb-false}
use Rattle.std.proofs.lemmas.List.Elements.{All-filter, All-map}
use Rattle.std.proofs.lemmas.List.Folds.{list_any_at}
use Rattle.std.proofs.lemmas.List.Kept.{AllPairs-filter}
use Rattle.group_tree.specs.declared.group_kind.GroupKind.TheVariants.{Control}
use Rattle.lists.proofs.Choices.{cond-case}
use Rattle.lists.proofs.Tests.{IsFound, find-found, list_any-kept}
use Rattle.pair_law.specs.Sound.{AreBound, HasPlaces, HasValid, IsDefault, IsGroup, IsSound, KeepApart, OffShareable}
use Rattle.pair_law.specs.State.{PairGroup, PairState, group_named, has_gid, has_name, is_same_name}
use Rattle.pair_law.specs.commands.Rmdir as rmdir
use Rattle.pair_law.specs.commands.Tasks as tasks
use Rattle.pair_text.specs.Values.{Machines, class_count}
use Rattle.rc_base.specs.Gids.{default_gid}
use Rattle.rc_base.specs.declared.names.Gid.{Gid}
use Rattle.task_binding.specs.Bindings.{has_control, is_of, joined}
use Rattle.task_binding.specs.declared.binding.Binding.{Binding}
use Rattle.tree_law.proofs.laws.TaskNumbers.{AreRising-changed}
use Rattle.tree_law.specs.Counted.{is_counted_mode}
use Rattle.tree_law.specs.Refusals.{Refusal}
use Rattle.tree_law.specs.commands.Tasks.{against_task, elements, in_group, moved, moves, or_ended, task_in}

-- the default group is there
pub IsGroup-default : (groups : List PairGroup) → IsSomeAnd (slice_get groups 0) IsDefault → IsGroup groups default_gid
IsGroup-default [] first = absurd first
IsGroup-default (g ∷ gs) first = at (eqb 0 g.gid.0) (eq-eqb 0 g.gid.0 (sym first.gid))
  where
    at : (b : Bool) → b ≡ true → (b || list_any (has_gid default_gid) gs) ≡ true
    at true e = refl
    at false e = absurd (let f : false ≡ true = e in cc)

-- a group that was found is there
pub IsGroup-found : (groups : List PairGroup) (p : PairGroup → Bool) (g : PairGroup) → IsFound p groups g → IsGroup groups g.gid
IsGroup-found groups p g f = list_any_at (has_gid g.gid) groups f.place g f.within (ap (has_gid g.gid) (f.at g) ∙ eq-eqb g.gid.0 g.gid.0 refl)

-- the number of a named group is not 0
pub gid-named : (m : Machines) (s : PairState) (name : List ℕ) (g : PairGroup) → IsSound m s → group_named s (Some name) ≡ Some g → g.gid.0 ≢ 0
gid-named m s name g sound found = at s.groups sound.named.first sound.named.gids found
  where
    past : (xs : List PairGroup) (x : PairGroup) → IsDefault x → ((k : ℕ) (d : PairGroup) → k < length xs → x.gid.0 ≢ (get_or xs k d).gid.0) → find (has_name (Some name)) xs ≡ Some g → g.gid.0 ≢ 0
    past xs x default differ f zeroth = (let there = find-found (has_name (Some name)) xs g f in
        differ there.place g there.within (default.gid ∙ (sym zeroth ∙ ap (λ (y : PairGroup). y.gid.0) (sym (there.at g)))))

    at : (gs : List PairGroup) → IsSomeAnd (slice_get gs 0) IsDefault → ((i j : ℕ) (d : PairGroup) → i < j → j < length gs → (get_or gs i d).gid.0 ≢ (get_or gs j d).gid.0) → find (has_name (Some name)) gs ≡ Some g → g.gid.0 ≢ 0
    at [] first gids f = absurd first
    at (x ∷ xs) first gids f = past xs x first (λ k d within. gids 0 (suc k) d (omega arith) (omega arith)) (other (has_name (Some name) x) (ap (is_same_name (Some name)) first.name) f)
      where
        other : (b : Bool) → b ≡ false → cond b (Some x) (find (has_name (Some name)) xs) ≡ Some g → find (has_name (Some name)) xs ≡ Some g
        other true e c = absurd (let t : true ≡ false = e in cc)
        other false e c = c

module _ (m : Machines) (s : PairState) (gid : Gid) (sound : IsSound m s) (other : gid.0 ≢ 0) where
  -- the groups that stay
  abbrev keep : PairGroup → Bool
  keep x = not (has_gid gid x)

  keep-other : (x : PairGroup) → gid.0 ≢ x.gid.0 → keep x ≡ true
  keep-other x ne = at (has_gid gid x) refl
    where
      at : (b : Bool) → has_gid gid x ≡ b → not b ≡ true
      at true e = absurd (ne (eqb-true gid.0 x.gid.0 e))
      at false e = refl

  -- another group stays there
  IsGroup-without : (p : Gid) → gid.0 ≢ p.0 → IsGroup s.groups p → IsGroup (rmdir.without gid s.groups) p
  IsGroup-without p ne there = list_any-kept (has_gid p) keep s.groups (λ k d within passes. keep-other (get_or s.groups k d) (λ e. ne (e ∙ sym (eqb-true p.0 (get_or s.groups k d).gid.0 passes)))) there

  first-without : (gs : List PairGroup) → IsSomeAnd (slice_get gs 0) IsDefault → IsSomeAnd (slice_get (filter keep gs) 0) IsDefault
  first-without [] f = f
  first-without (x ∷ xs) f = at (keep x) (keep-other x (λ e. other (e ∙ f.gid)))
    where
      at : (b : Bool) → b ≡ true → IsSomeAnd (slice_get (cond b (x ∷ filter keep xs) (filter keep xs)) 0) IsDefault
      at true e = f
      at false e = absurd (let g : false ≡ true = e in cc)

  -- without a group that is not the default one
  pub without_group-sound : IsSound m (rmdir.without_group s gid)
  without_group-sound = record {
    named = record {
      first = first-without s.groups sound.named.first;
      gids = AllPairs-filter (λ (a b : PairGroup). a.gid.0 ≢ b.gid.0) keep s.groups sound.named.gids;
      serial = All-filter keep (λ (x : PairGroup). x.gid.0 < s.next_gid) s.groups sound.named.serial;
      names = AllPairs-filter (λ (a b : PairGroup). a.name ≢ b.name) keep s.groups sound.named.names;
      modes = All-filter keep (λ (x : PairGroup). is_counted_mode x.mode ≡ true) s.groups sound.named.modes;
    };
    classes = record {
      exist = All-filter keep (λ (x : PairGroup). x.class < class_count m) s.groups sound.classes.exist;
      apart = AllPairs-filter (λ (a b : PairGroup). a.class ≢ b.class) keep s.groups sound.classes.apart;
    };
    masks = record {
      places = All-filter keep HasPlaces s.groups sound.masks.places;
      valid = All-filter keep (HasValid m) s.groups sound.masks.valid;
      apart = AllPairs-filter (KeepApart m) keep s.groups sound.masks.apart;
      off_shareable = All-filter keep (OffShareable m) s.groups sound.masks.off_shareable;
    };
    tasks = record {
      rising = AreRising-changed (has_control gid) (joined default_gid) s.tasks (λ b. refl) sound.tasks.rising;
      each = All-map (λ (b : Binding). IsGroup (rmdir.without gid s.groups) b.control) (λ (b : Binding). cond (has_control gid b) (joined default_gid b) b) s.tasks
          (λ k d within. cond-case (λ (b : Binding). IsGroup (rmdir.without gid s.groups) b.control) (has_control gid (get_or s.tasks k d)) (joined default_gid (get_or s.tasks k d)) (get_or s.tasks k d)
          (λ e. IsGroup-without default_gid other (IsGroup-default s.groups sound.named.first))
          (λ e. IsGroup-without (get_or s.tasks k d).control (λ same. eqb-false (get_or s.tasks k d).control.0 gid.0 e (sym same)) (sound.tasks.each k d within)));
    };
  }

-- an rmdir keeps a sound state
pub rmdir-sound : (m : Machines) (s : PairState) (name : List ℕ) → IsSound m s → IsSound m (rmdir.accepted s name)
unfolding rmdir.accepted
rmdir-sound m s name sound = at (group_named s (Some name)) refl
  where
    at : (o : Option PairGroup) → group_named s (Some name) ≡ o → IsSound m (option_map_or (λ (g : PairGroup). rmdir.without_group s g.gid) o s)
    at None is = sound
    at (Some g) is = without_group-sound m s g.gid sound (gid-named m s name g sound is)

-- ---- tasks

module _ (groups : List PairGroup) (gid : Gid) (there : IsGroup groups gid) where
  AreBound-moved : (task : Option ℕ) (all : List Binding) → AreBound groups all → AreBound groups (moved gid Control task all)
  AreBound-moved None all bound = bound
  AreBound-moved (Some task) all bound = record {
    rising = AreRising-changed (is_of task) (in_group gid Control) all (λ b. refl) bound.rising;
    each = All-map (λ (b : Binding). IsGroup groups b.control) (λ (b : Binding). cond (is_of task b) (in_group gid Control b) b) all
        (λ k d within. cond-case (λ (b : Binding). IsGroup groups b.control) (is_of task (get_or all k d)) (in_group gid Control (get_or all k d)) (get_or all k d) (λ e. there) (λ e. bound.each k d within));
  }

  -- after the moves of a whole text
  AreBound-moves : (es : List (List ℕ)) (all : List Binding) → AreBound groups all → AreBound groups (moves gid Control es all).tasks
  AreBound-moves [] all bound = bound
  AreBound-moves (e ∷ es) all bound = at (against_task Control all (task_in e)) (AreBound-moves es (moved gid Control (task_in e) all) (AreBound-moved (task_in e) all bound))
    where
      at : (o : Option Refusal) → AreBound groups (moves gid Control es (moved gid Control (task_in e) all)).tasks → AreBound groups (or_ended o all (moves gid Control es (moved gid Control (task_in e) all))).tasks
      at None rest = rest
      at (Some r) rest = bound

-- a write of tasks keeps a sound state, also one that stops at a refused task
pub tasks-sound : (m : Machines) (s : PairState) (g : PairGroup) (text : List ℕ) → IsSound m s → IsGroup s.groups g.gid → IsSound m (tasks.kept s g text)
unfolding tasks.kept
tasks-sound m s g text sound there = record { named = sound.named; classes = sound.classes; masks = sound.masks; tasks = AreBound-moves s.groups g.gid there (elements text) s.tasks sound.tasks }
