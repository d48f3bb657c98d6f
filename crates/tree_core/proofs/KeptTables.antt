-- What the type of the tree keeps, by its parts.
use Rattle.std.proofs.Common.{◌≡◌, ◌≢◌, ℕ, ◌+◌, ◌<◌, true, List, [], ◌∷◌, length, get_or, Option, None, Some, IfSome, refl, subst, ap, ◌∙◌, arith}
use Rattle.std.specs.Prelude.{IsSomeAnd}
use Rattle.std.specs.List.{slice_get}
use Rattle.std.proofs.lemmas.Bool.{eq-eqb}
use Rattle.std.proofs.lemmas.List.Folds.{list_any_at}
use Rattle.group_tree.specs.Records.{blank, has_gid}
use Rattle.group_tree.specs.declared.group.Group.{Group}
use Rattle.hw_ids.specs.Ids.{contains}
use Rattle.machine.specs.declared.parameters.Parameters.{Parameters}
use Rattle.rc_base.specs.declared.names.Gid.{Gid}
use Rattle.lists.proofs.Tests.{IsFound, IsFound-all, find-found}
use Rattle.rc_base.specs.declared.replies.Reply.{Reply}
use Rattle.tree_law.proofs.laws.Steps.{status-sound}
use Rattle.tree_core.specs.Given.{MayGive}
use Rattle.tree_core.specs.Kept.{IsKept, Keeps}
use Rattle.tree_core.specs.Tables.{Tables}
use Rattle.tree_core.specs.Values.{TreeValue}
use Rattle.tree_law.specs.Existing.{group_of}
use Rattle.tree_law.specs.Sound.{HasIds, IsDefault}
use Rattle.tree_law.specs.Space.{is_id}
use Rattle.tree_law.specs.State.{State}

-- what is kept has its parts
pub Keeps-from_IsKept : {m : Parameters} {t : Tables} {s : State} {epoch : ℕ} → IsKept m t s epoch → Keeps m t s epoch
unfolding IsKept
Keeps-from_IsKept k = k

-- and is kept where it has these
pub IsKept-from_Keeps : {m : Parameters} {t : Tables} {s : State} {epoch : ℕ} → Keeps m t s epoch → IsKept m t s epoch
unfolding IsKept
IsKept-from_Keeps k = k

-- what is kept of a tree, as contracts see it
pub Keeps-of : {u v : TreeValue} (t : Tables) → u ≡ v → IsKept u.machine t u.state u.epoch → Keeps v.machine t v.state v.epoch
unfolding IsKept
Keeps-of t same k = subst (λ (w : TreeValue). Keeps w.machine t w.state w.epoch) same k

-- states that differ in three parts alone
pub State-same : (s : State) (groups groups' : List Group) (limbo limbo' : List ℕ) (threshold threshold' : ℕ) → groups ≡ groups' → limbo ≡ limbo' → threshold ≡ threshold'
    → record s { groups = groups; limbo = limbo; threshold = threshold } ≡ record s { groups = groups'; limbo = limbo'; threshold = threshold' }
State-same s groups groups' limbo limbo' threshold threshold' e f h =
    ap (λ (gs : List Group). record s { groups = gs; limbo = limbo; threshold = threshold }) e
    ∙ ap (λ (ids : List ℕ). record s { groups = groups'; limbo = ids; threshold = threshold }) f
    ∙ ap (λ (n : ℕ). record s { groups = groups'; limbo = limbo'; threshold = n }) h

-- ---- the default group

-- there is a first group
pub length-positive : (groups : List Group) → IsSomeAnd (slice_get groups 0) IsDefault → 0 < length groups
length-positive [] first = absurd first
length-positive (g ∷ gs) first = omega arith

-- which is the default group
pub IsDefault-first : (groups : List Group) (d : Group) → IsSomeAnd (slice_get groups 0) IsDefault → IsDefault (get_or groups 0 d)
IsDefault-first [] d first = absurd first
IsDefault-first (g ∷ gs) d first = first

-- ---- a group of the tree

module _ {m : Parameters} {t : Tables} {s : State} {epoch : ℕ} (keeps : Keeps m t s epoch) where
  -- what a look-up found
  pub IsFound-group_of : (gid : Gid) (g : Group) → group_of s gid ≡ Some g → IsFound (has_gid gid) s.groups g
  IsFound-group_of gid g found = find-found (has_gid gid) s.groups g found

  -- it has the ids of its kind
  pub HasIds-found : (gid : Gid) (g : Group) → group_of s gid ≡ Some g → HasIds s.groups g.kind g
  HasIds-found gid g found = IsFound-all (λ (x : Group). HasIds s.groups x.kind x) (has_gid gid) s.groups g (IsFound-group_of gid g found) keeps.sound.numbered.ids

  -- it has eight masks
  pub length-found_masks : (gid : Gid) (g : Group) → group_of s gid ≡ Some g → length g.masks ≡ 8
  length-found_masks gid g found = IsFound-all (λ (x : Group). length x.masks ≡ 8) (has_gid gid) s.groups g (IsFound-group_of gid g found) keeps.sound.masks.places

  -- the class of each group is taken
  pub contains-class : (k : ℕ) (d : Group) (id : ℕ) → k < length s.groups → (get_or s.groups k d).class ≡ Some id → contains id t.classes.taken ≡ true
  contains-class k d id within has =
      keeps.stands.taken.class_taken id ∙ list_any_at (λ (g : Group). is_id id g.class) s.groups k d within (ap (is_id id) has ∙ eq-eqb id id refl)

  -- and so is its RMID
  pub contains-rmid : (k : ℕ) (d : Group) (id : ℕ) → k < length s.groups → (get_or s.groups k d).rmid ≡ Some id → contains id t.rmids.taken ≡ true
  contains-rmid k d id within has =
      keeps.stands.taken.rmid_taken id ∙ list_any_at (λ (g : Group). is_id id g.rmid) s.groups k d within (ap (is_id id) has ∙ eq-eqb id id refl)

  -- class 0 is taken, for the default group has it
  pub contains-default_class : contains 0 t.classes.taken ≡ true
  contains-default_class = (let d = blank in contains-class 0 d 0 (length-positive s.groups keeps.sound.named.first) (IsDefault-first s.groups d keeps.sound.named.first).class)

  -- the class of a group that a look-up found is taken
  pub contains-class_found : (gid : Gid) (g : Group) (id : ℕ) → group_of s gid ≡ Some g → g.class ≡ Some id → contains id t.classes.taken ≡ true
  contains-class_found gid g id found has = let f = IsFound-group_of gid g found in contains-class f.place g id f.within (ap (λ (x : Group). x.class) (f.at g) ∙ has)

  -- so it may be given back, where it is not 0
  pub MayGive-found : (gid : Gid) (g : Group) → group_of s gid ≡ Some g → (class : Option ℕ) → g.class ≡ class → IfSome class (λ id. id ≢ 0) → MayGive t.classes class
  MayGive-found gid g found None is other = tt
  MayGive-found gid g found (Some id) is other = (contains-class_found gid g id found is, other)

  -- and so is its RMID
  pub contains-rmid_found : (gid : Gid) (g : Group) (id : ℕ) → group_of s gid ≡ Some g → g.rmid ≡ Some id → contains id t.rmids.taken ≡ true
  contains-rmid_found gid g id found has = let f = IsFound-group_of gid g found in contains-rmid f.place g id f.within (ap (λ (x : Group). x.rmid) (f.at g) ∙ has)

-- ---- after a command more, and another last status

-- a command more leaves what is kept
pub IsKept-suc : {m : Parameters} {t : Tables} {s : State} {epoch : ℕ} → Keeps m t s epoch → IsKept m t s (epoch + 1)
unfolding IsKept
IsKept-suc keeps = record {
  stands = record {
    groups = keeps.stands.groups;
    tasks = keeps.stands.tasks;
    cpus = keeps.stands.cpus;
    limbo = keeps.stands.limbo;
    threshold = keeps.stands.threshold;
    regions = keeps.stands.regions;
    locks = keeps.stands.locks;
    shareable = keeps.stands.shareable;
    taken = keeps.stands.taken;
    gids_left = let left = keeps.stands.gids_left in omega arith;
    locks_left = let left = keeps.stands.locks_left in omega arith;
  };
  sound = keeps.sound;
  few_tasks = keeps.few_tasks;
}

-- and so does another last status
pub IsKept-status : {m : Parameters} {t : Tables} {s : State} {epoch : ℕ} (reply : Reply) → Keeps m t s epoch → IsKept m t (record s { status = reply }) epoch
unfolding IsKept
IsKept-status {m} {t} {s} reply keeps = record {
  stands = record {
    groups = keeps.stands.groups;
    tasks = keeps.stands.tasks;
    cpus = keeps.stands.cpus;
    limbo = keeps.stands.limbo;
    threshold = keeps.stands.threshold;
    regions = keeps.stands.regions;
    locks = keeps.stands.locks;
    shareable = keeps.stands.shareable;
    taken = keeps.stands.taken;
    gids_left = keeps.stands.gids_left;
    locks_left = keeps.stands.locks_left;
  };
  sound = status-sound m s reply keeps.sound;
  few_tasks = keeps.few_tasks;
}
