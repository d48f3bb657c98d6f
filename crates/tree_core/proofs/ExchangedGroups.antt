-- A record that takes the place of another: the ids that are taken, and what the type keeps.
use Rattle.std.proofs.Common.{◌≡◌, ℕ, ◌<◌, ◌≤◌, Bool, true, false, not, ◌&&◌, ◌||◌, cond, List, [], ◌∷◌, length, find, get_or, take, Option, Some, refl, sym, subst, ap, ap₂, ◌∙◌}
use Rattle.std.specs.List.{AllPairs, list_any}
use Rattle.std.proofs.lemmas.List.Folds.{list_any_none}
use Rattle.group_tree.specs.Lists.{GroupList, has_group, replaced}
use Rattle.group_tree.specs.Records.{has_gid}
use Rattle.group_tree.specs.declared.group.Group.{Group}
use Rattle.hw_ids.specs.Classes.{Classes}
use Rattle.hw_ids.specs.Ids.{contains}
use Rattle.hw_ids.specs.MonitoringIds.{MonitoringIds}
use Rattle.lists.proofs.Tests.{IsFound, find-found}
use Rattle.machine.specs.declared.parameters.Parameters.{Parameters}
use Rattle.pseudo_lock.specs.Regions.{RegionTable}
use Rattle.rc_base.specs.declared.names.Gid.{Gid}
use Rattle.tree_core.proofs.FoundGroups.{has_group-found}
use Rattle.tree_core.proofs.GoingGroups.{list_any-has_gid}
use Rattle.tree_core.proofs.StayingIds.{place-id}
use Rattle.tree_core.specs.Kept.{Keeps}
use Rattle.tree_core.specs.Tables.{AreTaken, Tables}
use Rattle.tree_law.specs.Sound.{Differ, IsSound}
use Rattle.tree_law.specs.Space.{is_id}
use Rattle.tree_law.specs.State.{State}

-- ---- ids that are taken and given back

-- of the ids that are taken, this one is given back, and that one is taken
abbrev pub TakesOver : Option ℕ → Option ℕ → List ℕ → List ℕ → Type 0
TakesOver given got old now = (id : ℕ) → contains id now ≡ (is_id id got || (not (is_id id given) && contains id old))

-- none is, where both are the same
pub TakesOver-same : (o : Option ℕ) (old : List ℕ) → ((id : ℕ) → is_id id o ≡ true → contains id old ≡ true) → TakesOver o o old old
TakesOver-same o old has id = at (is_id id o) (has id)
  where
    at : (b : Bool) → (b ≡ true → contains id old ≡ true) → contains id old ≡ (b || (not b && contains id old))
    at true is = is refl
    at false is = refl

-- ---- tests of the groups

-- a test of the groups, by those with a gid and the others
split : (p q : Group → Bool) (groups : List Group) → list_any p groups ≡ (list_any (λ (x : Group). q x && p x) groups || list_any (λ (x : Group). not (q x) && p x) groups)
split p q [] = refl
split p q (x ∷ xs) = ap (λ (b : Bool). p x || b) (split p q xs) ∙ at (q x) (p x) (list_any (λ (y : Group). q y && p y) xs) (list_any (λ (y : Group). not (q y) && p y) xs)
  where
    at : (q p a b : Bool) → (p || (a || b)) ≡ (((q && p) || a) || ((not q && p) || b))
    at true true a b = refl
    at true false a b = refl
    at false true true b = refl
    at false true false b = refl
    at false false a b = refl

-- the same, where a record has taken the place of that with its gid
split-replaced : (new : Group) (p : Group → Bool) (groups : List Group) → list_any p (replaced new groups) ≡ ((has_group new.gid groups && p new) || list_any (λ (x : Group). not (has_gid new.gid x) && p x) groups)
split-replaced new p [] = refl
split-replaced new p (x ∷ xs) = ap (λ (b : Bool). p (cond (has_gid new.gid x) new x) || b) (split-replaced new p xs) ∙ at (has_gid new.gid x) (has_group new.gid xs) (list_any (λ (y : Group). not (has_gid new.gid y) && p y) xs)
  where
    at : (b h o : Bool) → (p (cond b new x) || ((h && p new) || o)) ≡ (((b || h) && p new) || ((not b && p x) || o))
    at true h o = by (p new) h
      where
        by : (c h : Bool) → (c || ((h && c) || o)) ≡ ((true && c) || (false || o))
        by true h = refl
        by false true = refl
        by false false = refl
    at false h o = by (p x) (h && p new)
      where
        by : (c h : Bool) → (c || (h || o)) ≡ (h || (c || o))
        by true true = refl
        by true false = refl
        by false h = refl

module _ {m : Parameters} {t : Tables} {s : State} {epoch : ℕ} (keeps : Keeps m t s epoch) (g new : Group) (found : find (has_gid g.gid) s.groups ≡ Some g) (same : new.gid ≡ g.gid) where
  -- whether another group has this id
  abbrev others : (Group → Option ℕ) → ℕ → Bool
  others of id = list_any (λ (x : Group). not (has_gid g.gid x) && is_id id (of x)) s.groups

  -- no other has the group's
  others-none : (of : Group → Option ℕ) (id : ℕ) → AllPairs (λ (a b : Group). Differ (of a) (of b)) s.groups → is_id id (of g) ≡ true → others of id ≡ false
  others-none of id apart is = list_any_none (λ (x : Group). not (has_gid g.gid x) && is_id id (of x)) s.groups (λ k d within. at k d within (has_gid g.gid (get_or s.groups k d)) (is_id id (of (get_or s.groups k d))) refl refl)
    where
      f : IsFound (has_gid g.gid) s.groups g
      f = find-found (has_gid g.gid) s.groups g found

      at : (k : ℕ) (d : Group) → k < length s.groups → (b c : Bool) → has_gid g.gid (get_or s.groups k d) ≡ b → is_id id (of (get_or s.groups k d)) ≡ c → (not b && c) ≡ false
      at k d within true c mine has = refl
      at k d within false false mine has = refl
      at k d within false true mine has =
          absurd (let place : k ≡ f.place = place-id s.groups (λ (x : Group). true) of apart id k f.place d within f.within has (ap (λ (x : Group). is_id id (of x)) (f.at d) ∙ is) in
          let own : has_gid g.gid (get_or s.groups k d) ≡ true = ap (λ (n : ℕ). has_gid g.gid (get_or s.groups n d)) place ∙ ap (has_gid g.gid) (f.at d) ∙ f.passes in
          let bad : false ≡ true = sym mine ∙ own in cc)

  -- the ids of a kind that are taken, after the exchange
  contains-exchanged : (of : Group → Option ℕ) (old now : List ℕ) → AllPairs (λ (a b : Group). Differ (of a) (of b)) s.groups → ((id : ℕ) → contains id old ≡ list_any (λ (x : Group). is_id id (of x)) s.groups) → TakesOver (of g) (of new) old now
      → (id : ℕ) → contains id now ≡ list_any (λ (x : Group). is_id id (of x)) (replaced new s.groups)
  contains-exchanged of old now apart is_old is_now id = is_now id ∙ ap (λ (b : Bool). is_id id (of new) || (not (is_id id (of g)) && b)) before ∙ at (is_id id (of g)) refl ∙ sym after
    where
      before : contains id old ≡ (is_id id (of g) || others of id)
      before = is_old id ∙ split (λ (x : Group). is_id id (of x)) (has_gid g.gid) s.groups ∙ ap (λ (b : Bool). b || others of id) (list_any-has_gid keeps g.gid g (λ (x : Group). is_id id (of x)) found)

      after : list_any (λ (x : Group). is_id id (of x)) (replaced new s.groups) ≡ (is_id id (of new) || others of id)
      after = split-replaced new (λ (x : Group). is_id id (of x)) s.groups
          ∙ ap₂ (λ (b c : Bool). (b && is_id id (of new)) || c) (ap (λ (i : Gid). has_group i s.groups) same ∙ has_group-found s.groups g.gid g found)
          (ap (λ (i : Gid). list_any (λ (x : Group). not (has_gid i x) && is_id id (of x)) s.groups) same)

      at : (b : Bool) → is_id id (of g) ≡ b → (is_id id (of new) || (not b && (b || others of id))) ≡ (is_id id (of new) || others of id)
      at true mine = ap (λ (b : Bool). is_id id (of new) || b) (sym (others-none of id apart mine))
      at false mine = refl

  -- the ids that are taken are those of the groups
  pub AreTaken-exchanged : (classes' : Classes) (rmids' : MonitoringIds) → classes'.count ≡ t.classes.count → TakesOver g.class new.class t.classes.taken classes'.taken → rmids'.count ≡ t.rmids.count → TakesOver g.rmid new.rmid t.rmids.taken rmids'.taken
      → AreTaken m (replaced new s.groups) classes' rmids'
  AreTaken-exchanged classes' rmids' class_count classes rmid_count rmids = record {
    class_count = class_count ∙ keeps.stands.taken.class_count;
    class_taken = contains-exchanged (λ (x : Group). x.class) t.classes.taken classes'.taken (λ i j d lt within. (keeps.sound.numbered.apart i j d lt within).0) keeps.stands.taken.class_taken classes;
    rmid_count = rmid_count ∙ keeps.stands.taken.rmid_count;
    rmid_taken = contains-exchanged (λ (x : Group). x.rmid) t.rmids.taken rmids'.taken (λ i j d lt within. (keeps.sound.numbered.apart i j d lt within).1) keeps.stands.taken.rmid_taken rmids;
  }

  -- a class that is kept
  pub TakesOver-class : (class : Option ℕ) → class ≡ g.class → TakesOver g.class class t.classes.taken t.classes.taken
  TakesOver-class class is = subst (λ (o : Option ℕ). TakesOver g.class o t.classes.taken t.classes.taken) (sym is) (TakesOver-same g.class t.classes.taken (λ id own. keeps.stands.taken.class_taken id ∙ some (λ (x : Group). x.class) id own))
    where
      some : (of : Group → Option ℕ) (id : ℕ) → is_id id (of g) ≡ true → list_any (λ (x : Group). is_id id (of x)) s.groups ≡ true
      some of id own = split (λ (x : Group). is_id id (of x)) (has_gid g.gid) s.groups ∙ ap (λ (b : Bool). b || others of id) (list_any-has_gid keeps g.gid g (λ (x : Group). is_id id (of x)) found ∙ own)

  -- an RMID that is kept
  pub TakesOver-rmid : (rmid : Option ℕ) → rmid ≡ g.rmid → TakesOver g.rmid rmid t.rmids.taken t.rmids.taken
  TakesOver-rmid rmid is = subst (λ (o : Option ℕ). TakesOver g.rmid o t.rmids.taken t.rmids.taken) (sym is) (TakesOver-same g.rmid t.rmids.taken (λ id own. keeps.stands.taken.rmid_taken id ∙ some (λ (x : Group). x.rmid) id own))
    where
      some : (of : Group → Option ℕ) (id : ℕ) → is_id id (of g) ≡ true → list_any (λ (x : Group). is_id id (of x)) s.groups ≡ true
      some of id own = split (λ (x : Group). is_id id (of x)) (has_gid g.gid) s.groups ∙ ap (λ (b : Bool). b || others of id) (list_any-has_gid keeps g.gid g (λ (x : Group). is_id id (of x)) found ∙ own)

  -- the new tables stand for the state with the new record
  pub Keeps-exchanged : (groups' : GroupList) (classes' : Classes) (rmids' : MonitoringIds) (regions' : RegionTable) (after : State) → groups'.groups ≡ replaced new t.groups.groups → groups'.shareable ≡ t.groups.shareable → AreTaken m (replaced new s.groups) classes' rmids'
      → rmids'.threshold ≡ t.rmids.threshold → regions'.placed ≤ epoch → after ≡ record s { groups = replaced new s.groups; limbo = rmids'.limbo; regions = take m.domains regions'.places; locks = regions'.placed } → IsSound m after
      → Keeps m (record t { groups = groups'; classes = classes'; rmids = rmids'; regions = regions' }) after epoch
  Keeps-exchanged groups' classes' rmids' regions' after is_groups shareable taken threshold locks is sound = subst (λ (x : State). Keeps m (record t { groups = groups'; classes = classes'; rmids = rmids'; regions = regions' }) x epoch) (sym is) (record {
    stands = record {
      groups = is_groups ∙ ap (replaced new) keeps.stands.groups;
      tasks = keeps.stands.tasks;
      cpus = keeps.stands.cpus;
      limbo = refl;
      threshold = threshold ∙ keeps.stands.threshold;
      regions = refl;
      locks = refl;
      shareable = shareable ∙ keeps.stands.shareable;
      taken = taken;
      gids_left = keeps.stands.gids_left;
      locks_left = locks;
    };
    sound = subst (IsSound m) is sound;
    few_tasks = keeps.few_tasks;
  })
