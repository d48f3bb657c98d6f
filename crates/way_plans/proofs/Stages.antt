-- What is known of the groups while the commands of a plan are played.
use Rattle.std.proofs.Common.{◌≡◌, ℕ, ◌⊎◌, Bool, true, false, cond, eqb, List, [], ◌∷◌, find, get_or, Option, Some, inl, inr, refl, sym, subst, ap, ◌∙◌}
use Rattle.std.specs.Prelude.{All, option_map}
use Rattle.std.specs.List.{AllByRecursion, list_any}
use Rattle.std.proofs.lemmas.Bool.{eq-eqb, eqb-false, eqb-true, or_cases}
use Rattle.group_tree.proofs.laws.Records.{exchanged-gid}
use Rattle.group_tree.specs.Lists.{exchanged, replaced}
use Rattle.group_tree.specs.Records.{has_gid}
use Rattle.group_tree.specs.declared.group.Group.{Group}
use Rattle.lists.proofs.Keyed.{All-replaced, get_or-key}
use Rattle.lists.proofs.Tests.{find-found, find-map}
use Rattle.machine.specs.declared.parameters.Parameters.{Parameters}
use Rattle.pseudo_lock.specs.declared.region.Region.{Region}
use Rattle.rc_base.specs.declared.names.Gid.{Gid}
use Rattle.rc_base.specs.declared.names.Mode.{Mode}
use Rattle.tree_law.specs.Counted.{is_counted, is_counted_mode}
use Rattle.tree_law.specs.Existing.{dir_exists}
use Rattle.tree_law.specs.Places.{control_at}
use Rattle.tree_law.specs.Sound.{IsSound}
use Rattle.tree_law.specs.State.{State}
use Rattle.way_plans.proofs.OwnDirectories.{as_gid, control_at-own, gid_number, is_control-counted}
use Rattle.way_plans.specs.PlanTexts.{dir_of, named_dir}

-- A group of the plan as it is now: it has its gid and its name, it is counted, and this holds of the two.
pub record Stands (K : Group → Group → Type 0) (groups : List Group) (p : Group) : Type 0 where
  pub group : Group
  pub found : find (has_gid p.gid) groups ≡ Some group
  pub named : group.name ≡ p.name
  pub counted : is_counted group ≡ true
  pub kept : K p group

-- what was found by a gid has it
gid-found : (gid : Gid) (groups : List Group) (g : Group) → find (has_gid gid) groups ≡ Some g → gid ≡ g.gid
gid-found gid groups g found = ap as_gid (eqb-true gid.0 g.gid.0 (find-found (has_gid gid) groups g found).passes)

-- and is found by its own
pub find-own : (gid : Gid) (groups : List Group) (g : Group) → find (has_gid gid) groups ≡ Some g → find (has_gid g.gid) groups ≡ Some g
find-own gid groups g found = subst (λ (i : Gid). find (has_gid i) groups ≡ Some g) (gid-found gid groups g found) found

-- whichever group it is now
abbrev pub Whichever : Group → Group → Type 0
Whichever p g = Unit {0}

-- its directory leads to it
pub directory-stands : (K : Group → Group → Type 0) (m : Parameters) (s : State) (p : Group) → IsSound m s → (st : Stands K s.groups p) → (control_at s (dir_of p) ≡ Some st.group) × (dir_exists s (dir_of p) ≡ true)
directory-stands K m s p sound st =
    let x = st.group in
    let f = find-found (has_gid p.gid) s.groups x st.found in
    let is : get_or s.groups f.place x ≡ x = f.at x in
    let own = control_at-own m s sound f.place x f.within (ap is_counted is ∙ st.counted) in
    let both : (control_at s (named_dir x.name) ≡ Some x) × (dir_exists s (named_dir x.name) ≡ true) = subst (λ (g : Group). (control_at s (named_dir g.name) ≡ Some g) × (dir_exists s (named_dir g.name) ≡ true)) is own in
    subst (λ o. (control_at s (named_dir o) ≡ Some x) × (dir_exists s (named_dir o) ≡ true)) st.named both

-- a group with another mode and other masks
abbrev pub turned : Group → Mode → List ℕ → Group
turned g mode masks = record g { mode = mode; masks = masks }

-- a counted group stays counted in a counted mode
pub is_counted-turned : (g : Group) (mode : Mode) (masks : List ℕ) → is_counted g ≡ true → is_counted_mode mode ≡ true → is_counted (turned g mode masks) ≡ true
is_counted-turned g mode masks counted is = ap (λ (b : Bool). cond b (is_counted_mode mode) false) (is_control-counted g counted) ∙ is

-- ---- another group is turned

module _ (K : Group → Group → Type 0) (groups : List Group) (p : Group) (st : Stands K groups p) (mode : Mode) (masks : List ℕ) (is : is_counted_mode mode ≡ true) where
  -- the record that takes the place
  abbrev new : Group
  new = turned st.group mode masks

  -- each still stands
  pub Stands-turned : (q : Group) → (K q st.group → K q new) → Stands K groups q → Stands K (replaced new groups) q
  Stands-turned q keeps sq = at (has_gid new.gid y) refl there
    where
      y : Group
      y = sq.group

      there : find (has_gid q.gid) (replaced new groups) ≡ Some (exchanged new y)
      there = find-map (has_gid q.gid) (exchanged new) (λ g. ap (eqb q.gid.0) (exchanged-gid new g)) groups ∙ ap (option_map (exchanged new)) sq.found

      at : (b : Bool) → has_gid new.gid y ≡ b → find (has_gid q.gid) (replaced new groups) ≡ Some (cond b new y) → Stands K (replaced new groups) q
      at false e found = record { group = y; found = found; named = sq.named; counted = sq.counted; kept = sq.kept }
      at true e found =
          let own : st.group.gid ≡ y.gid = ap as_gid (eqb-true st.group.gid.0 y.gid.0 e) in
          let two : find (has_gid st.group.gid) groups ≡ Some y = subst (λ (i : Gid). find (has_gid i) groups ≡ Some y) (sym own) (find-own q.gid groups y sq.found) in
          let same : st.group ≡ y = (let f : Some st.group ≡ Some y = sym (find-own p.gid groups st.group st.found) ∙ two in cc) in
          record {
            group = new;
            found = found;
            named = ap (λ (g : Group). g.name) same ∙ sq.named;
            counted = is_counted-turned st.group mode masks st.counted is;
            kept = keeps (subst (K q) (sym same) sq.kept);
          }

  -- and so do several
  pub AllStand-turned : (rest : List Group) → ((q : Group) → K q st.group → K q new) → AllByRecursion (Stands K groups) rest → AllByRecursion (Stands K (replaced new groups)) rest
  AllStand-turned [] keeps all = tt
  AllStand-turned (q ∷ rest) keeps all = (Stands-turned q (keeps q) all.0, AllStand-turned rest keeps all.1)

-- ---- groups that are done

-- a counted group is done, or is one of those that are still to come
abbrev pub IsDone : (Group → Type 0) → List Group → Group → Type 0
IsDone Done rest y = is_counted y ≡ true → Done y ⊎ (list_any (has_gid y.gid) rest ≡ true)

-- What is known while the last groups of a plan are still to come: the tree is sound, its regions are these, the groups of the plan
-- stand, this holds of each group of the tree, and those that do not come any more are done.
pub record Stage (m : Parameters) (K : Group → Group → Type 0) (Each Done : Group → Type 0) (regions : List (Option Region)) (plan rest : List Group) (s : State) : Type 0 where
  pub sound : IsSound m s
  pub regions_same : s.regions ≡ regions
  pub whole : AllByRecursion (Stands Whichever s.groups) plan
  pub stand : AllByRecursion (Stands K s.groups) rest
  pub each : All Each s.groups
  pub done : All (IsDone Done rest) s.groups

module _ (m : Parameters) (K : Group → Group → Type 0) (Each Done : Group → Type 0) (regions : List (Option Region)) (plan : List Group) (p : Group) (rest : List Group) (s : State) (stage : Stage m K Each Done regions plan (p ∷ rest) s) where
  -- the first group as it is now
  abbrev pub st : Stands K s.groups p
  st = stage.stand.0

  abbrev pub x : Group
  x = st.group

  found_own : find (has_gid x.gid) s.groups ≡ Some x
  found_own = find-own p.gid s.groups x st.found

  same_gid : p.gid.0 ≡ x.gid.0
  same_gid = eqb-true p.gid.0 x.gid.0 (find-found (has_gid p.gid) s.groups x st.found).passes

  -- the first group is done as it is, though the last status changes
  pub Stage-same : (left : State) → left.groups ≡ s.groups → left.regions ≡ s.regions → IsSound m left → Done x → Stage m K Each Done regions plan rest left
  Stage-same left groups same sound is = record {
    sound = sound;
    regions_same = same ∙ stage.regions_same;
    whole = subst (λ (gs : List Group). AllByRecursion (Stands Whichever gs) plan) (sym groups) stage.whole;
    stand = subst (λ (gs : List Group). AllByRecursion (Stands K gs) rest) (sym groups) stage.stand.1;
    each = subst (All Each) (sym groups) stage.each;
    done = subst (All (IsDone Done rest)) (sym groups) (λ k d within counted. at (get_or s.groups k d) (λ e. get_or-key gid_number s.groups x x stage.sound.named.gids found_own k d within e) (stage.done k d within counted));
  }
    where
      at : (y : Group) → (has_gid x.gid y ≡ true → y ≡ x) → Done y ⊎ (list_any (has_gid y.gid) (p ∷ rest) ≡ true) → Done y ⊎ (list_any (has_gid y.gid) rest ≡ true)
      at y own (inl d) = inl d
      at y own (inr any) = elim (or_cases (has_gid y.gid p) (list_any (has_gid y.gid) rest) any) [
        | inl mine ↦ inl (subst Done (sym (own (eq-eqb x.gid.0 y.gid.0 (sym (eqb-true y.gid.0 p.gid.0 mine ∙ same_gid))))) is)
        | inr others ↦ inr others
      ]

  module _ (mode : Mode) (masks : List ℕ) (is : is_counted_mode mode ≡ true) (left : State) (groups : left.groups ≡ replaced (turned x mode masks) s.groups) where
    -- the first group is turned and done
    pub Stage-turned : left.regions ≡ s.regions → IsSound m left → ((q : Group) → K q x → K q (turned x mode masks)) → (Each x → Each (turned x mode masks)) → Done (turned x mode masks) → Stage m K Each Done regions plan rest left
    Stage-turned same sound keeps each finished = record {
      sound = sound;
      regions_same = same ∙ stage.regions_same;
      whole = subst (λ (gs : List Group). AllByRecursion (Stands Whichever gs) plan) (sym groups) (AllStand-turned Whichever s.groups p whichever mode masks is plan (λ q any. tt) stage.whole);
      stand = subst (λ (gs : List Group). AllByRecursion (Stands K gs) rest) (sym groups) (AllStand-turned K s.groups p st mode masks is rest keeps stage.stand.1);
      each = subst (All Each) (sym groups) (All-replaced gid_number s.groups (turned x mode masks) x stage.sound.named.gids found_own Each (each mine) (λ k d within other. stage.each k d within));
      done = subst (All (IsDone Done rest)) (sym groups) (All-replaced gid_number s.groups (turned x mode masks) x stage.sound.named.gids found_own (IsDone Done rest) (λ counted. inl finished)
          (λ k d within other counted. at (get_or s.groups k d) other (stage.done k d within counted)));
    }
      where
        whichever : Stands Whichever s.groups p
        whichever = record { group = x; found = st.found; named = st.named; counted = st.counted; kept = tt }

        mine : Each x
        mine = let f = find-found (has_gid x.gid) s.groups x found_own in subst Each (f.at x) (stage.each f.place x f.within)

        at : (y : Group) → has_gid x.gid y ≡ false → Done y ⊎ (list_any (has_gid y.gid) (p ∷ rest) ≡ true) → Done y ⊎ (list_any (has_gid y.gid) rest ≡ true)
        at y other (inl d) = inl d
        at y other (inr any) = elim (or_cases (has_gid y.gid p) (list_any (has_gid y.gid) rest) any) [
          | inl own ↦ absurd (eqb-false x.gid.0 y.gid.0 other (sym (eqb-true y.gid.0 p.gid.0 own ∙ same_gid)))
          | inr others ↦ inr others
        ]
