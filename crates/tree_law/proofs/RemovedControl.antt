-- A control group is removed with its monitor groups: the tree stays sound.
use Rattle.std.proofs.Common.{◌≡◌, ◌≢◌, ℕ, Bool, true, false, cond, eqb, List, map, get_or, Option, None, Some, IfSome, ◌∙◌}
use Rattle.std.proofs.lemmas.List.Elements.{All-map}
use Rattle.group_tree.specs.Records.{is_control}
use Rattle.group_tree.specs.declared.group.Group.{Group}
use Rattle.lists.proofs.Pairs.{AllPairs-map}
use Rattle.lists.proofs.Tests.{IsFound}
use Rattle.machine.specs.declared.parameters.Parameters.{Parameters}
use Rattle.rc_base.specs.declared.names.Gid.{Gid}
use Rattle.tree_law.proofs.KeptGroups.{HaveMasks-filter, AreNamed-filter}
use Rattle.tree_law.specs.Freeing.{rmids_with}
use Rattle.tree_law.specs.Regions.{HaveLines, IsPlaced, LinesDiffer}
use Rattle.tree_law.specs.Sound.{IsSound}
use Rattle.tree_law.specs.State.{State}
use Rattle.pseudo_lock.specs.declared.region.Region.{Region}
use Rattle.tree_law.specs.commands.Rmdir.{region_after, without_control}
use Rattle.tree_law.proofs.GroupKinds.{is_control-counted}
use Rattle.tree_law.proofs.StayingGroups.{keep, keep-other, AreBound-staying, AreServed-staying, AreNumbered-staying, HaveRegions-staying}
use Rattle.group_tree.proofs.laws.Records.{is_monitor_of-control}

module _ (m : Parameters) (s : State) (gid : Gid) (c : Group) (name : Group → Bool) (sound : IsSound m s) (found : IsFound name s.groups c) (is : c.gid ≡ gid) (control : is_control c.kind ≡ true) (other : gid.0 ≢ 0) where
  -- a region that stays has the first line that it had
  HaveLines-staying : HaveLines (map (region_after gid) s.regions) s.locks
  HaveLines-staying = record {
    placed = All-map (λ (o : Option Region). IfSome o (IsPlaced s.locks)) (region_after gid) s.regions (λ k d within. one (get_or s.regions k d) (sound.lines.placed k d within));
    differ = AllPairs-map LinesDiffer (region_after gid) s.regions (λ i j d below within. two (get_or s.regions i d) (get_or s.regions j d) (sound.lines.differ i j d below within));
  }
    where
      one : (o : Option Region) → IfSome o (IsPlaced s.locks) → IfSome (region_after gid o) (IsPlaced s.locks)
      one None placed = tt
      one (Some r) placed = at (eqb r.gid.0 gid.0)
        where
          at : (b : Bool) → IfSome (cond b None (Some r)) (IsPlaced s.locks)
          at true = tt
          at false = placed

      two : (a b : Option Region) → LinesDiffer a b → LinesDiffer (region_after gid a) (region_after gid b)
      two None b differ = tt
      two (Some x) None differ = at (eqb x.gid.0 gid.0)
        where
          at : (b : Bool) → LinesDiffer (cond b None (Some x)) None
          at true = tt
          at false = tt
      two (Some x) (Some y) differ = at (eqb x.gid.0 gid.0) (eqb y.gid.0 gid.0)
        where
          at : (b c : Bool) → LinesDiffer (cond b None (Some x)) (cond c None (Some y))
          at true c = tt
          at false true = tt
          at false false = differ

  -- a removed control group leaves a sound tree
  pub without_control-sound : (looks : List ℕ) → IsSound m (without_control m s gid (rmids_with s gid) looks)
  without_control-sound looks = record {
    named = AreNamed-filter s.groups (keep m s gid c name sound found is control other) s.next_gid sound.named (λ x d. (keep-other m s gid c name sound found is control other) x (λ e. other (e ∙ d.gid)) (is_monitor_of-control gid x.kind (is_control-counted x d.counted)));
    numbered = AreNumbered-staying m s gid c name sound found is control other looks;
    masks = HaveMasks-filter s.groups (keep m s gid c name sound found is control other) m sound.masks;
    regions = HaveRegions-staying m s gid c name sound found is control other;
    lines = HaveLines-staying;
    threshold = sound.threshold;
    tasks = AreBound-staying m s gid c name sound found is control other;
    cpus = AreServed-staying m s gid c name sound found is control other;
  }
