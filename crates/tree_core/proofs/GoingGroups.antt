-- The RMIDs of groups that go: they are taken, and each goes once.
use Rattle.std.proofs.Common.{◌≡◌, ◌≢◌, ℕ, ◌+◌, ◌*◌, ◌<◌, Bool, true, false, ◌&&◌, ◌||◌, cond, eqb, List, [], ◌∷◌, length, get_or, Option, None, Some, refl, sym, subst, ap, ap₂, ◌∙◌, arith}
use Rattle.std.specs.List.{AllPairs, list_any}
use Rattle.std.specs.Option.{option_map_or, option_to_list}
use Rattle.std.proofs.Math.Nat.{mul-lt-mul_of_pos_right}
use Rattle.std.proofs.lemmas.Bool.{and_parts, eq-eqb}
use Rattle.std.proofs.lemmas.List.Folds.{Any-from_list_any, list_any-append, list_any_at, list_any_none}
use Rattle.std.proofs.Math.Bool.{or-false}
use Rattle.group_tree.specs.Records.{has_gid, is_monitor_of}
use Rattle.group_tree.specs.declared.group.Group.{Group}
use Rattle.hw_ids.specs.Ids.{contains}
use Rattle.lists.proofs.Keyed.{get_or-key}
use Rattle.lists.proofs.Tests.{IsFound, find-found}
use Rattle.machine.specs.Ranges.{InRange}
use Rattle.machine.specs.declared.parameters.Parameters.{Parameters}
use Rattle.rc_base.specs.declared.names.Gid.{Gid}
use Rattle.script_ops.specs.declared.op.Op.{Op}
use Rattle.tree_core.proofs.KeptTables.{IsDefault-first, length-positive}
use Rattle.tree_core.proofs.NeededCounts.{get_or-counts_in, length-counts_in}
use Rattle.tree_core.proofs.RmidLists.{monitor_rmids-cons}
use Rattle.tree_core.proofs.StayingIds.{goes_with_id, place-id}
use Rattle.tree_core.specs.Kept.{Keeps}
use Rattle.tree_core.specs.RmidLists.{MayFree, monitor_rmids}
use Rattle.tree_core.specs.Tables.{Tables}
use Rattle.tree_law.proofs.laws.DistinctCounts.{needs-distinct}
use Rattle.tree_law.specs.Existing.{group_of}
use Rattle.tree_law.specs.Freeing.{counts_of, rmids_of, rmids_with}
use Rattle.tree_law.specs.Space.{is_id}
use Rattle.tree_law.specs.State.{State}
use Rattle.tree_law.specs.Steps.{needs}
use Rattle.tree_law.specs.commands.Rmdir.{goes_with}

-- ---- the RMIDs of those that go

-- the RMID of a record
pub contains-option_to_list : (id : ℕ) (o : Option ℕ) → contains id (option_to_list o) ≡ is_id id o
contains-option_to_list id None = refl
contains-option_to_list id (Some n) = or-false (eqb n id)

-- those of monitor groups
contains-monitor_rmids : (id : ℕ) (gid : Gid) (groups : List Group) → contains id (monitor_rmids gid groups) ≡ list_any (λ (g : Group). is_monitor_of gid g.kind && is_id id g.rmid) groups
contains-monitor_rmids id gid [] = refl
contains-monitor_rmids id gid (g ∷ gs) =
    ap (contains id) (monitor_rmids-cons gid g gs) ∙ list_any-append (λ other. eqb other id) (cond (is_monitor_of gid g.kind) (rmids_of g) []) (monitor_rmids gid gs)
    ∙ ap₂ (λ (a b : Bool). a || b) (at (is_monitor_of gid g.kind)) (contains-monitor_rmids id gid gs)
  where
    at : (b : Bool) → contains id (cond b (option_to_list g.rmid) []) ≡ (b && is_id id g.rmid)
    at true = contains-option_to_list id g.rmid
    at false = refl

-- either of two tests
or-swap : (h m p a b : Bool) → ((cond h true m && p) || (a || b)) ≡ (((h && p) || a) || ((m && p) || b))
or-swap true m true a b = refl
or-swap true true false a b = refl
or-swap true false false a b = refl
or-swap false true true true b = refl
or-swap false true true false b = refl
or-swap false true false a b = refl
or-swap false false p a b = refl

-- those that go with a control group are that group and its monitor groups
pub list_any-goes_with : (gid : Gid) (p : Group → Bool) (groups : List Group) → list_any (λ (g : Group). goes_with gid g && p g) groups ≡ (list_any (λ (g : Group). has_gid gid g && p g) groups || list_any (λ (g : Group). is_monitor_of gid g.kind && p g) groups)
list_any-goes_with gid p [] = refl
list_any-goes_with gid p (g ∷ gs) =
    ap (λ (b : Bool). (cond (has_gid gid g) true (is_monitor_of gid g.kind) && p g) || b) (list_any-goes_with gid p gs)
    ∙ or-swap (has_gid gid g) (is_monitor_of gid g.kind) (p g) (list_any (λ (x : Group). has_gid gid x && p x) gs) (list_any (λ (x : Group). is_monitor_of gid x.kind && p x) gs)

module _ {m : Parameters} {t : Tables} {s : State} {epoch : ℕ} (keeps : Keeps m t s epoch) where
  -- the group with a gid, by a test
  pub list_any-has_gid : (gid : Gid) (g : Group) (p : Group → Bool) → group_of s gid ≡ Some g → list_any (λ (x : Group). has_gid gid x && p x) s.groups ≡ p g
  list_any-has_gid gid g p found = at (p g) refl
    where
      f : IsFound (has_gid gid) s.groups g
      f = find-found (has_gid gid) s.groups g found

      at : (b : Bool) → p g ≡ b → list_any (λ (x : Group). has_gid gid x && p x) s.groups ≡ b
      at true is = list_any_at (λ (x : Group). has_gid gid x && p x) s.groups f.place g f.within (ap (λ (x : Group). has_gid gid x && p x) (f.at g) ∙ ap₂ (λ (a b : Bool). a && b) f.passes is)
      at false is = list_any_none (λ (x : Group). has_gid gid x && p x) s.groups (λ k d within. one k d within (has_gid gid (get_or s.groups k d)) refl)
        where
          one : (k : ℕ) (d : Group) → k < length s.groups → (b : Bool) → has_gid gid (get_or s.groups k d) ≡ b → (has_gid gid (get_or s.groups k d) && p (get_or s.groups k d)) ≡ false
          one k d within false e = ap (λ (b : Bool). b && p (get_or s.groups k d)) e
          one k d within true e = ap₂ (λ (a b : Bool). a && b) e (ap p (get_or-key (λ (x : Group). x.gid.0) s.groups (record g { gid = gid }) g keeps.sound.named.gids found k d within e) ∙ is)

  -- the RMIDs that go with a control group are those of the groups that go
  pub contains-rmids_with : (gid : Gid) (g : Group) (id : ℕ) → group_of s gid ≡ Some g → contains id (rmids_with s gid) ≡ goes_with_id (goes_with gid) (λ (x : Group). x.rmid) id s.groups
  contains-rmids_with gid g id found =
      list_any-append (λ other. eqb other id) (option_map_or rmids_of (group_of s gid) []) (monitor_rmids gid s.groups)
      ∙ ap₂ (λ (a b : Bool). a || b) (ap (λ (o : Option Group). contains id (option_map_or rmids_of o [])) found ∙ contains-option_to_list id g.rmid ∙ sym (list_any-has_gid gid g (λ (x : Group). is_id id x.rmid) found)) (contains-monitor_rmids id gid s.groups)
      ∙ sym (list_any-goes_with gid (λ (x : Group). is_id id x.rmid) s.groups)

  -- and that of a monitor group is that of the one group that goes
  pub contains-rmids_of : (gid : Gid) (g : Group) (id : ℕ) → group_of s gid ≡ Some g → contains id (option_map_or rmids_of (group_of s gid) []) ≡ goes_with_id (has_gid gid) (λ (x : Group). x.rmid) id s.groups
  contains-rmids_of gid g id found = ap (λ (o : Option Group). contains id (option_map_or rmids_of o [])) found ∙ contains-option_to_list id g.rmid ∙ sym (list_any-has_gid gid g (λ (x : Group). is_id id x.rmid) found)

  -- ---- they may be freed

  -- what a command frees differs
  pub freed-differ : (op : Op) (freed : List ℕ) → InRange m → needs m s op ≡ counts_of m freed → AllPairs (λ (a b : ℕ). a ≢ b) freed
  freed-differ op freed range is i j d lt within e =
      let some : 0 < m.domains = range.some_domain in
      let pair : (k : ℕ) → ℕ × ℕ = λ k. get_or (counts_of m freed) (k * m.domains + 0) (0, 0) in
      let one : pair i ≡ (0, get_or freed i d) = get_or-counts_in 0 m.domains freed i 0 d (0, 0) (omega arith) some in
      let two : pair j ≡ (0, get_or freed j d) = get_or-counts_in 0 m.domains freed j 0 d (0, 0) within some in
      let long = length-counts_in 0 m.domains freed in
      let before = rising m.domains i j (length freed) some lt within in
      needs-distinct m s op keeps.sound (i * m.domains + 0) (j * m.domains + 0) (0, 0) (omega (arith, before.0)) (subst (λ (xs : List (ℕ × ℕ)). j * m.domains + 0 < length xs) (sym is) (omega (arith, before.1, long)))
      (subst (λ (xs : List (ℕ × ℕ)). get_or xs (i * m.domains + 0) (0, 0) ≡ get_or xs (j * m.domains + 0) (0, 0)) (sym is) (one ∙ ap (λ (n : ℕ). (0, n)) e ∙ sym two))
    where
      rising : (d i j n : ℕ) → 0 < d → i < j → j < n → (i * d < j * d) × (j * d < n * d)
      rising d i j n some lt within = (mul-lt-mul_of_pos_right lt some, mul-lt-mul_of_pos_right within some)

  module _ (goes : Group → Bool) (freed : List ℕ) (is : (id : ℕ) → contains id freed ≡ goes_with_id goes (λ (x : Group). x.rmid) id s.groups) (stays : (d : Group) → goes (get_or s.groups 0 d) ≡ false) where
    -- some group that goes has each of these
    going : (k d : ℕ) → k < length freed → goes_with_id goes (λ (x : Group). x.rmid) (get_or freed k d) s.groups ≡ true
    going k d within = sym (is (get_or freed k d)) ∙ list_any_at (λ other. eqb other (get_or freed k d)) freed k d within (eq-eqb (get_or freed k d) (get_or freed k d) refl)

    -- so it is taken
    going-taken : (k d : ℕ) → k < length freed → contains (get_or freed k d) t.rmids.taken ≡ true
    going-taken k d within =
        let id = get_or freed k d in
        let some = Any-from_list_any (λ (x : Group). goes x && is_id id x.rmid) s.groups (going k d within) in
        keeps.stands.taken.rmid_taken id ∙ list_any_at (λ (x : Group). is_id id x.rmid) s.groups some.0 some.1 some.2 (ap (λ (x : Group). is_id id x.rmid) some.3 ∙ (and_parts (goes some.1) (is_id id some.1.rmid) some.4).1)

    -- and it is not the default group's
    going-not_zero : (k d : ℕ) → k < length freed → get_or freed k d ≢ 0
    going-not_zero k d within zeroth =
        let some = Any-from_list_any (λ (x : Group). goes x && is_id 0 x.rmid) s.groups (subst (λ (id : ℕ). goes_with_id goes (λ (x : Group). x.rmid) id s.groups ≡ true) zeroth (going k d within)) in
        let parts = and_parts (goes some.1) (is_id 0 some.1.rmid) some.4 in
        let there = length-positive s.groups keeps.sound.named.first in
        let first = IsDefault-first s.groups some.1 keeps.sound.named.first in
        let place : some.0 ≡ 0 = place-id s.groups goes (λ (x : Group). x.rmid) (λ i j d lt within. (keeps.sound.numbered.apart i j d lt within).1) 0 some.0 0 some.1 some.2 there (ap (λ (x : Group). is_id 0 x.rmid) some.3 ∙ parts.1) (ap (is_id 0) first.rmid) in
        let f : true ≡ false = sym parts.0 ∙ ap goes (sym some.3 ∙ ap (λ (n : ℕ). get_or s.groups n some.1) place) ∙ stays some.1 in
        cc

    -- they may be freed
    pub MayFree-going : AllPairs (λ (a b : ℕ). a ≢ b) freed → MayFree t.rmids.taken freed
    MayFree-going differ = record { taken = going-taken; not_default = going-not_zero; differ = differ }
