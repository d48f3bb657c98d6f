-- Entering and leaving pseudo-locksetup.
use Rattle.std.proofs.Common.{◌≡◌, ◌≢◌, ℕ, zero, suc, ◌<◌, Bool, true, false, not, ◌||◌, ◌&&◌, cond, eqb, List, [], ◌∷◌, length, filter, map, find, get_or, is_some, Option, None, Some, IsNone, is_none, inl, inr, refl, sym, subst, ap, ap₂, ◌∙◌, arith}
use Rattle.std.specs.List.{All, slice_get}
use Rattle.std.specs.Option.{option_or, option_to_list}
use Rattle.std.proofs.lemmas.Bool.{cases_lt, eqb-true, eq-eqb, ne_eqb}
use Rattle.std.proofs.lemmas.Nat.Bits.{bit_at-lt, bit_at-zero, same_from_bits}
use Rattle.std.specs.Int.{bit_at}
use Rattle.cpu_binding.specs.Groups.{IsSetOf}
use Rattle.cpu_binding.specs.Groups as cpu_groups
use Rattle.cpu_binding.specs.declared.groups.CpuGroups.{CpuGroups}
use Rattle.group_tree.specs.Records.{has_gid, is_control}
use Rattle.group_tree.specs.declared.group.Group.{Group}
use Rattle.group_tree.specs.declared.group_kind.GroupKind.{GroupKind}
use Rattle.group_tree.specs.declared.group_kind.GroupKind.TheVariants.{Control, Monitor}
use Rattle.hw_ids.proofs.laws.Membership.{contains-with_id}
use Rattle.hw_ids.specs.Ids.{contains}
use Rattle.hw_ids.specs.MonitoringIds.{MonitoringIds}
use Rattle.lists.proofs.Pairs.{AllPairs-one}
use Rattle.lists.proofs.Tests.{find-found}
use Rattle.machine.specs.declared.parameters.Parameters.{Parameters}
use Rattle.mode_rules.specs.Setup.{entry_refusal}
use Rattle.rc_base.specs.Replies.{refused}
use Rattle.rc_base.specs.declared.names.Mode.{Mode}
use Rattle.rc_base.specs.declared.names.Mode.TheVariants.{Shareable, Exclusive, LockSetup, Locked}
use Rattle.rc_base.specs.declared.replies.Why.TheVariants.{DefaultGroup, OutOfRmids, RmidsBusy}
use Rattle.rc_base.specs.declared.names.Gid.{Gid}
use Rattle.task_binding.specs.Bindings as bindings
use Rattle.task_binding.specs.declared.binding.Binding.{Binding}
use Rattle.tree_core.proofs.ControlGroups.{id-not_zero}
use Rattle.tree_core.proofs.ExchangedGroups.{TakesOver}
use Rattle.tree_core.proofs.FreeIds.{free_rmid-lowest, free_rmid-none}
use Rattle.tree_core.proofs.KeptTables.{HasIds-found, IsDefault-first, contains-rmid_found}
use Rattle.tree_core.proofs.TakenIds.{eqb-turned}
use Rattle.tree_core.specs.Kept.{Keeps}
use Rattle.tree_core.specs.Modes.{against_turn}
use Rattle.tree_core.specs.RmidLists.{MayFree}
use Rattle.tree_core.specs.Tables.{Tables}
use Rattle.tree_core.specs.Taking.{NoneTaken, RmidTaken}
use Rattle.tree_law.specs.Freeing.{rmids_of}
use Rattle.tree_law.specs.Refusals.{Refusal, plain, reply_of}
use Rattle.tree_law.specs.Sound.{HasIds, HasIdsOf}
use Rattle.tree_law.specs.Space.{free_rmid, is_id}
use Rattle.tree_law.specs.State.{State}
use Rattle.tree_law.specs.commands.Mode as modes
use Rattle.rc_base.specs.declared.replies.Reply.{Reply}

-- ---- entering

-- where nothing is left of a list, no element passes
none-passes : (test : CpuGroups → Bool) (xs : List CpuGroups) → length (filter test xs) ≡ 0 → (k : ℕ) (d : CpuGroups) → k < length xs → test (get_or xs k d) ≡ false
none-passes test [] empty k d within = absurd (omega arith)
none-passes test (x ∷ xs) empty k d within = one (test x) refl empty (none-passes test xs) k within
  where
    one : (b : Bool) → test x ≡ b → length (cond b (x ∷ filter test xs) (filter test xs)) ≡ 0 → (length (filter test xs) ≡ 0 → (k : ℕ) (d : CpuGroups) → k < length xs → test (get_or xs k d) ≡ false) → (k : ℕ) → k < suc (length xs) → test (get_or (x ∷ xs) k d) ≡ false
    one true here none rest k within = absurd (omega arith)
    one false here none rest zero within = here
    one false here none rest (suc k) within = rest none k d (omega arith)

-- a set of CPUs has none where its mask is 0
pub IsSetOf-empty : (test : CpuGroups → Bool) (groups : List CpuGroups) (set : ℕ) → IsSetOf test groups set → eqb set 0 ≡ eqb (length (filter test groups)) 0
IsSetOf-empty test groups set is = at (eqb set 0) refl
  where
    -- a bit that is not 1 is 0
    no_bit : (k : ℕ) → eqb (bit_at set k) 1 ≡ false → bit_at set k ≡ 0
    no_bit k e = by (bit_at set k) (bit_at-lt set k) e
      where
        by : (n : ℕ) → n < 2 → eqb n 1 ≡ false → n ≡ 0
        by zero less e = refl
        by (suc zero) less e = absurd (let f : true ≡ false = e in cc)
        by (suc (suc n)) less e = absurd (omega arith)

    at : (b : Bool) → eqb set 0 ≡ b → b ≡ eqb (length (filter test groups)) 0
    at true zeroth = sym (eq-eqb (length (filter test groups)) 0 (none groups (λ k d within. sym (is.each k d within) ∙ ap (λ (n : ℕ). cpu_has n k) (eqb-true set 0 zeroth) ∙ ap (λ (n : ℕ). eqb n 1) (bit_at-zero k))))
      where
        cpu_has : ℕ → ℕ → Bool
        cpu_has n k = eqb (bit_at n k) 1

        none : (xs : List CpuGroups) → ((k : ℕ) (d : CpuGroups) → k < length xs → test (get_or xs k d) ≡ false) → length (filter test xs) ≡ 0
        none [] each = refl
        none (x ∷ xs) each = ap (λ (b : Bool). length (cond b (x ∷ filter test xs) (filter test xs))) (each 0 x (omega arith)) ∙ none xs (λ k d within. each (suc k) d (omega arith))
    at false zeroth = by (eqb (length (filter test groups)) 0) refl
      where
        by : (b : Bool) → eqb (length (filter test groups)) 0 ≡ b → false ≡ b
        by false e = refl
        by true e =
            (let empty = eqb-true (length (filter test groups)) 0 e in
            let bits : set ≡ 0 = same_from_bits set 0 (λ k. no_bit k (elim (cases_lt k (length groups)) [
              | inl lt ↦ is.each k cpu_groups.opening_cpu lt ∙ none-passes test groups empty k cpu_groups.opening_cpu lt
              | inr le ↦ is.no_more k le
            ]) ∙ sym (bit_at-zero k)) in
            absurd (let f : false ≡ true = sym zeroth ∙ eq-eqb set 0 bits in cc))

-- some task is a group's where there is a first one
pub any_task-empty : (gid : Gid) (tasks : List Binding) → eqb (cond (is_some (slice_get (bindings.control_members gid tasks) 0)) 1 0) 0 ≡ eqb (length (filter (bindings.has_control gid) tasks)) 0
any_task-empty gid tasks = at (filter (bindings.has_control gid) tasks)
  where
    at : (xs : List Binding) → eqb (cond (is_some (slice_get (map (λ (b : Binding). b.task) xs) 0)) 1 0) 0 ≡ eqb (length xs) 0
    at [] = refl
    at (x ∷ xs) = sym (ne_eqb (length (x ∷ xs)) 0 (λ e. absurd (omega arith)))

-- what keeps a group out, by whether it has tasks and CPUs
pub entry_refusal-same : (default : Bool) (monitors some_task tasks set cpus : ℕ) → eqb some_task 0 ≡ eqb tasks 0 → eqb set 0 ≡ eqb cpus 0
    → entry_refusal (record { is_default = default; monitors = monitors; tasks = some_task; cpus = set }) ≡ entry_refusal (record { is_default = default; monitors = monitors; tasks = tasks; cpus = cpus })
unfolding entry_refusal
entry_refusal-same default monitors some_task tasks set cpus same_tasks same = rw (same_tasks, same) refl

-- a group that may enter is not the default group
pub gid-entering : (m : Parameters) (s : State) (g : Group) → against_turn m s g LockSetup ≡ None → g.gid.0 ≢ 0
unfolding entry_refusal
gid-entering m s g free zeroth = at (eqb g.gid.0 0) (eq-eqb g.gid.0 0 zeroth) free
  where
    at : (b : Bool) → b ≡ true → option_or (modes.reason_of (entry_refusal (record (modes.holdings s g) { is_default = b }))) (option_or (modes.against_leaving m s g) (modes.against_exclusive m s g LockSetup)) ≡ None → ⊥
    at true is e = let f : Some (plain DefaultGroup) ≡ None = e in cc
    at false is e = let f : false ≡ true = is in cc

-- so no group turns to pseudo-locksetup that is
pub gid-turning : (m : Parameters) (s : State) (g : Group) (mode : Mode) → against_turn m s g mode ≡ None → modes.is_setup mode ≡ true → g.gid.0 ≢ 0
gid-turning m s g LockSetup free is = gid-entering m s g free
gid-turning m s g Shareable free is = absurd (let f : false ≡ true = is in cc)
gid-turning m s g Exclusive free is = absurd (let f : false ≡ true = is in cc)
gid-turning m s g Locked free is = absurd (let f : false ≡ true = is in cc)

module _ {m : Parameters} {t : Tables} {s : State} {epoch : ℕ} (keeps : Keeps m t s epoch) where
  -- the RMID of a group other than the default group may be freed
  pub MayFree-own : (g : Group) → find (has_gid g.gid) s.groups ≡ Some g → g.gid.0 ≢ 0 → MayFree t.rmids.taken (rmids_of g)
  MayFree-own g found other = at g.rmid refl
    where
      at : (o : Option ℕ) → g.rmid ≡ o → MayFree t.rmids.taken (option_to_list o)
      at None is = record { taken = λ k d within. absurd (omega arith); not_default = λ k d within. absurd (omega arith); differ = λ i j d lt within. absurd (omega arith) }
      at (Some id) is = record { taken = one (λ (n : ℕ). contains n t.rmids.taken ≡ true) id (contains-rmid_found keeps g.gid g id found is); not_default = one (λ (n : ℕ). n ≢ 0) id other_id; differ = AllPairs-one (λ (a b : ℕ). a ≢ b) id }
        where
          other_id : id ≢ 0
          other_id = id-not_zero keeps g g.gid (λ (x : Group). x.rmid) id other (find-found (has_gid g.gid) s.groups g found) (λ k d some within. (keeps.sound.numbered.apart 0 k d some within).1) (IsDefault-first s.groups g keeps.sound.named.first).rmid is

          one : (P : ℕ → Type 0) (x : ℕ) → P x → All P (x ∷ [])
          one P x here zero d within = here
          one P x here (suc k) d within = absurd (omega arith)

  -- ---- leaving

  -- a group in pseudo-locksetup has no RMID
  pub rmid-setup : (g : Group) → find (has_gid g.gid) s.groups ≡ Some g → is_control g.kind ≡ true → g.mode ≡ LockSetup → g.rmid ≡ None
  rmid-setup g found control setup = by_kind g.kind control (HasIds-found keeps g.gid g found)
    where
      none : (o : Option ℕ) → IsNone o → o ≡ None
      none None is = refl
      none (Some id) is = absurd (let f : true ≡ false = is in cc)

      by_kind : (kind : GroupKind) → is_control kind ≡ true → HasIds s.groups kind g → g.rmid ≡ None
      by_kind Control is ids = none g.rmid (subst (λ (mode : Mode). HasIdsOf mode g) setup ids).1
      by_kind (Monitor parent) is ids = absurd (let f : false ≡ true = is in cc)

  -- the RMID that is taken is the lowest free one
  pub free_rmid-taken : (rmids' : MonitoringIds) (rmid : ℕ) → RmidTaken t.rmids rmids' rmid → free_rmid m s ≡ Some rmid
  free_rmid-taken rmids' rmid taken = free_rmid-lowest m s t.classes t.rmids rmid keeps.stands.taken (sym keeps.stands.limbo) taken.lowest

  -- and then belongs to the group
  pub TakesOver-taken : (rmids' : MonitoringIds) (rmid : ℕ) (given : Option ℕ) → given ≡ None → RmidTaken t.rmids rmids' rmid → TakesOver given (Some rmid) t.rmids.taken rmids'.taken
  TakesOver-taken rmids' rmid given none taken id =
      ap (λ (r : MonitoringIds). contains id r.taken) taken.taken ∙ contains-with_id rmid id t.rmids.taken
      ∙ ap₂ (λ (a b : Bool). a || (not b && contains id t.rmids.taken)) (eqb-turned id rmid) (sym (ap (is_id id) none))

  -- nothing is against leaving then
  pub rmid_refusal-taken : (rmids' : MonitoringIds) (rmid : ℕ) → RmidTaken t.rmids rmids' rmid → modes.rmid_refusal m s ≡ None
  rmid_refusal-taken rmids' rmid taken = ap (λ (o : Option ℕ). cond (is_none o) (Some (plain (cond (eqb (length s.limbo) 0) OutOfRmids RmidsBusy))) None) (free_rmid-taken rmids' rmid taken)

  -- where none is free, the limbo tells the reply
  pub rmid_refusal-none : (reply : Reply) → NoneTaken t.rmids reply → (r : Refusal) × (modes.rmid_refusal m s ≡ Some r) × (reply ≡ reply_of (Some r))
  rmid_refusal-none reply none = (
    plain (cond (eqb (length s.limbo) 0) OutOfRmids RmidsBusy),
    ap (λ (o : Option ℕ). cond (is_none o) (Some (plain (cond (eqb (length s.limbo) 0) OutOfRmids RmidsBusy))) None) (free_rmid-none m s t.classes t.rmids keeps.stands.taken (sym keeps.stands.limbo) none.0),
    none.1 ∙ ap (λ (limbo : List ℕ). said (eqb (length limbo) 0)) keeps.stands.limbo ∙ is_said (eqb (length s.limbo) 0),
  )
    where
      said : Bool → Reply
      said b = cond b (refused OutOfRmids 0) (refused RmidsBusy 0)

      is_said : (b : Bool) → said b ≡ reply_of (Some (plain (cond b OutOfRmids RmidsBusy)))
      is_said true = refl
      is_said false = refl
