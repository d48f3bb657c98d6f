-- In every joint window of a run with two levels, each covered use of the group does what it does in a private hierarchy.
use Rattle.std.proofs.Common.{◌≡◌, ℕ, ◌+◌, ◌-◌, ◌%◌, ◌<◌, Bool, true, false, not, ◌==◌, List, length, Option, Some, refl, sym, subst, ap, ◌∙◌, arith}
use Rattle.std.specs.Prelude.{IsSomeAnd}
use Rattle.std.specs.List.{list_any, range_with_len}
use Rattle.std.proofs.lemmas.Bool.{eq-eqb, eqb-true}
use Rattle.cbm.specs.Masks.{ways_of}
use Rattle.std.proofs.lemmas.Bool.{not-true}
use Rattle.lists.proofs.Tests.{All-from_none}
use Rattle.machine.specs.declared.parameters.Parameters.{Parameters}
use Rattle.pair_law.specs.Epochs.{state_at}
use Rattle.pair_law.specs.State.{PairGroup, PairState, group_of, mask_in}
use Rattle.pair_text.specs.Values.{Fits, IsLawful, LiesBelow, PairScriptValue, epoch_at, op_at, side_machine}
use Rattle.pair_text.specs.declared.op.PairOp.TheVariants as ops
use Rattle.pair_text.specs.declared.side.Side.TheVariants.{First, Second}
use Rattle.pair_law.proofs.Alone.{IsSomeAnd-parts}
use Rattle.pair_law.proofs.laws.Commands.{epoch_at-less}
use Rattle.pair_law.proofs.laws.Cuts.{range_with_len-All}
use Rattle.pair_law.proofs.laws.Domains.{LiesBelow-first, domain_of-above, domain_of-lt}
use Rattle.pair_law.proofs.Levels.{has_at-private}
use Rattle.pair_law.proofs.Lines.{items-l2, items-l3}
use Rattle.run_law.proofs.laws.SoundHistories.{All-at}
use Rattle.pair_law.proofs.Sides.{HasSide}
use Rattle.pair_law.specs.Entries.{slice_in}
use Rattle.pair_law.specs.JointWindows as joint
use Rattle.pair_law.specs.JointWindows.{HasLevels, IsJointWindow, domain_above}
use Rattle.pair_law.specs.RunLaws.{HitsAsPrivate, LevelWindowsAreIsolated}
use Rattle.pair_law.specs.LevelRuns.{IsLevelRun, LevelJournalsValue, domain_on, has_at, is_hit, is_miss, reaches, user_at}
use Rattle.pair_law.specs.PrivateLevels.{l2_hits, l3_hits}
use Rattle.private_lru.specs.Private.{private_hit}
use Rattle.private_lru.specs.declared.item.Item.{Item}
use Rattle.rc_base.specs.declared.names.Gid.{Gid}
use Rattle.rc_base.specs.declared.names.Mode.TheVariants.{Exclusive}

-- the side of an L3 domain, or of an L2 domain that lies in it
HasSide-second : (s : PairState) (domain : ℕ) (group : Gid) (mask : ℕ) (P : PairGroup → Type 0) → IsSomeAnd (group_of s group) (λ g. (g.mode ≡ Exclusive) × (mask_in Second domain g ≡ mask) × P g) → HasSide Second domain group mask s
HasSide-second s domain group mask P has =
    let o = IsSomeAnd-parts (λ g. (g.mode ≡ Exclusive) × (mask_in Second domain g ≡ mask) × P g) (group_of s group) has in
    subst (λ (x : Option PairGroup). IsSomeAnd x (λ g. (g.mode ≡ Exclusive) × (mask_in Second domain g ≡ mask))) (sym o.1) (o.2.0, o.2.1)

HasSide-first : (s : PairState) (domain x : ℕ) (group : Gid) (mask : ℕ) (masks : ℕ → ℕ) (Lies : ℕ → Type 0)
    → IsSomeAnd (group_of s group) (λ g. (g.mode ≡ Exclusive) × (mask_in Second domain g ≡ mask) × ((y : ℕ) → Lies y → mask_in First y g ≡ masks y)) → Lies x → HasSide First x group (masks x) s
HasSide-first s domain x group mask masks Lies has lies =
    let o = IsSomeAnd-parts (λ g. (g.mode ≡ Exclusive) × (mask_in Second domain g ≡ mask) × ((y : ℕ) → Lies y → mask_in First y g ≡ masks y)) (group_of s group) has in
    subst (λ (z : Option PairGroup). IsSomeAnd z (λ g. (g.mode ≡ Exclusive) × (mask_in First x g ≡ masks x))) (sym o.1) (o.2.0, o.2.2 x lies)

module _ (script : PairScriptValue) (j : LevelJournalsValue) (l2 : Parameters) (domain from to : ℕ) (group : Gid) (mask : ℕ) (masks : ℕ → ℕ) (last : ℕ) (lawful : IsLawful script) (two : script.machines.l2 ≡ Some l2) (run : IsLevelRun script j)
    (window : IsJointWindow script domain from to group mask masks last) where
  below : LiesBelow script.machines.machine (side_machine script.machines First)
  below = LiesBelow-first script.machines.machine script.machines.l2 l2 two lawful.machines.below

  -- the CPU of a use exists
  cpu-lt : (k task cpu line : ℕ) (code : Bool) → op_at script k ≡ Some (ops.Use task cpu line code) → cpu < script.machines.machine.cpus
  cpu-lt k task cpu line code is = (All-at (Fits script) script.ops k (ops.Use task cpu line code) lawful.fit is).1

  -- and its L2 domain lies in its L3 domain
  domain_above-cpu : (cpu : ℕ) → domain_above script.machines (domain_on script First cpu) ≡ domain_on script Second cpu
  domain_above-cpu cpu = domain_of-above script.machines.machine (side_machine script.machines First) cpu lawful.machines.in_range below

  domain_on-lt : (cpu : ℕ) → cpu < script.machines.machine.cpus → domain_on script First cpu < (side_machine script.machines First).domains
  domain_on-lt cpu lt = domain_of-lt (side_machine script.machines First) cpu below.in_range.some_domain (let same = below.same_cpus in omega arith)

  -- in the window the group has its levels
  HasLevels-at : (k : ℕ) → from < k → k < to → HasLevels script.machines domain group mask masks (state_at script (epoch_at script k))
  HasLevels-at k late early = window.joint.always (epoch_at script k) (epoch_at-less script from k ops.Flush window.opens refl late) (window.goes_over k late early).1

  -- a use of the group, covered, in the L2 of its CPU
  module _ (i : ℕ) (late : from < i) (early : i < to) (covered : (k : ℕ) → from < k → k < i → joint.is_other_use script domain group.0 from to k (op_at script k) ≡ false) where
    at_l2 : (k task cpu line : ℕ) (code : Bool) → from < k → k < to → ((n : ℕ) → from < n → n < k → joint.is_other_use script domain group.0 from to n (op_at script n) ≡ false)
        → op_at script k ≡ Some (ops.Use task cpu line code) → domain_on script Second cpu ≡ domain → (user_at script k task).0 ≡ group.0
        → (has_at (slice_in j.l2 (domain_on script First cpu)) k is_hit ≡ l2_hits script group.0 mask masks from (domain_on script First cpu) k line)
        × (has_at (slice_in j.l2 (domain_on script First cpu)) k is_miss ≡ not (l2_hits script group.0 mask masks from (domain_on script First cpu) k line))
    at_l2 k task cpu line code late' early' free is there mine =
        let x : ℕ = domain_on script First cpu in
        let lies : domain_above script.machines x ≡ domain = domain_above-cpu cpu ∙ there in
        let exists : x < (side_machine script.machines First).domains = domain_on-lt cpu (cpu-lt k task cpu line code is) in
        let sets : ℕ = (side_machine script.machines First).sets in
        let both = has_at-private script j lawful run First x exists domain group (masks x) from to window.opens window.within
        (λ n l e. ((window.goes_over n l e).0, HasSide-first (state_at script (epoch_at script n)) domain x group mask masks (λ y. (y < (side_machine script.machines First).domains) × (domain_above script.machines y ≡ domain)) (turned (state_at script (epoch_at script n)) (HasLevels-at n l e)) (exists, lies)))
        (λ n task' cpu' line' code' is' e. eq-eqb (domain_on script Second cpu') domain (sym (domain_above-cpu cpu') ∙ (ap (domain_above script.machines) (eqb-true (domain_on script First cpu') x e) ∙ lies)))
        k task cpu line code late' early' is (let own : (domain_on script First cpu == x) ≡ true = eq-eqb (domain_on script First cpu) x refl in rw own refl) mine free in
        let lines = items-l2 script j group.0 mask masks from sets (line % sets) both.0 x k in
        (both.1.0 ∙ ap (λ (l : List Item). private_hit (length (ways_of (masks x))) l line) lines, both.1.1 ∙ ap (λ (l : List Item). not (private_hit (length (ways_of (masks x))) l line)) lines)
      where
        turned : (s : PairState) → HasLevels script.machines domain group mask masks s
            → IsSomeAnd (group_of s group) (λ g. (g.mode ≡ Exclusive) × (mask_in Second domain g ≡ mask) × ((y : ℕ) → (y < (side_machine script.machines First).domains) × (domain_above script.machines y ≡ domain) → mask_in First y g ≡ masks y))
        turned s has =
            (let P : PairGroup → Type 0 = λ g. (g.mode ≡ Exclusive) × (mask_in Second domain g ≡ mask) × ((y : ℕ) → y < (side_machine script.machines First).domains → domain_above script.machines y ≡ domain → mask_in First y g ≡ masks y) in
            let o = IsSomeAnd-parts P (group_of s group) has in
            subst (λ (z : Option PairGroup). IsSomeAnd z (λ g. (g.mode ≡ Exclusive) × (mask_in Second domain g ≡ mask) × ((y : ℕ) → (y < (side_machine script.machines First).domains) × (domain_above script.machines y ≡ domain) → mask_in First y g ≡ masks y))) (sym o.1)
            (o.2.0, o.2.1, λ y lies. o.2.2 y lies.0 lies.1))

    -- at both levels
    pub HitsAsPrivate-use : (task cpu line : ℕ) (code : Bool) → op_at script i ≡ Some (ops.Use task cpu line code) → domain_on script Second cpu ≡ domain → (user_at script i task).0 ≡ group.0 → HitsAsPrivate script j domain from group mask masks i cpu line
    HitsAsPrivate-use task cpu line code is there mine =
        let first = at_l2 i task cpu line code late early covered is there mine in
        record { l2 = first.0; asked = first.1; l3 = λ none. (second first.1 none).0; l3_missed = λ none. (second first.1 none).1 }
      where
        second : has_at (slice_in j.l2 (domain_on script First cpu)) i is_miss ≡ not (l2_hits script group.0 mask masks from (domain_on script First cpu) i line) → l2_hits script group.0 mask masks from (domain_on script First cpu) i line ≡ false
            → (has_at (slice_in j.l3 domain) i is_hit ≡ l3_hits script group.0 mask masks from domain i line) × (has_at (slice_in j.l3 domain) i is_miss ≡ not (l3_hits script group.0 mask masks from domain i line))
        second asked none =
            (let sets : ℕ = (side_machine script.machines Second).sets in
            let own : (domain_on script Second cpu == domain) ≡ true = eq-eqb (domain_on script Second cpu) domain there in
            let reached : reaches script j Second i cpu ≡ true = asked ∙ ap not none in
            let both = has_at-private script j lawful run Second domain window.domain_exists domain group mask from to window.opens window.within
            (λ n l e. ((window.goes_over n l e).0, HasSide-second (state_at script (epoch_at script n)) domain group mask _ (HasLevels-at n l e)))
            (λ n task' cpu' line' code' is' e. e)
            i task cpu line code late early is (rw (own, reached) refl) mine covered in
            let lines = items-l3 script j group.0 mask masks from sets (line % sets) both.0 domain i
            (λ k task' cpu' line' code' l e is' a b. (at_l2 k task' cpu' line' code' l (omega arith) (λ n l' e'. covered n l' (omega arith)) is' (eqb-true (domain_on script Second cpu') domain a) (eqb-true (user_at script k task').0 group.0 b)).1) in
            (both.1.0 ∙ ap (λ (l : List Item). private_hit (length (ways_of mask)) l line) lines, both.1.1 ∙ ap (λ (l : List Item). not (private_hit (length (ways_of mask)) l line)) lines))

-- in every joint window
pub HitsAsPrivate-joint_window : LevelWindowsAreIsolated
HitsAsPrivate-joint_window script j l2 domain from to group mask masks last i task cpu line code lawful two run window late early is there mine covered =
    HitsAsPrivate-use script j l2 domain from to group mask masks last lawful two run window i late early
    (λ k low high. range_with_len-All (λ (n : ℕ). joint.is_other_use script domain group.0 from to n (op_at script n) ≡ false) (from + 1) (i - (from + 1))
    (All-from_none (λ (n : ℕ). joint.is_other_use script domain group.0 from to n (op_at script n)) (range_with_len (from + 1) (i - (from + 1)))
    (not-true (list_any (λ (n : ℕ). joint.is_other_use script domain group.0 from to n (op_at script n)) (range_with_len (from + 1) (i - (from + 1)))) covered)) k (omega arith) (omega arith))
    task cpu line code is there mine
