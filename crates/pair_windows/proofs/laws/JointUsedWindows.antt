-- The windows that are listed are those of the run in which their groups use lines.
use Rattle.std.proofs.Common.{◌≡◌, ℕ, ◌+◌, ◌<◌, true, List, length, map, Contains, Option, Some, None, IsSome, inl, refl, sym, subst, ap, ◌∙◌, arith}
use Rattle.std.specs.Prelude.{IsSomeAnd}
use Rattle.std.specs.List.{All, AllPairs, range_with_len}
use Rattle.std.proofs.lemmas.Bool.{eqb-true, lt-ltb}
use Rattle.std.proofs.lemmas.List.Elements.{All-contains, All-weaker}
use Rattle.std.proofs.lemmas.Option.{slice_get_within}
use Rattle.group_tree.specs.Records.{is_mode}
use Rattle.pair_windows.proofs.DomainJointWindows.{IsUsed-listed, each-in, ordered-in, domain-in}
use Rattle.pair_windows.proofs.HeldLevels.{HasLevels-exclusive, HasOwn}
use Rattle.pair_windows.proofs.JointListedWindows.{IsJointWindow-listed}
use Rattle.pair_windows.specs.AllJointWindows.{AreJointWindowsOf, CountsAsPrivate, IsUsedJointWindow, JointWindowsAreListed, PrecedesOnLevels}
use Rattle.pair_windows.specs.JointCounted.{is_used}
use Rattle.pair_windows.specs.LevelSpans.{exclusive_in, is_exclusive}
use Rattle.pair_windows.specs.JointWindows.{hits_l2, hits_l3, joint_windows, last_epoch, reaches_l3, uses_of, window_end, window_from, windows_at, windows_from, windows_in}
use Rattle.pair_windows.specs.declared.joint_window.JointWindow.{JointWindow}
use Rattle.lists.proofs.Pairs.{All-flat_map}
use Rattle.lists.proofs.Tests.{find-found}
use Rattle.machine.specs.declared.parameters.Parameters.{Parameters}
use Rattle.pair_law.specs.Epochs.{state_at}
use Rattle.pair_law.specs.State.{PairState, group_of, has_gid, mask_in}
use Rattle.pair_text.specs.Values.{IsLawful, PairScriptValue, epoch_at, op_at, side_machine}
use Rattle.pair_text.specs.declared.group.PairGroup.{PairGroup}
use Rattle.pair_text.specs.declared.op.PairOp.TheVariants as ops
use Rattle.pair_text.specs.declared.side.Side.TheVariants.{First, Second}
use Rattle.pair_law.proofs.laws.Counts.{CountsAgree-joint_window}
use Rattle.pair_law.proofs.laws.WindowExtents.{IsJointWindow-same}
use Rattle.pair_law.specs.JointWindows.{HasLevels, IsJointWindow, domain_above}
use Rattle.pair_law.specs.LevelRuns.{IsLevelRun, LevelJournalsValue}
use Rattle.pair_law.specs.PrivateLevels.{l2_hits, l3_hits}
use Rattle.pair_law.specs.WindowLaws.{count_uses}
use Rattle.pair_windows.proofs.laws.Listings.{All-numbers, AllPairs-numbers, Contains-filtered, Contains-flat_mapped, Contains-found, Contains-mapped, Contains-range}
use Rattle.rc_base.specs.declared.names.Gid.{Gid}
use Rattle.rc_base.specs.declared.names.Mode.TheVariants.{Exclusive}

-- a group that has its levels is one of the exclusive ones
pub record IsHolder (s : PairState) (gid : Gid) (g : PairGroup) : Type 0 where
  pub number : g.gid.0 ≡ gid.0
  pub listed : Contains (exclusive_in s) g

holder : (script : PairScriptValue) (domain : ℕ) (gid : Gid) (mask : ℕ) (masks : ℕ → ℕ) (s : PairState) → HasLevels script.machines domain gid mask masks s → (g : PairGroup) × IsHolder s gid g
holder script domain gid mask masks s has = of (group_of s gid) refl has
  where
    of : (o : Option PairGroup) → group_of s gid ≡ o
        → IsSomeAnd o (λ g. (g.mode ≡ Exclusive) × (mask_in Second domain g ≡ mask) × ((x : ℕ) → x < (side_machine script.machines First).domains → domain_above script.machines x ≡ domain → mask_in First x g ≡ masks x))
        → (g : PairGroup) × IsHolder s gid g
    of None is h = absurd h
    of (Some g) is h = (
      g,
      record {
        number = sym (eqb-true gid.0 g.gid.0 (find-found (has_gid gid) s.groups g is).passes);
        listed = Contains-filtered is_exclusive s.groups g (ap (is_mode Exclusive) h.0) (Contains-found (has_gid gid) s.groups g is);
      },
    )

-- ---- a window by its counts

abbrev made : ℕ → ℕ → ℕ → ℕ → ℕ → ℕ → ℕ → ℕ → ℕ → ℕ → JointWindow
made domain gid from uses covered l2_hits l2_private l3_accesses l3_hits l3_private = record {
  domain = domain;
  gid = record { 0 = gid };
  from = from;
  uses = uses;
  covered = covered;
  l2_hits = l2_hits;
  l2_private = l2_private;
  l3_accesses = l3_accesses;
  l3_hits = l3_hits;
  l3_private = l3_private;
}

made-same : (domain gid from uses covered l2_hits l2_private l3_accesses l3_hits l3_private gid' from' uses' covered' l2_hits' l2_private' l3_accesses' l3_hits' l3_private' : ℕ)
    → gid ≡ gid' → from ≡ from' → uses ≡ uses' → covered ≡ covered' → l2_hits ≡ l2_hits' → l2_private ≡ l2_private' → l3_accesses ≡ l3_accesses' → l3_hits ≡ l3_hits' → l3_private ≡ l3_private'
    → made domain gid from uses covered l2_hits l2_private l3_accesses l3_hits l3_private ≡ made domain gid' from' uses' covered' l2_hits' l2_private' l3_accesses' l3_hits' l3_private'
made-same domain gid from uses covered l2_hits l2_private l3_accesses l3_hits l3_private gid' from' uses' covered' l2_hits' l2_private' l3_accesses' l3_hits' l3_private' a b c d e f g h i = rw (a, b, c, d, e, f, g, h, i) refl

-- ---- the windows of a run

module _ (script : PairScriptValue) (j : LevelJournalsValue) where
  -- the windows of a domain
  abbrev of_domain : ℕ → List JointWindow
  of_domain domain = windows_in script domain j

  each-listed : All (IsUsedJointWindow script j) (joint_windows script j)
  each-listed = All-flat_map (IsUsedJointWindow script j) of_domain (range_with_len 0 script.machines.machine.domains)
      (All-numbers script.machines.machine.domains (λ domain. All (IsUsedJointWindow script j) (of_domain domain)) (λ domain exists. each-in script j domain exists))

  ordered-listed : AllPairs PrecedesOnLevels (joint_windows script j)
  ordered-listed = AllPairs-numbers of_domain script.machines.machine.domains PrecedesOnLevels (λ domain (w : JointWindow). w.domain ≡ domain)
      (λ domain exists. domain-in script j domain) (λ domain exists. ordered-in script j domain)
      (λ i k x y lt one two. inl (omega (arith, lt, one, two)))

  -- ---- every one is listed

  module _ (below : Parameters) (lawful : IsLawful script) (two : script.machines.l2 ≡ Some below) (run : IsLevelRun script j) where
    -- as many uses hit as in the private hierarchy
    as_private : (w : JointWindow) → IsUsedJointWindow script j w → CountsAsPrivate w
    as_private w u =
        let agree = CountsAgree-joint_window script j below w.domain u.from u.to w.gid u.mask u.masks u.last lawful two run u.is in
        (u.counts.l2_hits_is ∙ (agree.l2 ∙ sym u.counts.l2_private_is), u.counts.l3_hits_is ∙ (agree.l3 ∙ sym u.counts.l3_private_is))

    all-listed : (w : JointWindow) → IsUsedJointWindow script j w → Contains (joint_windows script j) w
    all-listed w u =
        let first : ℕ = epoch_at script u.from + 1 in
        let s : PairState = state_at script first in
        let has : HasLevels script.machines w.domain w.gid u.mask u.masks s = u.is.joint.always first (omega arith) u.is.joint.from_first in
        let found = holder script w.domain w.gid u.mask u.masks s has in
        let g : PairGroup = found.0 in
        let own : HasOwn script.machines w.domain g s =
        All-contains (λ (x : PairGroup). HasOwn script.machines w.domain x s) (exclusive_in s) g (HasLevels-exclusive script.machines w.domain script first) found.1.listed in
        let its : g.gid ≡ w.gid = ap (λ (n : ℕ). record { 0 = n }) found.1.number in
        let last : ℕ = last_epoch script w.domain first g in
        let to : ℕ = window_end script w.domain u.from last in
        let mask : ℕ = mask_in Second w.domain g in
        let masks : ℕ → ℕ = λ x. mask_in First x g in
        let is_window : IsJointWindow script w.domain u.from to w.gid mask masks last =
        subst (λ (i : Gid). IsJointWindow script w.domain u.from to i mask masks last) its (IsJointWindow-listed script w.domain u.from u.is.domain_exists u.is.opens g own) in
        let same : to ≡ u.to = (IsJointWindow-same script w.domain u.from to u.to w.gid mask u.mask masks u.masks last u.last is_window u.is).0.same_end in
        let turn : (count : ℕ → ℕ → ℕ) (value : ℕ) → value ≡ count w.gid.0 u.to → count g.gid.0 to ≡ value = λ count value is. ap (λ (n : ℕ). count n to) found.1.number ∙ (ap (count w.gid.0) same ∙ sym is) in
        let one : CountsAsPrivate (window_from script w.domain j u.from g) = as_private (window_from script w.domain j u.from g) (IsUsed-holder w u g own found.1.number same) in
        let other : CountsAsPrivate w = as_private w u in
        let l2 = turn (λ (n t : ℕ). count_uses script w.domain n u.from t (hits_l2 script w.domain j)) w.l2_hits u.counts.l2_hits_is in
        let l3 = turn (λ (n t : ℕ). count_uses script w.domain n u.from t (hits_l3 script w.domain j)) w.l3_hits u.counts.l3_hits_is in
        let listed : JointWindow = window_from script w.domain j u.from g in
        let is : listed ≡ w = made-same w.domain g.gid.0 (epoch_at script u.from) listed.uses listed.covered listed.l2_hits listed.l2_private listed.l3_accesses listed.l3_hits listed.l3_private
        w.gid.0 w.from w.uses w.covered w.l2_hits w.l2_private w.l3_accesses w.l3_hits w.l3_private
        found.1.number
        (sym u.begins)
        (turn (λ (n t : ℕ). uses_of script w.domain n u.from t) w.uses u.counts.uses_is)
        (turn (λ (n t : ℕ). count_uses script w.domain n u.from t (λ i cpu line. true)) w.covered u.counts.covered_is)
        l2
        (sym one.0 ∙ (l2 ∙ other.0))
        (turn (λ (n t : ℕ). count_uses script w.domain n u.from t (reaches_l3 script w.domain j)) w.l3_accesses u.counts.l3_accesses_is)
        l3
        (sym one.1 ∙ (l3 ∙ other.1)) in
        let here : Contains (windows_from script w.domain j u.from) w =
        Contains-filtered is_used (map (window_from script w.domain j u.from) (exclusive_in s)) w (lt-ltb 0 w.uses u.used)
        (subst (Contains (map (window_from script w.domain j u.from) (exclusive_in s))) is (Contains-mapped (window_from script w.domain j u.from) (exclusive_in s) g found.1.listed)) in
        let at : windows_at script w.domain j u.from (op_at script u.from) ≡ windows_from script w.domain j u.from = ap (windows_at script w.domain j u.from) u.is.opens in
        Contains-flat_mapped of_domain (range_with_len 0 script.machines.machine.domains) w.domain w (Contains-range script.machines.machine.domains w.domain u.is.domain_exists)
        (Contains-flat_mapped (λ from. windows_at script w.domain j from (op_at script from)) (range_with_len 0 (length script.ops)) u.from w
        (Contains-range (length script.ops) u.from (slice_get_within script.ops u.from ops.Flush u.is.opens))
        (subst (λ (l : List JointWindow). Contains l w) (sym at) here))
      where
        IsUsed-holder : (x : JointWindow) (v : IsUsedJointWindow script j x) (g : PairGroup) → HasOwn script.machines x.domain g (state_at script (epoch_at script v.from + 1)) → g.gid.0 ≡ x.gid.0
            → window_end script x.domain v.from (last_epoch script x.domain (epoch_at script v.from + 1) g) ≡ v.to → IsUsedJointWindow script j (window_from script x.domain j v.from g)
        IsUsed-holder x v g own number same =
            let uses : (window_from script x.domain j v.from g).uses ≡ x.uses =
            ap (λ (n : ℕ). uses_of script x.domain n v.from (window_end script x.domain v.from (last_epoch script x.domain (epoch_at script v.from + 1) g))) number ∙ (ap (uses_of script x.domain x.gid.0 v.from) same ∙ sym v.counts.uses_is) in
            let used = v.used in
            IsUsed-listed script j x.domain v.from v.is.opens v.is.domain_exists g own (lt-ltb 0 (window_from script x.domain j v.from g).uses (omega (arith, used, uses)))

-- ---- the law

pub AreJointWindowsOf-listed : JointWindowsAreListed
AreJointWindowsOf-listed script j lawful some run = at script.machines.l2 refl some
  where
    at : (o : Option Parameters) → script.machines.l2 ≡ o → IsSome o → AreJointWindowsOf script j (joint_windows script j)
    at None is none = absurd cc
    at (Some below) two has = record {
      each = each-listed script j;
      all = all-listed script j below lawful two run;
      ordered = ordered-listed script j;
      as_private = All-weaker (IsUsedJointWindow script j) CountsAsPrivate (as_private script j below lawful two run) (joint_windows script j) (each-listed script j);
    }
