-- What a locked group's record and its region have.
use Rattle.std.proofs.Common.{◌≡◌, ◌≢◌, ℕ, ◌+◌, ◌<◌, ◌≤◌, Bool, true, false, ◌&&◌, cond, eqb, find, get_or, replicate, set, Option, None, Some, IfSome, ◌⊎◌, inl, inr, refl, sym, subst, ap, ◌∙◌, arith}
use Rattle.std.specs.List.{All}
use Rattle.std.proofs.lemmas.Bool.{cases_lt, ne_eqb}
use Rattle.std.proofs.lemmas.List.{get_or-set_same, get_or-set_other, get_or-replicate, get_or_past, length-replicate}
use Rattle.std.proofs.lemmas.List.Elements.{All-set}
use Rattle.std.proofs.lemmas.List.Folds.{Any-from_list_any}
use Rattle.std.proofs.lemmas.Option.{slice_get-get_or}
use Rattle.group_tree.specs.Records.{has_gid, has_mode, is_control, is_mode, mask_in}
use Rattle.group_tree.specs.declared.group.Group.{Group}
use Rattle.group_tree.specs.declared.group_kind.GroupKind.{GroupKind}
use Rattle.group_tree.specs.declared.group_kind.GroupKind.TheVariants.{Control, Monitor}
use Rattle.lists.proofs.Keyed.{get_or-key}
use Rattle.lists.proofs.Pairs.{AllPairs-set}
use Rattle.machine.specs.Ranges.{InRange}
use Rattle.machine.specs.declared.parameters.Parameters.{Parameters}
use Rattle.rc_base.specs.declared.names.Mode.TheVariants.{LockSetup, Locked}
use Rattle.schemata_text.specs.declared.assignment.Assignment.{Assignment}
use Rattle.tree_law.proofs.Groups.{gid_number}
use Rattle.tree_law.specs.Counted.{is_counted, is_counted_mode}
use Rattle.tree_law.specs.Regions.{HaveLines, IsPlaced, LinesDiffer, has_region_of, holds_region}
use Rattle.tree_law.specs.Sound.{IsSound}
use Rattle.tree_law.specs.State.{State}
use Rattle.pseudo_lock.specs.declared.region.Region.{Region}
use Rattle.tree_law.specs.commands.Schemata.{locked, region_for}

-- the group was neither counted nor pseudo-locked
pub is_counted-setup : (g : Group) → g.mode ≡ LockSetup → is_counted g ≡ true → ⊥
is_counted-setup g setup e = at g.kind e
  where
    at : (kind : GroupKind) → cond (is_control kind) (is_counted_mode g.mode) false ≡ true → ⊥
    at Control e = let f : false ≡ true = ap is_counted_mode (sym setup) ∙ e in cc
    at (Monitor p) e = let f : false ≡ true = e in cc

-- the locked record is not counted
pub is_counted-locked : (g : Group) (a : Assignment) → is_counted (locked g a) ≡ true → ⊥
is_counted-locked g a e = at g.kind e
  where
    at : (kind : GroupKind) → cond (is_control kind) false false ≡ true → ⊥
    at Control e = let f : false ≡ true = e in cc
    at (Monitor p) e = let f : false ≡ true = e in cc

-- the record before is not pseudo-locked
pub has_mode-setup : (g : Group) → g.mode ≡ LockSetup → has_mode Locked g ≡ false
has_mode-setup g setup = at g.kind
  where
    at : (kind : GroupKind) → (is_control kind && is_mode Locked g.mode) ≡ false
    at Control = ap (is_mode Locked) setup
    at (Monitor p) = refl

-- the locked record is pseudo-locked
pub has_mode-locked : (g : Group) (a : Assignment) → is_control g.kind ≡ true → has_mode Locked (locked g a) ≡ true
has_mode-locked g a control = at g.kind control
  where
    at : (kind : GroupKind) → is_control kind ≡ true → (is_control kind && true) ≡ true
    at Control e = refl
    at (Monitor p) e = absurd (let f : false ≡ true = e in cc)

-- no region was the group's
pub has_region_of-none : (m : Parameters) (s : State) (g : Group) → IsSound m s → find (has_gid g.gid) s.groups ≡ Some g → g.mode ≡ LockSetup → All (λ (o : Option Region). has_region_of g.gid o ≡ false) s.regions
has_region_of-none m s g sound found setup k d lt = at (get_or s.regions k d) refl
  where
    held : (r : Region) (x : Group) → r.gid.0 ≡ g.gid.0 → holds_region k r x ≡ true → (has_gid g.gid x ≡ true) × (has_mode Locked x ≡ true)
    held r x same e = both (has_gid r.gid x) (has_mode Locked x) (eqb (mask_in k x) r.mask) refl e
      where
        both : (p q t : Bool) → has_gid r.gid x ≡ p → cond p (cond q t false) false ≡ true → (has_gid g.gid x ≡ true) × (q ≡ true)
        both true true t is e = (subst (λ (n : ℕ). eqb n x.gid.0 ≡ true) same is, refl)
        both true false t is e = absurd (let f : false ≡ true = e in cc)
        both false q t is e = absurd (let f : false ≡ true = e in cc)

    at : (o : Option Region) → get_or s.regions k d ≡ o → has_region_of g.gid o ≡ false
    at None is = refl
    at (Some r) is = ne_eqb r.gid.0 g.gid.0 (λ same.
        let old = sound.regions.lawful k r (slice_get-get_or s.regions k d lt ∙ ap Some is) in
        let some = Any-from_list_any (holds_region k r) s.groups old.held in
        let x = some.1 in
        let two = held r x same some.4 in
        let there : get_or s.groups some.0 x ≡ g = get_or-key gid_number s.groups g g sound.named.gids found some.0 x some.2 (ap (has_gid g.gid) some.3 ∙ two.0) in
        let f : true ≡ false = sym two.1 ∙ ap (has_mode Locked) (sym some.3 ∙ there) ∙ has_mode-setup g setup in cc)

-- its mask in the domain of the region
pub mask_in-locked : (m : Parameters) (g : Group) (a : Assignment) → InRange m → a.domain < m.domains → mask_in a.domain (locked g a) ≡ a.mask
mask_in-locked m g a range exists = get_or-set_same (replicate {A = ℕ} 8 0) a.domain a.mask 0 (let most = range.domain_limit in omega (arith, exists, length-replicate {A = ℕ} 8 0))

-- in another domain its mask is empty
pub mask_in-locked_other : (g : Group) (a : Assignment) (domain : ℕ) → domain ≢ a.domain → mask_in domain (locked g a) ≡ 0
mask_in-locked_other g a domain other = get_or-set_other (replicate {A = ℕ} 8 0) a.domain domain a.mask 0 other ∙ at (cases_lt domain 8)
  where
    at : (domain < 8) ⊎ (8 ≤ domain) → ◌≡◌ {A = ℕ} (get_or (replicate {A = ℕ} 8 0) domain 0) 0
    at (inl lt) = get_or-replicate 8 domain 0 0 lt
    at (inr le) = get_or_past (replicate {A = ℕ} 8 0) domain 0 (omega (arith, length-replicate {A = ℕ} 8 0))

-- the new region has the next first line, which none has yet
pub HaveLines-locked : (m : Parameters) (s : State) (g : Group) (a : Assignment) → IsSound m s → HaveLines (set s.regions a.domain (Some (region_for s g a))) (s.locks + 1)
HaveLines-locked m s g a sound = record {
  placed = All-set (λ (o : Option Region). IfSome o (IsPlaced (s.locks + 1))) s.regions a.domain (Some (region_for s g a)) (s.locks, omega arith, refl) (λ k d lt. more (get_or s.regions k d) (sound.lines.placed k d lt));
  differ = AllPairs-set LinesDiffer turned s.regions a.domain (Some (region_for s g a)) sound.lines.differ (λ k d lt other. apart (get_or s.regions k d) (sound.lines.placed k d lt));
}
  where
    more : (o : Option Region) → IfSome o (IsPlaced s.locks) → IfSome o (IsPlaced (s.locks + 1))
    more None placed = tt
    more (Some r) placed = (placed.0, omega arith, placed.2)

    turned : (x y : Option Region) → LinesDiffer x y → LinesDiffer y x
    turned None None differ = tt
    turned None (Some y) differ = tt
    turned (Some x) None differ = tt
    turned (Some x) (Some y) differ = λ e. differ (sym e)

    apart : (o : Option Region) → IfSome o (IsPlaced s.locks) → LinesDiffer (Some (region_for s g a)) o
    apart None placed = tt
    apart (Some r) placed = λ e. (let k = placed.0 in let less = placed.1 in let is = placed.2 in omega arith)
