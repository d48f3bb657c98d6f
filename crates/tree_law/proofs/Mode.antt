-- A write of `mode` keeps a sound tree.
use Rattle.std.proofs.Common.{◌≡◌, ◌≢◌, ℕ, ◌<◌, Bool, true, false, cond, List, [], ◌∷◌, find, get_or, Option, None, Some, IfSome, IsSome, is_none, Ok, refl, sym, subst, ap, ◌∙◌, arith}
use Rattle.std.specs.List.{All, list_any, range_with_len}
use Rattle.std.specs.Option.{option_or}
use Rattle.std.proofs.lemmas.Bool.{not-false}
use Rattle.std.proofs.lemmas.List.Elements.{All-cons}
use Rattle.group_tree.specs.Records.{has_gid, is_control, mask_in}
use Rattle.group_tree.specs.declared.group.Group.{Group}
use Rattle.group_tree.specs.declared.group_kind.GroupKind.{GroupKind}
use Rattle.group_tree.specs.declared.group_kind.GroupKind.TheVariants.{Control, Monitor}
use Rattle.lists.proofs.Keyed.{AllPairs-beside}
use Rattle.lists.proofs.Tests.{All-from_none, IsFound-all}
use Rattle.lists.proofs.Options.{option_or-none}
use Rattle.machine.specs.declared.parameters.Parameters.{Parameters}
use Rattle.mode_rules.specs.Overlaps.{is_apart, leaving_overlap}
use Rattle.num_text.specs.Blanks.{trim}
use Rattle.rc_base.specs.declared.names.Mode.{Mode}
use Rattle.rc_base.specs.declared.names.Mode.TheVariants.{Shareable, Exclusive, LockSetup, Locked}
use Rattle.rc_base.specs.declared.replies.Why.TheVariants.{GroupLocked, OutOfRmids, RmidsBusy, SchemataOverlap, UnknownMode}
use Rattle.tree_law.proofs.laws.FreeIds.{free_rmid-some, All-range}
use Rattle.tree_law.proofs.Groups.{gid_number}
use Rattle.tree_law.proofs.Masks.{FitsBeside, FitsBeside-exclusive, FitsBeside-leaving, FitsBeside-old, FitsBeside-shared}
use Rattle.tree_law.proofs.BothSides.{IdsDiffer-turned}
use Rattle.tree_law.proofs.laws.Refusals.{against_overlap-none}
use Rattle.tree_law.specs.Counted.{is_counted_mode}
use Rattle.tree_law.specs.Masks.{HasValid}
use Rattle.tree_law.specs.Places.{with_record}
use Rattle.tree_law.specs.Refusals.{Refusal, plain}
use Rattle.tree_law.specs.Sound.{HasIds, HasIdsOf, IdsDiffer, IsSound, IsUsed}
use Rattle.tree_law.specs.Space.{free_rmid, used_in}
use Rattle.tree_law.specs.State.{State}
use Rattle.tree_law.specs.commands.Mkdir.{none_in_limbo}
use Rattle.tree_law.specs.commands.Mode.{accepted, against_change, against_entry, against_exclusive, against_leaving, against_masks, against_mode, against_rmid, freed, freed_by, holdings, is_named, is_present, is_setup, mode_in, overlaps_some, refusal, rmid_refusal, with_mode}
use Rattle.tree_law.specs.commands.Schemata.{against_overlap, is_locked}
use Rattle.tree_law.proofs.ModeTests.{MayEnter-none, is_locked-false, cond-counted}
use Rattle.tree_law.proofs.ModeTurns.{IsFound-gid, IsSound-counted, IsSound-setup}

module _ (m : Parameters) (s : State) (g : Group) (sound : IsSound m s) (found : find (has_gid g.gid) s.groups ≡ Some g) (control : is_control g.kind ≡ true) (unlocked : is_locked g.mode ≡ false) where
  -- ---- the tests of a change

  -- where no domain is against leaving pseudo-locksetup, the mask of each may leave
  All-leaving_overlap : (domains : List ℕ) → against_masks m s g domains ≡ None → All (λ domain. leaving_overlap (mask_in domain g) (used_in m s (Some g.gid) domain) ≡ Ok tt) domains
  All-leaving_overlap [] none = λ k d within. absurd (omega arith)
  All-leaving_overlap (domain ∷ domains) none =
      let both = option_or-none (against_overlap domain (leaving_overlap (mask_in domain g) (used_in m s (Some g.gid) domain))) (against_masks m s g domains) none in
      All-cons (λ domain. leaving_overlap (mask_in domain g) (used_in m s (Some g.gid) domain) ≡ Ok tt) domain domains
      (against_overlap-none domain (leaving_overlap (mask_in domain g) (used_in m s (Some g.gid) domain)) both.0) (All-leaving_overlap domains both.1)

  -- where nothing is against exclusive mode, each mask is apart from all others
  is_apart-exclusive : against_exclusive m s g Exclusive ≡ None → (domain : ℕ) → domain < m.domains → is_apart (mask_in domain g) (used_in m s (Some g.gid) domain) ≡ true
  is_apart-exclusive none = All-range (λ domain. is_apart (mask_in domain g) (used_in m s (Some g.gid) domain) ≡ true) m.domains
      (λ k d within. not-false (is_apart (mask_in (get_or (range_with_len 0 m.domains) k d) g) (used_in m s (Some g.gid) (get_or (range_with_len 0 m.domains) k d)))
      (All-from_none (overlaps_some m s g) (range_with_len 0 m.domains) (at (list_any (overlaps_some m s g) (range_with_len 0 m.domains)) none) k d within))
    where
      at : (b : Bool) → cond {A = Option Refusal} b (Some (plain SchemataOverlap)) None ≡ None → b ≡ false
      at true e = absurd (let f : Some (plain SchemataOverlap) ≡ None = e in cc)
      at false e = refl

  -- each mask of the group is valid
  HasValid-own : (domain : ℕ) → domain < m.domains → HasValid m domain g
  HasValid-own domain lt = IsFound-all (HasValid m domain) (has_gid g.gid) s.groups g (IsFound-gid m s g sound found control unlocked) (sound.masks.valid domain lt)

  -- an RMID is free where nothing is against taking one
  free_rmid-unrefused : rmid_refusal m s ≡ None → (id : ℕ) × (free_rmid m s ≡ Some id)
  free_rmid-unrefused none = at (free_rmid m s) refl none
    where
      at : (o : Option ℕ) → free_rmid m s ≡ o → cond {A = Option Refusal} (is_none o) (Some (plain (cond (none_in_limbo s) OutOfRmids RmidsBusy))) None ≡ None → (id : ℕ) × (free_rmid m s ≡ Some id)
      at None is e = absurd (let f : Some (plain (cond (none_in_limbo s) OutOfRmids RmidsBusy)) ≡ None = e in cc)
      at (Some id) is e = (id, is)

  -- from a counted mode its own RMID stays
  IsSound-own_rmid : is_counted_mode g.mode ≡ true → (mode : Mode) → is_counted_mode mode ≡ true → ((domain : ℕ) → domain < m.domains → FitsBeside m s g sound found mode domain (mask_in domain g)) → IsSound m (with_record s (record g { mode = mode; rmid = g.rmid }))
  IsSound-own_rmid was mode counted fits = IsSound-counted m s g sound found control unlocked mode g.rmid counted (λ d. d.rmid) (rmid_there g.kind control (IsFound-all (λ (x : Group). HasIds s.groups x.kind x) (has_gid g.gid) s.groups g (IsFound-gid m s g sound found control unlocked) sound.numbered.ids))
      (IsFound-all (λ (x : Group). IfSome x.rmid (IsUsed m s.limbo)) (has_gid g.gid) s.groups g (IsFound-gid m s g sound found control unlocked) sound.numbered.rmids)
      (λ k d within other. (AllPairs-beside gid_number s.groups g g sound.named.gids found IdsDiffer IdsDiffer-turned sound.numbered.apart k d within other).1) fits
    where
      by_mode : (mode : Mode) → is_counted_mode mode ≡ true → HasIdsOf mode g → IsSome g.rmid
      by_mode Shareable c h = h.1
      by_mode Exclusive c h = h.1
      by_mode LockSetup c h = absurd (let f : false ≡ true = c in cc)
      by_mode Locked c h = absurd (let f : false ≡ true = c in cc)

      rmid_there : (kind : GroupKind) → is_control kind ≡ true → HasIds s.groups kind g → IsSome g.rmid
      rmid_there Control c h = by_mode g.mode was h
      rmid_there (Monitor p) c h = absurd (let f : false ≡ true = c in cc)

  -- from pseudo-locksetup it takes a free one
  IsSound-free_rmid : g.mode ≡ LockSetup → rmid_refusal m s ≡ None → (mode : Mode) → is_counted_mode mode ≡ true → ((domain : ℕ) → domain < m.domains → FitsBeside m s g sound found mode domain (mask_in domain g)) → IsSound m (with_record s (record g { mode = mode; rmid = free_rmid m s }))
  IsSound-free_rmid setup none mode counted fits =
      let id = free_rmid-unrefused none in
      let is = free_rmid-some m s id.0 id.1 in
      subst (λ (o : Option ℕ). IsSound m (with_record s (record g { mode = mode; rmid = o }))) (sym id.1)
      (IsSound-counted m s g sound found control unlocked mode (Some id.0) counted (λ d. absurd (not_counted g.kind d.counted)) refl is.0 (λ k d within other. is.1 k d within) fits)
    where
      not_counted : (kind : GroupKind) → cond (is_control kind) (is_counted_mode g.mode) false ≡ true → ⊥
      not_counted Control e = let f : false ≡ true = ap is_counted_mode (sym setup) ∙ e in cc
      not_counted (Monitor p) e = let f : false ≡ true = e in cc

  -- ---- each change

  -- what is against a change to a mode from another, by the modes alone
  against_change-none : (mode : Mode) → against_change m s g mode ≡ None → (against_entry s g mode ≡ None) × (against_leaving m s g ≡ None) × (against_exclusive m s g mode ≡ None) × (against_rmid m s g ≡ None)
  against_change-none mode none =
      let one = option_or-none (against_entry s g mode) (option_or (against_leaving m s g) (option_or (against_exclusive m s g mode) (against_rmid m s g))) none in
      let two = option_or-none (against_leaving m s g) (option_or (against_exclusive m s g mode) (against_rmid m s g)) one.1 in
      let three = option_or-none (against_exclusive m s g mode) (against_rmid m s g) two.1 in
      (one.0, two.0, three.0, three.1)

  -- each mask is apart from all others where the new mode is exclusive
  is_apart-to_exclusive : (mode : Mode) → against_exclusive m s g mode ≡ None → mode ≡ Exclusive → (domain : ℕ) → domain < m.domains → is_apart (mask_in domain g) (used_in m s (Some g.gid) domain) ≡ true
  is_apart-to_exclusive mode none is = is_apart-exclusive (subst (λ (x : Mode). against_exclusive m s g x ≡ None) is none)

  -- from a counted mode to a counted mode
  IsSound-from_counted : is_counted_mode g.mode ≡ true → (mode : Mode) → is_counted_mode mode ≡ true → against_exclusive m s g mode ≡ None → IsSound m (with_record s (record g { mode = mode; rmid = g.rmid }))
  IsSound-from_counted was mode counted none = IsSound-own_rmid was mode counted (λ domain lt. fits mode counted none domain lt)
    where
      old : (domain : ℕ) → domain < m.domains → FitsBeside m s g sound found g.mode domain (mask_in domain g)
      old = FitsBeside-old m s g sound found control (is_locked-false g.mode unlocked) (cond-counted g.kind g.mode control was)

      fits : (mode : Mode) → is_counted_mode mode ≡ true → against_exclusive m s g mode ≡ None → (domain : ℕ) → domain < m.domains → FitsBeside m s g sound found mode domain (mask_in domain g)
      fits Shareable c none domain lt = FitsBeside-shared m s g sound found domain (mask_in domain g) (old domain lt)
      fits Exclusive c none domain lt = FitsBeside-exclusive m s g sound found domain (mask_in domain g) (old domain lt) (is_apart-exclusive none domain lt)
      fits LockSetup c none domain lt = absurd (let f : false ≡ true = c in cc)
      fits Locked c none domain lt = absurd (let f : false ≡ true = c in cc)

  -- from pseudo-locksetup to a counted mode
  IsSound-from_setup : g.mode ≡ LockSetup → (mode : Mode) → is_counted_mode mode ≡ true → against_leaving m s g ≡ None → against_exclusive m s g mode ≡ None → against_rmid m s g ≡ None → IsSound m (with_record s (record g { mode = mode; rmid = free_rmid m s }))
  IsSound-from_setup setup mode counted leaving exclusive rmid =
      let masks : against_masks m s g (range_with_len 0 m.domains) ≡ None = ap (λ (x : Mode). cond (is_setup x) (against_masks m s g (range_with_len 0 m.domains)) None) (sym setup) ∙ leaving in
      let ids : rmid_refusal m s ≡ None = ap (λ (x : Mode). cond (is_setup x) (rmid_refusal m s) None) (sym setup) ∙ rmid in
      let leave = All-range (λ domain. leaving_overlap (mask_in domain g) (used_in m s (Some g.gid) domain) ≡ Ok tt) m.domains (All-leaving_overlap (range_with_len 0 m.domains) masks) in
      IsSound-free_rmid setup ids mode counted (λ domain lt. FitsBeside-leaving m s g sound found mode domain (mask_in domain g) tt (HasValid-own domain lt control (is_locked-false g.mode unlocked)) (leave domain lt) (λ e. is_apart-to_exclusive mode exclusive e domain lt))

  -- to a counted mode from any
  IsSound-to_counted : (mode : Mode) → is_counted_mode mode ≡ true → against_change m s g mode ≡ None → IsSound m (with_record s (record g { mode = mode; rmid = cond (is_setup g.mode) (free_rmid m s) g.rmid }))
  IsSound-to_counted mode counted none = (let t = against_change-none mode none in at g.mode refl t.1 t.2 t.3)
    where
      at : (x : Mode) → g.mode ≡ x → against_leaving m s g ≡ None → against_exclusive m s g mode ≡ None → against_rmid m s g ≡ None → IsSound m (with_record s (record g { mode = mode; rmid = cond (is_setup x) (free_rmid m s) g.rmid }))
      at Shareable is l e r = IsSound-from_counted (ap is_counted_mode is) mode counted e
      at Exclusive is l e r = IsSound-from_counted (ap is_counted_mode is) mode counted e
      at LockSetup is l e r = IsSound-from_setup is mode counted l e r
      at Locked is l e r = absurd (let f : true ≡ false = sym (ap is_locked is) ∙ unlocked in cc)

  -- a change of mode that nothing is against keeps a sound tree
  pub with_mode-sound : (mode : Mode) (looks : List ℕ) → mode ≢ Locked → against_change m s g mode ≡ None → IsSound m (with_mode m s g (freed_by g (Some mode)) looks (Some mode))
  with_mode-sound Shareable looks writable none = IsSound-to_counted Shareable refl none
  with_mode-sound Exclusive looks writable none = IsSound-to_counted Exclusive refl none
  with_mode-sound LockSetup looks writable none = IsSound-setup m s g sound found control unlocked looks (MayEnter-none (holdings s g) (against_change-none LockSetup none).0)
  with_mode-sound Locked looks writable none = absurd (writable refl)

-- no text asks for the mode of a pseudo-locked group
mode_in-not_locked : (text : List ℕ) (mode : Mode) → mode_in text ≡ Some mode → mode ≢ Locked
unfolding mode_in
mode_in-not_locked text mode is e = at (is_named (trim text) Shareable) (is_named (trim text) Exclusive) (is_named (trim text) LockSetup) (is ∙ ap Some e)
  where
    at : (a b c : Bool) → cond {A = Option Mode} a (Some Shareable) (cond b (Some Exclusive) (cond c (Some LockSetup) None)) ≡ Some Locked → ⊥
    at true b c e = let f : Some Shareable ≡ Some Locked = e in cc
    at false true c e = let f : Some Exclusive ≡ Some Locked = e in cc
    at false false true e = let f : Some LockSetup ≡ Some Locked = e in cc
    at false false false e = let f : ◌≡◌ {A = Option Mode} None (Some Locked) = e in cc

-- an accepted write of a mode keeps a sound tree
pub mode-sound : (m : Parameters) (s : State) (g : Group) (text looks : List ℕ) → IsSound m s → find (has_gid g.gid) s.groups ≡ Some g → is_control g.kind ≡ true → refusal m s g text ≡ None → IsSound m (accepted m s g text looks)
unfolding refusal accepted freed
mode-sound m s g text looks sound found control none = at (is_present g.mode text) (is_locked g.mode) (mode_in text) refl refl none
  where
    at : (a b : Bool) (o : Option Mode) → is_locked g.mode ≡ b → mode_in text ≡ o → cond a None (cond b (Some (plain GroupLocked)) (against_mode m s g o)) ≡ None
        → IsSound m (cond a s (with_mode m s g (cond a [] (freed_by g o)) looks o))
    at true b o isb iso e = sound
    at false true o isb iso e = absurd (let f : Some (plain GroupLocked) ≡ None = e in cc)
    at false false None isb iso e = absurd (let f : Some (plain UnknownMode) ≡ None = e in cc)
    at false false (Some mode) isb iso e = with_mode-sound m s g sound found control isb mode looks (mode_in-not_locked text mode iso) e
