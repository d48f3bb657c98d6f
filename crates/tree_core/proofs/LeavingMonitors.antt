-- Groups without the monitor groups of a control group.
use Rattle.std.proofs.Common.{◌≡◌, ◌≢◌, ℕ, suc, ◌+◌, ◌<◌, Bool, true, false, not, cond, List, [], ◌∷◌, ◌++◌, length, take, drop, get_or, None, Some, refl, sym, ap, ap₂, ◌∙◌, arith, append_assoc, length-append, length-take, length-drop, drop-cons}
use Rattle.std.specs.List.{All}
use Rattle.std.proofs.lemmas.Bool.{eq-eqb, ne_eqb}
use Rattle.std.proofs.lemmas.List.{get_or-drop, get_or-take, get_or_default, take_more}
use Rattle.std.proofs.lemmas.List.Elements.{All-append, All-drop, All-filter, All-head, All-tail, All-take, filter-append}
use Rattle.std.proofs.lemmas.List.Folds.{list_any_at}
use Rattle.std.proofs.Math.Seq.{get_or-append_seam}
use Rattle.std.proofs.lemmas.Option.{same_Some}
use Rattle.group_tree.specs.Lists.{GidsDiffer, has_group, without}
use Rattle.group_tree.specs.Records.{blank, has_gid, is_monitor_of}
use Rattle.group_tree.specs.declared.group.Group.{Group}
use Rattle.rc_base.specs.declared.names.Gid.{Gid}
use Rattle.tree_core.specs.Removals.{monitor_gid, off_monitors, without_if_monitor, without_some}

-- a group that is a monitor group has this gid
monitor_gid-some : (control : Gid) (g : Group) (gid : Gid) → monitor_gid control g ≡ Some gid → (is_monitor_of control g.kind ≡ true) × (g.gid ≡ gid)
monitor_gid-some control g gid is = at (is_monitor_of control g.kind) refl is
  where
    at : (b : Bool) → is_monitor_of control g.kind ≡ b → cond b (Some g.gid) None ≡ Some gid → (is_monitor_of control g.kind ≡ true) × (g.gid ≡ gid)
    at true e some = (e, same_Some g.gid gid some)
    at false e some = absurd (let none : None ≡ Some gid = some in cc)

-- it is there
pub has_group-monitor : (control : Gid) (groups : List Group) (i : ℕ) (gid : Gid) → i < length groups → monitor_gid control (get_or groups i blank) ≡ Some gid → has_group gid groups ≡ true
has_group-monitor control groups i gid within is =
    list_any_at (has_gid gid) groups i blank within (eq-eqb gid.0 (get_or groups i blank).gid.0 (ap (λ (x : Gid). x.0) (sym (monitor_gid-some control (get_or groups i blank) gid is).1)))

-- and is not the default group
pub gid-monitor : (control : Gid) (groups : List Group) (i : ℕ) (gid : Gid) → i < length groups → All (λ (g : Group). is_monitor_of control g.kind ≡ true → g.gid.0 ≢ 0) groups → monitor_gid control (get_or groups i blank) ≡ Some gid → gid.0 ≢ 0
gid-monitor control groups i gid within each is zeroth =
    let parts = monitor_gid-some control (get_or groups i blank) gid is in
    each i blank within parts.0 (ap (λ (x : Gid). x.0) parts.1 ∙ zeroth)

-- ---- a group less

-- no group has this gid, so all stay
without-none : (gid : Gid) (groups : List Group) → All (λ (g : Group). gid.0 ≢ g.gid.0) groups → without gid groups ≡ groups
without-none gid [] each = refl
without-none gid (g ∷ gs) each =
    ap₂ (λ (b : Bool) (rest : List Group). cond (not b) (g ∷ rest) rest) (ne_eqb gid.0 g.gid.0 (All-head (λ (x : Group). gid.0 ≢ x.gid.0) g gs each)) (without-none gid gs (All-tail (λ (x : Group). gid.0 ≢ x.gid.0) g gs each))

-- one group goes, where the others have other gids
without-one : (g : Group) (front back : List Group) → All (λ (x : Group). g.gid.0 ≢ x.gid.0) front → All (λ (x : Group). g.gid.0 ≢ x.gid.0) back → without g.gid (front ++ g ∷ back) ≡ front ++ back
without-one g front back before later =
    filter-append (λ (x : Group). not (has_gid g.gid x)) front (g ∷ back)
    ∙ ap₂ (λ (xs : List Group) (b : Bool). xs ++ cond (not b) (g ∷ without g.gid back) (without g.gid back)) (without-none g.gid front before) (eq-eqb g.gid.0 g.gid.0 refl)
    ∙ ap (λ (xs : List Group). front ++ xs) (without-none g.gid back later)

-- ---- the monitor groups from a place on are gone

-- the groups where those from a place on are gone
abbrev pub off_from : Gid → ℕ → List Group → List Group
off_from control j groups = take j groups ++ off_monitors control (drop j groups)

-- what holds of each group holds of those
pub All-off_from : (P : Group → Type 0) (control : Gid) (j : ℕ) (groups : List Group) → All P groups → All P (off_from control j groups)
All-off_from P control j groups each = All-append P (take j groups) (off_monitors control (drop j groups)) (All-take P j groups each) (All-filter (λ (g : Group). not (is_monitor_of control g.kind)) P (drop j groups) (All-drop P j groups each))

module _ (control : Gid) (groups : List Group) (differ : GidsDiffer groups) (i : ℕ) (within : i < length groups) where
  -- the group at the place before
  abbrev own : Group
  own = get_or groups i blank

  -- the groups after it
  abbrev rest : List Group
  rest = off_monitors control (drop (i + 1) groups)

  -- it stands between
  off_from-seam : off_from control (i + 1) groups ≡ take i groups ++ own ∷ rest
  off_from-seam = ap (λ (xs : List Group). xs ++ rest) (take_more groups i blank within) ∙ append_assoc (take i groups) (own ∷ []) rest

  -- the place is within them
  pub length-off_from : i < length (off_from control (i + 1) groups)
  length-off_from = omega (arith, ap length off_from-seam, length-append (take i groups) (own ∷ rest), length-take i groups)

  -- and it is there
  get_or-off_from : get_or (off_from control (i + 1) groups) i blank ≡ own
  get_or-off_from =
      let few : length (take i groups) ≡ i = omega (arith, length-take i groups) in
      ap (λ (xs : List Group). get_or xs i blank) off_from-seam ∙ ap (λ (n : ℕ). get_or (take i groups ++ own ∷ rest) n blank) (sym few) ∙ get_or-append_seam (take i groups) own rest blank

  -- those before it have other gids
  others-before : All (λ (x : Group). own.gid.0 ≢ x.gid.0) (take i groups)
  others-before k d inside e =
      let lt : k < i = omega (arith, inside, length-take i groups) in
      differ k i blank lt within (sym (ap (λ (x : Group). x.gid.0) (get_or-take i groups k d lt ∙ get_or_default groups k d blank (omega arith))) ∙ sym e)

  -- and so do those after it
  others-later : All (λ (x : Group). own.gid.0 ≢ x.gid.0) rest
  others-later = All-filter (λ (g : Group). not (is_monitor_of control g.kind)) (λ (x : Group). own.gid.0 ≢ x.gid.0) (drop (i + 1) groups) (λ k d inside e.
      let long = length-drop (i + 1) groups in
      let inside' : i + 1 + k < length groups = omega arith in
      let at = get_or-drop (i + 1) groups k d in
      differ i (i + 1 + k) blank (omega arith) inside' (e ∙ ap (λ (x : Group). x.gid.0) (at ∙ get_or_default groups (i + 1 + k) d blank inside')))

  -- with it tested, those from its place on are gone
  pub without_if_monitor-off_from : without_if_monitor control i (off_from control (i + 1) groups) ≡ off_from control i groups
  without_if_monitor-off_from =
      ap₂ (λ (g : Group) (gs : List Group). without_some (monitor_gid control g) gs) get_or-off_from off_from-seam
      ∙ at (is_monitor_of control own.kind)
      ∙ ap (λ (xs : List Group). take i groups ++ off_monitors control xs) (sym (let next : i + 1 ≡ suc i = omega arith in drop-cons groups i blank within ∙ ap (λ (n : ℕ). own ∷ drop n groups) (sym next)))
    where
      at : (b : Bool) → without_some (cond b (Some own.gid) None) (take i groups ++ own ∷ rest) ≡ take i groups ++ cond (not b) (own ∷ rest) rest
      at true = without-one own (take i groups) rest others-before others-later
      at false = refl
