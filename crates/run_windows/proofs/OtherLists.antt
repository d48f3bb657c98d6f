-- The other groups of a list, where some go or one has another record.
use Rattle.std.proofs.Common.{◌≡◌, Bool, true, false, not, cond, List, [], ◌∷◌, filter, refl, Some, inl, inr, sym, ap, ◌∙◌}
use Rattle.std.proofs.lemmas.Bool.{and_parts, cases_Bool, eq-eqb, eqb-true, not-true}
use Rattle.group_tree.proofs.laws.Records.{is_monitor_of-control}
use Rattle.group_tree.specs.Lists.{replaced}
use Rattle.group_tree.specs.Records.{has_gid, has_mode, is_control, is_mode, is_other_in}
use Rattle.group_tree.specs.declared.group.Group.{Group}
use Rattle.rc_base.specs.declared.names.Gid.{Gid}
use Rattle.rc_base.specs.declared.names.Mode.TheVariants.{Exclusive}
use Rattle.tree_law.specs.commands.Rmdir as rmdir

-- those that pass one test among those that pass another, which is wider
pub filter-filter : {X : Type 0} (p q : X → Bool) → ((x : X) → p x ≡ true → q x ≡ true) → (xs : List X) → filter p (filter q xs) ≡ filter p xs
filter-filter p q wider [] = refl
filter-filter p q wider (x ∷ xs) = at (p x) (q x) refl refl (filter-filter p q wider xs)
  where
    at : (b c : Bool) → p x ≡ b → q x ≡ c → filter p (filter q xs) ≡ filter p xs → filter p (cond c (x ∷ filter q xs) (filter q xs)) ≡ cond b (x ∷ filter p xs) (filter p xs)
    at true true is isq rest = rw is (ap (λ l. x ∷ l) rest)
    at true false is isq rest = absurd (let f : true ≡ false = sym (wider x is) ∙ isq in cc)
    at false true is isq rest = rw is rest
    at false false is isq rest = rest

-- another group is not this one
is_other-true : (gid : Gid) (g : Group) → is_other_in (Some gid) Exclusive g ≡ true → has_gid gid g ≡ false
is_other-true gid g is = not-true (has_gid gid g) (and_parts (not (has_gid gid g)) (has_mode Exclusive g) is).0

-- it stays where the control group goes
pub stays-control : (gid : Gid) (g : Group) → is_other_in (Some gid) Exclusive g ≡ true → not (rmdir.goes_with gid g) ≡ true
stays-control gid g is =
    let mode = (and_parts (not (has_gid gid g)) (has_mode Exclusive g) is).1 in
    let control = (and_parts (is_control g.kind) (is_mode Exclusive g.mode) mode).0 in
    rw (is_other-true gid g is, is_monitor_of-control gid g.kind control) refl

-- and where a monitor group does
pub stays-monitor : (gid : Gid) (g : Group) → is_other_in (Some gid) Exclusive g ≡ true → not (has_gid gid g) ≡ true
stays-monitor gid g is = (and_parts (not (has_gid gid g)) (has_mode Exclusive g) is).0

-- the other groups, where one has another record
pub filter-replaced : (gid : Gid) (new : Group) (gs : List Group) → gid.0 ≡ new.gid.0 → filter (is_other_in (Some gid) Exclusive) (replaced new gs) ≡ filter (is_other_in (Some gid) Exclusive) gs
filter-replaced gid new [] same = refl
filter-replaced gid new (g ∷ gs) same = elim (cases_Bool (has_gid new.gid g)) [
  | inl is ↦
      let own : has_gid gid new ≡ true = eq-eqb gid.0 new.gid.0 same in
      let its : has_gid gid g ≡ true = eq-eqb gid.0 g.gid.0 (same ∙ eqb-true new.gid.0 g.gid.0 is) in
      rw (is, own, its) (filter-replaced gid new gs same)
  | inr other ↦ rw other (ap (λ (l : List Group). cond (is_other_in (Some gid) Exclusive g) (g ∷ l) l) (filter-replaced gid new gs same))
]
