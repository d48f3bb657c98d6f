-- The region that a path touches.
use Rattle.std.proofs.Common.{◌≡◌, ℕ, ◌+◌, ◌<◌, Bool, true, false, cond, length, find, get_or, Option, None, Some, sym, ap, ◌∙◌, arith, inl, inr, zero-add}
use Rattle.std.specs.List.{enumerate_from}
use Rattle.std.proofs.lemmas.Bool.{cases_lt}
use Rattle.std.proofs.Math.ListN.{get_or-eq_default}
use Rattle.std.proofs.lemmas.List.{get_or_default}
use Rattle.std.proofs.lemmas.List.FromFn.{get_or-enumerate_from, length-enumerate_from}
use Rattle.std.proofs.lemmas.Option.{same_Some}
use Rattle.group_tree.specs.Records.{has_mode}
use Rattle.group_tree.specs.declared.group.Group.{Group}
use Rattle.lists.proofs.Tests.{find-found}
use Rattle.lists.proofs.Options.{option_and_then-some}
use Rattle.path_names.specs.declared.dirs.DirRef.TheVariants.{Ctrl}
use Rattle.path_names.specs.declared.path_ref.PathRef.{PathRef}
use Rattle.path_names.specs.declared.path_ref.PathRef.TheVariants.{Dir}
use Rattle.rc_base.specs.declared.names.Gid.{Gid}
use Rattle.rc_base.specs.declared.names.Mode.TheVariants.{Locked}
use Rattle.tree_law.specs.Places.{group_at}
use Rattle.tree_law.specs.Space.{region_in}
use Rattle.tree_law.specs.State.{State}
use Rattle.pseudo_lock.specs.declared.region.Region.{Region}
use Rattle.tree_law.specs.commands.Touch as touch

-- the region of a group stands at its domain
region_in-region_of : (s : State) (gid : Gid) (domain : ℕ) (r : Region) → touch.region_of s gid ≡ Some (domain, r) → region_in s.regions domain ≡ Some r
region_in-region_of s gid domain r is =
    let e = option_and_then-some touch.with_domain (find (touch.is_held_by gid) (enumerate_from 0 s.regions)) (domain, r) is in
    let f = find-found (touch.is_held_by gid) (enumerate_from 0 s.regions) e.0 e.1 in
    let within : f.place < length s.regions = omega (arith, f.within, length-enumerate_from 0 s.regions) in
    let there : (0 + f.place, get_or s.regions f.place e.0.1) ≡ e.0 = sym (get_or-enumerate_from 0 s.regions f.place e.0 within) ∙ f.at e.0 in
    let two = parts e.0 e.2 in
    let place : f.place ≡ domain = sym (zero-add f.place) ∙ ap (λ (p : ℕ × Option Region). p.0) there ∙ two.0 in
    let region : get_or s.regions f.place e.0.1 ≡ Some r = ap (λ (p : ℕ × Option Region). p.1) there ∙ two.1 in
    get_or_default s.regions domain None e.0.1 (omega arith) ∙ ap (λ (n : ℕ). get_or s.regions n e.0.1) (sym place) ∙ region
  where
    parts : (p : ℕ × Option Region) → touch.with_domain p ≡ Some (domain, r) → (p.0 ≡ domain) × (p.1 ≡ Some r)
    parts (d, None) e = absurd (let f : ◌≡◌ {A = Option (ℕ × Region)} None (Some (domain, r)) = e in cc)
    parts (d, Some q) e = let same = same_Some (d, q) (domain, r) e in (ap (λ (p : ℕ × Region). p.0) same, ap (λ (p : ℕ × Region). Some p.1) same)

-- the region that a path touches stands at its domain
pub region_in-touched : (s : State) (path : PathRef) (domain : ℕ) (r : Region) → touch.touched s path ≡ Some (domain, r) → region_in s.regions domain ≡ Some r
unfolding touch.touched
region_in-touched s (Dir (Ctrl name)) domain r is =
    let g = option_and_then-some (touch.region_if_locked s) (group_at s (Ctrl name)) (domain, r) is in at g.0 (has_mode Locked g.0) g.2
  where
    at : (g : Group) (b : Bool) → cond b (touch.region_of s g.gid) None ≡ Some (domain, r) → region_in s.regions domain ≡ Some r
    at g true e = region_in-region_of s g.gid domain r e
    at g false e = absurd (let f : ◌≡◌ {A = Option (ℕ × Region)} None (Some (domain, r)) = e in cc)
region_in-touched s path domain r is = absurd (let f : ◌≡◌ {A = Option (ℕ × Region)} None (Some (domain, r)) = is in cc)

-- a region stands at a domain of the list
pub lt-regions : (s : State) (domain : ℕ) (r : Region) → region_in s.regions domain ≡ Some r → domain < length s.regions
lt-regions s domain r there = elim (cases_lt domain (length s.regions)) [
  | inl less ↦ less
  | inr past ↦ absurd (let none : ◌≡◌ {A = Option Region} None (Some r) = sym (get_or-eq_default s.regions None past) ∙ there in cc)
]
