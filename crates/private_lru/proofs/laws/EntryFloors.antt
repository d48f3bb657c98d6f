-- An access is of no earlier epoch than a raise, a flush or a lock before it.
use Rattle.std.proofs.Common.{◌≡◌, ℕ, zero, suc, ◌<◌, ◌≤◌, Bool, true, false, List, [], ◌∷◌, length, take, get_or, Some, refl, subst, ap, ◌∙◌, arith}
use Rattle.std.specs.Prelude.{slice_get}
use Rattle.std.proofs.lemmas.Bool.{false≢true}
use Rattle.std.proofs.lemmas.List.{get_or-take, length-take}
use Rattle.std.proofs.lemmas.Option.{get_or_from_slice_get, slice_get_within}
use Rattle.cache_core.specs.Filled.{empties}
use Rattle.cache_core.specs.History.{EntryMayFollow, IsLegal, MayHappen, Shape, floor_of, sets_floor}
use Rattle.cache_core.specs.declared.entry.SliceEntry.{SliceEntry}
use Rattle.cache_core.specs.declared.entry.What.{What}
use Rattle.cache_core.specs.declared.entry.What.TheVariants.{Access, Raise, Flush, Lock, Look, Drop}
use Rattle.rc_base.proofs.laws.Histories.{EachFollows-at}

-- an access
abbrev pub is_access : What → Bool
is_access (Access hit way owner rmid mask line) = true
is_access what = false

-- the floor is no less than the epoch of an entry that sets it
floor_of-at : (es : List SliceEntry) (k : ℕ) (d : SliceEntry) → k < length es → sets_floor (get_or es k d).what ≡ true → (get_or es k d).epoch ≤ floor_of es
floor_of-at [] k d within sets = absurd (omega arith)
floor_of-at (e ∷ es) zero d within sets = rw sets (omega arith)
floor_of-at (e ∷ es) (suc k) d within sets = let rest : (get_or es k d).epoch ≤ floor_of es = floor_of-at es k d (omega arith) sets in omega arith

-- an access is not below the floor
floor_of-le : (m : Shape) (before : List SliceEntry) (epoch : ℕ) (what : What) → is_access what ≡ true → MayHappen m before epoch what → floor_of before ≤ epoch
floor_of-le m before epoch (Access hit way owner rmid mask line) access may = may.0
floor_of-le m before epoch Raise access may = absurd (false≢true access)
floor_of-le m before epoch Flush access may = absurd (false≢true access)
floor_of-le m before epoch (Lock mask first_line) access may = absurd (false≢true access)
floor_of-le m before epoch (Look rmid lines) access may = absurd (false≢true access)
floor_of-le m before epoch (Drop line at) access may = absurd (false≢true access)

-- so an access is of no earlier epoch than an entry before it that set the floor
pub epoch-le : (m : Shape) (es : List SliceEntry) (q p : ℕ) (earlier e : SliceEntry) → IsLegal m es → slice_get es q ≡ Some earlier → slice_get es p ≡ Some e → q < p → sets_floor earlier.what ≡ true → is_access e.what ≡ true
    → earlier.epoch ≤ e.epoch
epoch-le m es q p earlier e legal first second before sets access =
    let within : p < length es = slice_get_within es p e second in
    let is : get_or es p e ≡ e = get_or_from_slice_get es p e e second in
    let may : EntryMayFollow m (take p es) e = subst (λ (x : SliceEntry). EntryMayFollow m (take p es) x) is (EachFollows-at (EntryMayFollow m) es p e legal within) in
    let low : floor_of (take p es) ≤ e.epoch = floor_of-le m (take p es) e.epoch e.what access may in
    let was : get_or (take p es) q earlier ≡ earlier = get_or-take p es q earlier before ∙ get_or_from_slice_get es q earlier earlier first in
    let long : q < length (take p es) = omega (arith, length-take p es, within) in
    let set : (get_or (take p es) q earlier).epoch ≤ floor_of (take p es) = floor_of-at (take p es) q earlier long (ap (λ (x : SliceEntry). sets_floor x.what) was ∙ sets) in
    let same : (get_or (take p es) q earlier).epoch ≡ earlier.epoch = ap (λ (x : SliceEntry). x.epoch) was in
    omega arith

-- what empties a slice sets its floor
pub sets_floor-empties : (what : What) → empties what ≡ true → sets_floor what ≡ true
sets_floor-empties (Access hit way owner rmid mask line) h = h
sets_floor-empties Raise h = refl
sets_floor-empties Flush h = refl
sets_floor-empties (Lock mask first_line) h = refl
sets_floor-empties (Look rmid lines) h = h
sets_floor-empties (Drop line at) h = h
