-- What one more entry changes of a history.
use Rattle.std.proofs.Common.{◌≡◌, ℕ, suc, ◌+◌, ◌≤◌, max, Bool, true, false, cond, nat_lt, List, [], ◌∷◌, ◌++◌, length, Option, Some, None, arith, refl, ◌∙◌, ap}
use Rattle.std.specs.Prelude.{option_and_then}
use Rattle.std.specs.Option.{option_or}
use Rattle.std.proofs.lemmas.Bool.Decides.{nat_tests}
use Rattle.cache_core.specs.declared.entry.SliceEntry.{SliceEntry}
use Rattle.rc_base.proofs.laws.Histories.{GoesOn-push}
use Rattle.cache_core.specs.Fills.{Resident}
use Rattle.cache_core.specs.History.{Shape, last_such, last_place, decides, left_by, held, uses, used, floor_of, sets_floor, IsLegal, EntryMayFollow}

-- the first of two, the first of which is there where a test holds
option_or-cond : {X : Type 0} (b : Bool) (x : X) (y z : Option X) → option_or (cond b (Some x) y) z ≡ cond b (Some x) (option_or y z)
option_or-cond true x y z = refl
option_or-cond false x y z = refl

-- the last entry that passes is the new one, or the one before
pub last_such-push : (p : SliceEntry → Bool) (es : List SliceEntry) (e : SliceEntry) → last_such p (es ++ e ∷ []) ≡ cond (p e) (Some e) (last_such p es)
last_such-push p [] e = refl
last_such-push p (x ∷ xs) e = ap (λ o. option_or o (cond (p x) (Some x) None)) (last_such-push p xs e) ∙ option_or-cond (p e) e (last_such p xs) (cond (p x) (Some x) None)

-- the place of the last entry, after one more
cond-last_place : (b : Bool) (n place here : ℕ) → cond (nat_lt 0 (cond b (n + 1) place)) (cond b (n + 1) place + 1) here ≡ cond b ((n + 1) + 1) (cond (nat_lt 0 place) (place + 1) here)
cond-last_place true n place here = grind (arith, nat_tests)
cond-last_place false n place here = refl

-- the place of the last entry that passes: that of the new one, or the one before
pub last_place-push : (p : SliceEntry → Bool) (es : List SliceEntry) (e : SliceEntry) → last_place p (es ++ e ∷ []) ≡ cond (p e) (length es + 1) (last_place p es)
last_place-push p [] e = refl
last_place-push p (x ∷ xs) e =
    ap (λ k. cond (nat_lt 0 k) (k + 1) (cond (p x) 1 0)) (last_place-push p xs e) ∙ (cond-last_place (p e) (length xs) (last_place p xs) (cond (p x) 1 0) ∙ ap (λ k. cond (p e) k (cond (nat_lt 0 (last_place p xs)) (last_place p xs + 1) (cond (p x) 1 0))) (omega arith))

-- it is one of the list
pub last_place-le : (p : SliceEntry → Bool) (es : List SliceEntry) → last_place p es ≤ length es
last_place-le p [] = omega arith
last_place-le p (x ∷ xs) = let h : last_place p xs ≤ length xs = last_place-le p xs in step (nat_lt 0 (last_place p xs)) (p x) (last_place p xs) (length xs) h
  where
    step : (b c : Bool) (k n : ℕ) → k ≤ n → cond b (k + 1) (cond c 1 0) ≤ suc n
    step true c k n h = omega arith
    step false true k n h = omega arith
    step false false k n h = omega arith

-- the floor is the greater of the old one and what the new entry sets
pub floor_of-push : (es : List SliceEntry) (e : SliceEntry) → floor_of (es ++ e ∷ []) ≡ max (floor_of es) (cond (sets_floor e.what) e.epoch 0)
floor_of-push [] e = omega arith
floor_of-push (x ∷ xs) e = ap (λ k. max (cond (sets_floor x.what) x.epoch 0) k) (floor_of-push xs e) ∙ omega arith

-- an entry that may follow leaves a legal history
pub IsLegal-push : (m : Shape) (es : List SliceEntry) (e : SliceEntry) → IsLegal m es → EntryMayFollow m es e → IsLegal m (es ++ e ∷ [])
IsLegal-push m es e legal may = GoesOn-push (EntryMayFollow m) [] es e legal may

-- what is done with the first of two
option_and_then-cond : {X Y : Type 0} (f : X → Option Y) (b : Bool) (x : X) (o : Option X) → option_and_then f (cond b (Some x) o) ≡ cond b (f x) (option_and_then f o)
option_and_then-cond f true x o = refl
option_and_then-cond f false x o = refl

-- a place holds what the new entry leaves there, or what it held
pub held-push : (m : Shape) (es : List SliceEntry) (e : SliceEntry) (set way : ℕ) → held m (es ++ e ∷ []) set way ≡ cond (decides m set way e.what) (left_by m set way e.what) (held m es set way)
held-push m es e set way =
    let f : SliceEntry → Option Resident = λ (e : SliceEntry). left_by m set way e.what in
    ap (option_and_then f) (last_such-push (λ (e : SliceEntry). decides m set way e.what) es e) ∙ option_and_then-cond f (decides m set way e.what) e _

-- a place was used by the new entry, or when it was
pub used-push : (m : Shape) (es : List SliceEntry) (e : SliceEntry) (set way : ℕ) → used m (es ++ e ∷ []) set way ≡ cond (uses m set way e.what) (length es + 1) (used m es set way)
used-push m es e set way = last_place-push (λ (e : SliceEntry). uses m set way e.what) es e

-- no later than at the last entry
pub used-le : (m : Shape) (es : List SliceEntry) (set way : ℕ) → used m es set way ≤ length es
used-le m es set way = last_place-le (λ (e : SliceEntry). uses m set way e.what) es
