-- Histories: lists in which each entry may follow those before it.
use Rattle.std.proofs.Common.{ℕ, zero, suc, ◌<◌, List, [], ◌∷◌, ◌++◌, length, take, get_or, subst, sym, arith}
use Rattle.std.proofs.lemmas.List.{append_assoc, append-nil}
use Rattle.rc_base.specs.Follows.{GoesOn, EachFollows}

module _ {E : Type 0} where
  -- one more entry, which may follow all before it
  pub GoesOn-push : (may : List E → E → Type 0) (before es : List E) (e : E) → GoesOn may before es → may (before ++ es) e → GoesOn may before (es ++ e ∷ [])
  GoesOn-push may before [] e _ ok = (subst (λ b. may b e) (append-nil before) ok, tt)
  GoesOn-push may before (x ∷ xs) e goes ok = (goes.0, GoesOn-push may (before ++ x ∷ []) xs e goes.1 (subst (λ b. may b e) (sym (append_assoc before (x ∷ []) xs)) ok))

  -- the first entries
  pub GoesOn-front : (may : List E → E → Type 0) (before xs ys : List E) → GoesOn may before (xs ++ ys) → GoesOn may before xs
  GoesOn-front may before [] ys goes = tt
  GoesOn-front may before (x ∷ xs) ys goes = (goes.0, GoesOn-front may (before ++ x ∷ []) xs ys goes.1)

  -- each entry may follow those before it and those before its place
  GoesOn-at : (may : List E → E → Type 0) (before es : List E) (k : ℕ) (d : E) → GoesOn may before es → k < length es → may (before ++ take k es) (get_or es k d)
  GoesOn-at may before [] k d goes within = absurd (omega arith)
  GoesOn-at may before (x ∷ xs) zero d goes within = subst (λ b. may b x) (sym (append-nil before)) goes.0
  GoesOn-at may before (x ∷ xs) (suc k) d goes within = subst (λ b. may b (get_or xs k d)) (append_assoc before (x ∷ []) (take k xs)) (GoesOn-at may (before ++ x ∷ []) xs k d goes.1 (omega arith))

  -- the entry at a place may follow those before it
  pub EachFollows-at : (may : List E → E → Type 0) (es : List E) (k : ℕ) (d : E) → EachFollows may es → k < length es → may (take k es) (get_or es k d)
  EachFollows-at may es k d goes within = GoesOn-at may [] es k d goes within
