-- How many uses hit, one use more.
use Rattle.std.proofs.Common.{◌≡◌, ℕ, ◌+◌, ◌%◌, ◌≤◌, Bool, true, false, ◌==◌, ◌&&◌, nat_lt, List, [], ◌∷◌, ◌++◌, length, reverse, arith, sym, ◌∙◌, ap, subst, inl, inr}
use Rattle.std.specs.List.{filter}
use Rattle.std.proofs.lemmas.List.{append_assoc, append-nil}
use Rattle.std.proofs.lemmas.Bool.{cases_lt, lt-ltb, le-ltb}
use Rattle.lists.specs.Sums.{one_if}
use Rattle.private_lru.specs.Private.{among, alive}
use Rattle.way_curve.specs.Curves.{is_set_hit, set_hits_after}
use Rattle.way_curve.proofs.Alive.{among-take, before_line, private_hit-uses, uses}

-- one part more in front
add-front : (h n m a b : ℕ) → n ≡ m + a → a ≡ b → h + n ≡ h + m + b
add-front h n m a b e d = omega arith

-- greater parts
add-le : (a b c d : ℕ) → a ≤ b → c ≤ d → a + c ≤ b + d
add-le a b c d h k = omega arith

-- nothing before it
zero-plus : (a b : ℕ) → a ≡ b → a + 0 ≡ 0 + b
zero-plus a b e = omega arith

-- and nothing after it
nothing-plus : (a b : ℕ) → a ≡ b → a ≡ 0 + b
nothing-plus a b e = omega arith

-- a use more counts where it hits
pub set_hits_after-push : (sets ways : ℕ) (earlier lines : List ℕ) (x : ℕ)
    → set_hits_after sets ways earlier (lines ++ x ∷ []) ≡ set_hits_after sets ways earlier lines + one_if (is_set_hit sets ways (earlier ++ lines) x)
set_hits_after-push sets ways earlier [] x =
    zero-plus _ _ (ap (λ (l : List ℕ). one_if (is_set_hit sets ways l x)) (sym (append-nil earlier)))
set_hits_after-push sets ways earlier (y ∷ lines) x =
    add-front (one_if (is_set_hit sets ways earlier y)) _ _ _ _ (set_hits_after-push sets ways (earlier ++ y ∷ []) lines x)
    (ap (λ (l : List ℕ). one_if (is_set_hit sets ways l x)) (append_assoc earlier (y ∷ []) lines))

-- more uses count where they hit
pub set_hits_after-append : (sets ways : ℕ) (earlier lines more : List ℕ)
    → set_hits_after sets ways earlier (lines ++ more) ≡ set_hits_after sets ways earlier lines + set_hits_after sets ways (earlier ++ lines) more
set_hits_after-append sets ways earlier [] more =
    nothing-plus _ _ (ap (λ (l : List ℕ). set_hits_after sets ways l more) (sym (append-nil earlier)))
set_hits_after-append sets ways earlier (y ∷ lines) more =
    add-front (one_if (is_set_hit sets ways earlier y)) _ _ _ _ (set_hits_after-append sets ways (earlier ++ y ∷ []) lines more)
    (ap (λ (l : List ℕ). set_hits_after sets ways l more) (append_assoc earlier (y ∷ []) lines))

-- a test more that fails for fewer only
one_if-and_le : (b : Bool) (place ways more : ℕ) → ways ≤ more → one_if (b && nat_lt place ways) ≤ one_if (b && nat_lt place more)
one_if-and_le false place ways more le = omega arith
one_if-and_le true place ways more le = elim (cases_lt place ways) [
  | inl lt ↦
      let fewer : nat_lt place ways ≡ true = lt-ltb place ways lt in
      let greater : nat_lt place more ≡ true = lt-ltb place more (omega arith) in
      rw (fewer, greater) (omega arith)
  | inr ge ↦
      let fewer : nat_lt place ways ≡ false = le-ltb place ways ge in
      rw fewer (omega arith)
]

-- what hits with some ways hits with more
is_set_hit-le : (sets ways more : ℕ) (earlier : List ℕ) (x : ℕ) → ways ≤ more → one_if (is_set_hit sets ways earlier x) ≤ one_if (is_set_hit sets more earlier x)
is_set_hit-le sets ways more earlier x le =
    let own : List ℕ = filter (λ (y : ℕ). y % sets == x % sets) earlier in
    let lines : List ℕ = alive (reverse (uses own)) in
    let few : one_if (is_set_hit sets ways earlier x) ≡ one_if (among x lines && nat_lt (length (before_line x lines)) ways) =
    ap one_if (private_hit-uses ways x own ∙ among-take x ways lines) in
    let many : one_if (is_set_hit sets more earlier x) ≡ one_if (among x lines && nat_lt (length (before_line x lines)) more) =
    ap one_if (private_hit-uses more x own ∙ among-take x more lines) in
    subst (λ (n : ℕ). n ≤ one_if (is_set_hit sets more earlier x)) (sym few)
    (subst (λ (n : ℕ). one_if (among x lines && nat_lt (length (before_line x lines)) ways) ≤ n) (sym many)
    (one_if-and_le (among x lines) (length (before_line x lines)) ways more le))

-- more ways, more hits
pub set_hits_after-le : (sets ways more : ℕ) (earlier lines : List ℕ) → ways ≤ more → set_hits_after sets ways earlier lines ≤ set_hits_after sets more earlier lines
set_hits_after-le sets ways more earlier [] le = omega arith
set_hits_after-le sets ways more earlier (x ∷ lines) le =
    add-le _ _ _ _ (is_set_hit-le sets ways more earlier x le) (set_hits_after-le sets ways more (earlier ++ x ∷ []) lines le)
