-- Different lines, after one use more.
use Rattle.std.proofs.Common.{◌≡◌, ℕ, ◌+◌, ◌==◌, ◌||◌, Bool, true, false, cond, not, if◌then◌else◌, List, [], ◌∷◌, ◌++◌, length, refl, sym, ap, ◌∙◌, subst, inl, inr, arith, append_assoc}
use Rattle.std.proofs.lemmas.Bool.{cases_Bool, eq-eqb, eqb-false, eqb-true, ne_eqb}
use Rattle.std.proofs.lemmas.List.{append-nil}
use Rattle.std.proofs.lemmas.List.Folds.{list_any-append}
use Rattle.lists.specs.Sums.{one_if}
use Rattle.lackey_text.specs.declared.uses.LineUse.{LineUse}
use Rattle.way_curve.specs.FirstUses.{first_uses_after, first_uses_of, is_line_of}
use Rattle.way_curve.specs.Noted.{HaveNotedUses, NoteLines, NotedLines, NoteUses, NotedUses}

-- one part more in front
add-front : (h n m a b : ℕ) → n ≡ m + a → a ≡ b → h + n ≡ h + m + b
add-front h n m a b e d = omega arith

-- nothing before it
zero-plus : (a b : ℕ) → a ≡ b → a + 0 ≡ 0 + b
zero-plus a b e = omega arith

-- a use more counts where no use before it is of its line
pub first_uses_after-push : (earlier lines : List ℕ) (x : ℕ)
    → first_uses_after earlier (lines ++ x ∷ []) ≡ first_uses_after earlier lines + one_if (not (is_line_of (earlier ++ lines) x))
first_uses_after-push earlier [] x =
    zero-plus _ _ (ap (λ (l : List ℕ). one_if (not (is_line_of l x))) (sym (append-nil earlier)))
first_uses_after-push earlier (y ∷ lines) x =
    add-front (one_if (not (is_line_of earlier y))) _ _ _ _ (first_uses_after-push (earlier ++ y ∷ []) lines x)
    (ap (λ (l : List ℕ). one_if (not (is_line_of l x))) (append_assoc earlier (y ∷ []) lines))

-- one line more
is_line_of-push : (b c : Bool) → cond c true b ≡ (b || (c || false))
is_line_of-push true true = refl
is_line_of-push true false = refl
is_line_of-push false true = refl
is_line_of-push false false = refl

-- a test of equality, either way round
flipped : (a b : ℕ) → (a == b) ≡ (b == a)
flipped a b = elim (cases_Bool (a == b)) [
  | inl h ↦ h ∙ sym (eq-eqb b a (sym (eqb-true a b h)))
  | inr h ↦ h ∙ sym (ne_eqb b a (λ e. eqb-false a b h (sym e)))
]

-- one use more
pub NoteLines-push : (old new : NotedLines) (x : ℕ) (added : Bool) → old.is_out ≡ false → added ≡ not (is_line_of old.lines x)
    → length new.lines ≡ length old.lines + (if added then 1 else 0)
    → ((q : ℕ) → is_line_of new.lines q ≡ cond (x == q) true (is_line_of old.lines q))
    → NoteLines old new (x ∷ [])
NoteLines-push old new x added good is count has = λ lines noted.
    let known : (q : ℕ) → is_line_of old.lines q ≡ is_line_of lines q = noted.same good in
    let counted : length old.lines ≡ first_uses_of lines = noted.count good in
    let first : (if added then 1 else 0) ≡ one_if (not (is_line_of lines x)) = ap (λ (b : Bool). one_if b) (is ∙ ap not (known x)) in
    let more : first_uses_of (lines ++ x ∷ []) ≡ first_uses_of lines + one_if (not (is_line_of lines x)) = first_uses_after-push [] lines x in
    record {
      count = λ ok. omega (arith, count, counted, first, more);
      same = λ ok q. has q ∙ (ap (λ (b : Bool). cond b true (is_line_of old.lines q)) (flipped x q) ∙ (ap (λ (b : Bool). cond (q == x) true b) (known q) ∙ (is_line_of-push (is_line_of lines q) (q == x) ∙ sym (list_any-append (λ (y : ℕ). q == y) lines (x ∷ [])))));
    }

-- ---- uses of data and of code

-- uses after uses
pub NoteUses-append : (a b c : NotedUses) (xs ys : List LineUse) → NoteUses a b xs → NoteUses b c ys → NoteUses a c (xs ++ ys)
NoteUses-append a b c xs ys first later = λ uses noted. subst (λ (us : List LineUse). HaveNotedUses c us) (append_assoc uses xs ys) (later (uses ++ xs) (first uses noted))

-- no uses
pub NoteUses-nil : (a : NotedUses) → NoteUses a a []
NoteUses-nil a = λ uses noted. subst (λ (us : List LineUse). HaveNotedUses a us) (sym (append-nil uses)) noted
