-- What is left of uses, with one use more.
use Rattle.std.proofs.Common.{◌≡◌, ℕ, ◌==◌, Bool, true, false, cond, if◌then◌else◌, List, [], ◌∷◌, ◌++◌, length, map, refl, sym, ap, ◌∙◌, arith, append_assoc, length-append}
use Rattle.std.specs.List.{filter}
use Rattle.std.proofs.lemmas.Bool.{le-ltb, lt-ltb}
use Rattle.std.proofs.lemmas.List.{append-nil, map_push}
use Rattle.std.proofs.lemmas.List.Elements.{filter-append}
use Rattle.lackey_text.specs.declared.uses.LineUse.{LineUse}
use Rattle.way_curve.specs.FirstLevels.{left_by, no_levels}
use Rattle.way_curve.specs.declared.first_levels.LevelShapes.{LevelShapes}
use Rattle.share_plans.specs.LeftUses.{is_left, leave_next, left_uses, left_uses_after, line_use, own_uses}
use Rattle.share_plans.specs.declared.program_use.ProgramUse.{ProgramUse}

-- a use more of the program
pub own_uses-own : (program : ℕ) (uses : List ProgramUse) (u : ProgramUse) → (u.program == program) ≡ true → own_uses program (uses ++ u ∷ []) ≡ own_uses program uses ++ line_use u ∷ []
own_uses-own program uses u own =
    let p : ProgramUse → Bool = λ v. v.program == program in
    let cut : filter p (uses ++ u ∷ []) ≡ filter p uses ++ u ∷ [] = filter-append p uses (u ∷ []) ∙ ap (λ (b : Bool). filter p uses ++ cond b (u ∷ []) []) own in
    ap (λ (us : List ProgramUse). map line_use us) cut ∙ map_push line_use (filter p uses) u

-- a use more of another program
pub own_uses-other : (program : ℕ) (uses : List ProgramUse) (u : ProgramUse) → (u.program == program) ≡ false → own_uses program (uses ++ u ∷ []) ≡ own_uses program uses
own_uses-other program uses u other =
    let p : ProgramUse → Bool = λ v. v.program == program in
    let cut : filter p (uses ++ u ∷ []) ≡ filter p uses = filter-append p uses (u ∷ []) ∙ (ap (λ (b : Bool). filter p uses ++ cond b (u ∷ []) []) other ∙ append-nil (filter p uses)) in
    ap (λ (us : List ProgramUse). map line_use us) cut

-- levels that leave so much of one use more
pub leave_next-left : (levels : LevelShapes) (earlier : List LineUse) (u : LineUse) (left : Bool)
    → left_by levels (earlier ++ u ∷ []) ≡ left_by levels earlier ++ (if left then u ∷ [] else []) → left ≡ leave_next levels earlier u
leave_next-left levels earlier u true is =
    sym (lt-ltb (length (left_by levels earlier)) (length (left_by levels (earlier ++ u ∷ []))) (omega (arith, ap length is, length-append (left_by levels earlier) (u ∷ []))))
leave_next-left levels earlier u false is =
    sym (le-ltb (length (left_by levels earlier)) (length (left_by levels (earlier ++ u ∷ []))) (omega (arith, ap length (is ∙ append-nil (left_by levels earlier)))))

-- where there is no level, each use is left
leave_next-none : (earlier : List LineUse) (u : LineUse) → leave_next no_levels earlier u ≡ true
leave_next-none earlier u = lt-ltb (length earlier) (length (earlier ++ u ∷ [])) (omega (arith, length-append earlier (u ∷ [])))

-- so all uses are
left_uses_after-none : (earlier uses : List ProgramUse) → left_uses_after no_levels earlier uses ≡ uses
left_uses_after-none earlier [] = refl
left_uses_after-none earlier (u ∷ uses) =
    ap (λ (b : Bool). (if b then u ∷ [] else []) ++ left_uses_after no_levels (earlier ++ u ∷ []) uses) (leave_next-none (own_uses u.program earlier) (line_use u))
    ∙ ap (λ (us : List ProgramUse). u ∷ us) (left_uses_after-none (earlier ++ u ∷ []) uses)

-- the same from the first use on
pub left_uses-none : (levels : LevelShapes) (uses : List ProgramUse) → levels ≡ no_levels → left_uses levels uses ≡ uses
left_uses-none levels uses none = ap (λ (shapes : LevelShapes). left_uses shapes uses) none ∙ left_uses_after-none [] uses

-- one use more is left where its program's levels leave it after those before it
left_uses_after-push : (levels : LevelShapes) (earlier uses : List ProgramUse) (u : ProgramUse)
    → left_uses_after levels earlier (uses ++ u ∷ []) ≡ left_uses_after levels earlier uses ++ (if is_left levels (earlier ++ uses) u then u ∷ [] else [])
left_uses_after-push levels earlier [] u =
    append-nil (if is_left levels earlier u then u ∷ [] else []) ∙ ap (λ (us : List ProgramUse). if is_left levels us u then u ∷ [] else []) (sym (append-nil earlier))
left_uses_after-push levels earlier (v ∷ uses) u =
    let own : List ProgramUse = if is_left levels earlier v then v ∷ [] else [] in
    let later = left_uses_after-push levels (earlier ++ v ∷ []) uses u in
    ap (λ (us : List ProgramUse). own ++ us) later
    ∙ (sym (append_assoc own (left_uses_after levels (earlier ++ v ∷ []) uses) (if is_left levels ((earlier ++ v ∷ []) ++ uses) u then u ∷ [] else []))
    ∙ ap (λ (us : List ProgramUse). (own ++ left_uses_after levels (earlier ++ v ∷ []) uses) ++ (if is_left levels us u then u ∷ [] else [])) (append_assoc earlier (v ∷ []) uses))

-- the same from the first use on
pub left_uses-push : (levels : LevelShapes) (uses : List ProgramUse) (u : ProgramUse) (left : Bool) → left ≡ is_left levels uses u
    → left_uses levels (uses ++ u ∷ []) ≡ left_uses levels uses ++ (if left then u ∷ [] else [])
left_uses-push levels uses u left is = left_uses_after-push levels [] uses u ∙ ap (λ (b : Bool). left_uses levels uses ++ (if b then u ∷ [] else [])) (sym is)
