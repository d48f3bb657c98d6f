-- What was played, and one use more.
use Rattle.std.proofs.Common.{◌≡◌, ℕ, ◌+◌, ◌*◌, ◌<◌, ◌≤◌, ◌==◌, ◌&&◌, All, Bool, true, false, cond, List, [], ◌∷◌, ◌++◌, length, map, set, get_or, refl, sym, ap, ◌∙◌, subst, arith, inl, inr, append_assoc, length-set}
use Rattle.std.specs.List.{filter}
use Rattle.std.proofs.lemmas.Bool.{cases_Bool, eqb-false, eqb-true}
use Rattle.std.proofs.lemmas.Grind.{get_or-set_at}
use Rattle.std.proofs.lemmas.List.{append-nil, get_or-set_other, map_push}
use Rattle.std.proofs.lemmas.List.Elements.{All-set, filter-append}
use Rattle.lists.specs.Sums.{one_if}
use Rattle.way_curve.specs.Counting.{IsCurveOf}
use Rattle.way_curve.specs.Curves.{is_set_hit, set_hits_after}
use Rattle.way_curve.specs.IsCurve.{AddsUse, CurveValue, IsCurve}
use Rattle.share_plans.specs.Played.{Asked, HasPlayed, HavePlayed, IsPlayable, OwnValue, PlayUses, PlayedValue}
use Rattle.share_plans.specs.Sharing.{far, lines_of, shared_hits_after, shared_hits_of, shared_line, shared_lines}
use Rattle.share_plans.specs.declared.program_use.ProgramUse.{ProgramUse}

-- nothing before it
zero-plus : (a b : ℕ) → a ≡ b → a + 0 ≡ 0 + b
zero-plus a b e = omega arith

-- one part more in front
add-front : (h n m a b : ℕ) → n ≡ m + a → a ≡ b → h + n ≡ h + m + b
add-front h n m a b e d = omega arith

-- a use more counts where it hits
pub set_hits_after-push : (sets ways : ℕ) (earlier lines : List ℕ) (x : ℕ)
    → set_hits_after sets ways earlier (lines ++ x ∷ []) ≡ set_hits_after sets ways earlier lines + one_if (is_set_hit sets ways (earlier ++ lines) x)
set_hits_after-push sets ways earlier [] x =
    zero-plus _ _ (ap (λ (l : List ℕ). one_if (is_set_hit sets ways l x)) (sym (append-nil earlier)))
set_hits_after-push sets ways earlier (y ∷ lines) x =
    add-front (one_if (is_set_hit sets ways earlier y)) _ _ _ _ (set_hits_after-push sets ways (earlier ++ y ∷ []) lines x)
    (ap (λ (l : List ℕ). one_if (is_set_hit sets ways l x)) (append_assoc earlier (y ∷ []) lines))

-- whether it hits, if it is of a program
abbrev is_hit_of : ℕ → ℕ → ℕ → List ProgramUse → ProgramUse → Bool
is_hit_of sets ways program earlier u = (u.program == program) && is_set_hit sets ways (shared_lines sets earlier) (shared_line sets u)

-- a program's use more counts where it hits in the cache that all share
shared_hits_after-push : (sets ways program : ℕ) (earlier uses : List ProgramUse) (u : ProgramUse)
    → shared_hits_after sets ways program earlier (uses ++ u ∷ []) ≡ shared_hits_after sets ways program earlier uses + one_if (is_hit_of sets ways program (earlier ++ uses) u)
shared_hits_after-push sets ways program earlier [] u =
    zero-plus _ _ (ap (λ (l : List ProgramUse). one_if (is_hit_of sets ways program l u)) (sym (append-nil earlier)))
shared_hits_after-push sets ways program earlier (v ∷ uses) u =
    add-front (one_if (is_hit_of sets ways program earlier v)) _ _ _ _ (shared_hits_after-push sets ways program (earlier ++ v ∷ []) uses u)
    (ap (λ (l : List ProgramUse). one_if (is_hit_of sets ways program l u)) (append_assoc earlier (v ∷ []) uses))

-- a use more of another program
shared_hits_of-other : (sets ways program : ℕ) (uses : List ProgramUse) (u : ProgramUse) → (u.program == program) ≡ false → shared_hits_of sets ways program (uses ++ u ∷ []) ≡ shared_hits_of sets ways program uses
shared_hits_of-other sets ways program uses u other =
    let more = shared_hits_after-push sets ways program [] uses u in
    let none : one_if (is_hit_of sets ways program uses u) ≡ 0 = ap (λ (b : Bool). one_if (b && is_set_hit sets ways (shared_lines sets uses) (shared_line sets u))) other in
    omega (arith, more, none)

-- a use more of the program
shared_hits_of-own : (sets ways program : ℕ) (uses : List ProgramUse) (u : ProgramUse) → (u.program == program) ≡ true
    → shared_hits_of sets ways program (uses ++ u ∷ []) ≡ shared_hits_of sets ways program uses + one_if (is_set_hit sets ways (shared_lines sets uses) (shared_line sets u))
shared_hits_of-own sets ways program uses u own =
    shared_hits_after-push sets ways program [] uses u
    ∙ ap (λ (b : Bool). shared_hits_of sets ways program uses + one_if (b && is_set_hit sets ways (shared_lines sets uses) (shared_line sets u))) own

-- a program's line more
lines_of-own : (program : ℕ) (uses : List ProgramUse) (u : ProgramUse) → (u.program == program) ≡ true → lines_of program (uses ++ u ∷ []) ≡ lines_of program uses ++ u.line ∷ []
lines_of-own program uses u own =
    let p : ProgramUse → Bool = λ v. v.program == program in
    let cut : filter p (uses ++ u ∷ []) ≡ filter p uses ++ u ∷ [] = filter-append p uses (u ∷ []) ∙ ap (λ (b : Bool). filter p uses ++ cond b (u ∷ []) []) own in
    ap (λ (us : List ProgramUse). map (λ (v : ProgramUse). v.line) us) cut ∙ map_push (λ (v : ProgramUse). v.line) (filter p uses) u

-- a line more of another program
lines_of-other : (program : ℕ) (uses : List ProgramUse) (u : ProgramUse) → (u.program == program) ≡ false → lines_of program (uses ++ u ∷ []) ≡ lines_of program uses
lines_of-other program uses u other =
    let p : ProgramUse → Bool = λ v. v.program == program in
    let cut : filter p (uses ++ u ∷ []) ≡ filter p uses = filter-append p uses (u ∷ []) ∙ (ap (λ (b : Bool). filter p uses ++ cond b (u ∷ []) []) other ∙ append-nil (filter p uses)) in
    ap (λ (us : List ProgramUse). map (λ (v : ProgramUse). v.line) us) cut

-- a curve of one line more
IsCurveOf-more : (sets : ℕ) (old new : CurveValue) (lines : List ℕ) (line : ℕ) → new.sets ≡ old.sets → AddsUse old new line → IsCurveOf sets old lines → IsCurveOf sets new (lines ++ line ∷ [])
IsCurveOf-more sets old new lines line same more is = record { has_sets = same ∙ is.has_sets; is_curve = more lines is.is_curve }

-- uses after uses
pub PlayUses-append : (a b c : PlayedValue) (xs ys : List ProgramUse) → PlayUses a b xs → PlayUses b c ys → PlayUses a c (xs ++ ys)
PlayUses-append a b c xs ys first later = λ asked uses have. subst (λ (us : List ProgramUse). HavePlayed asked c us) (append_assoc uses xs ys) (later asked (uses ++ xs) (first asked uses have))

-- no uses
pub PlayUses-nil : (a : PlayedValue) → PlayUses a a []
PlayUses-nil a = λ asked uses have. subst (λ (us : List ProgramUse). HavePlayed asked a us) (sym (append-nil uses)) have

-- one use more of a program
pub PlayUses-note : (old : PlayedValue) (apart line : ℕ) (u : ProgramUse) (is_hit : Bool) (before own : OwnValue) (shared : CurveValue)
    → u.program < length old.programs → apart ≡ far old.shared.sets → line ≡ u.program * apart + u.line
    → shared.sets ≡ old.shared.sets → AddsUse old.shared shared line → ((lines : List ℕ) → IsCurve old.shared lines → is_hit ≡ is_set_hit old.shared.sets old.ways lines line)
    → before ≡ get_or old.programs u.program before → own.curve.sets ≡ before.curve.sets → AddsUse before.curve own.curve u.line → own.hits ≡ before.hits + one_if is_hit
    → PlayUses old (record { ways = old.ways; programs = set old.programs u.program own; shared = shared }) (u ∷ [])
PlayUses-note old apart line u is_hit before own shared within is_apart is_line same_sets shares hit place own_sets notes hits = λ asked uses have.
    let sets_is : old.shared.sets ≡ asked.sets = have.shared.has_sets in
    let line_is : line ≡ shared_line asked.sets u = is_line ∙ ap (λ (n : ℕ). u.program * n + u.line) (is_apart ∙ ap far sets_is) in
    let hit_is : is_hit ≡ is_set_hit asked.sets asked.ways (shared_lines asked.sets uses) (shared_line asked.sets u) =
    hit (shared_lines asked.sets uses) have.shared.is_curve
    ∙ (ap (λ (n : ℕ). is_set_hit n old.ways (shared_lines asked.sets uses) line) sets_is
    ∙ (ap (λ (n : ℕ). is_set_hit asked.sets n (shared_lines asked.sets uses) line) have.ways
    ∙ ap (λ (n : ℕ). is_set_hit asked.sets asked.ways (shared_lines asked.sets uses) n) line_is)) in
    record {
      ways = have.ways;
      count = length-set old.programs u.program own ∙ have.count;
      own = λ k d below. elim (cases_Bool (u.program == k)) [
        | inl h ↦
            let same : k ≡ u.program = sym (eqb-true u.program k h) in
            let was : HasPlayed asked k before uses = subst (λ (o : OwnValue). HasPlayed asked k o uses) (ap (λ (n : ℕ). get_or old.programs n before) same ∙ sym place) (have.own k before below) in
            rw (get_or-set_at old.programs u.program k own d same within) (record {
              curve = subst (λ (ls : List ℕ). IsCurveOf asked.sets own.curve ls) (sym (lines_of-own k uses u h)) (IsCurveOf-more asked.sets before.curve own.curve (lines_of k uses) u.line own_sets notes was.curve);
              hits = hits ∙ (ap (λ (n : ℕ). n + one_if is_hit) was.hits ∙ (ap (λ (b : Bool). shared_hits_of asked.sets asked.ways k uses + one_if b) hit_is ∙ sym (shared_hits_of-own asked.sets asked.ways k uses u h)));
            })
        | inr h ↦
            let was : HasPlayed asked k (get_or old.programs k d) uses = have.own k d below in
            rw (get_or-set_other old.programs u.program k own d (λ same. eqb-false u.program k h (sym same))) (record {
              curve = subst (λ (ls : List ℕ). IsCurveOf asked.sets (get_or old.programs k d).curve ls) (sym (lines_of-other k uses u h)) was.curve;
              hits = was.hits ∙ sym (shared_hits_of-other asked.sets asked.ways k uses u h);
            })
      ];
      shared = subst (λ (ls : List ℕ). IsCurveOf asked.sets shared ls)
          (ap (λ (x : ℕ). shared_lines asked.sets uses ++ x ∷ []) line_is ∙ sym (map_push (shared_line asked.sets) uses u))
          (IsCurveOf-more asked.sets old.shared shared (shared_lines asked.sets uses) line same_sets shares have.shared);
    }

-- no uses
pub HavePlayed-nil : (asked : Asked) (programs : List OwnValue) (shared : CurveValue) → length programs ≡ asked.programs → All (λ (o : OwnValue). o.curve.sets ≡ asked.sets) programs
    → All (λ (o : OwnValue). o.hits ≡ 0) programs → All (λ (o : OwnValue). IsCurve o.curve []) programs → shared.sets ≡ asked.sets → IsCurve shared []
    → HavePlayed asked (record { ways = asked.ways; programs = programs; shared = shared }) []
HavePlayed-nil asked programs shared count sets hits empty shared_sets shared_empty = record {
  ways = refl;
  count = count;
  own = λ k d below.
      let within : k < length programs = omega (arith, below, count) in
      record {
        curve = record { has_sets = sets k d within; is_curve = empty k d within };
        hits = hits k d within;
      };
  shared = record { has_sets = shared_sets; is_curve = shared_empty };
}

-- parts of what is played, after one use more
pub IsPlayable-note : (ways apart : ℕ) (programs : List OwnValue) (shared new : CurveValue) (k : ℕ) (own before : OwnValue) → IsPlayable ways apart programs shared
    → new.sets ≡ shared.sets → new.uses ≡ shared.uses + 1 → k < length programs → before ≡ get_or programs k before → own.curve.uses ≡ before.curve.uses + 1
    → IsPlayable ways apart (set programs k own) new
IsPlayable-note ways apart programs shared new k own before is same one_more within place one_own =
    let was : before.curve.uses ≤ shared.uses = subst (λ (o : OwnValue). o.curve.uses ≤ shared.uses) (sym place) (is.counted k before within) in
    record {
      some = subst (λ (n : ℕ). 0 < n) (sym same) is.some;
      few_ways = is.few_ways;
      few = omega (arith, is.few, length-set programs k own);
      is_far = is.is_far ∙ ap far (sym same);
      near = is.near;
      counted = All-set (λ (o : OwnValue). o.curve.uses ≤ new.uses) programs k own (omega (arith, one_own, was, one_more)) (λ j d below. let old = is.counted j d below in omega (arith, old, one_more));
    }
