-- The text of a trace, piece by piece.
use Rattle.std.proofs.Common.{◌≡◌, ℕ, ◌+◌, List, [], ◌∷◌, ◌++◌, map, refl, sym, ap, ◌∙◌, arith, add-one}
use Rattle.std.specs.Prelude.{codes, decimal}
use Rattle.std.specs.List.{flat_map, range_with_len}
use Rattle.std.proofs.lemmas.Grind.{flat_map-append}
use Rattle.std.proofs.lemmas.List.{append_assoc, append-nil}
use Rattle.std.proofs.lemmas.List.Folds.{flat_map-map}
use Rattle.std.proofs.lemmas.List.FromFn.{map-range_with_len_more}
use Rattle.lists.proofs.Ranges.{flat_map-push, range_with_len-suc}
use Rattle.num_text.proofs.laws.Pieces.{join_with_byte-cons}
use Rattle.trace_gen.specs.Draws.{next_number, drawn_from, number_at, draw_at, draws_from}
use Rattle.trace_gen.specs.Trace.{access_line, ended, opening_lines, order_draws, order_line, order_number, task_draws, text_of, thread_lines, trace_text}

-- ---- one draw more

-- the number at place 0
pub number_at-zero : (first : ℕ) → number_at first 0 ≡ first
unfolding number_at
number_at-zero first = refl

-- the number of the next place
pub number_at-next : (first place : ℕ) → number_at first (place + 1) ≡ next_number (number_at first place)
unfolding number_at
number_at-next first place = rw add-one refl

-- a draw after these
pub draws-next : (first from count place last : ℕ) → place + 1 ≡ from + count → last ≡ number_at first (place + 1) → draws_from first from (count + 1) ≡ draws_from first from count ++ drawn_from last ∷ []
draws-next first from count place last here is =
    map-range_with_len_more (draw_at first) from count (from + count) refl
    ∙ ap (λ (k : ℕ). draws_from first from count ++ draw_at first k ∷ []) (sym here)
    ∙ ap (λ (x : ℕ). draws_from first from count ++ drawn_from x ∷ []) (sym is)

-- The texts of these draws stand after a text, and the last number is that of this place.
pub record Stands (f : ℕ → List ℕ) (first from count place last : ℕ) (old now : List ℕ) : Type 0 where
  pub reached : last ≡ number_at first place
  pub text : now ≡ old ++ flat_map f (draws_from first from count)

-- so it is where nothing was drawn
pub Stands-zero : (f : ℕ → List ℕ) (first from place last : ℕ) (old : List ℕ) → last ≡ number_at first place → Stands f first from 0 place last old old
Stands-zero f first from place last old is = record { reached = is; text = sym (append-nil old) }

-- and with one draw more
pub Stands-next : (f : ℕ → List ℕ) (first from count place next last last' : ℕ) (old now new : List ℕ) → place + 1 ≡ from + count → place + 1 ≡ next → Stands f first from count place last old now → last' ≡ next_number last → new ≡ now ++ f (drawn_from last') → Stands f first from (count + 1) next last' old new
Stands-next f first from count place next last last' old now new here after stands is more =
    let there : last' ≡ number_at first (place + 1) = is ∙ ap next_number stands.reached ∙ sym (number_at-next first place) in
    record {
      reached = there ∙ ap (number_at first) after;
      text = flat_map-push f (draws_from first from count) (drawn_from last') old now new stands.text more ∙ ap (λ (rs : List ℕ). old ++ flat_map f rs) (sym (draws-next first from count place last' here there));
    }

-- ---- lines

-- the text of a number of an order
abbrev pub order_piece : ℕ → List ℕ
order_piece draw = 32 ∷ decimal (order_number draw)

-- the text of an access
abbrev pub access_piece : ℕ → ℕ → List ℕ
access_piece task draw = ended (access_line task draw)

-- the line of an order
pub order_texts : (t0 t1 t2 t3 rs : List ℕ) → t1 ≡ t0 ++ codes "order" → t2 ≡ t1 ++ flat_map order_piece rs → t3 ≡ t2 ++ codes "\n" → t3 ≡ t0 ++ ended (order_line rs)
order_texts t0 t1 t2 t3 rs one two three =
    let words : order_line rs ≡ codes "order" ++ flat_map order_piece rs = join_with_byte-cons 32 (codes "order") (map (λ (r : ℕ). decimal (order_number r)) rs) ∙ ap (λ (t : List ℕ). codes "order" ++ t) (flat_map-map (λ (y : List ℕ). 32 ∷ y) (λ (r : ℕ). decimal (order_number r)) rs) in
    rw (three, two, one, words) (append_assoc (t0 ++ codes "order") (flat_map order_piece rs) (10 ∷ []) ∙ append_assoc t0 (codes "order") (flat_map order_piece rs ++ 10 ∷ []))

-- the lines of a thread
pub thread_texts : (task : ℕ) (t0 t1 t2 rs : List ℕ) → t1 ≡ t0 ++ codes "thread\n" → t2 ≡ t1 ++ flat_map (access_piece task) rs → t2 ≡ t0 ++ text_of (thread_lines task rs)
thread_texts task t0 t1 t2 rs one two =
    let lines : text_of (map (access_line task) rs) ≡ flat_map (access_piece task) rs = flat_map-map ended (access_line task) rs in
    rw (two, one, lines) (append_assoc t0 (codes "thread\n") (flat_map (access_piece task) rs))

-- the lines of one thread more
pub text_of-push : {X : Type 0} (f : X → List (List ℕ)) (xs : List X) (x : X) (old now new : List ℕ) → now ≡ old ++ text_of (flat_map f xs) → new ≡ now ++ text_of (f x) → new ≡ old ++ text_of (flat_map f (xs ++ x ∷ []))
text_of-push f xs x old now new before more =
    let all : text_of (flat_map f (xs ++ x ∷ [])) ≡ text_of (flat_map f xs) ++ text_of (f x) = ap text_of (flat_map-append f xs (x ∷ []) ∙ ap (λ (t : List (List ℕ)). flat_map f xs ++ t) (append-nil (f x))) ∙ flat_map-append ended (flat_map f xs) (f x) in
    more ∙ (ap (λ (t : List ℕ). t ++ text_of (f x)) before ∙ (append_assoc old (text_of (flat_map f xs)) (text_of (f x)) ∙ ap (λ (t : List ℕ). old ++ t) (sym all)))

-- the same for the threads of the first tasks
pub text_of-next_thread : (n before task : ℕ) (old now new : List ℕ) → before + 1 ≡ task → now ≡ old ++ text_of (flat_map (λ t. thread_lines t (task_draws n t)) (range_with_len 1 before)) → new ≡ now ++ text_of (thread_lines task (task_draws n task)) → new ≡ old ++ text_of (flat_map (λ t. thread_lines t (task_draws n t)) (range_with_len 1 (before + 1)))
text_of-next_thread n before task old now new is here more =
    let range : range_with_len 1 (before + 1) ≡ range_with_len 1 before ++ task ∷ [] = range_with_len-suc 1 before ∙ ap (λ (k : ℕ). range_with_len 1 before ++ k ∷ []) (omega arith) in
    text_of-push (λ t. thread_lines t (task_draws n t)) (range_with_len 1 before) task old now new here more ∙ ap (λ (ts : List ℕ). old ++ text_of (flat_map (λ t. thread_lines t (task_draws n t)) ts)) (sym range)

-- ---- the whole

-- a trace by its parts
pub trace_texts : (n : ℕ) (t0 t1 t2 t3 : List ℕ) → t0 ≡ [] → t1 ≡ t0 ++ text_of opening_lines → t2 ≡ t1 ++ ended (order_line (order_draws n)) → t3 ≡ t2 ++ text_of (flat_map (λ task. thread_lines task (task_draws n task)) (range_with_len 1 4)) → t3 ≡ trace_text n
unfolding trace_text
trace_texts n t0 t1 t2 t3 none one two three = rw (three, two, one, none) refl
