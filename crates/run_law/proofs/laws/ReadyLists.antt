-- Lists for the counts of commands, as ops go by.
use Rattle.std.proofs.Common.{◌≡◌, ℕ, zero, suc, ◌+◌, ◌-◌, ◌<◌, true, false, cond, List, [], ◌∷◌, ◌++◌, length, drop, get_or, Some, refl, sym, ap, ◌∙◌, subst, arith}
use Rattle.std.proofs.lemmas.List.Sums.{sum_by-cons}
use Rattle.std.proofs.lemmas.Option.{slice_get-get_or}
use Rattle.lists.specs.Sums.{one_if}
use Rattle.machine.specs.declared.parameters.Parameters.{Parameters}
use Rattle.rc_base.specs.Buffers.{Looks}
use Rattle.run_law.proofs.laws.AccessesAlone.{first_none}
use Rattle.run_law.specs.Journals.{At}
use Rattle.run_law.specs.LookLists.{AreReady, rooms_of, spare_in}
use Rattle.run_law.specs.Ops.{is_command}
use Rattle.run_law.specs.Quotas.{commands_of, most_counts}
use Rattle.script_ops.specs.declared.op.Op.{Op}
use Rattle.script_ops.specs.declared.op.Op.TheVariants.{Access}

-- a list from the place of an element on
pub drop-at : {X : Type 0} (xs : List X) (n : ℕ) (x : X) → At xs n x → drop n xs ≡ x ∷ drop (n + 1) xs
drop-at [] n x at = absurd cc
drop-at (y ∷ xs) zero x at = (let same : y ≡ x = cc in ap (λ z. z ∷ xs) same)
drop-at (y ∷ xs) (suc n) x at = let next : suc (n + 1) ≡ suc n + 1 = omega arith in subst (λ k. drop (suc n) (y ∷ xs) ≡ x ∷ drop k (y ∷ xs)) next (drop-at xs n x at)

-- the rooms from a command on, and from an access on
pub rooms_of-command : (m : Parameters) (ops : List Op) (k : ℕ) (op : Op) → At ops k op → is_command op ≡ true → rooms_of m (drop k ops) ≡ most_counts m op ∷ rooms_of m (drop (k + 1) ops)
rooms_of-command m ops k op at command = ap (rooms_of m) (drop-at ops k op at) ∙ (rw command refl)

pub rooms_of-access : (m : Parameters) (ops : List Op) (k : ℕ) (op : Op) → At ops k op → is_command op ≡ false → rooms_of m (drop k ops) ≡ rooms_of m (drop (k + 1) ops)
rooms_of-access m ops k op at access = ap (rooms_of m) (drop-at ops k op at) ∙ (rw access refl)

-- ops that are accesses alone need no room for counts
pub rooms_of-accesses : (m : Parameters) (ops : List Op) → commands_of ops ≡ 0 → rooms_of m ops ≡ []
rooms_of-accesses m [] none = refl
rooms_of-accesses m (op ∷ ops) none =
    let both = first_none (is_command op) (commands_of ops) (sym (sum_by-cons (λ o. one_if (is_command o)) op ops) ∙ none) in
    ap (λ b. cond b (most_counts m op ∷ rooms_of m ops) (rooms_of m ops)) both.0 ∙ rooms_of-accesses m ops both.1

-- how many numbers more fit into the last of these lists
pub spare_in-last : (front : List Looks) (last : Looks) → spare_in (front ++ last ∷ []) ≡ last.spare
spare_in-last [] last = refl
spare_in-last (l ∷ []) last = refl
spare_in-last (l ∷ k ∷ front) last = spare_in-last (k ∷ front) last

-- one op back: a command has a list more
pub AreReady-command : (m : Parameters) (ops : List Op) (k : ℕ) (op : Op) (lists : List Looks) (l : Looks) → At ops k op → is_command op ≡ true → l.numbers ≡ [] → l.spare ≡ most_counts m op
    → AreReady (rooms_of m (drop (k + 1) ops)) lists → AreReady (rooms_of m (drop k ops)) (lists ++ l ∷ [])
AreReady-command m ops k op lists l at command empty room ready =
    subst (λ rs. AreReady rs (lists ++ l ∷ [])) (sym (rooms_of-command m ops k op at command)) (lists, l, refl, empty, room, ready)

-- and an access none
pub AreReady-access : (m : Parameters) (ops : List Op) (k : ℕ) (op : Op) (lists : List Looks) → At ops k op → is_command op ≡ false → AreReady (rooms_of m (drop (k + 1) ops)) lists → AreReady (rooms_of m (drop k ops)) lists
AreReady-access m ops k op lists at access ready = subst (λ rs. AreReady rs lists) (sym (rooms_of-access m ops k op at access)) ready

-- the lists so far, one op further back that is an access
pub AreReady-access_back : (m : Parameters) (ops : List Op) (k : ℕ) (op : Op) (lists : List Looks) → k < length ops → op ≡ get_or ops (length ops - 1 - k) op → is_command op ≡ false
    → AreReady (rooms_of m (drop (length ops - k) ops)) lists → AreReady (rooms_of m (drop (length ops - (k + 1)) ops)) lists
AreReady-access_back m ops k op lists below is access ready =
    let there : At ops (length ops - 1 - k) op = slice_get-get_or ops (length ops - 1 - k) op (omega (arith, below)) ∙ ap (λ x. Some x) (sym is) in
    let place : length ops - 1 - k ≡ length ops - (k + 1) = omega arith in
    let next : length ops - k ≡ length ops - 1 - k + 1 = omega (arith, below) in
    subst (λ n. AreReady (rooms_of m (drop n ops)) lists) place (AreReady-access m ops (length ops - 1 - k) op lists there access (subst (λ n. AreReady (rooms_of m (drop n ops)) lists) next ready))

-- or a command
pub AreReady-command_back : (m : Parameters) (ops : List Op) (k : ℕ) (op : Op) (lists : List Looks) (l : Looks) → k < length ops → op ≡ get_or ops (length ops - 1 - k) op → is_command op ≡ true → l.numbers ≡ [] → l.spare ≡ most_counts m op
    → AreReady (rooms_of m (drop (length ops - k) ops)) lists → AreReady (rooms_of m (drop (length ops - (k + 1)) ops)) (lists ++ l ∷ [])
AreReady-command_back m ops k op lists l below is command empty room ready =
    let there : At ops (length ops - 1 - k) op = slice_get-get_or ops (length ops - 1 - k) op (omega (arith, below)) ∙ ap (λ x. Some x) (sym is) in
    let place : length ops - 1 - k ≡ length ops - (k + 1) = omega arith in
    let next : length ops - k ≡ length ops - 1 - k + 1 = omega (arith, below) in
    subst (λ n. AreReady (rooms_of m (drop n ops)) (lists ++ l ∷ [])) place
    (AreReady-command m ops (length ops - 1 - k) op lists l there command empty room (subst (λ n. AreReady (rooms_of m (drop n ops)) lists) next ready))

-- an op that is no access is a command
pub is_command-not_access : (op : Op) → ((task cpu addr : ℕ) → op ≡ Access task cpu addr → ⊥) → is_command op ≡ true
is_command-not_access (Access task cpu addr) not = absurd (not task cpu addr refl)
is_command-not_access op not = refl
