-- A line is that of one value.
use Rattle.std.proofs.Common.{◌≡◌, ℕ, ◌+◌, ◌*◌, ◌-◌, ◌/◌, ◌%◌, ◌^◌, ◌<◌, ◌≤◌, Bool, true, false, List, [], ◌∷◌, ◌++◌, length, get_or, Option, Some, None, codes, refl, sym, ap, subst, ◌∙◌, arith, decimal, drop, lt_of_lt_of_le}
use Rattle.std.proofs.Math.Nat.{div-add-mod}
use Rattle.std.proofs.lemmas.List.{append-nil}
use Rattle.std.specs.Str.Parse.{AllDigits}
use Rattle.num_text.proofs.laws.Digits.{AllDigits-decimal}
use Rattle.cache_core.specs.declared.entry.SliceEntry.{SliceEntry}
use Rattle.cache_core.specs.declared.entry.What.{What}
use Rattle.cache_core.specs.declared.entry.What.TheVariants.{Access, Raise, Flush, Lock, Look, Drop}
use Rattle.lists.specs.Sums.{one_if}
use Rattle.machine.specs.declared.parameters.Parameters.{Parameters}
use Rattle.rc_base.specs.Replies.{number_of, refused}
use Rattle.rc_base.specs.declared.replies.Reply.{Reply}
use Rattle.rc_base.specs.declared.replies.Reply.TheVariants as replies
use Rattle.rc_base.specs.declared.replies.Why.{Why}
use Rattle.rc_base.specs.declared.replies.Why.TheVariants.{NoSuchPath, NotAPlace, Exists, OnlyRead, OutOfClosids, NoSpace, OutOfRmids, RmidsBusy, NoTask, NoColon, BadResource, NoValue, NoEquals, BadDomain, DomainTwice, NotHex, OutOfRange, Gaps, TooFew, OverlapExclusive, OverlapRegion, OverlapOther, OverlapShareable, SchemataOverlap, UnknownMode, GroupLocked, Locking, DefaultGroup, HasTasks, HasCpus, HasMonGroups, OtherControl, BadTaskList, BadCpus, NotACpu, DropsDefault, NotParents, BadThreshold, OneDomain, HasRegion, PastRegion, WrongCpu}
use Rattle.run_law.specs.TreeHistory.{TreeEntryValue}
use Rattle.journal_text.specs.Kinds.{kind_of, rest_of, word_of}
use Rattle.journal_text.specs.Lines.{argument_in, command_line, entry_line, fields, made_by, reason_in, slice_line, way_word}
use Rattle.journal_text.specs.Taken.{AreNumbers, Takes}
use Rattle.journal_text.specs.Writable.{HasText, IsWay, IsWritableCommand, IsWritableEntry, IsWritableReply}
use Rattle.journal_text.proofs.laws.FirstWords.{word_of-injective}
use Rattle.journal_text.proofs.laws.CommandLines.{CommandIs-line, IsSplit-command_line, numbers_of}
use Rattle.journal_text.proofs.laws.EntryLines.{AreNumbers-access, AreNumbers-drop_line, AreNumbers-lock, AreNumbers-look, AreNumbers-way, EndsWord-way_word, EntryIs-line, IsSplit-entry_line, Takes-entry_line}
use Rattle.journal_text.proofs.laws.Fields.{Takes-all, Takes-unique, fields-cons, fields-nil}
use Rattle.journal_text.proofs.laws.SliceLines.{IsSplit-slice_line, SliceIs-line, place_and_count}
use Rattle.journal_text.proofs.laws.Taken.{Takes-after, Takes-drop, Takes-take}

-- ---- the line of a slice

-- it says which slice it is of, and how many entries follow
pub slice_line-injective : (m : Parameters) (i k a b : ℕ) → i < 2 ^ 64 → k < 2 ^ 64 → a < 2 ^ 64 → b < 2 ^ 64 → slice_line m i a ≡ slice_line m k b → (i ≡ k) × (a ≡ b)
slice_line-injective m i k a b small_i small_k small_a small_b same =
    let after : List ℕ = fields (place_and_count m i a) in
    let one = SliceIs-line m i a (codes "slice") after (slice_line m i a) small_i small_a (IsSplit-slice_line m i a) refl in
    let two = SliceIs-line m k b (codes "slice") after (slice_line m i a) small_k small_b (IsSplit-slice_line m i a) (sym same) in
    let all = (Takes-unique (place_and_count m i a) (place_and_count m k b) [] [] after refl one.takes two.takes).0 in
    let domain : i / m.slices ≡ k / m.slices = ap (λ (xs : List ℕ). get_or xs 0 0) all in
    let part : i % m.slices ≡ k % m.slices = ap (λ (xs : List ℕ). get_or xs 1 0) all in
    (sym (div-add-mod i m.slices) ∙ ap (λ (d : ℕ). m.slices * d + i % m.slices) domain ∙ ap (λ (p : ℕ). m.slices * (k / m.slices) + p) part ∙ div-add-mod k m.slices, ap (λ (xs : List ℕ). get_or xs 2 0) all)

-- ---- the line of an entry

-- numbers that are the same text are the same
fields-injective : (ms ns : List ℕ) → AreNumbers ms → AreNumbers ns → length ms ≡ length ns → fields ms ≡ fields ns → ms ≡ ns
fields-injective ms ns m n count same = (Takes-unique ms ns [] [] (fields ms) count (Takes-all ms m) (subst (λ (t : List ℕ). Takes ns [] t) (sym same) (Takes-all ns n))).0

-- a hit is told from a fill
one_if-injective : (a b : Bool) → one_if a ≡ one_if b → a ≡ b
one_if-injective true true e = refl
one_if-injective false false e = refl
one_if-injective true false e = absurd (omega (arith, e))
one_if-injective false true e = absurd (omega (arith, e))

-- no number is a dash
not_dash : (way : ℕ) → way < 2 ^ 64 → fields (way ∷ []) ≡ codes " -" → ⊥
not_dash way small e =
    let long : 32 ∷ (decimal way ++ fields []) ≡ 32 ∷ 45 ∷ [] = sym (fields-cons way []) ∙ e in
    let dash : decimal way ≡ 45 ∷ [] = sym (append-nil (decimal way)) ∙ ap (λ (t : List ℕ). decimal way ++ t) (sym fields-nil) ∙ ap (drop 1) long in
    let digits : AllDigits 10 (45 ∷ []) = subst (AllDigits 10) dash (AllDigits-decimal way small) in
    omega (arith, digits.0)

-- a way is told from a dash
way_word-injective : (m : Parameters) (v w : Option ℕ) → m.ways ≤ 32 → IsWay m v → IsWay m w → way_word v ≡ way_word w → v ≡ w
way_word-injective m None None narrow a b e = refl
way_word-injective m (Some v) (Some w) narrow a b e = ap Some (ap (λ (xs : List ℕ). get_or xs 0 0) (fields-injective (v ∷ []) (w ∷ []) (AreNumbers-way m v narrow a) (AreNumbers-way m w narrow b) refl e))
way_word-injective m None (Some w) narrow a b e = absurd (not_dash w (lt_of_lt_of_le b (omega arith)) (sym e))
way_word-injective m (Some v) None narrow a b e = absurd (not_dash v (lt_of_lt_of_le a (omega arith)) e)

-- the rest of a line says what happened
rest_of-injective : (m : Parameters) (i k : ℕ) (v w : What) → m.ways ≤ 32 → HasText m i v → HasText m k w → kind_of v ≡ kind_of w → rest_of v ≡ rest_of w → v ≡ w
rest_of-injective m i k (Access h w o r b l) (Access h' w' o' r' b' l') narrow a c kind e =
    let all = fields-injective (o.0 ∷ r ∷ b ∷ l ∷ one_if h ∷ w ∷ []) (o'.0 ∷ r' ∷ b' ∷ l' ∷ one_if h' ∷ w' ∷ []) (AreNumbers-access m i h w o r b l narrow a) (AreNumbers-access m k h' w' o' r' b' l' narrow c) refl e in
    let owner : o ≡ o' = ap (λ (g : ℕ). record { 0 = g }) (ap (λ (xs : List ℕ). get_or xs 0 0) all) in
    let rmid : r ≡ r' = ap (λ (xs : List ℕ). get_or xs 1 0) all in
    let mask : b ≡ b' = ap (λ (xs : List ℕ). get_or xs 2 0) all in
    let line : l ≡ l' = ap (λ (xs : List ℕ). get_or xs 3 0) all in
    let hit : h ≡ h' = one_if-injective h h' (ap (λ (xs : List ℕ). get_or xs 4 0) all) in
    let way : w ≡ w' = ap (λ (xs : List ℕ). get_or xs 5 0) all in
    rw (owner, rmid, mask, line, hit, way) refl
rest_of-injective m i k Raise Raise narrow a c kind e = refl
rest_of-injective m i k Flush Flush narrow a c kind e = refl
rest_of-injective m i k (Lock b l) (Lock b' l') narrow a c kind e =
    let all = fields-injective (b ∷ l ∷ []) (b' ∷ l' ∷ []) (AreNumbers-lock m i b l a) (AreNumbers-lock m k b' l' c) refl e in
    let mask : b ≡ b' = ap (λ (xs : List ℕ). get_or xs 0 0) all in
    let line : l ≡ l' = ap (λ (xs : List ℕ). get_or xs 1 0) all in
    rw (mask, line) refl
rest_of-injective m i k (Look r l) (Look r' l') narrow a c kind e =
    let all = fields-injective (r ∷ l ∷ []) (r' ∷ l' ∷ []) (AreNumbers-look m i r l a) (AreNumbers-look m k r' l' c) refl e in
    let rmid : r ≡ r' = ap (λ (xs : List ℕ). get_or xs 0 0) all in
    let lines : l ≡ l' = ap (λ (xs : List ℕ). get_or xs 1 0) all in
    rw (rmid, lines) refl
rest_of-injective m i k (Drop l w) (Drop l' w') narrow a c kind e =
    let one : Takes (l ∷ []) (way_word w) (rest_of (Drop l w)) = record { same = refl; fit = AreNumbers-drop_line m i l w a; ends = EndsWord-way_word w } in
    let two : Takes (l' ∷ []) (way_word w') (rest_of (Drop l w)) = record { same = e; fit = AreNumbers-drop_line m k l' w' c; ends = EndsWord-way_word w' } in
    let both = Takes-unique (l ∷ []) (l' ∷ []) (way_word w) (way_word w') (rest_of (Drop l w)) refl one two in
    let line : l ≡ l' = ap (λ (xs : List ℕ). get_or xs 0 0) both.0 in
    let way : w ≡ w' = way_word-injective m w w' narrow a.1 c.1 both.1 in
    rw (line, way) refl
rest_of-injective m i k (Access h w o r b l) _ narrow a c kind e = absurd cc
rest_of-injective m i k Raise _ narrow a c kind e = absurd cc
rest_of-injective m i k Flush _ narrow a c kind e = absurd cc
rest_of-injective m i k (Lock b l) _ narrow a c kind e = absurd cc
rest_of-injective m i k (Look r l) _ narrow a c kind e = absurd cc
rest_of-injective m i k (Drop l w) _ narrow a c kind e = absurd cc

-- an entry of these parts
abbrev entry : ℕ → ℕ → ℕ → What → SliceEntry
entry thread op epoch what = record { thread = thread; op = op; epoch = epoch; what = what }

-- an entry by its parts
same_entry : (d e : SliceEntry) → made_by d ≡ made_by e → d.what ≡ e.what → d ≡ e
same_entry d e made what = parts d e (ap (λ (xs : List ℕ). get_or xs 0 0) made) (ap (λ (xs : List ℕ). get_or xs 1 0) made) (ap (λ (xs : List ℕ). get_or xs 2 0) made) what
  where
    parts : (d e : SliceEntry) → d.thread ≡ e.thread → d.op ≡ e.op → d.epoch ≡ e.epoch → d.what ≡ e.what → d ≡ e
    parts d e t o p w =
        ap (λ (x : ℕ). entry x d.op d.epoch d.what) t ∙ ap (λ (x : ℕ). entry e.thread x d.epoch d.what) o ∙ ap (λ (x : ℕ). entry e.thread e.op x d.what) p ∙ ap (λ (x : What). entry e.thread e.op e.epoch x) w

-- it says which entry it is of
pub entry_line-injective : (m : Parameters) (i k : ℕ) (d e : SliceEntry) → m.ways ≤ 32 → IsWritableEntry m i d → IsWritableEntry m k e → entry_line d ≡ entry_line e → d ≡ e
entry_line-injective m i k d e narrow wd we same =
    let after : List ℕ = fields (made_by d) ++ rest_of d.what in
    let is = EntryIs-line m k (word_of (kind_of d.what)) after (entry_line d) (IsSplit-entry_line d) e we (sym same) in
    let both = Takes-unique (made_by d) (made_by e) (rest_of d.what) (rest_of e.what) after refl (Takes-entry_line m i d wd) is.takes in
    same_entry d e both.0 (rest_of-injective m i k d.what e.what narrow wd.what we.what (sym (word_of-injective (kind_of e.what) (kind_of d.what) is.kind)) both.1)

-- ---- the line of a command

-- the reasons by their numbers, from 1
reasons : List Why
reasons = NoSuchPath ∷ NotAPlace ∷ Exists ∷ OnlyRead ∷ OutOfClosids ∷ NoSpace ∷ OutOfRmids ∷ RmidsBusy ∷ NoTask ∷ NoColon ∷ BadResource ∷ NoValue ∷ NoEquals ∷ BadDomain ∷ DomainTwice ∷ NotHex ∷ OutOfRange ∷ Gaps ∷ TooFew ∷ OverlapExclusive ∷ OverlapRegion ∷ OverlapOther ∷ OverlapShareable ∷ SchemataOverlap ∷ UnknownMode ∷ GroupLocked ∷ Locking ∷ DefaultGroup ∷ HasTasks ∷ HasCpus ∷ HasMonGroups ∷ OtherControl ∷ BadTaskList ∷ BadCpus ∷ NotACpu ∷ DropsDefault ∷ NotParents ∷ BadThreshold ∷ OneDomain ∷ HasRegion ∷ PastRegion ∷ WrongCpu ∷ []

-- a reason is told by its number
why_of-number : (why : Why) → get_or reasons (number_of why - 1) NoSuchPath ≡ why
unfolding reasons
why_of-number NoSuchPath = refl
why_of-number _ = refl

-- each reason has its own number
pub number_of-injective : (v w : Why) → number_of v ≡ number_of w → v ≡ w
number_of-injective v w e = sym (why_of-number v) ∙ ap (λ (n : ℕ). get_or reasons (n - 1) NoSuchPath) e ∙ why_of-number w

-- and none has 0
pub number_of-gt : (why : Why) → 0 < number_of why
number_of-gt NoSuchPath = omega arith
number_of-gt _ = omega arith

-- the reason and the argument say the reply
pub reply_of-injective : (q r : Reply) → IsWritableReply q → IsWritableReply r → reason_in q ≡ reason_in r → argument_in q ≡ argument_in r → q ≡ r
reply_of-injective replies.Ok replies.Ok a b reason arg = refl
reply_of-injective replies.Ok (replies.Refused errno why n) a b reason arg = absurd (omega (arith, reason, number_of-gt why))
reply_of-injective (replies.Refused errno why n) replies.Ok a b reason arg = absurd (omega (arith, reason, number_of-gt why))
reply_of-injective (replies.Refused errno why n) (replies.Refused errno' why' n') a b reason arg =
    a.0 ∙ ap (λ (w : Why). refused w n) (number_of-injective why why' reason) ∙ ap (refused why') arg ∙ sym b.0

-- a command of these parts
abbrev command : ℕ → ℕ → Reply → List ℕ → TreeEntryValue
command thread op reply looks = record { thread = thread; op = op; reply = reply; looks = looks }

-- it says which command it is of
pub command_line-injective : (weight : ℕ) (d e : TreeEntryValue) → weight < 2 ^ 64 → IsWritableCommand weight d → IsWritableCommand weight e → command_line d ≡ command_line e → d ≡ e
command_line-injective weight d e light wd we same =
    let after : List ℕ = fields (numbers_of d) in
    let one = (CommandIs-line weight (codes "tree") after (command_line d) light (IsSplit-command_line d) d wd refl).takes in
    let two = (CommandIs-line weight (codes "tree") after (command_line d) light (IsSplit-command_line d) e we (sym same)).takes in
    let head : List ℕ = d.thread ∷ d.op ∷ reason_in d.reply ∷ argument_in d.reply ∷ length d.looks ∷ [] in
    let parts = Takes-after head (numbers_of e) (fields d.looks ++ []) [] after (omega arith) (Takes-take 5 (numbers_of d) [] after one) two in
    let thread : d.thread ≡ e.thread = ap (λ (xs : List ℕ). get_or xs 0 0) parts.0 in
    let op : d.op ≡ e.op = ap (λ (xs : List ℕ). get_or xs 1 0) parts.0 in
    let reply : d.reply ≡ e.reply = reply_of-injective d.reply e.reply wd.reply we.reply (ap (λ (xs : List ℕ). get_or xs 2 0) parts.0) (ap (λ (xs : List ℕ). get_or xs 3 0) parts.0) in
    let count : length d.looks ≡ length e.looks = ap (λ (xs : List ℕ). get_or xs 4 0) parts.0 in
    let looks : d.looks ≡ e.looks = (Takes-unique d.looks e.looks [] [] (fields d.looks ++ []) count (Takes-drop 5 (numbers_of d) [] after one) parts.1).0 in
    ap (λ (x : ℕ). command x d.op d.reply d.looks) thread ∙ ap (λ (x : ℕ). command e.thread x d.reply d.looks) op ∙ ap (λ (x : Reply). command e.thread e.op x d.looks) reply ∙ ap (λ (x : List ℕ). command e.thread e.op e.reply x) looks
