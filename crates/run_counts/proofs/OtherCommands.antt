-- Commands that are no accepted touches: they make no access.
use Rattle.std.proofs.Common.{◌≡◌, ℕ, ◌+◌, ◌==◌, ◌&&◌, Bool, true, false, cond, List, [], ◌∷◌, map, filter, take, Option, None, Some, Result, Ok, Err, is_some, refl, sym, ap, ◌∙◌, subst, inl, inr}
use Rattle.std.specs.List.{AllByRecursion, flat_map, list_any, range_with_len, slice_get}
use Rattle.std.specs.Option.{option_map, option_map_or, option_or}
use Rattle.std.proofs.lemmas.Bool.{cases_Bool}
use Rattle.std.proofs.lemmas.Map.Keys.{any_passes_from_place}
use Rattle.std.proofs.lemmas.Option.{slice_get-map}
use Rattle.cache_core.specs.declared.entry.SliceEntry.{SliceEntry}
use Rattle.cache_core.specs.declared.entry.What.TheVariants as whats
use Rattle.machine.specs.Maps.{line_of}
use Rattle.machine.specs.declared.parameters.Parameters.{Parameters}
use Rattle.path_names.specs.declared.files.FileKind.TheVariants as kinds
use Rattle.path_names.specs.declared.path_ref.PathRef.{PathRef}
use Rattle.path_names.specs.declared.path_ref.PathRef.TheVariants.{File}
use Rattle.rc_base.specs.declared.names.Mode.{Mode}
use Rattle.rc_base.specs.declared.names.Mode.TheVariants.{Shareable, Exclusive, LockSetup, Locked}
use Rattle.rc_base.specs.declared.replies.Reply.{Reply}
use Rattle.rc_base.specs.declared.replies.Reply.TheVariants as replies
use Rattle.run_counts.proofs.TouchHits.{first_hit-run, touch_hit-append}
use Rattle.run_counts.proofs.TouchEpochs.{AllByRecursion-cond, AllByRecursion-flat_map, ArePaid, ArePaid-run, command_at, is_access-undecided}
use Rattle.cache_core.specs.Whats.{is_access, is_hit}
use Rattle.run_counts.specs.Touches.{accesses_by, first_hit, is_accepted_touch, is_touch_in, is_touch_of, touch_hit}
use Rattle.run_law.specs.Entries.{entry_value}
use Rattle.run_law.specs.Journals.{At, JournalsValue}
use Rattle.run_law.specs.Owed.{Owed, follow_in, is_entered_in, look_in, owed_by_command, paid_by, what_of}
use Rattle.run_law.specs.Runs.{IsRun}
use Rattle.run_law.specs.TreeHistory.{TreeEntryValue, tree_after}
use Rattle.run_law.specs.Truth.{is_made_by}
use Rattle.run_law.specs.declared.journals.TreeEntry.{TreeEntry}
use Rattle.schemata_text.specs.declared.assignment.Assignment.{Assignment}
use Rattle.script_ops.specs.Values.{ScriptValue}
use Rattle.script_ops.specs.declared.op.Op.{Op}
use Rattle.script_ops.specs.declared.op.Op.TheVariants as ops
use Rattle.tree_law.specs.Places.{control_at}
use Rattle.tree_law.specs.Refusals.{Refusal, reply_of}
use Rattle.tree_law.specs.State.{State}
use Rattle.tree_law.specs.Steps.{after, after_accepted, needs, next, refusal}
use Rattle.tree_law.specs.commands.Drop as clflush
use Rattle.tree_law.specs.commands.Flush as flush
use Rattle.tree_law.specs.commands.Touch.{touched}
use Rattle.tree_law.specs.commands.Mode as mode
use Rattle.tree_law.specs.commands.Schemata as schemata
use Rattle.tree_law.specs.commands.Write as write
use Rattle.tree_law.specs.declared.follow.Follow.{Follow}
use Rattle.tree_law.specs.declared.follow.Follow.TheVariants as follows
use Rattle.lists.proofs.Recursions.{AllByRecursion-append}

-- ---- what follows a command

-- a follow-up is no access
abbrev IsQuiet : Follow → Type 0
IsQuiet f = is_access (what_of f) ≡ false

-- follow-ups of domains
AllByRecursion-map : {X Y : Type 0} (P : Y → Type 0) (f : X → Y) (xs : List X) → ((x : X) → P (f x)) → AllByRecursion P (map f xs)
AllByRecursion-map P f [] each = tt
AllByRecursion-map P f (x ∷ xs) each = (each x, AllByRecursion-map P f xs each)

-- those of a group, where there is one
AllByRecursion-option_map_or : {X Y : Type 0} (P : Y → Type 0) (f : X → List Y) (o : Option X) → ((x : X) → AllByRecursion P (f x)) → AllByRecursion P (option_map_or f o [])
AllByRecursion-option_map_or P f None each = tt
AllByRecursion-option_map_or P f (Some x) each = each x

-- after a write of masks
quiet-schemata : (m : Parameters) (s : State) (by : Mode) (all : List Assignment) → AllByRecursion IsQuiet (schemata.follow m s by all)
quiet-schemata m s Shareable all = AllByRecursion-map IsQuiet (λ d. follows.Raise d) (filter (schemata.names_domain all) (range_with_len 0 m.domains)) (λ d. refl)
quiet-schemata m s Exclusive all = AllByRecursion-map IsQuiet (λ d. follows.Raise d) (filter (schemata.names_domain all) (range_with_len 0 m.domains)) (λ d. refl)
quiet-schemata m s LockSetup [] = tt
quiet-schemata m s LockSetup (a ∷ all) = (refl, tt)
quiet-schemata m s Locked all = tt

-- after masks that were read, or none
AllByRecursion-read : {X E F : Type 0} (P : F → Type 0) (f : Result X E → List F) → ((x : X) → AllByRecursion P (f (Ok x))) → ((e : E) → AllByRecursion P (f (Err e))) → (read : Result X E) → AllByRecursion P (f read)
AllByRecursion-read P f each other (Ok x) = each x
AllByRecursion-read P f each other (Err e) = other e

-- after a write
quiet-write : (m : Parameters) (s : State) (path : PathRef) (text : List ℕ) → AllByRecursion IsQuiet (write.after m s path text)
unfolding write.after schemata.after mode.after
quiet-write m s (File dir kinds.Schemata) text = AllByRecursion-option_map_or IsQuiet (λ g. schemata.after m s g (schemata.schemata_read m text)) (control_at s dir) (λ g. AllByRecursion-read IsQuiet (λ read. schemata.after m s g read) (λ all. quiet-schemata m s g.mode all) (λ fault. tt) (schemata.schemata_read m text))
quiet-write m s (File dir kinds.Mode) text = AllByRecursion-option_map_or IsQuiet (λ g. mode.after m g text) (control_at s dir) (λ g. either (mode.is_present g.mode text))
  where
    either : (b : Bool) → AllByRecursion IsQuiet (cond b [] (map (λ d. follows.Raise d) (range_with_len 0 m.domains)))
    either true = tt
    either false = AllByRecursion-map IsQuiet (λ d. follows.Raise d) (range_with_len 0 m.domains) (λ d. refl)
quiet-write m s path text = tt

-- after a flush
quiet-flush : (m : Parameters) (domain : Option ℕ) → AllByRecursion IsQuiet (flush.after m domain)
unfolding flush.after
quiet-flush m None = AllByRecursion-map IsQuiet (λ d. follows.Flush d) (range_with_len 0 m.domains) (λ d. refl)
quiet-flush m (Some domain) = (refl, tt)

-- after a flush of a line
quiet-line : (m : Parameters) (addr : ℕ) → AllByRecursion IsQuiet (clflush.after_line m addr)
unfolding clflush.after_line
quiet-line m addr = AllByRecursion-map IsQuiet (λ d. follows.Drop d (line_of addr)) (range_with_len 0 m.domains) (λ d. refl)

-- after a flush of a line of a region
quiet-region : (s : State) (path : PathRef) (offset : ℕ) → AllByRecursion IsQuiet (clflush.after_region s path offset)
unfolding clflush.after_region
quiet-region s path offset = at (touched s path)
  where
    at : (o : Option _) → AllByRecursion IsQuiet (clflush.follow offset o)
    at None = tt
    at (Some (domain, r)) = (refl, tt)

-- after an accepted command that is no touch
quiet-accepted : (m : Parameters) (s : State) (k : ℕ) (op : Op) → is_accepted_touch op replies.Ok ≡ false → AllByRecursion IsQuiet (after_accepted m s k op)
quiet-accepted m s k (ops.Rmdir path) other = AllByRecursion-map IsQuiet (λ d. follows.Raise d) (range_with_len 0 m.domains) (λ d. refl)
quiet-accepted m s k (ops.Write path text) other = quiet-write m s path text
quiet-accepted m s k (ops.Flush domain) other = quiet-flush m domain
quiet-accepted m s k (ops.Touch cpu path task offset) other = absurd cc
quiet-accepted m s k (ops.DropLine addr) other = quiet-line m addr
quiet-accepted m s k (ops.DropRegion path offset) other = quiet-region s path offset
quiet-accepted m s k op other = tt

-- after a command that is no accepted touch
quiet-after : (m : Parameters) (s : State) (k : ℕ) (op : Op) (looks : List ℕ) (reply : Reply) → reply ≡ (next m s op looks).reply → is_accepted_touch op reply ≡ false → AllByRecursion IsQuiet (after m s k op)
unfolding after next
quiet-after m s k op looks reply is other = at (refusal m s op) (subst (λ (r : Reply). is_accepted_touch op r ≡ false) is other)
  where
    at : (o : Option Refusal) → is_accepted_touch op (reply_of o) ≡ false → AllByRecursion IsQuiet (cond (is_some o) [] (after_accepted m s k op))
    at None accepted_other = quiet-accepted m s k op accepted_other
    at (Some r) refused = tt

-- ---- what a command owes

-- it is no access
abbrev IsNoAccess : Owed → Type 0
IsNoAccess o = is_access o.what ≡ false

-- a follow-up in a slice
no_access-follow : (m : Parameters) (i epoch : ℕ) (follow : List Follow) → AllByRecursion IsQuiet follow → AllByRecursion IsNoAccess (flat_map (follow_in m i epoch) follow)
no_access-follow m i epoch [] quiet = tt
no_access-follow m i epoch (f ∷ fs) quiet =
    AllByRecursion-append IsNoAccess (follow_in m i epoch f) (flat_map (follow_in m i epoch) fs) (AllByRecursion-cond IsNoAccess (is_entered_in m i f) (record { epoch = epoch; what = what_of f }) quiet.0)
    (no_access-follow m i epoch fs quiet.1)

-- what a command owes, of whose follow-ups none is an access
no_access-owed : (script : ScriptValue) (tree : List TreeEntryValue) (i k : ℕ) (op : Op) → AllByRecursion IsQuiet (after script.machine (tree_after script (take k tree)) k op) → AllByRecursion IsNoAccess (owed_by_command script tree i k op)
unfolding owed_by_command
no_access-owed script tree i k op quiet =
    let m : Parameters = script.machine in
    let s = tree_after script (take k tree) in
    AllByRecursion-append IsNoAccess (flat_map (look_in m i k) (needs m s op)) (flat_map (follow_in m i (k + 1)) (after m s k op))
    (AllByRecursion-flat_map IsNoAccess (look_in m i k) (λ need. AllByRecursion-cond IsNoAccess _ (record { epoch = k; what = whats.Look need.1 0 }) refl) (needs m s op))
    (no_access-follow m i (k + 1) (after m s k op) quiet)

-- ---- no touch among entries

-- an entry of a command that makes no access is no touch
is_touch_of-quiet : (k : ℕ) (h : TreeEntryValue) (e : SliceEntry) → (is_made_by h.thread h.op e ≡ true → IsNoAccess (paid_by e)) → is_touch_of k h e ≡ false
is_touch_of-quiet k h e quiet = at (is_made_by h.thread h.op e) refl
  where
    at : (made : Bool) → is_made_by h.thread h.op e ≡ made → is_touch_of k h e ≡ false
    at true made = ap (λ b. (b && is_access e.what) && (e.epoch == k + 1)) made ∙ ap (λ b. b && (e.epoch == k + 1)) (sym (is_access-undecided e.what) ∙ quiet made)
    at false made = ap (λ b. (b && is_access e.what) && (e.epoch == k + 1)) made

-- no touch among the entries of a slice
touch_hit-quiet : (k : ℕ) (h : TreeEntryValue) (es : List SliceEntry) → ArePaid IsNoAccess h es → touch_hit k h es ≡ None
touch_hit-quiet k h [] quiet = refl
touch_hit-quiet k h (e ∷ es) quiet = ap (λ b. cond b (Some (is_hit e.what)) (touch_hit k h es)) (is_touch_of-quiet k h e quiet.0) ∙ touch_hit-quiet k h es quiet.1

-- or of many
touch_hit-all_quiet : (k : ℕ) (h : TreeEntryValue) (all : List (List SliceEntry)) → AllByRecursion (ArePaid IsNoAccess h) all → touch_hit k h (flat_map (λ (es : List SliceEntry). es) all) ≡ None
touch_hit-all_quiet k h [] quiet = refl
touch_hit-all_quiet k h (es ∷ all) quiet =
    touch_hit-append k h es (flat_map (λ (xs : List SliceEntry). xs) all)
    ∙ (ap (λ o. option_or o (touch_hit k h (flat_map (λ (xs : List SliceEntry). xs) all))) (touch_hit-quiet k h es quiet.0) ∙ touch_hit-all_quiet k h all quiet.1)

-- Of a command that is no accepted touch the journals tell no access.
pub first_hit-other : (script : ScriptValue) (j : JournalsValue) (k : ℕ) (h : TreeEntryValue) → IsRun script j → At j.tree k h → is_touch_in script h ≡ false → first_hit (accesses_by j h.thread h.op) ≡ None
first_hit-other script j k h run there other =
    let found = command_at script j k h run there in
    let not_touch : is_accepted_touch found.0 h.reply ≡ false = sym (ap (λ o. option_map_or (λ op. is_accepted_touch op h.reply) o false) found.1) ∙ other in
    let quiet = quiet-after script.machine (tree_after script (take k j.tree)) k found.0 h.looks h.reply found.3 not_touch in
    first_hit-run script j k h run there
    ∙ touch_hit-all_quiet k h j.slices (ArePaid-run IsNoAccess script j k h found.0 run there found.1 found.2 (λ i. no_access-owed script j.tree i k found.0 quiet))

-- where none of these entries is an accepted touch, none at a position is
pub is_touch_in-none : (script : ScriptValue) (tree : List TreeEntry) (k : ℕ) (h : TreeEntryValue) → list_any (λ (e : TreeEntry). is_touch_in script (entry_value e)) tree ≡ false → At (map entry_value tree) k h → is_touch_in script h ≡ false
is_touch_in-none script tree k h lacks there = of_entry (slice_get tree k) refl (sym (slice_get-map entry_value tree k) ∙ there)
  where
    of_entry : (o : Option TreeEntry) → slice_get tree k ≡ o → option_map entry_value o ≡ Some h → is_touch_in script h ≡ false
    of_entry None at same = absurd cc
    of_entry (Some e) at same = elim (cases_Bool (is_touch_in script (entry_value e))) [
      | inl touch ↦ absurd (let one = any_passes_from_place (λ (x : TreeEntry). is_touch_in script (entry_value x)) tree k e at touch in cc)
      | inr other ↦ (let is : entry_value e ≡ h = cc in ap (is_touch_in script) (sym is) ∙ other)
    ]
