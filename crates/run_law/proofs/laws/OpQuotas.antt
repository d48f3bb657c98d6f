-- How many entries a command makes in a slice.
use Rattle.std.proofs.Common.{◌≡◌, ◌≢◌, ℕ, ◌+◌, ◌/◌, ◌%◌, ◌<◌, ◌≤◌, Bool, true, false, List, [], ◌∷◌, ◌++◌, length, map, filter, take, Option, None, Some, is_some, Result, Ok, Err, refl, sym, ap, ◌∙◌, subst, inl, inr, arith}
use Rattle.std.specs.Prelude.{◌==◌, if◌then◌else◌}
use Rattle.std.specs.List.{All, AllPairs, flat_map, range_with_len}
use Rattle.std.specs.Option.{option_map_or, option_to_list}
use Rattle.std.proofs.lemmas.Bool.{cases_Bool, eq-eqb, eqb-true}
use Rattle.std.proofs.lemmas.List.{length-append}
use Rattle.group_tree.specs.declared.group.Group.{Group}
use Rattle.lists.proofs.Choices.{cond-both}
use Rattle.lists.specs.Sums.{one_if}
use Rattle.machine.specs.Maps.{domain_of, line_of}
use Rattle.machine.specs.Ranges.{InRange}
use Rattle.machine.specs.Slices.{domain_in, slice_of_line}
use Rattle.machine.specs.declared.parameters.Parameters.{Parameters}
use Rattle.path_names.specs.declared.dirs.DirRef.TheVariants.{MonDomain}
use Rattle.path_names.specs.declared.files.FileKind.TheVariants as kinds
use Rattle.path_names.specs.declared.path_ref.PathRef.{PathRef}
use Rattle.path_names.specs.declared.path_ref.PathRef.TheVariants.{File}
use Rattle.rc_base.specs.declared.names.Mode.{Mode}
use Rattle.rc_base.specs.declared.names.Mode.TheVariants.{Shareable, Exclusive, LockSetup, Locked}
use Rattle.run_law.specs.Owed.{Owed, follow_in, is_entered_in, look_in, owed_by_command, what_of}
use Rattle.run_law.specs.TreeHistory.{TreeEntryValue, tree_after}
use Rattle.pseudo_lock.specs.declared.region.Region.{Region}
use Rattle.schemata_text.specs.declared.assignment.Assignment.{Assignment}
use Rattle.schemata_text.specs.declared.fault.TextFault.{TextFault}
use Rattle.script_ops.specs.Values.{ScriptValue}
use Rattle.script_ops.specs.declared.op.Op.{Op}
use Rattle.script_ops.specs.declared.op.Op.TheVariants as ops
use Rattle.run_law.specs.Quotas.{line_quota, quota, read_quota, write_quota}
use Rattle.tree_law.proofs.laws.Counts.{needs-exist}
use Rattle.tree_law.proofs.laws.DistinctCounts.{needs-distinct}
use Rattle.tree_law.proofs.laws.TouchedRegions.{region_in-touched}
use Rattle.tree_law.proofs.laws.Lines.{first_line-whole}
use Rattle.tree_law.specs.Freeing.{counts_of, rmids_of}
use Rattle.tree_law.specs.LawsCounts.{CanLook, NamesDomain}
use Rattle.tree_law.specs.Places.{control_at}
use Rattle.tree_law.specs.Resolving.{resolve}
use Rattle.tree_law.specs.Sound.{IsSound}
use Rattle.tree_law.specs.State.{State}
use Rattle.tree_law.specs.Steps.{after, after_accepted, needs, needs_accepted, refusal}
use Rattle.tree_law.specs.declared.follow.Follow.{Follow}
use Rattle.tree_law.specs.declared.follow.Follow.TheVariants as follows
use Rattle.tree_law.specs.commands.Drop as clflush
use Rattle.tree_law.specs.commands.Flush as flush
use Rattle.tree_law.specs.commands.Mode as mode
use Rattle.tree_law.specs.commands.Reads as read
use Rattle.tree_law.specs.commands.Schemata as schemata
use Rattle.tree_law.specs.commands.Touch as touch
use Rattle.tree_law.specs.commands.Write as write
use Rattle.run_law.proofs.laws.ListCounts.{same_length, length-if, length-flat_map_map, range-once, filter-all, range-once_of_all}
use Rattle.run_law.proofs.laws.LookQuotas.{looks-few, looks-counts_of}
use Rattle.run_law.proofs.laws.LineSlices.{slice_of_line-whole, length-filter_within}
use Rattle.machine.proofs.laws.Slices.{domain_in-slice_of_line}

module _ (m : Parameters) (s : State) (i k : ℕ) where
  -- what a follow-up owes
  abbrev owes : Follow → Owed
  owes f = record { epoch = k + 1; what = what_of f }

  -- one follow-up makes one entry at most
  follow-one : (f : Follow) → length (flat_map (follow_in m i (k + 1)) (f ∷ [])) ≤ 1
  follow-one f = omega (arith, length-append (follow_in m i (k + 1) f) [], length-if (is_entered_in m i f) (owes f))

  -- so do those of distinct domains
  follows-range : (g : ℕ → Follow) → ((d : ℕ) → is_entered_in m i (g d) ≡ (d == domain_in m i)) → (p : ℕ → Bool) → length (flat_map (follow_in m i (k + 1)) (map g (filter p (range_with_len 0 m.domains)))) ≤ 1
  follows-range g entered p = omega (
    arith,
    range-once (domain_in m i) p 0 m.domains,
    length-flat_map_map (λ d. d == domain_in m i) g (follow_in m i (k + 1)) (λ d. ap (λ b. length (if b then owes (g d) ∷ [] else [])) (entered d) ∙ same_length (d == domain_in m i) (owes (g d)) d) (filter p (range_with_len 0 m.domains)),
  )

  follows-all : (g : ℕ → Follow) → ((d : ℕ) → is_entered_in m i (g d) ≡ (d == domain_in m i)) → length (flat_map (follow_in m i (k + 1)) (map g (range_with_len 0 m.domains))) ≤ 1
  follows-all g entered = subst (λ ds. length (flat_map (follow_in m i (k + 1)) (map g ds)) ≤ 1) (filter-all (range_with_len 0 m.domains)) (follows-range g entered (λ x. true))

  -- what follows a write of masks
  follows-masks : (mode : Mode) (all : List Assignment) → length (flat_map (follow_in m i (k + 1)) (schemata.follow m s mode all)) ≤ 1
  follows-masks Shareable all = follows-range (λ d. follows.Raise d) (λ d. refl) (schemata.names_domain all)
  follows-masks Exclusive all = follows-range (λ d. follows.Raise d) (λ d. refl) (schemata.names_domain all)
  follows-masks LockSetup [] = omega arith
  follows-masks LockSetup (a ∷ all) = follow-one (follows.Lock a.domain a.mask (schemata.next_first_line s))
  follows-masks Locked all = omega arith

  follows-read : (g : Group) (read : Result (List Assignment) TextFault) → length (flat_map (follow_in m i (k + 1)) (schemata.after m s g read)) ≤ 1
  unfolding schemata.after
  follows-read g (Err fault) = omega arith
  follows-read g (Ok all) = follows-masks g.mode all

  -- what a write of a mode makes
  makes-mode : (g : Group) (text : List ℕ) → length (flat_map (look_in m i k) (counts_of m (mode.freed g text))) + length (flat_map (follow_in m i (k + 1)) (mode.after m g text)) ≤ 2
  unfolding mode.freed mode.after
  makes-mode g text = at (mode.is_present g.mode text) (mode.mode_in text)
    where
      freed : (o : Option Mode) → length (mode.freed_by g o) ≤ 1
      freed None = omega arith
      freed (Some x) = cond-both (λ (ids : List ℕ). length ids ≤ 1) (mode.is_setup x) (rmids_of g) [] (own g.rmid) (omega arith)
        where
          own : (o : Option ℕ) → length (option_to_list o) ≤ 1
          own None = omega arith
          own (Some id) = omega arith

      at : (b : Bool) (o : Option Mode) → length (flat_map (look_in m i k) (counts_of m (if b then [] else mode.freed_by g o))) + length (flat_map (follow_in m i (k + 1)) (if b then [] else map (λ d. follows.Raise d) (range_with_len 0 m.domains))) ≤ 2
      at true o = omega arith
      at false o = omega (arith, looks-counts_of m i k (mode.freed_by g o), freed o, follows-all (λ d. follows.Raise d) (λ d. refl))

  -- what a write makes
  makes-write : (path : PathRef) (text : List ℕ) → length (flat_map (look_in m i k) (counts_of m (write.freed s path text))) + length (flat_map (follow_in m i (k + 1)) (write.after m s path text)) ≤ write_quota path
  unfolding write.freed write.after
  makes-write (File dir kinds.Mode) text = at (control_at s dir)
    where
      at : (o : Option Group) → length (flat_map (look_in m i k) (counts_of m (option_map_or (λ g. mode.freed g text) o []))) + length (flat_map (follow_in m i (k + 1)) (option_map_or (λ g. mode.after m g text) o [])) ≤ 2
      at None = omega arith
      at (Some g) = makes-mode g text
  makes-write (File dir kinds.Schemata) text = at (control_at s dir)
    where
      at : (o : Option Group) → 0 + length (flat_map (follow_in m i (k + 1)) (option_map_or (λ g. schemata.after m s g (schemata.schemata_read m text)) o [])) ≤ 1
      at None = omega arith
      at (Some g) = omega (arith, follows-read g (schemata.schemata_read m text))
  makes-write path text = omega arith

  -- what a flush makes
  follows-flush : (domain : Option ℕ) → length (flat_map (follow_in m i (k + 1)) (flush.after m domain)) ≤ 1
  unfolding flush.after
  follows-flush None = follows-all (λ d. follows.Flush d) (λ d. refl)
  follows-flush (Some domain) = follow-one (follows.Flush domain)

  -- what a touch makes: an entry in the slice of its line, which is that of its offset
  follows-touch : (path : PathRef) (offset task cpu : ℕ) → InRange m → IsSound m s → length (flat_map (follow_in m i (k + 1)) (touch.after m s k path offset task cpu)) ≤ line_quota m i cpu offset
  unfolding touch.after
  follows-touch path offset task cpu range sound = at (touch.touched s path) refl
    where
      here : (r : Region) → r.first_line % m.sets ≡ 0 → length (flat_map (follow_in m i (k + 1)) (follows.Touch (touch.tag_of (resolve m s task cpu) (domain_of m cpu) (k + 1)) (r.first_line + offset / 64) ∷ [])) ≤ line_quota m i cpu offset
      here r whole =
          let f : Follow = follows.Touch (touch.tag_of (resolve m s task cpu) (domain_of m cpu) (k + 1)) (r.first_line + offset / 64) in
          let same : slice_of_line m (domain_of m cpu) (r.first_line + offset / 64) ≡ slice_of_line m (domain_of m cpu) (line_of offset) = slice_of_line-whole m (domain_of m cpu) r.first_line (offset / 64) whole in
          elim (cases_Bool (is_entered_in m i f)) [
            | inl enters ↦ (let one : line_quota m i cpu offset ≡ 1 = ap one_if (eq-eqb i (slice_of_line m (domain_of m cpu) (line_of offset)) (sym (eqb-true (slice_of_line m (domain_of m cpu) (r.first_line + offset / 64)) i enters) ∙ same)) in omega (arith, follow-one f, one))
            | inr away ↦ (let none : length (flat_map (follow_in m i (k + 1)) (f ∷ [])) ≡ 0 = ap (λ b. length (flat_map (λ (x : Follow). if b then owes x ∷ [] else []) (f ∷ []))) away in omega (arith, none))
          ]

      at : (o : Option (ℕ × Region)) → touch.touched s path ≡ o → length (flat_map (follow_in m i (k + 1)) (touch.follow m s k offset task cpu o)) ≤ line_quota m i cpu offset
      at None is = omega arith
      at (Some (domain, r)) is = here r (first_line-whole s.regions s.locks sound.lines m domain r range (region_in-touched s path domain r is))

  -- what a flush of a line makes: in each domain an entry in one slice
  follows-line : (addr : ℕ) → 0 < m.slices → length (flat_map (follow_in m i (k + 1)) (clflush.after_line m addr)) ≤ 1
  unfolding clflush.after_line
  follows-line addr some =
      let here : ℕ → Bool = λ d. slice_of_line m d (line_of addr) == i in
      omega (
        arith,
        length-flat_map_map here (λ d. follows.Drop d (line_of addr)) (follow_in m i (k + 1)) (λ d. same_length (here d) (owes (follows.Drop d (line_of addr))) d) (range_with_len 0 m.domains),
        length-filter_within here (domain_in m i) (λ d there. eq-eqb d (domain_in m i) (sym (domain_in-slice_of_line m d (line_of addr) some) ∙ ap (domain_in m) (eqb-true (slice_of_line m d (line_of addr)) i there))) (range_with_len 0 m.domains),
        range-once_of_all (domain_in m i) 0 m.domains,
      )

  -- what a flush of a line of a region makes
  follows-region : (path : PathRef) (offset : ℕ) → length (flat_map (follow_in m i (k + 1)) (clflush.after_region s path offset)) ≤ 1
  unfolding clflush.after_region
  follows-region path offset = at (touch.touched s path)
    where
      at : (o : Option (ℕ × Region)) → length (flat_map (follow_in m i (k + 1)) (clflush.follow offset o)) ≤ 1
      at None = omega arith
      at (Some (domain, r)) = follow-one (follows.Drop domain (r.first_line + offset / 64))

  -- what a read looks at
  looks-read : (path : PathRef) → All (CanLook m) (read.needs s path) → AllPairs (λ (a b : ℕ × ℕ). a ≢ b) (read.needs s path) → length (flat_map (look_in m i k) (read.needs s path)) ≤ read_quota m path
  unfolding read.needs
  looks-read (File (MonDomain holder domain) kinds.Occupancy) exist distinct = looks-few m i k (read.needs s (File (MonDomain holder domain) kinds.Occupancy)) exist distinct
  looks-read path exist distinct = omega arith

  -- what an accepted command makes
  makes-accepted : (op : Op) → InRange m → IsSound m s → All (CanLook m) (needs_accepted m s op) → AllPairs (λ (a b : ℕ × ℕ). a ≢ b) (needs_accepted m s op)
      → length (flat_map (look_in m i k) (needs_accepted m s op)) + length (flat_map (follow_in m i (k + 1)) (after_accepted m s k op)) ≤ quota m i op
  makes-accepted (ops.Rmdir path) range sound exist distinct = omega (arith, looks-few m i k (needs_accepted m s (ops.Rmdir path)) exist distinct, follows-all (λ d. follows.Raise d) (λ d. refl))
  makes-accepted (ops.Write path text) range sound exist distinct = makes-write path text
  makes-accepted (ops.Read path) range sound exist distinct = omega (arith, looks-read path exist distinct)
  makes-accepted (ops.Flush domain) range sound exist distinct = omega (arith, follows-flush domain)
  makes-accepted ops.Tick range sound exist distinct = omega (arith, looks-few m i k (needs_accepted m s ops.Tick) exist distinct)
  makes-accepted (ops.Touch cpu path task offset) range sound exist distinct = omega (arith, follows-touch path offset task cpu range sound)
  makes-accepted (ops.DropLine addr) range sound exist distinct = omega (arith, follows-line addr range.some_slice)
  makes-accepted (ops.DropRegion path offset) range sound exist distinct = omega (arith, follows-region path offset)
  makes-accepted op range sound exist distinct = omega arith

  -- what a command makes
  pub makes-few : (op : Op) → InRange m → IsSound m s → NamesDomain m op → length (flat_map (look_in m i k) (needs m s op) ++ flat_map (follow_in m i (k + 1)) (after m s k op)) ≤ quota m i op
  unfolding needs after
  makes-few op range sound exists = omega (arith, length-append (flat_map (look_in m i k) (needs m s op)) (flat_map (follow_in m i (k + 1)) (after m s k op)), at (is_some (refusal m s op)) (needs-exist m s op sound exists) (needs-distinct m s op sound))
    where
      at : (b : Bool) → All (CanLook m) (if b then [] else needs_accepted m s op) → AllPairs (λ (a b : ℕ × ℕ). a ≢ b) (if b then [] else needs_accepted m s op)
          → length (flat_map (look_in m i k) (if b then [] else needs_accepted m s op)) + length (flat_map (follow_in m i (k + 1)) (if b then [] else after_accepted m s k op)) ≤ quota m i op
      at true exist distinct = omega arith
      at false exist distinct = makes-accepted op range sound exist distinct

-- what a command owes to a slice, at its position in a history after which the tree is sound
pub owed_by_command-few : (script : ScriptValue) (tree : List TreeEntryValue) (i k : ℕ) (op : Op) → InRange script.machine → IsSound script.machine (tree_after script (take k tree)) → NamesDomain script.machine op
    → length (owed_by_command script tree i k op) ≤ quota script.machine i op
unfolding owed_by_command
owed_by_command-few script tree i k op range sound exists = makes-few script.machine (tree_after script (take k tree)) i k op range sound exists
