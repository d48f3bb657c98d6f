-- One cache of a level in a joint window: what a use of the group does there.
use Rattle.std.proofs.Common.{◌≡◌, ℕ, ◌+◌, ◌-◌, ◌%◌, ◌<◌, ◌≤◌, Bool, true, false, not, ◌==◌, ◌&&◌, List, [], ◌∷◌, ◌++◌, length, map, take, get_or, Option, Some, inl, inr, refl, sym, subst, ap, ◌∙◌, arith}
use Rattle.std.specs.List.{All, flat_map, list_any, range_with_len}
use Rattle.std.proofs.lemmas.Bool.{and_cases, and_from, and_parts, and_left, and_right, eq-eqb}
use Rattle.std.proofs.lemmas.List.{append_assoc, length-append}
use Rattle.std.proofs.lemmas.List.Elements.{All-push}
use Rattle.std.proofs.lemmas.List.Folds.{list_any_none}
use Rattle.cache_core.specs.History.{IsLegal, Shape, shape_of}
use Rattle.cache_core.specs.declared.entry.SliceEntry.{SliceEntry}
use Rattle.cache_core.specs.declared.entry.What.{What}
use Rattle.cache_core.specs.declared.entry.What.TheVariants as whats
use Rattle.cbm.specs.Masks.{ways_of}
use Rattle.machine.specs.Ranges.{InRange}
use Rattle.pair_law.proofs.laws.Machines.{side_machine-range}
use Rattle.pair_law.proofs.laws.Epochs.{IsSound-state_at}
use Rattle.pair_law.specs.Epochs.{state_at}
use Rattle.pair_law.specs.Registers.{mask_of_group}
use Rattle.pair_text.specs.Values.{IsLawful, PairScriptValue, epoch_at, op_at, side_machine}
use Rattle.pair_text.specs.declared.op.PairOp.{PairOp}
use Rattle.pair_text.specs.declared.op.PairOp.TheVariants as ops
use Rattle.pair_text.specs.declared.side.Side.{Side}
use Rattle.pair_text.specs.declared.side.Side.TheVariants.{Second}
use Rattle.pair_law.proofs.laws.Cuts.{All-flat_map_range, Cut, cut-range}
use Rattle.pair_law.proofs.Sides.{HasSide, IsValid-side}
use Rattle.pair_law.proofs.laws.Undecided.{All-undecided, IsAccess, Respects-undecided, is_loaded_use-flush, is_other_use-undecided, is_use-undecided, items-asked, what-access, what-flush}
use Rattle.pair_law.proofs.Windows.{between-parts, get_or-after, take-front}
use Rattle.pair_law.specs.Entries.{asked_by, entry, slice_in}
use Rattle.run_law.specs.Owed.{undecided}
use Rattle.pair_law.specs.JointWindows as joint
use Rattle.pair_law.specs.LevelRuns.{IsLevelRun, LevelJournalsValue, asked_at, asked_of_op, domain_on, has_at, is_hit, is_miss, level, reaches, user_at}
use Rattle.pair_law.proofs.LevelAsks.{Respects-asked, asked_of_op-each, has_at-asked, is_use-asked}
use Rattle.private_lru.proofs.laws.SliceWindows.{IsIsolated-between}
use Rattle.private_lru.specs.Covered.{is_covered, is_loaded_use, is_other_use, is_use, items, uses_line}
use Rattle.private_lru.specs.Isolation.{HitsAsPrivate, IsIsolated, Opens, Respects, between}
use Rattle.private_lru.specs.Private.{private_hit}
use Rattle.private_lru.specs.declared.item.Item.{Item}
use Rattle.rc_base.specs.declared.names.Gid.{Gid}

-- one cache of a level, whose ways of a mask are an exclusive group's from a flush on up to an op
module _ (script : PairScriptValue) (j : LevelJournalsValue) (lawful : IsLawful script) (run : IsLevelRun script j) (side : Side) (x : ℕ) (exists : x < (side_machine script.machines side).domains) (domain : ℕ) (group : Gid) (mask : ℕ) (from to : ℕ)
    (opens : op_at script from ≡ Some ops.Flush) (within : to ≤ length script.ops)
    (stays : (k : ℕ) → from < k → k < to → (joint.is_flush (op_at script k) ≡ false) × HasSide side x group mask (state_at script (epoch_at script k)))
    (above : (k task cpu line : ℕ) (code : Bool) → op_at script k ≡ Some (ops.Use task cpu line code) → (domain_on script side cpu == x) ≡ true → (domain_on script Second cpu == domain) ≡ true) where
  abbrev entries : List SliceEntry
  entries = slice_in (level j side) x

  abbrev f : ℕ → List SliceEntry
  f k = asked_at script j side x k

  module _ (i task cpu line : ℕ) (code : Bool) (late : from < i) (early : i < to) (is : op_at script i ≡ Some (ops.Use task cpu line code)) (here : ((domain_on script side cpu == x) && reaches script j side i cpu) ≡ true) (mine : (user_at script i task).0 ≡ group.0)
      (covered : (k : ℕ) → from < k → k < i → joint.is_other_use script domain group.0 from to k (op_at script k) ≡ false) where
    -- its access, as it is asked for
    abbrev wanted : SliceEntry
    wanted = entry i (epoch_at script i) (whats.Access false 0 (user_at script i task) 0 (mask_of_group (state_at script (epoch_at script i)) side x (user_at script i task)) line)

    f-own : f i ≡ wanted ∷ []
    f-own = ap (asked_of_op script j side x i) is ∙ rw here refl

    f-flush : f from ≡ entry from (epoch_at script from + 1) whats.Flush ∷ []
    f-flush = ap (asked_of_op script j side x from) opens

    -- the entries before it, it, and those after it
    pub cut : Cut asked_by entries (flat_map f (range_with_len 0 i)) wanted (flat_map f (range_with_len (i + 1) (length script.ops - (i + 1))))
    cut = cut-range asked_by entries f (length script.ops) i wanted ((run side).entries x exists) (omega arith) f-own

    -- and of those before it, the flush and those since
    pub flush_cut : Cut asked_by cut.left (flat_map f (range_with_len 0 from)) (entry from (epoch_at script from + 1) whats.Flush) (flat_map f (range_with_len (from + 1) (i - (from + 1))))
    flush_cut = cut-range asked_by cut.left f i from (entry from (epoch_at script from + 1) whats.Flush) cut.left_is late f-flush

    -- the access
    abbrev e : SliceEntry
    e = cut.here

    abbrev before : List SliceEntry
    before = flush_cut.left

    abbrev opening : SliceEntry
    opening = flush_cut.here

    -- the entries since the flush, and with it
    abbrev since : List SliceEntry
    since = flush_cut.right

    abbrev window : List SliceEntry
    window = since ++ e ∷ []

    abbrev after : List SliceEntry
    after = cut.right

    asked_since : map asked_by since ≡ flat_map f (range_with_len (from + 1) (i - (from + 1)))
    asked_since = flush_cut.right_is

    e-wanted : undecided e.what ≡ whats.Access false 0 (user_at script i task) 0 (mask_of_group (state_at script (epoch_at script i)) side x (user_at script i task)) line
    e-wanted = ap (λ (y : SliceEntry). y.what) cut.here_is

    opening-flush : opening.what ≡ whats.Flush
    opening-flush = what-flush opening.what (ap (λ (y : SliceEntry). y.what) flush_cut.here_is)

    -- all entries, from the flush on
    whole : entries ≡ before ++ opening ∷ (window ++ after)
    whole =
        cut.whole
        ∙ (ap (λ (l : List SliceEntry). l ++ e ∷ after) flush_cut.whole
        ∙ (append_assoc before (opening ∷ since) (e ∷ after)
        ∙ ap (λ (l : List SliceEntry). before ++ opening ∷ l) (sym (append_assoc since (e ∷ []) after))))

    -- what holds of what each op of the window asks for holds of its entries
    All-window : (P : What → Type 0) → ((w : What) → P (undecided w) → P w) → ((k : ℕ) → from < k → k < to → All (λ (y : SliceEntry). P y.what) (f k)) → All (λ (y : SliceEntry). P y.what) window
    All-window P same each =
        All-push (λ (y : SliceEntry). P y.what) since e
        (All-undecided P same since (flat_map f (range_with_len (from + 1) (i - (from + 1)))) asked_since
        (All-flat_map_range (λ (y : SliceEntry). P y.what) f (from + 1) (i - (from + 1)) (λ k low high. each k (omega arith) (omega arith))))
        (same e.what (subst P (sym e-wanted) (subst (All (λ (y : SliceEntry). P y.what)) f-own (each i late early) 0 wanted (omega arith))))

    -- a line that the group does not use in the window is used by none of its entries
    uses_line-window : (its : ℕ) → joint.uses_line script domain group.0 from to its ≡ false → uses_line group.0 window its ≡ false
    uses_line-window its none = list_any_none (λ (y : SliceEntry). is_use group.0 its y.what) window (All-window (λ (w : What). is_use group.0 its w ≡ false) (is_use-undecided group.0 its) (is_use-asked script j side x group mask from to stays domain its above none))

    -- no entry before the access is another owner's use of a line of the group's
    is_other_use-asked : (k : ℕ) → from < k → k < i → All (λ (y : SliceEntry). is_other_use group.0 window y.what ≡ false) (f k)
    is_other_use-asked k late' early' = asked_of_op-each script j side x k (λ (y : SliceEntry). is_other_use group.0 window y.what ≡ false) (op_at script k) (stays k late' (omega arith)).0
        (λ task' cpu' its code' is' here'.
        let there : (domain_on script Second cpu' == domain) ≡ true = above k task' cpu' its code' is' (and_parts (domain_on script side cpu' == x) (reaches script j side k cpu') here').0 in
        let other : ((domain_on script Second cpu' == domain) && not ((user_at script k task').0 == group.0) && joint.uses_line script domain group.0 from to its) ≡ false =
        subst (λ (o : Option PairOp). joint.is_other_use script domain group.0 from to k o ≡ false) is' (covered k late' early') in
        let parts : (not ((user_at script k task').0 == group.0) && joint.uses_line script domain group.0 from to its) ≡ false = rw there at other in
        elim (and_cases (not ((user_at script k task').0 == group.0)) (joint.uses_line script domain group.0 from to its) parts) [
          | inl a ↦ and_left (not ((user_at script k task').0 == group.0)) (uses_line group.0 window its) a
          | inr b ↦ and_right (not ((user_at script k task').0 == group.0)) (uses_line group.0 window its) (uses_line-window its b)
        ])

    abbrev sets : ℕ
    sets = (side_machine script.machines side).sets

    -- the access is covered in the slice
    is_covered-since : is_covered sets group.0 opening.what window since ≡ true
    is_covered-since = subst (λ (w : What). is_covered sets group.0 w window since ≡ true) (sym opening-flush)
        (and_from (not (list_any (λ (y : SliceEntry). is_loaded_use sets group.0 whats.Flush y.what) window)) (not (list_any (λ (y : SliceEntry). is_other_use group.0 window y.what) since))
        (ap not (list_any_none (λ (y : SliceEntry). is_loaded_use sets group.0 whats.Flush y.what) window (λ k d within. is_loaded_use-flush sets group.0 (get_or window k d).what)))
        (ap not (list_any_none (λ (y : SliceEntry). is_other_use group.0 window y.what) since
        (All-undecided (λ (w : What). is_other_use group.0 window w ≡ false) (is_other_use-undecided group.0 window) since (flat_map f (range_with_len (from + 1) (i - (from + 1)))) asked_since
        (All-flat_map_range (λ (y : SliceEntry). is_other_use group.0 window y.what ≡ false) f (from + 1) (i - (from + 1)) (λ k low high. is_other_use-asked k (omega arith) (omega arith)))))))

    -- the slice is isolated since the flush
    isolated : IsIsolated sets group.0 (length (ways_of mask)) opening.what window
    isolated =
        let range : InRange (side_machine script.machines side) = side_machine-range script.machines lawful.machines side in
        let limit = range.way_limit in
        let shape : Shape = shape_of (side_machine script.machines side) 0 in
        let all : List SliceEntry = before ++ opening ∷ (window ++ after) in
        let legal : IsLegal shape all = subst (IsLegal shape) whole ((run side).legal x exists) in
        let to' : ℕ = length before + (length window + 1) in
        let is_window : between all (length before) to' ≡ window = between-parts before opening window after in
        let long : length all ≡ length before + length (opening ∷ (window ++ after)) = length-append before (opening ∷ (window ++ after)) in
        let inner : length (window ++ after) ≡ length window + length after = length-append window after in
        let more : length (opening ∷ (window ++ after)) ≡ length (window ++ after) + 1 = omega arith in
        subst (λ (l : List SliceEntry). IsIsolated sets group.0 (length (ways_of mask)) opening.what l) is_window
        (IsIsolated-between shape all (length before) to' group.0 mask opening range.some_set (omega (arith, limit))
        (IsValid-side script.machines (state_at script (epoch_at script i)) (IsSound-state_at script (epoch_at script i) lawful) side x exists group mask (stays i late early).1).bounded
        legal (omega arith) (omega (arith, long, inner, more))
        (sym (get_or-after before opening (window ++ after) opening))
        (subst (Opens mask) (sym opening-flush) tt)
        (subst (All (λ (y : SliceEntry). Respects group.0 mask y.what)) (sym is_window) (All-window (Respects group.0 mask) (Respects-undecided group.0 mask) (Respects-asked script j side x group mask from to stays lawful exists))))

    -- the group's items since the flush, with these lines as its own
    abbrev lines : (ℕ → Bool) → List Item
    lines own = items sets group.0 (line % sets) own (flat_map f (range_with_len (from + 1) (i - (from + 1))))

    -- the lines that the group uses
    abbrev used : ℕ → Bool
    used = uses_line group.0 window

    -- it hits just where it does in a private cache
    hit-private : (a : IsAccess e.what (user_at script i task) 0 (mask_of_group (state_at script (epoch_at script i)) side x (user_at script i task)) line) → a.hit ≡ private_hit (length (ways_of mask)) (lines used) line
    hit-private a =
        let front : take (length since) window ≡ since = take-front since (e ∷ []) (length since) refl in
        let at_end : get_or window (length since) e ≡ e = get_or-after since e [] e in
        let long : length window ≡ length since + 1 = length-append since (e ∷ []) in
        let done : HitsAsPrivate sets group.0 used (length (ways_of mask)) (take (length since) window) (get_or window (length since) e).what =
        isolated (length since) e (omega arith) (subst (λ (l : List SliceEntry). is_covered sets group.0 opening.what window l ≡ true) (sym front) is_covered-since) in
        let here' : HitsAsPrivate sets group.0 used (length (ways_of mask)) since e.what =
        subst (λ (l : List SliceEntry). HitsAsPrivate sets group.0 used (length (ways_of mask)) l e.what) front (subst (λ (y : SliceEntry). HitsAsPrivate sets group.0 used (length (ways_of mask)) (take (length since) window) y.what) at_end done) in
        let said : HitsAsPrivate sets group.0 used (length (ways_of mask)) since (whats.Access a.hit a.way (user_at script i task) 0 (mask_of_group (state_at script (epoch_at script i)) side x (user_at script i task)) line) =
        subst (HitsAsPrivate sets group.0 used (length (ways_of mask)) since) a.is here' in
        said (eq-eqb (user_at script i task).0 group.0 mine)
        ∙ ap (λ (l : List Item). private_hit (length (ways_of mask)) l line) (items-asked sets group.0 (line % sets) used since (flat_map f (range_with_len (from + 1) (i - (from + 1)))) asked_since)

    -- it is the op's only entry
    has_at-e : (p : What → Bool) → has_at entries i p ≡ p e.what
    has_at-e = has_at-asked script j side x i (length script.ops - (i + 1)) entries wanted refl cut

    -- a use that is asked here hits exactly where it does in a private cache, and misses where it does not
    pub has_at-private : (own : ℕ → Bool) × ((has_at entries i is_hit ≡ private_hit (length (ways_of mask)) (lines own) line) × (has_at entries i is_miss ≡ not (private_hit (length (ways_of mask)) (lines own) line)))
    has_at-private =
        let a = what-access e.what (user_at script i task) 0 (mask_of_group (state_at script (epoch_at script i)) side x (user_at script i task)) line e-wanted in
        let hit = hit-private a in
        (used, (has_at-e is_hit ∙ (ap is_hit a.is ∙ hit), has_at-e is_miss ∙ (ap is_miss a.is ∙ ap not hit)))
