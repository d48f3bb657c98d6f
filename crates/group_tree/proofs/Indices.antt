-- Indices: what an edit leaves.
use Rattle.std.proofs.Common.{◌≡◌, ◌≢◌, ℕ, zero, suc, ◌+◌, ◌-◌, ◌<◌, ◌≤◌, Bool, true, false, not, List, [], ◌∷◌, ◌++◌, length, map, filter, set, get_or, All, HoldsAt, insert, remove, length-set, refl, sym, ap, ◌∙◌, subst, arith, inl, inr}
use Rattle.std.specs.List.{AllWithin}
use Rattle.std.proofs.lemmas.Bool.{cases_eq, cases_lt, cond-false, cond-true, eq-eqb, eqb-false, le-ltb, lt-ltb, ne_eqb, not-true}
use Rattle.std.proofs.lemmas.Bool.Decides.{nat_tests}
use Rattle.std.proofs.lemmas.List.{get_or_append_left, get_or_push, get_or-set_other, get_or-set_same, length-map, length_push}
use Rattle.std.proofs.lemmas.List.Edits.{get_or-remove_above, get_or-remove_below, length-insert, length-remove}
use Rattle.std.proofs.lemmas.List.Elements.{All-filter, All-weaker, filter_passes}
use Rattle.std.proofs.lemmas.List.Filters.{length-filter_both}
use Rattle.std.proofs.lemmas.List.Kept.{AllPairs-filter}
use Rattle.std.proofs.lemmas.List.Sums.{length-filter, sum_by-insert}
use Rattle.group_tree.specs.Indices.{IsEntryOf, IsIndex, IsIndexBut, in_order, is_at, lowered, precedes}
use Rattle.group_tree.specs.declared.group.Group.{Group}
use Rattle.group_tree.specs.declared.index.Entry.{Entry}
use Rattle.group_tree.specs.declared.key.Key.{Key}
use Rattle.group_tree.proofs.Orders.{in_order-lowered, in_order-precedes}
use Rattle.group_tree.proofs.IndexEntries.{count_at, count_by-none, count_by-filter, count_by-lowered, AllPairs-insert, All-insert, get_or-map}

-- the index of one group
pub IsIndex-one : (key_of : Group → Key) (g : Group) (key : Key) → key_of g ≡ key → IsIndex key_of (g ∷ []) (record { key = key; place = 0 } ∷ [])
IsIndex-one key_of g key is = record {
  size = refl;
  rising = λ i j d lt within. absurd (omega arith);
  right = right;
  once = λ place within. let first : place ≡ 0 = omega arith in rw first refl;
}
  where
    right : All (IsEntryOf key_of (g ∷ [])) (record { key = key; place = 0 } ∷ [])
    right zero d within = record { within = omega arith; key = λ other. is }
    right (suc k) d within = absurd (omega arith)

-- a group that comes last has no entry yet
pub IsIndexBut-last : (key_of : Group → Key) (groups : List Group) (entries : List Entry) (g : Group) (place : ℕ) → place ≡ length groups → IsIndex key_of groups entries → IsIndexBut place key_of (groups ++ g ∷ []) entries
IsIndexBut-last key_of groups entries g place last index =
    let long = length_push groups g in
    record {
      within = omega (arith, long, last);
      size = omega (arith, long, index.size);
      rising = index.rising;
      right = λ k d h. let entry = index.right k d h in record {
        within = omega (arith, long, entry.within);
        key = λ other. ap key_of (get_or_append_left groups (g ∷ []) other (get_or entries k d).place entry.within) ∙ entry.key other;
      };
      apart = λ k d h same. let entry = index.right k d h in omega (arith, entry.within, same, last);
      once = λ inside within other. index.once inside (omega (arith, long, other, last));
    }

-- its key
pub HoldsAt-last : (key_of : Group → Key) (groups : List Group) (g : Group) (place : ℕ) (key : Key) → place ≡ length groups → key ≡ key_of g → HoldsAt (λ x. key_of x ≡ key) (groups ++ g ∷ []) place
HoldsAt-last key_of groups g place key last is = λ d. ap key_of (get_or_push groups g d place (sym last)) ∙ sym is

-- the gap's entry is entered
pub IsIndex-insert : (key_of : Group → Key) (groups : List Group) (entries : List Entry) (new : Entry) (from : ℕ) → IsIndexBut new.place key_of groups entries → HoldsAt (λ g. key_of g ≡ new.key) groups new.place
    → from ≤ length entries → AllWithin (λ e. precedes e new ≡ true) entries 0 from → AllWithin (λ e. precedes e new ≡ false) entries from (length entries) → IsIndex key_of groups (insert entries from new)
IsIndex-insert key_of groups entries new from but there bound before after = record {
  size = omega (arith, length-insert entries from new bound, but.size);
  rising = AllPairs-insert in_order entries from new but.rising bound (λ k d lt. in_order-precedes (get_or entries k d) new (before k d (omega arith) lt)) (λ k d le lt. ap not (after k d le lt));
  right = All-insert (IsEntryOf key_of groups) entries from new but.right (record { within = but.within; key = there });
  once = λ place within.
      let more = sum_by-insert (count_at place) entries from new in
      elim (cases_eq new.place place) [
        | inl same ↦ (let one : count_at place new ≡ 1 = cond-true _ 1 0 (eq-eqb new.place place same) in
            let none = count_by-none place entries (λ k d h e. but.apart k d h (e ∙ sym same)) in omega (arith, more, one, none))
        | inr other ↦ (let nothing : count_at place new ≡ 0 = cond-false _ 1 0 (ne_eqb new.place place other) in
            let one = but.once place within (λ e. other (sym e)) in omega (arith, more, nothing, one))
      ];
}

-- the entry of a group is struck
pub IsIndexBut-filter : (key_of : Group → Key) (groups : List Group) (entries : List Entry) (gone : ℕ) → IsIndex key_of groups entries → gone < length groups → IsIndexBut gone key_of groups (filter (λ e. not (is_at gone e)) entries)
IsIndexBut-filter key_of groups entries gone index within =
    let kept : Entry → Bool = λ e. not (is_at gone e) in
    record {
      within = within;
      size = omega (arith, length-filter_both kept (is_at gone) (λ e. not_not (is_at gone e)) entries, length-filter (is_at gone) entries, index.once gone within, index.size);
      rising = AllPairs-filter (λ a b. in_order a b ≡ true) kept entries index.rising;
      right = All-filter kept (IsEntryOf key_of groups) entries index.right;
      apart = All-weaker (λ e. kept e ≡ true) (λ e. e.place ≢ gone) (λ e passes. eqb-false e.place gone (not-true _ passes)) (filter kept entries) (filter_passes kept entries);
      once = λ place inside other. count_by-filter place gone other entries ∙ index.once place inside;
    }
  where
    not_not : (b : Bool) → b ≡ not (not b)
    not_not true = refl
    not_not false = refl

-- another record in the gap
pub IsIndexBut-set : (gap : ℕ) (key_of : Group → Key) (groups : List Group) (entries : List Entry) (new : Group) → IsIndexBut gap key_of groups entries → IsIndexBut gap key_of (set groups gap new) entries
IsIndexBut-set gap key_of groups entries new but =
    let long = length-set groups gap new in
    record {
      within = omega (arith, long, but.within);
      size = omega (arith, long, but.size);
      rising = but.rising;
      right = λ k d h. let entry = but.right k d h in record {
        within = omega (arith, long, entry.within);
        key = λ other. ap key_of (get_or-set_other groups gap (get_or entries k d).place new other (but.apart k d h)) ∙ entry.key other;
      };
      apart = but.apart;
      once = λ place inside other. but.once place (omega (arith, long)) other;
    }

-- another record with the same key
pub IsIndex-set : (place : ℕ) (key_of : Group → Key) (groups : List Group) (entries : List Entry) (new : Group) → place < length groups → HoldsAt (λ old. key_of old ≡ key_of new) groups place → IsIndex key_of groups entries → IsIndex key_of (set groups place new) entries
IsIndex-set place key_of groups entries new inside keeps index =
    let long = length-set groups place new in
    record {
      size = omega (arith, long, index.size);
      rising = index.rising;
      right = λ k d h. let entry = index.right k d h in record {
        within = omega (arith, long, entry.within);
        key = λ other. elim (cases_eq (get_or entries k d).place place) [
          | inl same ↦ (let at : key_of (get_or groups place other) ≡ (get_or entries k d).key = subst (λ (n : ℕ). key_of (get_or groups n other) ≡ (get_or entries k d).key) same (entry.key other) in
              subst (λ (n : ℕ). key_of (get_or (set groups place new) n other) ≡ (get_or entries k d).key) (sym same) (ap key_of (get_or-set_same groups place new other inside) ∙ sym (keeps other) ∙ at))
          | inr apart ↦ ap key_of (get_or-set_other groups place (get_or entries k d).place new other apart) ∙ entry.key other
        ];
      };
      once = λ place within. index.once place (omega (arith, long));
    }

-- an entry of another group than the one that goes
IsEntryOf-lowered : (gap : ℕ) (key_of : Group → Key) (groups : List Group) (e : Entry) → gap < length groups → e.place ≢ gap → IsEntryOf key_of groups e → IsEntryOf key_of (remove groups gap) (lowered gap e)
IsEntryOf-lowered gap key_of groups e inside apart entry =
    let long = length-remove groups gap inside in
    elim (cases_lt gap e.place) [
      | inl later ↦ (let lower : (lowered gap e).place ≡ e.place - 1 = cond-true _ _ _ (lt-ltb gap e.place later) in
          record {
            within = omega (arith, long, lower, later, entry.within);
            key = λ other. let up : e.place - 1 + 1 ≡ e.place = omega (arith, later) in
                ap key_of (ap (λ (n : ℕ). get_or (remove groups gap) n other) lower ∙ get_or-remove_above groups gap other (e.place - 1) (omega (arith, later)) inside ∙ ap (λ (n : ℕ). get_or groups n other) up) ∙ entry.key other;
          })
      | inr past ↦ (let stays : (lowered gap e).place ≡ e.place = cond-false _ _ _ (le-ltb gap e.place past) in
          let earlier : e.place < gap = omega (arith, past, apart) in
          record {
            within = omega (arith, long, stays, earlier, inside);
            key = λ other. ap key_of (ap (λ (n : ℕ). get_or (remove groups gap) n other) stays ∙ get_or-remove_below groups gap other e.place earlier inside) ∙ entry.key other;
          })
    ]

-- the gap is closed
pub IsIndex-lowered : (gap : ℕ) (key_of : Group → Key) (groups : List Group) (entries : List Entry) → IsIndexBut gap key_of groups entries → IsIndex key_of (remove groups gap) (map (lowered gap) entries)
IsIndex-lowered gap key_of groups entries but =
    let fewer = length-remove groups gap but.within in
    let long = length-map entries (lowered gap) in
    record {
      size = omega (arith, fewer, long, but.size);
      rising = λ i j d lt within.
          let first = get_or-map (lowered gap) entries i d d (omega (arith, long)) in
          let second = get_or-map (lowered gap) entries j d d (omega (arith, long)) in
          rw (first, second) (in_order-lowered gap (get_or entries i d) (get_or entries j d) (but.apart i d (omega (arith, long))) (but.apart j d (omega (arith, long))) (but.rising i j d lt (omega (arith, long))));
      right = λ k d h. let h' : k < length entries = omega (arith, long) in
          subst (λ (e : Entry). IsEntryOf key_of (remove groups gap) e) (sym (get_or-map (lowered gap) entries k d d h')) (IsEntryOf-lowered gap key_of groups (get_or entries k d) but.within (but.apart k d h') (but.right k d h'));
      once = λ place within. elim (cases_lt place gap) [
        | inl lower ↦ count_by-lowered gap place place (λ x apart. grind (arith, nat_tests)) entries but.apart ∙ but.once place (omega (arith, fewer)) (λ e. omega (arith, e, lower))
        | inr past ↦ count_by-lowered gap place (place + 1) (λ x apart. grind (arith, nat_tests)) entries but.apart ∙ but.once (place + 1) (omega (arith, fewer)) (λ e. omega (arith, e, past))
      ];
    }
