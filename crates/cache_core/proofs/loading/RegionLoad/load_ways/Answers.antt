use Rattle.std.proofs.Common.{◌≡◌, ℕ, ◌+◌, ◌*◌, ◌<◌, ◌≤◌, true, false, cond, List, [], Option, Some, None, length, slice_set, refl, subst, sym, ◌∙◌, ap, arith, add-zero}
use Rattle.std.specs.Prelude.{nat_lt}
use Rattle.std.proofs.lemmas.Bool.{le-ltb}
use Rattle.std.proofs.lemmas.List.{get_or-set_same, length-set, set-get_or, set-set}
use Rattle.cbm.specs.Masks.{has_way}
use Rattle.cache_core.specs.declared.emptied.Emptied.TheVariants.{Locked}
use Rattle.cache_core.specs.declared.cached_line.CachedLine.{CachedLine}
use Rattle.cache_core.specs.Lazy.{left_set, region_place}
use Rattle.cache_core.specs.Loads.{loaded}
use Rattle.cache_core.specs.Places.{place_in, set_in}
use Rattle.cache_core.proofs.RegionLoads.{left_set-loaded, line-next, lt-line, place_in-loaded, place_in-passed}
use Rattle.cache_core.proofs.loading.RegionLoad.load_ways.Goals as goal
use Rattle.cache_core.proofs.loading.RegionLoad.load_ways.Goals.{then-holds, else-holds}

pub loop-way-init : goal.loop-way-init
loop-way-init c =
    let r = c.args.self.now in
    record {
      line = ap (λ n. r.first_line + n * c.from-2.result) c.from.ensures ∙ (ap (λ n. r.first_line + c.args.set * n) c.from-2.ensures ∙ omega arith);
      others = sym (set-get_or c.args.sets.now c.args.set []);
      width = refl;
      loaded = λ w. c.requires.empty w ∙ sym (ap (λ b. cond b (region_place r c.args.set w) None) (le-ltb w 0 (omega arith)));
    }

pub overflow_add-line-then-holds : goal.overflow_add-line-then-holds
overflow_add-line-then-holds c =
    let r = c.args.self.now in
    omega (arith, c.loop-way.invariant.line, c.from-line.ensures, c.from-line.type_inv, lt-line r.first_line c.args.set r.set_step r.mask c.loop-way.way r.way_step r.far (omega arith) (omega arith) (omega (arith, c.loop-way-test.true, c.ways-way-end.ensures.limit)) (omega arith))

pub loop-way-preserved : goal.loop-way-preserved
loop-way-preserved c =
    let r = c.args.self.now in
    let l = c.loop-way in
    let row : List (Option CachedLine) = set_in l.sets c.args.set in
    elim c.if-holds.branch [
      | then-holds w ↦
          let has : has_way r.mask l.way ≡ true = sym w.if-holds.ensures in
          let new : List (Option CachedLine) = slice_set row l.way (loaded l.line r.stamp) in
          let put : w.put.new.self ≡ slice_set l.sets c.args.set new = w.put.ensures.put ∙ ap (λ (p : CachedLine). slice_set l.sets c.args.set (slice_set row l.way (Some p))) w.place.ensures in
          let within : c.args.set < length l.sets = omega (arith, c.requires.set, ap length l.invariant.others, length-set c.args.sets.now c.args.set row) in
          let here : set_in w.put.new.self c.args.set ≡ new = ap (λ (ps : List (List (Option CachedLine))). set_in ps c.args.set) put ∙ get_or-set_same l.sets c.args.set new [] within in
          let inside : l.way < length row = omega (arith, l.invariant.width, c.ways-way-end.ensures.widths c.args.set c.requires.set, c.loop-way-test.true) in
          rw w.sets-is (record {
            line = line-next (r.first_line + c.args.set * r.set_step) r.mask l.way r.way_step l.line c.if-holds.line true has l.invariant.line (w.line-is ∙ ap (λ n. l.line + n) w.from-line.ensures);
            others = put ∙ (ap (λ (ps : List (List (Option CachedLine))). slice_set ps c.args.set new) l.invariant.others ∙ (set-set c.args.sets.now c.args.set row new ∙ ap (λ (ps : List (Option CachedLine)). slice_set c.args.sets.now c.args.set ps) (sym here)));
            width = ap length here ∙ (length-set row l.way (loaded l.line r.stamp) ∙ l.invariant.width);
            loaded = subst (λ (ps : List (Option CachedLine)). (v : ℕ) → place_in ps v ≡ cond (nat_lt v (l.way + 1)) (region_place r c.args.set v) None) (sym here) (place_in-loaded r c.args.set l.way l.line row inside has l.invariant.line l.invariant.loaded);
          })
      | else-holds w ↦
          let lacks : has_way r.mask l.way ≡ false = sym w.if-holds.ensures in
          rw w.sets-is (record {
            line = line-next (r.first_line + c.args.set * r.set_step) r.mask l.way r.way_step l.line c.if-holds.line false lacks l.invariant.line (w.line-is ∙ sym (add-zero l.line));
            others = l.invariant.others;
            width = l.invariant.width;
            loaded = place_in-passed r c.args.set l.way row lacks l.invariant.loaded;
          })
    ]

pub returns : goal.returns
returns c =
    let r = c.args.self.now in
    let l = c.loop-way in
    let row : List (Option CachedLine) = set_in l.sets c.args.set in
    let all : length row ≤ l.way = omega (arith, l.invariant.width, c.ways-way-end.ensures.widths c.args.set c.requires.set, c.loop-way-test.false) in
    l.invariant.others
    ∙ (ap (λ (ps : List (Option CachedLine)). slice_set c.args.sets.now c.args.set ps) (left_set-loaded r c.args.set l.way row all l.invariant.loaded)
    ∙ ap (λ n. slice_set c.args.sets.now c.args.set (left_set (Locked r) c.args.set n)) l.invariant.width)
