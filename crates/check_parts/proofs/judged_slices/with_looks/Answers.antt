use Rattle.std.proofs.Common.{◌≡◌, ◌≤◌, ◌+◌, ◌++◌, ◌∷◌, [], ℕ, Global, Vec, List, length, map, take, sym, ap, ◌∙◌, subst, arith}
use Rattle.std.proofs.lemmas.List.{length-map, length-take, length_push, map_push, take_all}
use Rattle.cache_core.specs.declared.entry.SliceEntry.{SliceEntry}
use Rattle.check_parts.proofs.JudgedSlices.{AreLooks-more}
use Rattle.check_parts.specs.JudgedSlices.{AreLooks, HaveLooks, entries_at}
use Rattle.run_law.specs.Entries.{entries_of}
use Rattle.script_ops.specs.Values.{ScriptValue}
use Rattle.check_parts.proofs.judged_slices.with_looks.Goals as goal

-- looks that are no more than so many are all kept
kept-looks : (script : ScriptValue) (all : List (List SliceEntry)) (old new : List (Vec SliceEntry Global)) (n count limit : ℕ)
    → n ≤ count → AreLooks script all n (map entries_of old) → limit ≡ count → new ≡ take limit old → (length new ≡ n) × AreLooks script all n (map entries_of new)
kept-looks script all old new n count limit few are at is =
    let own : length old ≡ n = sym (length-map old entries_of) ∙ are.count in
    let same : new ≡ old = is ∙ take_all limit old (omega (arith, own, few, at)) in
    (ap (λ (xs : List (Vec SliceEntry Global)). length xs) same ∙ own, subst (λ (xs : List (Vec SliceEntry Global)). AreLooks script all n (map entries_of xs)) (sym same) are)

pub loop-i-init : goal.loop-i-init
loop-i-init c =
    let script = c.args.script.now in
    let new = c.truncate.new.self in
    let size : length new.items ≡ c.len-i.result = sym (c.len-i.ensures ∙ new.ok.0) in
    record {
      count = size;
      looks = λ all n few are rest.
          let kept = kept-looks script all c.args.looks.items new.items n c.args.count c.from.result few are c.from.ensures c.truncate.ensures.items in
          subst (λ k. AreLooks script all k (map entries_of new.items)) (sym kept.0 ∙ size) kept.1;
    }

pub loop-i-preserved : goal.loop-i-preserved
loop-i-preserved c =
    let script = c.args.script.now in
    let i = c.loop-i.i in
    let old = c.loop-i.new.items in
    let new = c.push.new.self.items in
    let cut = c.truncate.new.self in
    let more = c.in_ok-looks_in.field-0 in
    let is : new ≡ old ++ more ∷ [] = c.in_ok-push.ensures.items in
    let size : length new ≡ length old + 1 = ap (λ (xs : List (Vec SliceEntry Global)). length xs) is ∙ length_push old more in
    record {
      count = omega (arith, size, c.loop-i.invariant.count);
      looks = λ all n few are rest.
          let kept = kept-looks script all c.args.looks.items cut.items n c.args.count c.from.result few are c.from.ensures c.truncate.ensures.items in
          let start : c.len-i.result ≡ n = (c.len-i.ensures ∙ cut.ok.0) ∙ kept.0 in
          let here : c.slice.result.now ≡ entries_at all i = c.slice.ensures ∙ rest i (let low = c.loop-i.auto.i in omega (arith, low, start)) in
          let mapped : map entries_of new ≡ map entries_of old ++ entries_of more ∷ [] = ap (map entries_of) is ∙ map_push entries_of old more in
          subst (λ (looks : List (List SliceEntry)). AreLooks script all (i + 1) looks) (sym mapped)
          (AreLooks-more script all (map entries_of old) i (entries_of more) (c.loop-i.invariant.looks all n few are rest) (subst (λ (es : List SliceEntry). HaveLooks script es (entries_of more)) here c.in_ok-looks_in.ensures));
    }

-- a loop ends at its limit, where it began before that
past-end : (old new : List (Vec SliceEntry Global)) (i count limit start end : ℕ) → limit ≡ count → end ≡ count → new ≡ take limit old → start ≡ length new → (start ≤ end → i ≤ end) → end ≤ i → i ≡ count
past-end old new i count limit start end at last is begun over done =
    let cut : length new ≡ length (take limit old) = ap (λ (xs : List (Vec SliceEntry Global)). length xs) is in
    let within = over (omega (arith, begun, cut, length-take limit old, at, last)) in
    omega (arith, within, done, last)

pub returns-clause-count : goal.returns-clause-count
returns-clause-count c =
    let cut = c.truncate.new.self in
    let past = past-end c.args.looks.items cut.items c.loop-i.i c.args.count c.from.result c.len-i.result c.from-i-end.result c.from.ensures c.from-i-end.ensures c.truncate.ensures.items (c.len-i.ensures ∙ cut.ok.0) c.loop-i.auto.i-end c.loop-i-test.false in
    c.loop-i.invariant.count ∙ past

pub returns-clause-looks : goal.returns-clause-looks
returns-clause-looks c =
    λ all n few are rest.
    let cut = c.truncate.new.self in
    let past = past-end c.args.looks.items cut.items c.loop-i.i c.args.count c.from.result c.len-i.result c.from-i-end.result c.from.ensures c.from-i-end.ensures c.truncate.ensures.items (c.len-i.ensures ∙ cut.ok.0) c.loop-i.auto.i-end c.loop-i-test.false in
    subst (λ k. AreLooks c.args.script.now all k (map entries_of c.loop-i.new.items)) past (c.loop-i.invariant.looks all n few are rest)
