-- RMIDs that are freed one after the other, and tests of those in limbo.
use Rattle.std.proofs.Common.{◌≡◌, ℕ, zero, suc, ◌+◌, ◌-◌, ◌*◌, ◌^◌, ◌<◌, ◌≤◌, min, Bool, true, false, not, ◌&&◌, ◌||◌, cond, eqb, ltb, List, [], ◌∷◌, ◌++◌, length, map, filter, take, drop, get_or, ◌⊎◌, inl, inr, refl, sym, subst, ap, ap₂, ◌∙◌, arith, length-take, length-drop, drop-cons}
use Rattle.std.specs.List.{zip}
use Rattle.std.proofs.lemmas.Bool.{cases_lt, le-ltb, lt-ltb, ne_eqb}
use Rattle.std.proofs.lemmas.List.{drop_all, get_or-take, get_or_default, take_all, take_more}
use Rattle.std.proofs.lemmas.List.Folds.{list_any-append, list_any_none}
use Rattle.hw_ids.proofs.laws.Membership.{contains-without}
use Rattle.hw_ids.specs.Ids.{contains, with_id}
use Rattle.hw_ids.specs.MonitoringIds.{MonitoringIds, above, after_free}
use Rattle.machine.specs.declared.parameters.Parameters.{Parameters}
use Rattle.tree_core.proofs.TakenIds.{eqb-turned}
use Rattle.tree_core.specs.RmidLists.{Frees, MayFree, bytes_each, bytes_of}
use Rattle.tree_law.specs.Freeing.{greatest, limbo_after, staying_in_limbo}

-- ---- bytes of 64 bits

-- bytes above a threshold are above it as a number of 64 bits too
ltb-min : (threshold lines : ℕ) → threshold < 2 ^ 64 - 1 → ltb threshold (min (lines * 64) (2 ^ 64 - 1)) ≡ ltb threshold (lines * 64)
ltb-min threshold lines small = at (cases_lt threshold (lines * 64))
  where
    at : (threshold < lines * 64) ⊎ (lines * 64 ≤ threshold) → ltb threshold (min (lines * 64) (2 ^ 64 - 1)) ≡ ltb threshold (lines * 64)
    at (inl lt) = lt-ltb threshold (min (lines * 64) (2 ^ 64 - 1)) (omega arith) ∙ sym (lt-ltb threshold (lines * 64) lt)
    at (inr le) = le-ltb threshold (min (lines * 64) (2 ^ 64 - 1)) (omega arith) ∙ sym (le-ltb threshold (lines * 64) le)

-- ---- freeing

-- what is left to free, and its counts, after the first i of these RMIDs were freed
pub record HasFreed (m : Parameters) (freed looks : List ℕ) (old : MonitoringIds) (i : ℕ) (now : MonitoringIds) (rest : List ℕ) : Type 0 where
  pub count : now.count ≡ old.count
  pub threshold : now.threshold ≡ old.threshold
  pub limbo : limbo_after m old.threshold now.limbo (drop i freed) rest ≡ limbo_after m old.threshold old.limbo freed looks
  pub left : length rest ≡ length (drop i freed) * m.domains
  pub taken : (id : ℕ) → contains id now.taken ≡ (not (contains id (take i freed)) && contains id old.taken)

-- an id more is no longer among them
and-not_or : (same had was : Bool) → (not same && (not had && was)) ≡ (not (had || (same || false)) && was)
and-not_or true true was = refl
and-not_or true false was = refl
and-not_or false true was = refl
and-not_or false false was = refl

module _ {m : Parameters} {freed looks : List ℕ} {old : MonitoringIds} {i : ℕ} {now : MonitoringIds} {rest : List ℕ} (before : HasFreed m freed looks old i now rest) (rmid : ℕ) (within : i < length freed) (is : get_or freed i rmid ≡ rmid) where
  -- those that are left
  drop-freed : drop i freed ≡ rmid ∷ drop (i + 1) freed
  drop-freed = (let next : i + 1 ≡ suc i = omega arith in drop-cons freed i rmid within ∙ ap₂ (λ (x : ℕ) (n : ℕ). x ∷ drop n freed) is (sym next))

  -- there are counts of the next
  pub length-rest : m.domains ≤ length rest
  length-rest = omega (arith, before.left ∙ ap (λ (xs : List ℕ). length xs * m.domains) drop-freed, more (length (drop (i + 1) freed)))
    where
      more : (n : ℕ) → m.domains ≤ suc n * m.domains
      more n = omega arith

  -- the next is still taken
  pub contains-next : MayFree old.taken freed → contains rmid now.taken ≡ true
  contains-next may = before.taken rmid ∙ ap₂ (λ (a b : Bool). not a && b) unfreed (subst (λ (x : ℕ). contains x old.taken ≡ true) is (may.taken i rmid within))
    where
      unfreed : contains rmid (take i freed) ≡ false
      unfreed = list_any_none (λ other. eqb other rmid) (take i freed) (λ k d inside.
          let few = length-take i freed in
          let lt : k < i = omega arith in
          let same = get_or-take i freed k d lt in
          ne_eqb (get_or (take i freed) k d) rmid (λ e. may.differ k i d lt within (sym same ∙ e ∙ sym is ∙ get_or_same i d rmid within)))
        where
          get_or_same : (i d e : ℕ) → i < length freed → get_or freed i e ≡ get_or freed i d
          get_or_same i d e within = get_or_default freed i e d within

  -- one more
  pub HasFreed-suc : (now' : MonitoringIds) → old.threshold < 2 ^ 64 - 1 → now' ≡ after_free now rmid (bytes_of (take m.domains rest)) → HasFreed m freed looks old (i + 1) now' (drop m.domains rest)
  HasFreed-suc now' small after = record {
    count = ap (λ (r : MonitoringIds). r.count) after ∙ before.count;
    threshold = ap (λ (r : MonitoringIds). r.threshold) after ∙ before.threshold;
    limbo =
        ap (λ (ids : List ℕ). limbo_after m old.threshold ids (drop (i + 1) freed) (drop m.domains rest)) (ap (λ (r : MonitoringIds). r.limbo) after ∙ ap (λ (b : Bool). cond b (with_id rmid now.limbo) now.limbo) tested)
        ∙ sym (ap (λ (ids : List ℕ). limbo_after m old.threshold now.limbo ids rest) drop-freed) ∙ before.limbo;
    left = (let long = before.left ∙ ap (λ (xs : List ℕ). length xs * m.domains) drop-freed in omega (arith, long, length-drop m.domains rest));
    taken = λ id. ap (λ (r : MonitoringIds). contains id r.taken) after ∙ contains-without rmid id now.taken ∙ ap (λ (b : Bool). not (eqb id rmid) && b) (before.taken id)
        ∙ and-not_or (eqb id rmid) (contains id (take i freed)) (contains id old.taken)
        ∙ ap (λ (b : Bool). not (contains id (take i freed) || (b || false)) && contains id old.taken) (eqb-turned id rmid)
        ∙ ap (λ (b : Bool). not b && contains id old.taken) (sym (list_any-append (λ other. eqb other id) (take i freed) (rmid ∷ [])))
        ∙ ap (λ (xs : List ℕ). not (contains id xs) && contains id old.taken) (sym (take_more freed i rmid within ∙ ap (λ (x : ℕ). take i freed ++ x ∷ []) is));
  }
    where
      tested : ltb now.threshold (bytes_of (take m.domains rest)) ≡ ltb old.threshold (greatest (take m.domains rest) * 64)
      tested = ap (λ (n : ℕ). ltb n (bytes_of (take m.domains rest))) before.threshold ∙ ltb-min old.threshold (greatest (take m.domains rest)) small

-- after the last
pub Frees-done : (m : Parameters) (freed looks : List ℕ) (old : MonitoringIds) (i : ℕ) (now : MonitoringIds) (rest : List ℕ) → length freed ≤ i → HasFreed m freed looks old i now rest → Frees m freed looks old now
Frees-done m freed looks old i now rest all before = record {
  count = before.count;
  threshold = before.threshold;
  limbo = ap (λ (ids : List ℕ). limbo_after m old.threshold now.limbo ids rest) (sym (drop_all i freed all)) ∙ before.limbo;
  taken = λ id. before.taken id ∙ ap (λ (xs : List ℕ). not (contains id xs) && contains id old.taken) (take_all i freed all);
}

-- ---- the bytes of each

-- those of the next, and of the others
pub bytes_each-suc : (domains n k : ℕ) (rest : List ℕ) → k < n → bytes_each domains (n - k) rest ≡ bytes_of (take domains rest) ∷ bytes_each domains (n - (k + 1)) (drop domains rest)
bytes_each-suc domains n k rest lt = (let next : n - k ≡ suc (n - (k + 1)) = omega arith in ap (λ (i : ℕ). bytes_each domains i rest) next)

-- there is one for each
pub length-bytes_each : (domains n : ℕ) (looks : List ℕ) → length (bytes_each domains n looks) ≡ n
length-bytes_each domains zero looks = refl
length-bytes_each domains (suc n) looks = ap suc (length-bytes_each domains n (drop domains looks))

-- those above the threshold are those that stay in limbo
pub above-bytes_each : (m : Parameters) (threshold : ℕ) (limbo looks : List ℕ) → threshold < 2 ^ 64 - 1 → above threshold limbo (bytes_each m.domains (length limbo) looks) ≡ staying_in_limbo m threshold limbo looks
above-bytes_each m threshold [] looks small = refl
above-bytes_each m threshold (r ∷ rs) looks small =
    at (ltb threshold (bytes_of (take m.domains looks))) ∙ ap₂ (λ (b : Bool) (ids : List ℕ). cond b (r ∷ ids) ids) (ltb-min threshold (greatest (take m.domains looks)) small) (above-bytes_each m threshold rs (drop m.domains looks) small)
  where
    at : (b : Bool) → map (λ (e : ℕ × ℕ). e.0) (cond b ((r, bytes_of (take m.domains looks)) ∷ filter (λ (e : ℕ × ℕ). ltb threshold e.1) (zip rs (bytes_each m.domains (length rs) (drop m.domains looks)))) (filter (λ (e : ℕ × ℕ). ltb threshold e.1) (zip rs (bytes_each m.domains (length rs) (drop m.domains looks)))))
        ≡ cond b (r ∷ above threshold rs (bytes_each m.domains (length rs) (drop m.domains looks))) (above threshold rs (bytes_each m.domains (length rs) (drop m.domains looks)))
    at true = refl
    at false = refl
