-- The commands of a legal history in which each command stands once are expected.
use Rattle.std.proofs.Common.{◌≡◌, ℕ, zero, suc, ◌+◌, ◌<◌, ◌≤◌, Bool, true, inl, inr, List, [], ◌∷◌, ◌++◌, length, filter, take, refl, ap, ◌∙◌, arith}
use Rattle.std.proofs.lemmas.Bool.{cases_Bool}
use Rattle.std.proofs.lemmas.List.{take_more}
use Rattle.std.proofs.lemmas.Option.{get_or_from_slice_get, slice_get_within}
use Rattle.lists.specs.Sums.{one_if}
use Rattle.journal_check.proofs.Counts.{length-filter_push}
use Rattle.journal_check.specs.ExpectedCommands.{IsExpected}
use Rattle.journal_check.specs.Tables.{AreTakenOnce}
use Rattle.run_law.proofs.laws.NeededCounts.{needs-few}
use Rattle.run_law.proofs.laws.Pairs.{both_eqb-same}
use Rattle.run_law.proofs.laws.SoundHistories.{Fits-op_at, IsSound-take, IsTaken-at}
use Rattle.run_law.specs.Journals.{At}
use Rattle.run_law.specs.Truth.{is_taken_from}
use Rattle.run_law.specs.TreeHistory.{IsLegalTree, TreeEntryValue, tree_after}
use Rattle.script_ops.specs.Values.{IsLawful, ScriptValue}
use Rattle.tree_law.proofs.laws.Counts.{NamesDomain-fits}

-- a beginning has no more that pass
length-filter_take : (p : TreeEntryValue → Bool) (xs : List TreeEntryValue) (n : ℕ) → length (filter p (take n xs)) ≤ length (filter p xs)
length-filter_take p xs zero = omega arith
length-filter_take p [] (suc n) = omega arith
length-filter_take p (x ∷ xs) (suc n) =
    let rest = length-filter_take p xs n in
    elim (cases_Bool (p x)) [ inl passes ↦ rw passes (omega (arith, rest)) | inr fails ↦ rw fails rest ]

pub IsExpected-legal : (script : ScriptValue) (tree : List TreeEntryValue) (k : ℕ) (h : TreeEntryValue) → IsLawful script → At tree k h → IsLegalTree script tree → AreTakenOnce script tree → IsExpected script (take k tree) h
IsExpected-legal script tree k h lawful there legal once =
    let its = IsTaken-at script tree k h legal there in
    let within : k < length tree = slice_get_within tree k h there in
    let sound = IsSound-take script tree lawful legal k (omega (arith, within)) in
    let needed = needs-few script.machine (tree_after script (take k tree)) its.op sound (NamesDomain-fits script.machine script.tasks its.op (Fits-op_at script h.thread h.op its.op lawful its.is)) in
    let p : TreeEntryValue → Bool = is_taken_from h.thread h.op in
    let all : length (filter p tree) ≡ 1 = once h.thread h.op its.op its.is its.command in
    let front : take (k + 1) tree ≡ take k tree ++ h ∷ [] = take_more tree k h within ∙ ap (λ (x : TreeEntryValue). take k tree ++ x ∷ []) (get_or_from_slice_get tree k h h there) in
    let own : p h ≡ true = both_eqb-same h.thread h.thread h.op h.op refl refl in
    let more : length (filter p (take (k + 1) tree)) ≡ length (filter p (take k tree)) + 1 =
    ap (λ (xs : List TreeEntryValue). length (filter p xs)) front
    ∙ length-filter_push p (take k tree) h
    ∙ ap (λ (b : Bool). length (filter p (take k tree)) + one_if b) own in
    record {
      can = record { command = its.op; is = its.is; takes = its.command; few = omega (arith, its.looks, needed) };
      first = let none : length (filter p (take k tree)) ≡ 0 = omega (arith, more, all, length-filter_take p tree (k + 1)) in none;
    }
