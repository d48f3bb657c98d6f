-- Journals that are the same, entry by entry.
use Rattle.std.proofs.Common.{◌≡◌, ℕ, ◌<◌, List, [], ◌∷◌, length, map, refl, ap, sym, ◌∙◌, arith}
use Rattle.std.proofs.lemmas.List.{ext_get_or}
use Rattle.rc_base.specs.declared.replies.Reply.{Reply}
use Rattle.cache_core.specs.declared.entry.SliceEntry.{SliceEntry}
use Rattle.run_law.specs.Entries.{entry_value}
use Rattle.run_law.specs.Journals.{JournalsValue, slice_at}
use Rattle.run_law.specs.TreeHistory.{TreeEntryValue}
use Rattle.run_law.specs.declared.journals.TreeEntry.{TreeEntry}

-- a command with these parts
abbrev entry_of : ℕ → ℕ → Reply → List ℕ → TreeEntryValue
entry_of thread op reply looks = record { thread = thread; op = op; reply = reply; looks = looks }

-- two commands with the same parts
pub same_command : (a b : TreeEntry) → a.thread ≡ b.thread → a.op ≡ b.op → a.reply ≡ b.reply → a.looks.numbers ≡ b.looks.numbers → entry_value a ≡ entry_value b
same_command a b thread op reply looks =
    ap (λ (t : ℕ). entry_of t a.op a.reply a.looks.numbers) thread
    ∙ (ap (λ (o : ℕ). entry_of b.thread o a.reply a.looks.numbers) op
    ∙ (ap (λ (r : Reply). entry_of b.thread b.op r a.looks.numbers) reply
    ∙ ap (λ (n : List ℕ). entry_of b.thread b.op b.reply n) looks))

-- two lists without elements
pub same_ends : {A : Type 0} (xs ys : List A) → length xs ≡ 0 → length ys ≡ 0 → xs ≡ ys
same_ends [] [] left right = refl
same_ends [] (y ∷ ys) left right = absurd (omega (arith, right))
same_ends (x ∷ xs) ys left right = absurd (omega (arith, left))

-- two lists that begin with the same element and go on with the same ones
pub same_lists : {A : Type 0} (xs ys : List A) (x y : A) (rest behind : List A) → xs ≡ x ∷ rest → ys ≡ y ∷ behind → x ≡ y → rest ≡ behind → xs ≡ ys
same_lists xs ys x y rest behind left right first others = cc

-- the same of what is seen of their elements
pub same_maps : {A B : Type 0} (f : A → B) (xs ys : List A) (x y : A) (rest behind : List A) → xs ≡ x ∷ rest → ys ≡ y ∷ behind → f x ≡ f y → map f rest ≡ map f behind → map f xs ≡ map f ys
same_maps f xs ys x y rest behind left right first others = ap (map f) left ∙ (same_lists (f x ∷ map f rest) (f y ∷ map f behind) (f x) (f y) (map f rest) (map f behind) refl refl first others ∙ sym (ap (map f) right))

-- the journals with these parts
abbrev journals_of : List TreeEntryValue → List (List SliceEntry) → JournalsValue
journals_of tree slices = record { tree = tree; slices = slices }

-- two journals with the same tree and, slice by slice, the same entries
pub same_journals : (a b : JournalsValue) (slices : ℕ) → length a.slices ≡ slices → length b.slices ≡ slices → a.tree ≡ b.tree → ((k : ℕ) → k < slices → slice_at a k ≡ slice_at b k) → a ≡ b
same_journals a b slices first second tree each =
    let all : a.slices ≡ b.slices = ext_get_or [] a.slices b.slices (first ∙ sym second) (λ k below. each k (omega (arith, below, first))) in
    ap (λ (t : List TreeEntryValue). journals_of t a.slices) tree ∙ ap (λ (s : List (List SliceEntry)). journals_of b.tree s) all
