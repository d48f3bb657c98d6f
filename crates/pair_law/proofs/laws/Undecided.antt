-- What is said of an entry without looking at its hit and way.
use Rattle.std.proofs.Common.{◌≡◌, ℕ, Bool, false, ◌==◌, List, [], ◌∷◌, ◌++◌, map, get_or, None, refl, sym, subst, ap, ap₂, ◌∙◌}
use Rattle.std.specs.List.{All}
use Rattle.std.proofs.lemmas.Bool.{and_right}
use Rattle.cache_core.specs.declared.entry.SliceEntry.{SliceEntry}
use Rattle.cache_core.specs.declared.entry.What.{What}
use Rattle.cache_core.specs.declared.entry.What.TheVariants as whats
use Rattle.pair_law.proofs.Positions.{All-unmap}
use Rattle.pair_law.specs.Entries.{asked_by}
use Rattle.run_law.specs.Owed.{undecided}
use Rattle.private_lru.specs.Covered.{is_loaded_use, is_other_use, is_use, item_of, items}
use Rattle.private_lru.specs.Isolation.{Respects}
use Rattle.private_lru.specs.declared.item.Item.{Item}
use Rattle.rc_base.specs.declared.names.Gid.{Gid}

-- what holds of what was asked holds of the entries
pub All-undecided : (P : What → Type 0) → ((w : What) → P (undecided w) → P w) → (es : List SliceEntry) (asked : List SliceEntry) → map asked_by es ≡ asked → All (λ (e : SliceEntry). P e.what) asked → All (λ (e : SliceEntry). P e.what) es
All-undecided P same es asked is all = λ k d within. same (get_or es k d).what (All-unmap (λ (e : SliceEntry). P e.what) asked_by es (subst (All (λ (e : SliceEntry). P e.what)) (sym is) all) k d within)

pub Respects-undecided : (group mask : ℕ) (w : What) → Respects group mask (undecided w) → Respects group mask w
Respects-undecided group mask (whats.Access hit way owner rmid its line) r = r
Respects-undecided group mask whats.Raise r = r
Respects-undecided group mask whats.Flush r = r
Respects-undecided group mask (whats.Lock others first_line) r = r
Respects-undecided group mask (whats.Look rmid lines) r = r
Respects-undecided group mask (whats.Drop line at) r = r

pub is_use-undecided : (group x : ℕ) (w : What) → is_use group x (undecided w) ≡ false → is_use group x w ≡ false
is_use-undecided group x (whats.Access hit way owner rmid its line) r = r
is_use-undecided group x whats.Raise r = r
is_use-undecided group x whats.Flush r = r
is_use-undecided group x (whats.Lock others first_line) r = r
is_use-undecided group x (whats.Look rmid lines) r = r
is_use-undecided group x (whats.Drop line at) r = r

pub is_other_use-undecided : (group : ℕ) (window : List SliceEntry) (w : What) → is_other_use group window (undecided w) ≡ false → is_other_use group window w ≡ false
is_other_use-undecided group window (whats.Access hit way owner rmid its line) r = r
is_other_use-undecided group window whats.Raise r = r
is_other_use-undecided group window whats.Flush r = r
is_other_use-undecided group window (whats.Lock others first_line) r = r
is_other_use-undecided group window (whats.Look rmid lines) r = r
is_other_use-undecided group window (whats.Drop line at) r = r

item_of-undecided : (sets group set : ℕ) (own : ℕ → Bool) (w : What) → item_of sets group set own w ≡ item_of sets group set own (undecided w)
item_of-undecided sets group set own (whats.Access hit way owner rmid its line) = refl
item_of-undecided sets group set own whats.Raise = refl
item_of-undecided sets group set own whats.Flush = refl
item_of-undecided sets group set own (whats.Lock others first_line) = refl
item_of-undecided sets group set own (whats.Look rmid lines) = refl
item_of-undecided sets group set own (whats.Drop line at) = refl

-- the group's items are those of what was asked
pub items-asked : (sets group set : ℕ) (own : ℕ → Bool) (es asked : List SliceEntry) → map asked_by es ≡ asked → items sets group set own es ≡ items sets group set own asked
items-asked sets group set own es asked is = mapped es ∙ ap (items sets group set own) is
  where
    mapped : (es : List SliceEntry) → items sets group set own es ≡ items sets group set own (map asked_by es)
    mapped [] = refl
    mapped (e ∷ es) = ap₂ (λ (a b : List Item). a ++ b) (item_of-undecided sets group set own e.what) (mapped es)

-- nothing was loaded where a flush opens
pub is_loaded_use-flush : (sets group : ℕ) (w : What) → is_loaded_use sets group whats.Flush w ≡ false
is_loaded_use-flush sets group (whats.Access hit way owner rmid its line) = and_right (owner.0 == group) false refl
is_loaded_use-flush sets group whats.Raise = refl
is_loaded_use-flush sets group whats.Flush = refl
is_loaded_use-flush sets group (whats.Lock others first_line) = refl
is_loaded_use-flush sets group (whats.Look rmid lines) = refl
is_loaded_use-flush sets group (whats.Drop line at) = refl

-- a flush is what was asked as one
pub what-flush : (w : What) → undecided w ≡ whats.Flush → w ≡ whats.Flush
what-flush (whats.Access hit way owner rmid its line) e = absurd (let f : whats.Access false 0 owner rmid its line ≡ whats.Flush = e in cc)
what-flush whats.Raise e = e
what-flush whats.Flush e = e
what-flush (whats.Lock others first_line) e = e
what-flush (whats.Look rmid lines) e = absurd (let f : whats.Look rmid 0 ≡ whats.Flush = e in cc)
what-flush (whats.Drop line at) e = absurd (let f : whats.Drop line None ≡ whats.Flush = e in cc)

-- an access is what was asked as one
pub record IsAccess (w : What) (owner : Gid) (rmid mask line : ℕ) : Type 0 where
  pub hit : Bool
  pub way : ℕ
  pub is : w ≡ whats.Access hit way owner rmid mask line

abbrev owner_in : Gid → What → Gid
owner_in d (whats.Access hit way owner rmid mask line) = owner
owner_in d what = d

abbrev numbers_in : What → ℕ × ℕ × ℕ
numbers_in (whats.Access hit way owner rmid mask line) = (rmid, mask, line)
numbers_in what = (0, 0, 0)

pub what-access : (w : What) (owner : Gid) (rmid mask line : ℕ) → undecided w ≡ whats.Access false 0 owner rmid mask line → IsAccess w owner rmid mask line
what-access (whats.Access hit way o r m l) owner rmid mask line e =
    let a : o ≡ owner = ap (owner_in o) e in
    let n = ap numbers_in e in
    let b : r ≡ rmid = ap (λ (t : ℕ × ℕ × ℕ). t.0) n in
    let c : m ≡ mask = ap (λ (t : ℕ × ℕ × ℕ). t.1) n in
    let f : l ≡ line = ap (λ (t : ℕ × ℕ × ℕ). t.2) n in
    record { hit = hit; way = way; is = cc }
what-access whats.Raise owner rmid mask line e = absurd (let f : whats.Raise ≡ whats.Access false 0 owner rmid mask line = e in cc)
what-access whats.Flush owner rmid mask line e = absurd (let f : whats.Flush ≡ whats.Access false 0 owner rmid mask line = e in cc)
what-access (whats.Lock others first_line) owner rmid mask line e = absurd (let f : whats.Lock others first_line ≡ whats.Access false 0 owner rmid mask line = e in cc)
what-access (whats.Look r lines) owner rmid mask line e = absurd (let f : whats.Look r 0 ≡ whats.Access false 0 owner rmid mask line = e in cc)
what-access (whats.Drop its at) owner rmid mask line e = absurd (let f : whats.Drop its None ≡ whats.Access false 0 owner rmid mask line = e in cc)
