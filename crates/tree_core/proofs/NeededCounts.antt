-- The counts that a command needs.
use Rattle.std.proofs.Common.{◌≡◌, ℕ, ◌+◌, ◌*◌, ◌/◌, ◌%◌, ◌<◌, List, [], ◌∷◌, length, map, take, get_or, Some, refl, sym, ap, ◌∙◌, arith, length-append, length-take, true, false}
use Rattle.std.proofs.Math.Nat.{div-lt_iff_lt-mul, div-mul-le_self, mod-eq-sub-div-mul, mod-lt}
use Rattle.std.specs.List.{flat_map, slice_get}
use Rattle.std.proofs.lemmas.List.Concat.{flat_map_single, get_or-flat_map}
use Rattle.std.proofs.lemmas.List.FromFn.{get_or-map-range_with_len, length-map-range_with_len}
use Rattle.std.proofs.lemmas.Option.{slice_get-get_or}
use Rattle.machine.specs.declared.parameters.Parameters.{Parameters}
use Rattle.path_names.specs.declared.files.FileKind.TheVariants.{Mode}
use Rattle.path_names.specs.declared.path_ref.PathRef.{PathRef}
use Rattle.path_names.specs.declared.path_ref.PathRef.TheVariants.{File}
use Rattle.script_ops.specs.declared.op.Op.{Op}
use Rattle.script_ops.specs.declared.op.Op.TheVariants as ops
use Rattle.tree_core.proofs.Outcomes.{needs-nothing}
use Rattle.tree_core.specs.Places.{is_mode_file}
use Rattle.tree_core.specs.RmidLists.{counts_in}
use Rattle.tree_law.specs.State.{State}
use Rattle.tree_law.specs.Steps.{needs, needs_accepted}
use Rattle.tree_law.specs.commands.Write as write

-- each RMID has as many counts as there are domains
pub length-counts_in : (first domains : ℕ) (rmids : List ℕ) → length (flat_map (counts_in first domains) rmids) ≡ length rmids * domains
length-counts_in first domains [] = omega arith
length-counts_in first domains (r ∷ rs) =
    let rest = length-counts_in first domains rs in
    let own = length-map-range_with_len {X = ℕ × ℕ} (λ domain. (domain, r)) first domains in
    omega (arith, length-append (counts_in first domains r) (flat_map (counts_in first domains) rs), own, rest)

-- the count of a domain of an RMID stands at its place
pub get_or-counts_in : (first domains : ℕ) (rmids : List ℕ) (i j : ℕ) (e : ℕ) (d : ℕ × ℕ) → i < length rmids → j < domains → get_or (flat_map (counts_in first domains) rmids) (i * domains + j) d ≡ (first + j, get_or rmids i e)
get_or-counts_in first domains rmids i j e d within below =
    let here = get_or-flat_map (counts_in first domains) rmids i j e d within (omega (arith, below, length-map-range_with_len {X = ℕ × ℕ} (λ domain. (domain, get_or rmids i e)) first domains)) in
    let before = length-counts_in first domains (take i rmids) in
    let front : length (take i rmids) ≡ i = omega (arith, within, length-take i rmids) in
    ap (λ (n : ℕ). get_or (flat_map (counts_in first domains) rmids) (n + j) d) (sym (before ∙ ap (λ (n : ℕ). n * domains) front)) ∙ here
    ∙ get_or-map-range_with_len {X = ℕ × ℕ} (λ domain. (domain, get_or rmids i e)) first domains j (first + j) d below refl

-- the counts in one domain
pub counts_in-one : (domain : ℕ) (rmids : List ℕ) → flat_map (counts_in domain 1) rmids ≡ map (λ rmid. (domain, rmid)) rmids
counts_in-one domain rmids = flat_map_single (λ rmid. (domain, rmid)) rmids

-- the i-th of all counts is of this RMID, in this domain
pub place-counts_in : (domains i n : ℕ) → 0 < domains → i < n * domains → i / domains < n
place-counts_in domains i n some within = (div-lt_iff_lt-mul some).1 within

pub slice_get-counts_in : (first domains : ℕ) (rmids : List ℕ) (i : ℕ) → 0 < domains → i < length rmids * domains → slice_get (flat_map (counts_in first domains) rmids) i ≡ Some (first + i % domains, get_or rmids (i / domains) 0)
slice_get-counts_in first domains rmids i some within =
    let all = flat_map (counts_in first domains) rmids in
    let lt = place-counts_in domains i (length rmids) some within in
    let place : i / domains * domains + i % domains ≡ i = omega (arith, mod-eq-sub-div-mul i domains, div-mul-le_self i domains) in
    slice_get-get_or all i (0, 0) (omega (arith, within, length-counts_in first domains rmids))
    ∙ ap Some (sym (ap (λ (k : ℕ). get_or all k (0, 0)) place) ∙ get_or-counts_in first domains rmids (i / domains) (i % domains) 0 (0, 0) lt (mod-lt i some))

-- ---- which commands need counts

-- a command that is none of these
pub record IsOtherOp (op : Op) : Type 0 where
  pub rmdir : (path : PathRef) → op ≡ ops.Rmdir path → ⊥
  pub write : (path : PathRef) (text : List ℕ) → op ≡ ops.Write path text → ⊥
  pub tick : op ≡ ops.Tick → ⊥
  pub read : (path : PathRef) → op ≡ ops.Read path → ⊥

-- no other needs any
pub needs_accepted-none : (m : Parameters) (s : State) (op : Op) → IsOtherOp op → needs_accepted m s op ≡ []
needs_accepted-none m s (ops.Rmdir path) other = absurd (other.rmdir path refl)
needs_accepted-none m s (ops.Write path text) other = absurd (other.write path text refl)
needs_accepted-none m s (ops.Read path) other = absurd (other.read path refl)
needs_accepted-none m s ops.Tick other = absurd (other.tick refl)
needs_accepted-none m s (ops.Mkdir path) other = refl
needs_accepted-none m s (ops.List path) other = refl
needs_accepted-none m s (ops.Flush domain) other = refl
needs_accepted-none m s (ops.Access task cpu addr) other = refl
needs_accepted-none m s (ops.Touch cpu path task offset) other = refl
needs_accepted-none m s (ops.DropLine addr) other = refl
needs_accepted-none m s (ops.DropRegion path offset) other = refl

-- a write of any file but `mode` frees no RMID
needs_accepted-write : (m : Parameters) (s : State) (path : PathRef) (text : List ℕ) → is_mode_file path ≡ false → needs_accepted m s (ops.Write path text) ≡ []
unfolding write.freed
needs_accepted-write m s (File dir Mode) text other = absurd (let f : true ≡ false = other in cc)
needs_accepted-write m s path text other = refl

-- so it needs none
pub needs-write : (m : Parameters) (s : State) (path : PathRef) (text : List ℕ) → is_mode_file path ≡ false → needs m s (ops.Write path text) ≡ []
needs-write m s path text other = needs-nothing m s (ops.Write path text) (needs_accepted-write m s path text other)
