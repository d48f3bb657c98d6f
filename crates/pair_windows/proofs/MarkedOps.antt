-- Ops that are marked for the hits of a domain's cache.
use Rattle.std.proofs.Common.{◌≡◌, ℕ, ◌+◌, ◌<◌, ◌≤◌, Bool, true, false, ◌&&◌, ◌||◌, eqb, List, [], ◌∷◌, ◌++◌, length, get_or, Option, None, Some, inl, inr, refl, sym, ap, ◌∙◌, arith}
use Rattle.std.specs.Prelude.{nat_lt, IfSome}
use Rattle.std.proofs.lemmas.Bool.{cases_eq, cases_order, eq-eqb, le-ltb, lt-ltb, ne_eqb}
use Rattle.std.proofs.lemmas.List.Folds.{list_any-append}
use Rattle.std.proofs.lemmas.Option.{slice_get_past}
use Rattle.cache_core.specs.declared.entry.SliceEntry.{SliceEntry}
use Rattle.pair_windows.specs.Hits.{AreHits, AreMarked, is_use_in}
use Rattle.machine.specs.declared.parameters.Parameters.{Parameters}
use Rattle.pair_text.specs.Values.{AreMachines, Fits, IsLawful, LiesBelow, Machines, PairScriptValue, op_at, side_machine}
use Rattle.pair_text.specs.declared.op.PairOp.{PairOp}
use Rattle.pair_text.specs.declared.op.PairOp.TheVariants as ops
use Rattle.pair_text.specs.declared.side.Side.{Side}
use Rattle.pair_text.specs.declared.side.Side.TheVariants.{First, Second}
use Rattle.pair_law.proofs.laws.Domains.{domain_of-lt}
use Rattle.pair_law.specs.Entries.{slice_in}
use Rattle.pair_law.specs.LevelRuns.{domain_on, has_at, is_hit}
use Rattle.run_law.proofs.laws.SoundHistories.{All-at}

-- ---- the CPUs of a level

-- both levels have as many, and some domain
pub record IsLevel (p : Parameters) (cpus : ℕ) : Type 0 where
  pub cpus_same : p.cpus ≡ cpus
  pub some_domain : 0 < p.domains

IsLevel-side : (m : Machines) → AreMachines m → (side : Side) → IsLevel (side_machine m side) m.machine.cpus
IsLevel-side m are Second = record { cpus_same = refl; some_domain = are.in_range.some_domain }
IsLevel-side m are First = of m.l2 are.below
  where
    of : (o : Option Parameters) → IfSome o (LiesBelow m.machine) → IsLevel (side_machine (record { machine = m.machine; l2 = o }) First) m.machine.cpus
    of None below = record { cpus_same = refl; some_domain = are.in_range.some_domain }
    of (Some p) below = record { cpus_same = below.same_cpus; some_domain = below.in_range.some_domain }

-- the CPU of a use exists there, and has a domain
pub cpu-lt : (script : PairScriptValue) → IsLawful script → (side : Side) (i task cpu line : ℕ) (code : Bool) → op_at script i ≡ Some (ops.Use task cpu line code) → cpu < (side_machine script.machines side).cpus
cpu-lt script lawful side i task cpu line code is =
    let fits = (All-at (Fits script) script.ops i (ops.Use task cpu line code) lawful.fit is).1 in
    let level = (IsLevel-side script.machines lawful.machines side).cpus_same in
    omega (arith, fits, level)

pub domain_on-lt : (script : PairScriptValue) → IsLawful script → (side : Side) (i task cpu line : ℕ) (code : Bool) → op_at script i ≡ Some (ops.Use task cpu line code)
    → domain_on script side cpu < (side_machine script.machines side).domains
domain_on-lt script lawful side i task cpu line code is =
    domain_of-lt (side_machine script.machines side) cpu (IsLevel-side script.machines lawful.machines side).some_domain (cpu-lt script lawful side i task cpu line code is)

-- ---- marks

-- a test that fails beside another
pub and-fails : (h u : Bool) → u ≡ false → (h && u) ≡ false
and-fails true u none = none
and-fails false u none = refl

module _ (script : PairScriptValue) (side : Side) (domain : ℕ) where
  or_none : (x u : Bool) → x ≡ (x || (u && false))
  or_none true u = refl
  or_none false true = refl
  or_none false false = refl

  -- no entry marks nothing
  pub AreMarked-none : (hits : List Bool) → AreMarked script side domain [] hits hits
  AreMarked-none hits = record { same = refl; each = λ i. or_none (get_or hits i false) (is_use_in script side domain (op_at script i)) }

  -- no use stands past the last op
  pub is_use_in-past : (place : ℕ) → length script.ops ≤ place → is_use_in script side domain (op_at script place) ≡ false
  is_use_in-past place past = ap (is_use_in script side domain) (slice_get_past script.ops place past)

  or_and : (x u a b : Bool) → ((x || (u && a)) || (u && b)) ≡ (x || (u && (a || b)))
  or_and true u a b = refl
  or_and false true true b = refl
  or_and false true false b = refl
  or_and false false a b = refl

  -- entries and more entries
  pub AreMarked-append : (es fs : List SliceEntry) (old mid new : List Bool) → AreMarked script side domain es old mid → AreMarked script side domain fs mid new → AreMarked script side domain (es ++ fs) old new
  AreMarked-append es fs old mid new one two = record {
    same = two.same ∙ one.same;
    each = λ i.
        let u : Bool = is_use_in script side domain (op_at script i) in
        let q : SliceEntry → Bool = λ e. eqb e.op i && is_hit e.what in
        two.each i ∙ (ap (λ (x : Bool). x || (u && has_at fs i is_hit)) (one.each i)
        ∙ (or_and (get_or old i false) u (has_at es i is_hit) (has_at fs i is_hit) ∙ ap (λ (a : Bool). get_or old i false || (u && a)) (sym (list_any-append q es fs))));
  }

  module _ (e : SliceEntry) (hits : List Bool) where
    -- an entry that is no hit of a use there marks nothing
    pub AreMarked-other : (is_hit e.what && is_use_in script side domain (op_at script e.op)) ≡ false → AreMarked script side domain (e ∷ []) hits hits
    AreMarked-other other = record {
      same = refl;
      each = λ i. elim (cases_eq e.op i) [
        | inl here ↦
            let u : is_use_in script side domain (op_at script i) ≡ is_use_in script side domain (op_at script e.op) = ap (λ n. is_use_in script side domain (op_at script n)) (sym here) in
            of (get_or hits i false) (is_hit e.what) (is_use_in script side domain (op_at script i)) (ap (λ (b : Bool). is_hit e.what && b) u ∙ other) (eqb e.op i)
        | inr elsewhere ↦ rw (ne_eqb e.op i elsewhere) (or_none (get_or hits i false) (is_use_in script side domain (op_at script i)))
      ];
    }
      where
        of : (x h u : Bool) → (h && u) ≡ false → (at : Bool) → x ≡ (x || (u && ((at && h) || false)))
        of true h u none at = refl
        of false true true none at = absurd (let f : true ≡ false = none in cc)
        of false true false none at = refl
        of false false true none true = refl
        of false false true none false = refl
        of false false false none at = refl

-- ---- domain by domain

-- a use is marked once its own domain was gone through
pub marked-more : (c n : ℕ) (h : ℕ → Bool) (old new : Bool) → old ≡ (nat_lt c n && h c) → new ≡ (old || (eqb c n && h n)) → new ≡ (nat_lt c (n + 1) && h c)
marked-more c n h old new was is = elim (cases_order c n) [
  | inl same ↦
      let before : nat_lt c n ≡ false = le-ltb c n (omega (arith, same)) in
      let after : nat_lt c (n + 1) ≡ true = lt-ltb c (n + 1) (omega (arith, same)) in
      let here : eqb c n ≡ true = eq-eqb c n same in
      let none : old ≡ false = was ∙ ap (λ (b : Bool). b && h c) before in
      is ∙ (rw (none, here, after) (ap h (sym same)))
  | inr (inl lt) ↦
      let before : nat_lt c n ≡ true = lt-ltb c n lt in
      let after : nat_lt c (n + 1) ≡ true = lt-ltb c (n + 1) (omega (arith, lt)) in
      let here : eqb c n ≡ false = ne_eqb c n (λ same. omega (arith, lt, same)) in
      let value : old ≡ h c = was ∙ ap (λ (b : Bool). b && h c) before in
      is ∙ (rw (value, here, after) (or-false (h c)))
  | inr (inr gt) ↦
      let before : nat_lt c n ≡ false = le-ltb c n (omega (arith, gt)) in
      let after : nat_lt c (n + 1) ≡ false = le-ltb c (n + 1) (omega (arith, gt)) in
      let here : eqb c n ≡ false = ne_eqb c n (λ same. omega (arith, gt, same)) in
      let none : old ≡ false = was ∙ ap (λ (b : Bool). b && h c) before in
      is ∙ (rw (none, here, after) refl)
]
  where
    or-false : (b : Bool) → (b || false) ≡ b
    or-false true = refl
    or-false false = refl

-- the uses on CPUs of the first domains are marked just where their entries are hits, and no others are
abbrev pub MarkedBelow : PairScriptValue → Side → List (List SliceEntry) → ℕ → List Bool → Type 0
MarkedBelow script side slices n hits =
    (i task cpu line : ℕ) (code : Bool) → op_at script i ≡ Some (ops.Use task cpu line code)
    → get_or hits i false ≡ (nat_lt (domain_on script side cpu) n && has_at (slice_in slices (domain_on script side cpu)) i is_hit)

module _ (script : PairScriptValue) (side : Side) (slices : List (List SliceEntry)) (n : ℕ) where
  -- one domain more
  pub MarkedBelow-more : (old new : List Bool) → MarkedBelow script side slices n old → AreMarked script side n (slice_in slices n) old new → MarkedBelow script side slices (n + 1) new
  MarkedBelow-more old new below marked = λ i task cpu line code is.
      marked-more (domain_on script side cpu) n (λ x. has_at (slice_in slices x) i is_hit) (get_or old i false) (get_or new i false) (below i task cpu line code is)
      (marked.each i ∙ ap (λ (o : Option PairOp). get_or old i false || (is_use_in script side n o && has_at (slice_in slices n) i is_hit)) is)

  -- all of them
  pub AreHits-below : (hits : List Bool) → IsLawful script → (side_machine script.machines side).domains ≤ n → length hits ≡ length script.ops → MarkedBelow script side slices n hits → AreHits script side slices hits
  AreHits-below hits lawful most all below = record {
    all = all;
    each = λ i task cpu line code is.
        let lt = domain_on-lt script lawful side i task cpu line code is in
        below i task cpu line code is ∙ ap (λ (b : Bool). b && has_at (slice_in slices (domain_on script side cpu)) i is_hit) (lt-ltb (domain_on script side cpu) n (omega (arith, lt, most)));
  }
