-- First looks that are noted one by one.
use Rattle.std.proofs.Common.{◌≡◌, ◌⊎◌, Bool, ℕ, ◌+◌, ◌*◌, ◌<◌, true, false, inl, inr, List, [], ◌∷◌, ◌++◌, Option, Some, None, refl, sym, ap, ◌∙◌, subst, arith}
use Rattle.std.specs.BTreeSet.{Updates, contains}
use Rattle.std.specs.Ordering.{is_eq, nat_cmp}
use Rattle.std.specs.Prelude.{◌==◌, IsSome, if◌then◌else◌, not}
use Rattle.std.specs.declared.alloc.Global.{Global}
use Rattle.std.specs.declared.collections.BTreeSet.{BTreeSet}
use Rattle.std.proofs.lemmas.Bool.{cases_Bool, eq-eqb, eqb-true}
use Rattle.std.proofs.lemmas.Bool.Decides.{nat_tests}
use Rattle.cache_core.specs.declared.entry.SliceEntry.{SliceEntry}
use Rattle.cache_core.specs.declared.entry.What.{What}
use Rattle.cache_core.specs.declared.entry.What.TheVariants as whats
use Rattle.journal_check.proofs.laws.Told.{some-IsSome}
use Rattle.check_parts.specs.NotedLooks.{AreNoted, KeepsFirst, look_number_of, looked_rmid}
use Rattle.run_law.proofs.laws.MatchedLooks.{first_look_push}
use Rattle.run_law.proofs.laws.Pairs.{both_eqb-same, both_eqb-true}
use Rattle.run_law.specs.Looks.{first_look, first_of, look_number}
use Rattle.run_law.specs.Truth.{is_made_by}
use Rattle.script_ops.specs.Values.{ScriptValue, op_at}

-- two numbers below a greatest one beside two others
pair-same : (a r b s : ℕ) → r < 65536 → s < 65536 → a * 65536 + r ≡ b * 65536 + s → (a ≡ b) × (r ≡ s)
pair-same a r b s small smaller same = (omega (arith, small, smaller, same), omega (arith, small, smaller, same))

word-same : (a r b s : ℕ) → r < 4294967296 → s < 4294967296 → a * 4294967296 + r ≡ b * 4294967296 + s → (a ≡ b) × (r ≡ s)
word-same a r b s small smaller same = (omega (arith, small, smaller, same), omega (arith, small, smaller, same))

-- no two looks have one number
look_number_of-same : (t o r u p s : ℕ) → o < 4294967296 → p < 4294967296 → r < 65536 → s < 65536 → look_number_of t o r ≡ look_number_of u p s → (t ≡ u) × (o ≡ p) × (r ≡ s)
look_number_of-same t o r u p s small smaller few fewer same =
    let pair = pair-same (t * 4294967296 + o) r (u * 4294967296 + p) s few fewer same in
    let word = word-same t o u p small smaller pair.0 in
    (word.0, word.1, pair.1)

-- what is noted after a number is it, or was noted before
nat_cmp-same : (x y : ℕ) → is_eq (nat_cmp x y) ≡ true → x ≡ y
nat_cmp-same x y same = grind (arith, nat_tests)

noted-cases : (old new : BTreeSet ℕ Global) (number : ℕ) → Updates nat_cmp old new number true → (other : ℕ) → contains nat_cmp new other ≡ true → (other ≡ number) ⊎ (contains nat_cmp old other ≡ true)
noted-cases old new number updates other there = elim (cases_Bool (is_eq (nat_cmp number other))) [
  | inl same ↦ inl (sym (nat_cmp-same number other same))
  | inr differ ↦ inr (sym (updates.2 other differ) ∙ there)
]

not-true : (b : Bool) → not b ≡ false → b ≡ true
not-true true is = refl
not-true false is = sym is

-- an entry whose number was noted, and another
pub KeepsFirst-known : (old new : BTreeSet ℕ Global) (looks : List SliceEntry) (e : SliceEntry) (number : ℕ) → not (contains nat_cmp old number) ≡ false → Updates nat_cmp old new number true → KeepsFirst old new looks looks e number
KeepsFirst-known old new looks e number known updates = record { kept = inl (not-true (contains nat_cmp old number) known, refl); noted = noted-cases old new number updates }

pub KeepsFirst-new : (old new : BTreeSet ℕ Global) (looks more : List SliceEntry) (e : SliceEntry) (number : ℕ) → more ≡ looks ++ e ∷ [] → Updates nat_cmp old new number true → KeepsFirst old new looks more e number
KeepsFirst-new old new looks more e number is updates = record { kept = inr is; noted = noted-cases old new number updates }

-- nothing was noted of no entries
pub AreNoted-nothing : (script : ScriptValue) (noted : BTreeSet ℕ Global) → ((q : ℕ) → contains nat_cmp noted q ≡ false) → AreNoted script [] [] noted
AreNoted-nothing script noted none = record {
  have = λ t o rmid some. refl;
  known = λ t o rmid below fewer there. absurd (let wrong : true ≡ false = sym there ∙ none (look_number_of t o rmid) in cc);
}

-- the first of one number
first_of-none : (o : Option ℕ) → first_of o None ≡ o
first_of-none None = refl
first_of-none (Some n) = refl

first_of-some : (o : Option ℕ) (n : ℕ) → IsSome (first_of o (Some n))
first_of-some None n = refl
first_of-some (Some m) n = refl

first_of-first : (o p : Option ℕ) → IsSome o → first_of o p ≡ o
first_of-first None p some = absurd cc
first_of-first (Some n) p some = refl

-- what is no look counts nothing
look_number-none : (w : What) → looked_rmid w ≡ None → (rmid : ℕ) → look_number rmid w ≡ None
look_number-none (whats.Access hit way owner r mask line) is rmid = refl
look_number-none whats.Raise is rmid = refl
look_number-none whats.Flush is rmid = refl
look_number-none (whats.Lock mask first_line) is rmid = refl
look_number-none (whats.Look r lines) is rmid = absurd cc
look_number-none (whats.Drop line at) is rmid = refl

-- a look counts at its RMID alone
look_number-some : (w : What) (r : ℕ) → looked_rmid w ≡ Some r → (rmid : ℕ) → (look_number rmid w ≡ None) ⊎ ((r ≡ rmid) × IsSome (look_number rmid w))
look_number-some (whats.Access hit way owner q mask line) r is rmid = absurd cc
look_number-some whats.Raise r is rmid = absurd cc
look_number-some whats.Flush r is rmid = absurd cc
look_number-some (whats.Lock mask first_line) r is rmid = absurd cc
look_number-some (whats.Look q lines) r is rmid =
    let own : q ≡ r = cc in
    elim (cases_Bool (q == rmid)) [
      | inl same ↦ inr (sym own ∙ eqb-true q rmid same, rw same refl)
      | inr other ↦ inl (rw other refl)
    ]
look_number-some (whats.Drop line at) r is rmid = absurd cc

-- a look counts something at its own
looked-some : (w : What) (r : ℕ) → looked_rmid w ≡ Some r → IsSome (look_number r w)
looked-some (whats.Access hit way owner q mask line) r is = absurd cc
looked-some whats.Raise r is = absurd cc
looked-some whats.Flush r is = absurd cc
looked-some (whats.Lock mask first_line) r is = absurd cc
looked-some (whats.Look q lines) r is = (let own : q ≡ r = cc in subst (λ n. IsSome (look_number n (whats.Look q lines))) own (rw (eq-eqb q q refl) refl))
looked-some (whats.Drop line at) r is = absurd cc

module _ (script : ScriptValue) (before looks : List SliceEntry) (old : BTreeSet ℕ Global) (e : SliceEntry) (noted : AreNoted script before looks old) where
  -- what the entry adds for an op and an RMID
  abbrev last : ℕ → ℕ → ℕ → Option ℕ
  last t o rmid = if is_made_by t o e then look_number rmid e.what else None

  -- an entry that adds nothing for any op of the script
  AreNoted-none : ((t o rmid : ℕ) → IsSome (op_at script t o) → last t o rmid ≡ None) → AreNoted script (before ++ e ∷ []) looks old
  AreNoted-none none = record {
    have = λ t o rmid some. noted.have t o rmid some ∙ (sym (first_of-none (first_look t o rmid before)) ∙ (ap (first_of (first_look t o rmid before)) (sym (none t o rmid some)) ∙ sym (first_look_push t o rmid before e)));
    known = noted.known;
  }

  -- one that is no look
  pub AreNoted-other : looked_rmid e.what ≡ None → AreNoted script (before ++ e ∷ []) looks old
  AreNoted-other is = AreNoted-none (λ t o rmid some. elim (cases_Bool (is_made_by t o e)) [ inl mine ↦ rw mine (look_number-none e.what is rmid) | inr other ↦ rw other refl ])

  -- one of no op of the script
  pub AreNoted-unknown : op_at script e.thread e.op ≡ None → AreNoted script (before ++ e ∷ []) looks old
  AreNoted-unknown is = AreNoted-none (λ t o rmid some. elim (cases_Bool (is_made_by t o e)) [
    | inl mine ↦ (let names = both_eqb-true e.thread t e.op o mine in
        let it = some-IsSome (op_at script t o) some in
        let there : op_at script e.thread e.op ≡ Some it.0 = subst (λ n. op_at script n e.op ≡ Some it.0) (sym names.0) (subst (λ n. op_at script t n ≡ Some it.0) (sym names.1) it.1) in
        absurd (let wrong : None ≡ Some it.0 = sym is ∙ there in cc))
    | inr other ↦ rw other refl
  ])

  module _ (new : BTreeSet ℕ Global) (more : List SliceEntry) (r : ℕ) (small : e.op < 4294967296) (few : r < 65536) (is : looked_rmid e.what ≡ Some r) (keeps : KeepsFirst old new looks more e (look_number_of e.thread e.op r)) where
    -- what the entry adds is nothing, or it is the look of just this op and RMID
    last-cases : (t o rmid : ℕ) → (last t o rmid ≡ None) ⊎ ((e.thread ≡ t) × (e.op ≡ o) × (r ≡ rmid) × IsSome (last t o rmid))
    last-cases t o rmid = elim (cases_Bool (is_made_by t o e)) [
      | inl mine ↦ elim (look_number-some e.what r is rmid) [
        | inl none ↦ inl (rw mine none)
        | inr some ↦ (let names = both_eqb-true e.thread t e.op o mine in inr (names.0, names.1, some.0, rw mine some.1))
      ]
      | inr other ↦ inl (rw other refl)
    ]

    -- the look of this op and RMID adds something
    last-own : IsSome (look_number r e.what) → (t o rmid : ℕ) → t ≡ e.thread → o ≡ e.op → rmid ≡ r → IsSome (last t o rmid)
    last-own some t o rmid one two three =
        subst (λ n. IsSome (last n o rmid)) (sym one) (subst (λ n. IsSome (last e.thread n rmid)) (sym two) (subst (λ n. IsSome (last e.thread e.op n)) (sym three) (rw (both_eqb-same e.thread e.thread e.op e.op refl refl) some)))

    -- its number was noted: nothing is added
    skipped : contains nat_cmp old (look_number_of e.thread e.op r) ≡ true → AreNoted script (before ++ e ∷ []) looks new
    skipped has =
        let own = noted.known e.thread e.op r small few has in
        record {
          have = λ t o rmid some. noted.have t o rmid some ∙ (elim (last-cases t o rmid) [
            | inl none ↦ sym (first_of-none (first_look t o rmid before)) ∙ ap (first_of (first_look t o rmid before)) (sym none)
            | inr own_look ↦ (let names = own_look in
                let mine : IsSome (first_look t o rmid looks) = subst (λ n. IsSome (first_look n o rmid looks)) names.0 (subst (λ n. IsSome (first_look e.thread n rmid looks)) names.1 (subst (λ n. IsSome (first_look e.thread e.op n looks)) names.2 own)) in
                let here : IsSome (first_look t o rmid before) = subst (λ (x : Option ℕ). IsSome x) (noted.have t o rmid some) mine in
                sym (first_of-first (first_look t o rmid before) (last t o rmid) here))
          ] ∙ sym (first_look_push t o rmid before e));
          known = λ t o rmid below fewer there. elim (keeps.noted (look_number_of t o rmid) there) [
            | inl same ↦ noted.known t o rmid below fewer (subst (λ n. contains nat_cmp old n ≡ true) (sym same) has)
            | inr before_it ↦ noted.known t o rmid below fewer before_it
          ];
        }

    -- the entry is kept
    pushed : AreNoted script (before ++ e ∷ []) (looks ++ e ∷ []) new
    pushed = record {
      have = λ t o rmid some. first_look_push t o rmid looks e ∙ (ap (λ (x : Option ℕ). first_of x (last t o rmid)) (noted.have t o rmid some) ∙ sym (first_look_push t o rmid before e));
      known = λ t o rmid below fewer there. subst (λ (x : Option ℕ). IsSome x) (sym (first_look_push t o rmid looks e)) (elim (keeps.noted (look_number_of t o rmid) there) [
        | inl same ↦ (let names = look_number_of-same t o rmid e.thread e.op r below small fewer few same in
            let it = some-IsSome (last t o rmid) (last-own (looked-some e.what r is) t o rmid names.0 names.1 names.2) in
            subst (λ (x : Option ℕ). IsSome (first_of (first_look t o rmid looks) x)) (sym it.1) (first_of-some (first_look t o rmid looks) it.0))
        | inr before_it ↦ (let have = noted.known t o rmid below fewer before_it in subst (λ (x : Option ℕ). IsSome x) (sym (first_of-first (first_look t o rmid looks) (last t o rmid) have)) have)
      ]);
    }

    -- whichever it was
    pub AreNoted-look : AreNoted script (before ++ e ∷ []) more new
    AreNoted-look = elim keeps.kept [
      | inl old_look ↦ subst (λ (l : List SliceEntry). AreNoted script (before ++ e ∷ []) l new) (sym old_look.1) (skipped old_look.0)
      | inr new_look ↦ subst (λ (l : List SliceEntry). AreNoted script (before ++ e ∷ []) l new) (sym new_look) pushed
    ]
