-- The rest of an entry's line, read number by number: what it says where it is the rest of some entry.
use Rattle.std.proofs.Common.{◌≡◌, ℕ, ◌^◌, ◌<◌, ◌≤◌, Bool, List, [], ◌∷◌, get_or, refl, sym, ap, subst, ◌∙◌}
use Rattle.cache_core.specs.declared.entry.What.{What}
use Rattle.cache_core.specs.declared.entry.What.TheVariants as entries
use Rattle.lists.specs.Sums.{one_if}
use Rattle.machine.specs.declared.parameters.Parameters.{Parameters}
use Rattle.rc_base.specs.declared.names.Gid.{Gid}
use Rattle.journal_text.specs.Kinds.{IsRest}
use Rattle.journal_text.specs.Lines.{fields}
use Rattle.journal_text.specs.Taken.{IsNotJust, Takes}
use Rattle.journal_text.specs.Writable.{HasText, IsLine, IsLineIn, IsMask}
use Rattle.journal_text.specs.declared.kind.EntryKind.TheVariants.{Access, Lock, Look}
use Rattle.journal_text.proofs.laws.EntryLines.{AreNumbers-access, AreNumbers-lock, AreNumbers-look}
use Rattle.journal_text.proofs.laws.Fields.{Takes-all, Takes-unique}
use Rattle.std.proofs.lemmas.List.{append-nil}

-- ---- an access

-- the numbers of an access
record AccessIs (m : Parameters) (i : ℕ) (rest : List ℕ) : Type 0 where
  hit : Bool
  way : ℕ
  owner : Gid
  rmid : ℕ
  mask : ℕ
  line : ℕ
  text : HasText m i (entries.Access hit way owner rmid mask line)
  takes : Takes (owner.0 ∷ rmid ∷ mask ∷ line ∷ one_if hit ∷ way ∷ []) [] rest

-- the rest of an access's line is its numbers
AccessIs-rest : (m : Parameters) (i : ℕ) (rest : List ℕ) (what : What) → m.ways ≤ 32 → IsRest m i Access rest what → AccessIs m i rest
AccessIs-rest m i rest (entries.Access hit way owner rmid mask line) narrow is =
    let text : HasText m i (entries.Access hit way owner rmid mask line) = is.writable in
    let numbers : List ℕ = owner.0 ∷ rmid ∷ mask ∷ line ∷ one_if hit ∷ way ∷ [] in
    record { hit = hit; way = way; owner = owner; rmid = rmid; mask = mask; line = line; text = text; takes = subst (λ (r : List ℕ). Takes numbers [] r) is.same (Takes-all numbers (AreNumbers-access m i hit way owner rmid mask line narrow text)) }
AccessIs-rest m i rest entries.Raise narrow is = let e = is.kind_is in absurd cc
AccessIs-rest m i rest entries.Flush narrow is = let e = is.kind_is in absurd cc
AccessIs-rest m i rest (entries.Lock mask first_line) narrow is = let e = is.kind_is in absurd cc
AccessIs-rest m i rest (entries.Look rmid lines) narrow is = let e = is.kind_is in absurd cc
AccessIs-rest m i rest (entries.Drop line way) narrow is = let e = is.kind_is in absurd cc

-- a text that is not six numbers is the rest of no access
pub no_access : (m : Parameters) (i : ℕ) (rest : List ℕ) → m.ways ≤ 32 → IsNotJust 6 rest → (what : What) → IsRest m i Access rest what → ⊥
no_access m i rest narrow none what is =
    let a = AccessIs-rest m i rest what narrow is in
    none (a.owner.0 ∷ a.rmid ∷ a.mask ∷ a.line ∷ one_if a.hit ∷ a.way ∷ []) refl a.takes

-- what the numbers of an access say
pub record AccessSays (m : Parameters) (i gid id bits number outcome place : ℕ) : Type 0 where
  pub owner : gid < 2 ^ 32
  pub rmid : id < 2 ^ 16
  pub mask : IsMask m bits
  pub line : IsLineIn m i number
  pub hit : (b : Bool) × (one_if b ≡ outcome)
  pub way : place < m.ways

-- six numbers that are the rest of an access's line
pub AccessSays-rest : (m : Parameters) (i gid id bits number outcome place : ℕ) (rest : List ℕ) → m.ways ≤ 32 → Takes (gid ∷ id ∷ bits ∷ number ∷ outcome ∷ place ∷ []) [] rest
    → (what : What) → IsRest m i Access rest what → AccessSays m i gid id bits number outcome place
AccessSays-rest m i gid id bits number outcome place rest narrow t what is =
    let a = AccessIs-rest m i rest what narrow is in
    let all = (Takes-unique (a.owner.0 ∷ a.rmid ∷ a.mask ∷ a.line ∷ one_if a.hit ∷ a.way ∷ []) (gid ∷ id ∷ bits ∷ number ∷ outcome ∷ place ∷ []) [] [] rest refl a.takes t).0 in
    record {
      owner = subst (λ (n : ℕ). n < 2 ^ 32) (ap (λ (xs : List ℕ). get_or xs 0 0) all) a.text.1;
      rmid = subst (λ (n : ℕ). n < 2 ^ 16) (ap (λ (xs : List ℕ). get_or xs 1 0) all) a.text.2;
      mask = subst (λ (n : ℕ). IsMask m n) (ap (λ (xs : List ℕ). get_or xs 2 0) all) a.text.3;
      line = subst (λ (n : ℕ). IsLineIn m i n) (ap (λ (xs : List ℕ). get_or xs 3 0) all) a.text.4;
      hit = (a.hit, ap (λ (xs : List ℕ). get_or xs 4 0) all);
      way = subst (λ (n : ℕ). n < m.ways) (ap (λ (xs : List ℕ). get_or xs 5 0) all) a.text.0;
    }

-- six numbers that each say what one of an access says
pub IsRest-access : (m : Parameters) (i gid id bits number outcome place : ℕ) (rest : List ℕ) (hit : Bool) (way owner rmid mask line : ℕ)
    → Takes (gid ∷ id ∷ bits ∷ number ∷ outcome ∷ place ∷ []) [] rest → owner ≡ gid → owner < 2 ^ 32 → rmid ≡ id → rmid < 2 ^ 16 → (mask ≡ bits) × IsMask m mask → (line ≡ number) × IsLineIn m i line → one_if hit ≡ outcome → (way ≡ place) × (way < m.ways)
    → IsRest m i Access rest (entries.Access hit way (record { 0 = owner }) rmid mask line)
IsRest-access m i gid id bits number outcome place rest hit way owner rmid mask line t o o_small r r_small ma li h w = record {
  kind_is = refl;
  writable = (w.1, o_small, r_small, ma.1, li.1);
  same = rw (o, r, ma.0, li.0, h, w.0) (sym (t.same ∙ append-nil (fields (gid ∷ id ∷ bits ∷ number ∷ outcome ∷ place ∷ []))));
}

-- ---- a lock

-- the numbers of a lock
record LockIs (m : Parameters) (i : ℕ) (rest : List ℕ) : Type 0 where
  mask : ℕ
  line : ℕ
  text : HasText m i (entries.Lock mask line)
  takes : Takes (mask ∷ line ∷ []) [] rest

-- the rest of a lock's line is its numbers
LockIs-rest : (m : Parameters) (i : ℕ) (rest : List ℕ) (what : What) → IsRest m i Lock rest what → LockIs m i rest
LockIs-rest m i rest (entries.Lock mask line) is =
    let text : HasText m i (entries.Lock mask line) = is.writable in
    record { mask = mask; line = line; text = text; takes = subst (λ (r : List ℕ). Takes (mask ∷ line ∷ []) [] r) is.same (Takes-all (mask ∷ line ∷ []) (AreNumbers-lock m i mask line text)) }
LockIs-rest m i rest (entries.Access hit way owner rmid mask line) is = let e = is.kind_is in absurd cc
LockIs-rest m i rest entries.Raise is = let e = is.kind_is in absurd cc
LockIs-rest m i rest entries.Flush is = let e = is.kind_is in absurd cc
LockIs-rest m i rest (entries.Look rmid lines) is = let e = is.kind_is in absurd cc
LockIs-rest m i rest (entries.Drop line way) is = let e = is.kind_is in absurd cc

-- a text that is not two numbers is the rest of no lock
pub no_lock : (m : Parameters) (i : ℕ) (rest : List ℕ) → IsNotJust 2 rest → (what : What) → IsRest m i Lock rest what → ⊥
no_lock m i rest none what is = let a = LockIs-rest m i rest what is in none (a.mask ∷ a.line ∷ []) refl a.takes

-- what two numbers say that are the rest of a lock's line
pub lock_says : (m : Parameters) (i bits number : ℕ) (rest : List ℕ) → Takes (bits ∷ number ∷ []) [] rest → (what : What) → IsRest m i Lock rest what → IsMask m bits × IsLine number
lock_says m i bits number rest t what is =
    let a = LockIs-rest m i rest what is in
    let all = (Takes-unique (a.mask ∷ a.line ∷ []) (bits ∷ number ∷ []) [] [] rest refl a.takes t).0 in
    (subst (λ (n : ℕ). IsMask m n) (ap (λ (xs : List ℕ). get_or xs 0 0) all) a.text.0, subst IsLine (ap (λ (xs : List ℕ). get_or xs 1 0) all) a.text.1)

-- two numbers that each say what one of a lock says
pub IsRest-lock : (m : Parameters) (i bits number : ℕ) (rest : List ℕ) (mask line : ℕ) → Takes (bits ∷ number ∷ []) [] rest → (mask ≡ bits) × IsMask m mask → (line ≡ number) × IsLine line → IsRest m i Lock rest (entries.Lock mask line)
IsRest-lock m i bits number rest mask line t ma li = record { kind_is = refl; writable = (ma.1, li.1); same = rw (ma.0, li.0) (sym (t.same ∙ append-nil (fields (bits ∷ number ∷ [])))) }

-- ---- a look

-- the numbers of a look
record LookIs (m : Parameters) (i : ℕ) (rest : List ℕ) : Type 0 where
  rmid : ℕ
  lines : ℕ
  text : HasText m i (entries.Look rmid lines)
  takes : Takes (rmid ∷ lines ∷ []) [] rest

-- the rest of a look's line is its numbers
LookIs-rest : (m : Parameters) (i : ℕ) (rest : List ℕ) (what : What) → IsRest m i Look rest what → LookIs m i rest
LookIs-rest m i rest (entries.Look rmid lines) is =
    let text : HasText m i (entries.Look rmid lines) = is.writable in
    record { rmid = rmid; lines = lines; text = text; takes = subst (λ (r : List ℕ). Takes (rmid ∷ lines ∷ []) [] r) is.same (Takes-all (rmid ∷ lines ∷ []) (AreNumbers-look m i rmid lines text)) }
LookIs-rest m i rest (entries.Access hit way owner rmid mask line) is = let e = is.kind_is in absurd cc
LookIs-rest m i rest entries.Raise is = let e = is.kind_is in absurd cc
LookIs-rest m i rest entries.Flush is = let e = is.kind_is in absurd cc
LookIs-rest m i rest (entries.Lock mask first_line) is = let e = is.kind_is in absurd cc
LookIs-rest m i rest (entries.Drop line way) is = let e = is.kind_is in absurd cc

-- a text that is not two numbers is the rest of no look
pub no_look : (m : Parameters) (i : ℕ) (rest : List ℕ) → IsNotJust 2 rest → (what : What) → IsRest m i Look rest what → ⊥
no_look m i rest none what is = let a = LookIs-rest m i rest what is in none (a.rmid ∷ a.lines ∷ []) refl a.takes

-- what two numbers say that are the rest of a look's line
pub look_says : (m : Parameters) (i id number : ℕ) (rest : List ℕ) → Takes (id ∷ number ∷ []) [] rest → (what : What) → IsRest m i Look rest what → id < 2 ^ 16
look_says m i id number rest t what is =
    let a = LookIs-rest m i rest what is in
    let all = (Takes-unique (a.rmid ∷ a.lines ∷ []) (id ∷ number ∷ []) [] [] rest refl a.takes t).0 in
    subst (λ (n : ℕ). n < 2 ^ 16) (ap (λ (xs : List ℕ). get_or xs 0 0) all) a.text.0

-- two numbers that each say what one of a look says
pub IsRest-look : (m : Parameters) (i id number : ℕ) (rest : List ℕ) (rmid : ℕ) → Takes (id ∷ number ∷ []) [] rest → rmid ≡ id → rmid < 2 ^ 16 → IsRest m i Look rest (entries.Look rmid number)
IsRest-look m i id number rest rmid t r small = record { kind_is = refl; writable = (small, t.fit.1.0); same = rw r (sym (t.same ∙ append-nil (fields (id ∷ number ∷ [])))) }
