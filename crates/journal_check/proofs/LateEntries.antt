-- Entries that stand after those of later epochs.
use Rattle.std.proofs.Common.{◌≡◌, ℕ, ◌+◌, ◌-◌, ◌<◌, ◌≤◌, inl, inr, true, false, List, length, Some, refl, sym, ap, ◌∙◌, subst, arith}
use Rattle.std.specs.Prelude.{IsSome, IsTrue}
use Rattle.std.proofs.lemmas.Bool.{cases_Bool, cases_lt}
use Rattle.std.proofs.lemmas.Option.{slice_get_within}
use Rattle.cache_core.specs.declared.entry.SliceEntry.{SliceEntry}
use Rattle.journal_check.specs.AfterCommands.{AreAfterUpTo, IsAfterCommands, IsLatest, IsOther, IsPassed, other_epoch}
use Rattle.journal_check.specs.Places.{ArePlaces}
use Rattle.journal_check.specs.Tables.{number_at}
use Rattle.journal_check.specs.declared.after_commands.TwoLatestEpochs.{TwoLatestEpochs}
use Rattle.journal_check.proofs.LatestEpochs.{IsPassed-suc, made_by-same}
use Rattle.run_law.proofs.laws.Pairs.{both_eqb-same, both_eqb-true}
use Rattle.run_law.specs.Journals.{At}
use Rattle.run_law.specs.Truth.{is_made_by, is_taken_from}
use Rattle.run_law.specs.TreeHistory.{TreeEntryValue}
use Rattle.script_ops.specs.Values.{ScriptValue, op_at}

-- none passed yet
pub AreAfterUpTo-zero : (script : ScriptValue) (tree : List TreeEntryValue) (entries : List SliceEntry) → AreAfterUpTo script tree entries 0
AreAfterUpTo-zero script tree entries = λ p q k e earlier command passed within there taken made before apart. absurd (omega arith)

-- the greatest epoch of another op is at most this, where each is
other_epoch-le : (script : ScriptValue) (entries : List SliceEntry) (n p : ℕ) (l : TwoLatestEpochs) (e x : SliceEntry) → IsLatest script entries n l → IsPassed script entries n p x → IsOther e.thread e.op x → x.epoch ≤ other_epoch l e
other_epoch-le script entries n p l e x latest passed apart = elim (cases_Bool (is_made_by l.thread l.op e)) [
  | inl own ↦ rw own (latest.others p x passed (λ mine. apart (made_by-same l.thread l.op x e mine own)))
  | inr other ↦ rw other (latest.epochs p x passed)
]

-- and it is there
other_epoch-there : (script : ScriptValue) (entries : List SliceEntry) (n : ℕ) (l : TwoLatestEpochs) (e : SliceEntry) → IsLatest script entries n l → 0 < other_epoch l e
    → (p : ℕ) × (x : SliceEntry) × IsPassed script entries n p x × IsOther e.thread e.op x × (x.epoch ≡ other_epoch l e)
other_epoch-there script entries n l e latest some = elim (cases_Bool (is_made_by l.thread l.op e)) [
  | inl own ↦
      let is : other_epoch l e ≡ l.other = rw own refl in
      elim latest.other_there [
        | inl none ↦ absurd (omega (arith, some, is, none))
        | inr it ↦ (
          it.0,
          it.1,
          it.2,
          (λ mine. it.3 (let first = both_eqb-true it.1.thread e.thread it.1.op e.op mine in
              let second = both_eqb-true e.thread l.thread e.op l.op own in
              both_eqb-same it.1.thread l.thread it.1.op l.op (first.0 ∙ second.0) (first.1 ∙ second.1))),
          it.4 ∙ sym is,
        )
      ]
  | inr other ↦
      let is : other_epoch l e ≡ l.epoch = rw other refl in
      elim latest.epoch_there [
        | inl none ↦ absurd (omega (arith, some, is, none))
        | inr it ↦ (
          it.0,
          it.1,
          it.2,
          (λ mine. absurd (let own : IsTrue (is_made_by l.thread l.op e) =
              (let first = both_eqb-true it.1.thread e.thread it.1.op e.op mine in
              let second = both_eqb-true it.1.thread l.thread it.1.op l.op it.3 in
              both_eqb-same e.thread l.thread e.op l.op (sym first.0 ∙ second.0) (sym first.1 ∙ second.1)) in
              let wrong : true ≡ false = sym own ∙ other in cc)),
          it.4 ∙ sym is,
        )
      ]
]

module _ (script : ScriptValue) (tree : List TreeEntryValue) (entries : List SliceEntry) (table : List (List ℕ)) (n : ℕ) (l : TwoLatestEpochs) (e : SliceEntry) (at : At entries n e) (places : ArePlaces script table tree) where
  -- an entry that is not behind one of a later epoch
  pub AreAfterUpTo-suc : (place : ℕ) → number_at table e.thread e.op ≡ Some place → IsLatest script entries n l → ((0 < place) × (place ≤ other_epoch l e) → ⊥) → AreAfterUpTo script tree entries n → AreAfterUpTo script tree entries (n + 1)
  AreAfterUpTo-suc place is latest fine behind = λ p q k x earlier command passed within there taken made before apart.
      elim (cases_lt q n) [
        | inl early ↦ elim (IsPassed-suc script entries n p e x at passed) [
          | inl old ↦ behind p q k x earlier command old early there taken made before apart
          | inr here ↦ omega (arith, early, here.0)
        ]
        | inr late ↦
            let last : q ≡ n = omega arith in
            let there_too : At entries n earlier = subst (λ i. At entries i earlier) last there in
            let same : earlier ≡ e = cc in
            let own : IsTrue (is_made_by command.thread command.op e) = subst (λ (y : SliceEntry). IsTrue (is_made_by command.thread command.op y)) same made in
            let names = both_eqb-true e.thread command.thread e.op command.op own in
            let taken_from : IsTrue (is_taken_from e.thread e.op command) = both_eqb-same command.thread e.thread command.op e.op (sym names.0) (sym names.1) in
            let placed : place ≡ k + 1 = places.taken e.thread e.op k place command taken taken_from is in
            elim (IsPassed-suc script entries n p e x at passed) [
              | inl old ↦ absurd (
                  let apart_too : IsOther e.thread e.op x = λ mine. apart (let its = both_eqb-true x.thread e.thread x.op e.op mine in both_eqb-same x.thread command.thread x.op command.op (its.0 ∙ names.0) (its.1 ∙ names.1)) in
                  let bound : x.epoch ≤ other_epoch l e = other_epoch-le script entries n p l e x latest old apart_too in
                  fine (omega arith, omega arith))
              | inr here ↦ absurd (apart (subst (λ (y : SliceEntry). IsTrue (is_made_by command.thread command.op y)) (sym here.1) own))
            ]
      ]

  -- an entry of no command
  pub AreAfterUpTo-skip : (IsSome (op_at script e.thread e.op) → ⊥) → AreAfterUpTo script tree entries n → AreAfterUpTo script tree entries (n + 1)
  AreAfterUpTo-skip no_op behind = λ p q k x earlier command passed within there taken made before apart.
      elim (cases_lt q n) [
        | inl early ↦ elim (IsPassed-suc script entries n p e x at passed) [
          | inl old ↦ behind p q k x earlier command old early there taken made before apart
          | inr here ↦ omega (arith, early, here.0)
        ]
        | inr late ↦
            let last : q ≡ n = omega arith in
            let there_too : At entries n earlier = subst (λ i. At entries i earlier) last there in
            let same : earlier ≡ e = cc in
            let own : IsTrue (is_made_by command.thread command.op e) = subst (λ (y : SliceEntry). IsTrue (is_made_by command.thread command.op y)) same made in
            let names = both_eqb-true e.thread command.thread e.op command.op own in
            let its : IsSome (op_at script command.thread command.op) = places.of_ops k command taken in
            absurd (no_op (subst (λ t. IsSome (op_at script t e.op)) (sym names.0) (subst (λ o. IsSome (op_at script command.thread o)) (sym names.1) its)))
      ]

  -- an entry of a command behind one of a later epoch
  pub late-not_after : (place : ℕ) → number_at table e.thread e.op ≡ Some place → IsLatest script entries n l → (0 < place) × (place ≤ other_epoch l e) → IsAfterCommands script tree entries → ⊥
  late-not_after place is latest late behind =
      let it = other_epoch-there script entries n l e latest (let low = late.0 in let high = late.1 in omega arith) in
      let number : number_at table e.thread e.op ≡ Some ((place - 1) + 1) = is ∙ ap Some (let low = late.0 in omega arith) in
      let command = places.place e.thread e.op (place - 1) number in
      let names = both_eqb-true command.0.thread e.thread command.0.op e.op command.2 in
      let its : IsTrue (is_made_by command.0.thread command.0.op e) = both_eqb-same e.thread command.0.thread e.op command.0.op (sym names.0) (sym names.1) in
      let bound : place - 1 < it.1.epoch = let low = late.0 in let high = late.1 in let epoch = it.4 in omega arith in
      let apart : IsOther command.0.thread command.0.op it.1 = λ mine. it.3 (let m = both_eqb-true it.1.thread command.0.thread it.1.op command.0.op mine in both_eqb-same it.1.thread e.thread it.1.op e.op (m.0 ∙ names.0) (m.1 ∙ names.1)) in
      let wrong : n < it.0 = behind it.0 n (place - 1) it.1 e command.0 it.2.there at command.1 it.2.of_op its bound apart in
      let within = it.2.within in omega arith

-- all entries
pub IsAfterCommands-all : (script : ScriptValue) (tree : List TreeEntryValue) (entries : List SliceEntry) (n : ℕ) → length entries ≤ n → AreAfterUpTo script tree entries n → IsAfterCommands script tree entries
IsAfterCommands-all script tree entries n all behind = λ p q k e earlier command here there taken of_op made before apart.
    let first = slice_get_within entries p e here in
    let second = slice_get_within entries q earlier there in
    behind p q k e earlier command (record { within = omega arith; there = here; of_op = of_op }) (omega arith) there taken made before apart
