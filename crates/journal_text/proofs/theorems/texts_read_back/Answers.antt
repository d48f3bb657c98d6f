use Rattle.std.proofs.Common.{◌≡◌, ℕ, List, Result, Ok, Err, ◌⊎◌, ap, refl, inl, inr}
use Rattle.journal_text.proofs.Uniqueness.{IsTextOf-same}
use Rattle.journal_text.specs.Readings.{IsTextOf, Reads}
use Rattle.journal_text.specs.declared.fault.ReadError.{ReadError}
use Rattle.journal_text.specs.declared.fault.ReadError.TheVariants as errors
use Rattle.journal_text.proofs.theorems.texts_read_back.Goals as goal
use Rattle.run_law.specs.Journals.{JournalsValue}
use Rattle.script_ops.specs.Values.{IsLawful, ScriptValue}

texts_read_back : (script : ScriptValue) (text : List ℕ) (j : JournalsValue) (result : Result JournalsValue ReadError) → IsLawful script → IsTextOf script text j → Reads script text result → (result ≡ Ok j) ⊎ (result ≡ Err errors.NoMemory)
texts_read_back script text j (Ok other) lawful is read = inl (ap (λ (k : JournalsValue). Ok k) (IsTextOf-same script lawful text other j read is))
texts_read_back script text j (Err (errors.Bad line)) lawful is read = absurd (read.no_journals j is)
texts_read_back script text j (Err errors.NoMemory) lawful is read = inr refl

pub returns-clause-one : goal.returns-clause-one
returns-clause-one c = λ script text a b lawful one two. IsTextOf-same script lawful text a b one two

pub returns-clause-back : goal.returns-clause-back
returns-clause-back c = texts_read_back
