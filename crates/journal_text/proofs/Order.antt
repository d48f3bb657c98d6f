-- The positions that lines lead to, one after the other.
use Rattle.std.proofs.Common.{◌≡◌, ℕ, ◌+◌, List, [], ◌∷◌, ◌++◌, refl, sym, ap, subst, ◌∙◌, arith, inl, inr}
use Rattle.journal_text.proofs.laws.FirstWords.{command_line-last_line, command_line-slice_line}
use Rattle.journal_text.proofs.LineLaws.{slice_line-injective}
use Rattle.journal_text.specs.LinePositions.{IsCommandLine, IsSliceLine, LeadOn, Leads, LeadsFromEntries, LeadsFromSlices}
use Rattle.journal_text.specs.declared.line_position.LinePosition.{LinePosition}
use Rattle.journal_text.specs.declared.line_position.LinePosition.TheVariants.{Start, InTree, InSlice, Over}
use Rattle.script_ops.specs.Values.{IsLawful, ScriptValue}

-- a command's line is none after slices
command-not_after_slices : (script : ScriptValue) (slices : ℕ) (line : List ℕ) (next : LinePosition) → IsCommandLine script line → LeadsFromSlices script slices line next → ⊥
command-not_after_slices script slices line Start command after = after
command-not_after_slices script slices line InTree command after = after
command-not_after_slices script slices line (InSlice slice left) command after = command_line-slice_line command.entry script.machine slice left (command.same ∙ sym after.1.same)
command-not_after_slices script slices line Over command after = command_line-last_line command.entry (command.same ∙ sym after.same)

module _ (script : ScriptValue) (lawful : IsLawful script) where
  -- the counts in one line are one
  IsSliceLine-same : (slice a b : ℕ) (line : List ℕ) → IsSliceLine script slice a line → IsSliceLine script slice b line → a ≡ b
  IsSliceLine-same slice a b line one two = slice_line-injective script lawful slice a b one.there one.few two.few (one.same ∙ sym two.same)

  -- after slices a line leads to one position
  LeadsFromSlices-same : (slices : ℕ) (line : List ℕ) (a b : LinePosition) → LeadsFromSlices script slices line a → LeadsFromSlices script slices line b → a ≡ b
  LeadsFromSlices-same slices line Start b one two = absurd one
  LeadsFromSlices-same slices line InTree b one two = absurd one
  LeadsFromSlices-same slices line (InSlice i n) Start one two = absurd two
  LeadsFromSlices-same slices line (InSlice i n) InTree one two = absurd two
  LeadsFromSlices-same slices line (InSlice i n) (InSlice j k) one two =
      let position : i ≡ j = sym one.0 ∙ two.0 in
      let count : n ≡ k = IsSliceLine-same i n k line one.1 (subst (λ (slice : ℕ). IsSliceLine script slice k line) (sym position) two.1) in
      cc
  LeadsFromSlices-same slices line (InSlice i n) Over one two = absurd (omega (arith, one.0, one.1.there, two.all))
  LeadsFromSlices-same slices line Over Start one two = absurd two
  LeadsFromSlices-same slices line Over InTree one two = absurd two
  LeadsFromSlices-same slices line Over (InSlice j k) one two = absurd (omega (arith, two.0, two.1.there, one.all))
  LeadsFromSlices-same slices line Over Over one two = refl

  -- from the entries of a slice too
  LeadsFromEntries-same : (slice left : ℕ) (line : List ℕ) (a b : LinePosition) → LeadsFromEntries script slice left line a → LeadsFromEntries script slice left line b → a ≡ b
  LeadsFromEntries-same slice left line a b (inl one) (inl two) = LeadsFromSlices-same (slice + 1) line a b one.1 two.1
  LeadsFromEntries-same slice left line a b (inl one) (inr two) = absurd (omega (arith, one.0, two.1))
  LeadsFromEntries-same slice left line a b (inr one) (inl two) = absurd (omega (arith, two.0, one.1))
  LeadsFromEntries-same slice left line a b (inr one) (inr two) = (let more : one.0 ≡ two.0 = omega (arith, one.1, two.1) in
      one.2 ∙ ap (λ (n : ℕ). InSlice slice n) more ∙ sym two.2)

  -- from the commands too
  leads-from_tree : (line : List ℕ) (a b : LinePosition) → Leads script InTree line a → Leads script InTree line b → a ≡ b
  leads-from_tree line a b (inl one) (inl two) = one.0 ∙ sym two.0
  leads-from_tree line a b (inl one) (inr two) = absurd (command-not_after_slices script 0 line b one.1 two)
  leads-from_tree line a b (inr one) (inl two) = absurd (command-not_after_slices script 0 line a two.1 one)
  leads-from_tree line a b (inr one) (inr two) = LeadsFromSlices-same 0 line a b one two

  -- a line leads from a position to one position
  pub Leads-same : (position : LinePosition) (line : List ℕ) (a b : LinePosition) → Leads script position line a → Leads script position line b → a ≡ b
  Leads-same Start line a b one two = one.0 ∙ sym two.0
  Leads-same InTree line a b one two = leads-from_tree line a b one two
  Leads-same (InSlice slice left) line a b one two = LeadsFromEntries-same slice left line a b one two
  Leads-same Over line a b one two = absurd one

  -- and so do lines
  pub LeadOn-same : (position : LinePosition) (lines : List (List ℕ)) (a b : LinePosition) → LeadOn script position lines a → LeadOn script position lines b → a ≡ b
  LeadOn-same position [] a b one two = sym one ∙ two
  LeadOn-same position (line ∷ lines) a b one two =
      let same : one.0 ≡ two.0 = Leads-same position line one.0 two.0 one.1 two.1 in
      LeadOn-same two.0 lines a b (subst (λ (p : LinePosition). LeadOn script p lines a) same one.2) two.2

-- lines and then more
pub LeadOn-append : (script : ScriptValue) (position : LinePosition) (xs ys : List (List ℕ)) (between last : LinePosition) → LeadOn script position xs between → LeadOn script between ys last → LeadOn script position (xs ++ ys) last
LeadOn-append script position [] ys between last one two = subst (λ (p : LinePosition). LeadOn script p ys last) (sym one) two
LeadOn-append script position (x ∷ xs) ys between last one two = (one.0, one.1, LeadOn-append script one.0 xs ys between last one.2 two)

-- lines and one more
pub LeadOn-push : (script : ScriptValue) (position : LinePosition) (lines : List (List ℕ)) (line : List ℕ) (between last : LinePosition) → LeadOn script position lines between → Leads script between line last → LeadOn script position (lines ++ line ∷ []) last
LeadOn-push script position lines line between last one two = LeadOn-append script position lines (line ∷ []) between last one (last, two, refl)

-- the two parts of lines
pub LeadOn-parts : (script : ScriptValue) (position : LinePosition) (xs ys : List (List ℕ)) (last : LinePosition) → LeadOn script position (xs ++ ys) last → (between : LinePosition) × LeadOn script position xs between × LeadOn script between ys last
LeadOn-parts script position [] ys last both = (position, refl, both)
LeadOn-parts script position (x ∷ xs) ys last both = let rest = LeadOn-parts script both.0 xs ys last both.2 in (rest.0, (both.0, both.1, rest.1), rest.2)
