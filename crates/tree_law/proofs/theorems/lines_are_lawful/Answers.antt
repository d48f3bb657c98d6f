use Rattle.tree_law.proofs.laws.Lines.{first_line-bounded, first_line-differs, first_line-whole}
use Rattle.tree_law.proofs.theorems.lines_are_lawful.Goals as goal

pub returns : goal.returns
returns c = record {
  differ = λ m s one other a b sound apart is js. first_line-differs s.regions s.locks sound.lines one other a b apart is js;
  whole = λ m s domain r range sound is. first_line-whole s.regions s.locks sound.lines m domain r range is;
  bounded = λ m s domain r offset range sound few is less. first_line-bounded s.regions s.locks sound.lines m domain r offset range few is less;
}
