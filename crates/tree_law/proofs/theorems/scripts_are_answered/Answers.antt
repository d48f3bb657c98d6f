use Rattle.tree_law.proofs.ScriptRows.{FirstAnswers-holds, FirstLeft-holds, SecondAnswers-holds, SecondLeft-holds, ThirdAnswers-holds, ThirdLeft-holds}
use Rattle.tree_law.proofs.theorems.scripts_are_answered.Goals as goal

pub returns : goal.returns
returns c = record { first = FirstAnswers-holds; first_left = FirstLeft-holds; second = SecondAnswers-holds; second_left = SecondLeft-holds; third = ThirdAnswers-holds; third_left = ThirdLeft-holds }
