mod Complete
mod FoundInputs
mod OtherLines
mod SameJournals
