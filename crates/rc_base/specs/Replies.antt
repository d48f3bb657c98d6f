-- The numbers of the reasons, the error of each, and the errors' names.
use Rattle.std.specs.Prelude.{ℕ, List, codes}
use Rattle.rc_base.specs.declared.replies.Errno.{Errno}
use Rattle.rc_base.specs.declared.replies.Errno.TheVariants.{Eperm, Enoent, Esrch, Eacces, Ebusy, Eexist, Einval, Enospc}
use Rattle.rc_base.specs.declared.replies.Reply.{Reply}
use Rattle.rc_base.specs.declared.replies.Reply.TheVariants.{Refused}
use Rattle.rc_base.specs.declared.replies.Why.{Why}
use Rattle.rc_base.specs.declared.replies.Why.TheVariants.{NoSuchPath, NotAPlace, Exists, OnlyRead, OutOfClosids, NoSpace, OutOfRmids, RmidsBusy, NoTask, NoColon, BadResource, NoValue, NoEquals, BadDomain, DomainTwice, NotHex, OutOfRange, Gaps, TooFew, OverlapExclusive, OverlapRegion, OverlapOther, OverlapShareable, SchemataOverlap, UnknownMode, GroupLocked, Locking, DefaultGroup, HasTasks, HasCpus, HasMonGroups, OtherControl, BadTaskList, BadCpus, NotACpu, DropsDefault, NotParents, BadThreshold, OneDomain, HasRegion, PastRegion, WrongCpu}

-- the usual name of an error
abbrev pub name_of : Errno → List ℕ
name_of Eperm = codes "EPERM"
name_of Enoent = codes "ENOENT"
name_of Esrch = codes "ESRCH"
name_of Eacces = codes "EACCES"
name_of Ebusy = codes "EBUSY"
name_of Eexist = codes "EEXIST"
name_of Einval = codes "EINVAL"
name_of Enospc = codes "ENOSPC"

-- (For proofs.) the number of an error, as Linux counts them
abbrev pub code_of : Errno → ℕ
code_of Eperm = 1
code_of Enoent = 2
code_of Esrch = 3
code_of Eacces = 13
code_of Ebusy = 16
code_of Eexist = 17
code_of Einval = 22
code_of Enospc = 28

-- the number of a reason
abbrev pub number_of : Why → ℕ
number_of NoSuchPath = 1
number_of NotAPlace = 2
number_of Exists = 3
number_of OnlyRead = 4
number_of OutOfClosids = 5
number_of NoSpace = 6
number_of OutOfRmids = 7
number_of RmidsBusy = 8
number_of NoTask = 9
number_of NoColon = 10
number_of BadResource = 11
number_of NoValue = 12
number_of NoEquals = 13
number_of BadDomain = 14
number_of DomainTwice = 15
number_of NotHex = 16
number_of OutOfRange = 17
number_of Gaps = 18
number_of TooFew = 19
number_of OverlapExclusive = 20
number_of OverlapRegion = 21
number_of OverlapOther = 22
number_of OverlapShareable = 23
number_of SchemataOverlap = 24
number_of UnknownMode = 25
number_of GroupLocked = 26
number_of Locking = 27
number_of DefaultGroup = 28
number_of HasTasks = 29
number_of HasCpus = 30
number_of HasMonGroups = 31
number_of OtherControl = 32
number_of BadTaskList = 33
number_of BadCpus = 34
number_of NotACpu = 35
number_of DropsDefault = 36
number_of NotParents = 37
number_of BadThreshold = 38
number_of OneDomain = 39
number_of HasRegion = 40
number_of PastRegion = 41
number_of WrongCpu = 42

-- the error that goes with a reason
abbrev pub errno_of : Why → Errno
errno_of NoSuchPath = Enoent
errno_of NotAPlace = Eperm
errno_of Exists = Eexist
errno_of OnlyRead = Eacces
errno_of OutOfClosids = Enospc
errno_of NoSpace = Enospc
errno_of OutOfRmids = Enospc
errno_of RmidsBusy = Ebusy
errno_of NoTask = Esrch
errno_of NoColon = Einval
errno_of BadResource = Einval
errno_of NoValue = Einval
errno_of NoEquals = Einval
errno_of BadDomain = Einval
errno_of DomainTwice = Einval
errno_of NotHex = Einval
errno_of OutOfRange = Einval
errno_of Gaps = Einval
errno_of TooFew = Einval
errno_of OverlapExclusive = Einval
errno_of OverlapRegion = Einval
errno_of OverlapOther = Einval
errno_of OverlapShareable = Einval
errno_of SchemataOverlap = Einval
errno_of UnknownMode = Einval
errno_of GroupLocked = Einval
errno_of Locking = Einval
errno_of DefaultGroup = Einval
errno_of HasTasks = Einval
errno_of HasCpus = Einval
errno_of HasMonGroups = Einval
errno_of OtherControl = Einval
errno_of BadTaskList = Einval
errno_of BadCpus = Einval
errno_of NotACpu = Einval
errno_of DropsDefault = Einval
errno_of NotParents = Einval
errno_of BadThreshold = Einval
errno_of OneDomain = Einval
errno_of HasRegion = Einval
errno_of PastRegion = Einval
errno_of WrongCpu = Einval

-- a refusal for this reason
abbrev pub refused : Why → ℕ → Reply
refused why arg = Refused (errno_of why) why arg
