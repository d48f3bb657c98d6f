-- The text of each reason.
use Rattle.std.specs.Prelude.{ℕ, List, [], ◌++◌, codes, decimal, false}
use Rattle.std.specs.Fmt.{digits}
use Rattle.rc_base.specs.declared.reasons.Argument.{Argument}
use Rattle.rc_base.specs.declared.reasons.Argument.TheVariants.{Absent, Decimal, Hexadecimal}
use Rattle.rc_base.specs.declared.replies.Why.{Why}
use Rattle.rc_base.specs.declared.replies.Why.TheVariants.{NoSuchPath, NotAPlace, Exists, OnlyRead, OutOfClosids, NoSpace, OutOfRmids, RmidsBusy, NoTask, NoColon, BadResource, NoValue, NoEquals, BadDomain, DomainTwice, NotHex, OutOfRange, Gaps, TooFew, OverlapExclusive, OverlapRegion, OverlapOther, OverlapShareable, SchemataOverlap, UnknownMode, GroupLocked, Locking, DefaultGroup, HasTasks, HasCpus, HasMonGroups, OtherControl, BadTaskList, BadCpus, NotACpu, DropsDefault, NotParents, BadThreshold, OneDomain, HasRegion, PastRegion, WrongCpu}

-- the words before the argument
abbrev pub before_of : Why → List ℕ
before_of NoSuchPath = codes "no such file or directory"
before_of NotAPlace = codes "not a place for groups"
before_of Exists = codes "file exists"
before_of OnlyRead = codes "file is read-only"
before_of OutOfClosids = codes "out of CLOSIDs"
before_of NoSpace = codes "no space on L3:"
before_of OutOfRmids = codes "out of RMIDs"
before_of RmidsBusy = codes "RMIDs are in limbo"
before_of NoTask = codes "no task "
before_of NoColon = codes "missing ':'"
before_of BadResource = codes "unknown resource name"
before_of NoValue = codes "missing 'L3' value"
before_of NoEquals = codes "missing '='"
before_of BadDomain = codes "unknown domain"
before_of DomainTwice = codes "duplicate domain "
before_of NotHex = codes "mask is not a hexadecimal number"
before_of OutOfRange = codes "mask "
before_of Gaps = codes "mask "
before_of TooFew = codes "mask "
before_of OverlapExclusive = codes "overlaps with exclusive group"
before_of OverlapRegion = codes "overlaps with pseudo-locked region"
before_of OverlapOther = codes "overlaps with other group"
before_of OverlapShareable = codes "overlaps with shareable bits"
before_of SchemataOverlap = codes "schemata overlaps"
before_of UnknownMode = codes "unknown or unsupported mode"
before_of GroupLocked = codes "group is pseudo-locked"
before_of Locking = codes "pseudo-locking in progress"
before_of DefaultGroup = codes "default group cannot be pseudo-locked"
before_of HasTasks = codes "tasks assigned to group"
before_of HasCpus = codes "CPUs assigned to group"
before_of HasMonGroups = codes "monitor groups present"
before_of OtherControl = codes "task "
before_of BadTaskList = codes "task list is not numbers"
before_of BadCpus = codes "CPU text has no reading"
before_of NotACpu = codes "no CPU "
before_of DropsDefault = codes "cannot drop CPUs from default group"
before_of NotParents = codes "CPUs not in the parent group"
before_of BadThreshold = codes "threshold out of range"
before_of OneDomain = codes "a region has one domain"
before_of HasRegion = codes "domain "
before_of PastRegion = codes "offset past the region"
before_of WrongCpu = codes "CPU not in the domain of the region"

-- how the argument is written
abbrev pub argument_of : Why → Argument
argument_of NoSuchPath = Absent
argument_of NotAPlace = Absent
argument_of Exists = Absent
argument_of OnlyRead = Absent
argument_of OutOfClosids = Absent
argument_of NoSpace = Decimal
argument_of OutOfRmids = Absent
argument_of RmidsBusy = Absent
argument_of NoTask = Decimal
argument_of NoColon = Absent
argument_of BadResource = Absent
argument_of NoValue = Absent
argument_of NoEquals = Absent
argument_of BadDomain = Absent
argument_of DomainTwice = Decimal
argument_of NotHex = Absent
argument_of OutOfRange = Hexadecimal
argument_of Gaps = Hexadecimal
argument_of TooFew = Hexadecimal
argument_of OverlapExclusive = Absent
argument_of OverlapRegion = Absent
argument_of OverlapOther = Absent
argument_of OverlapShareable = Absent
argument_of SchemataOverlap = Absent
argument_of UnknownMode = Absent
argument_of GroupLocked = Absent
argument_of Locking = Absent
argument_of DefaultGroup = Absent
argument_of HasTasks = Absent
argument_of HasCpus = Absent
argument_of HasMonGroups = Absent
argument_of OtherControl = Decimal
argument_of BadTaskList = Absent
argument_of BadCpus = Absent
argument_of NotACpu = Decimal
argument_of DropsDefault = Absent
argument_of NotParents = Absent
argument_of BadThreshold = Absent
argument_of OneDomain = Absent
argument_of HasRegion = Decimal
argument_of PastRegion = Absent
argument_of WrongCpu = Absent

-- the words after the argument
abbrev pub after_of : Why → List ℕ
after_of NoSuchPath = []
after_of NotAPlace = []
after_of Exists = []
after_of OnlyRead = []
after_of OutOfClosids = []
after_of NoSpace = []
after_of OutOfRmids = []
after_of RmidsBusy = []
after_of NoTask = []
after_of NoColon = []
after_of BadResource = []
after_of NoValue = []
after_of NoEquals = []
after_of BadDomain = []
after_of DomainTwice = []
after_of NotHex = []
after_of OutOfRange = codes " out of range"
after_of Gaps = codes " has non-consecutive 1-bits"
after_of TooFew = codes " has fewer bits than min_cbm_bits"
after_of OverlapExclusive = []
after_of OverlapRegion = []
after_of OverlapOther = []
after_of OverlapShareable = []
after_of SchemataOverlap = []
after_of UnknownMode = []
after_of GroupLocked = []
after_of Locking = []
after_of DefaultGroup = []
after_of HasTasks = []
after_of HasCpus = []
after_of HasMonGroups = []
after_of OtherControl = codes " belongs to another control group"
after_of BadTaskList = []
after_of BadCpus = []
after_of NotACpu = []
after_of DropsDefault = []
after_of NotParents = []
after_of BadThreshold = []
after_of OneDomain = []
after_of HasRegion = codes " has a region already"
after_of PastRegion = []
after_of WrongCpu = []

-- a number in hexadecimal, in lower case and without leading zeros
abbrev pub hexadecimal : ℕ → List ℕ
hexadecimal n = digits 16 false n

-- an argument as it is written
abbrev pub argument_text : Argument → ℕ → List ℕ
argument_text Absent arg = []
argument_text Decimal arg = decimal arg
argument_text Hexadecimal arg = hexadecimal arg

-- the text of a reason with its argument
abbrev pub reason_text : Why → ℕ → List ℕ
reason_text why arg = before_of why ++ argument_text (argument_of why) arg ++ after_of why
