-- Kinds of notices.
use Rattle.std.specs.Prelude.{ℕ, List, codes}
use Rattle.report_form.specs.declared.notice.NoticeKind.{NoticeKind}
use Rattle.report_form.specs.declared.notice.NoticeKind.TheVariants.{NotUtf8, TooLarge, NoTree, Crowded, FlowTooLarge, MissingKey, UnknownKey, WrongShape, BadPattern, BadComparison, OutsideProfile, DuplicateId, YamlProfile, YamlNoValue, NoRules, OptionUnread, Regex}

-- the word of a kind is its name
abbrev pub kind_word : NoticeKind → List ℕ
kind_word NotUtf8 = codes "NotUtf8"
kind_word TooLarge = codes "TooLarge"
kind_word NoTree = codes "NoTree"
kind_word Crowded = codes "Crowded"
kind_word FlowTooLarge = codes "FlowTooLarge"
kind_word MissingKey = codes "MissingKey"
kind_word UnknownKey = codes "UnknownKey"
kind_word WrongShape = codes "WrongShape"
kind_word BadPattern = codes "BadPattern"
kind_word BadComparison = codes "BadComparison"
kind_word OutsideProfile = codes "OutsideProfile"
kind_word DuplicateId = codes "DuplicateId"
kind_word YamlProfile = codes "YamlProfile"
kind_word YamlNoValue = codes "YamlNoValue"
kind_word NoRules = codes "NoRules"
kind_word OptionUnread = codes "OptionUnread"
kind_word Regex = codes "Regex"
