-- What is said of a line that was not read.
use Rattle.std.specs.Prelude.{ℕ, List, codes, ◌++◌}
use Rattle.script.specs.declared.calls.Unread.{Unread}
use Rattle.script.specs.declared.calls.Unread.TheVariants as unread
use Rattle.script.specs.declared.calls.Expected.{Expected}
use Rattle.script.specs.declared.calls.Expected.TheVariants.{Keyword, StoreKind, SettingOnce, SettingFirst, AreaName, AreaOnce, AreaLength, Givens, Row, Program, Allowance, Value, Reductions, Trial, TrialLayer, LineEnd}

abbrev pub expected_text : Expected → List ℕ
expected_text Keyword = codes "a setting (store, lengths) or a call (check, compile, list, code, start, run, open, keep, put-back, objects)"
expected_text StoreKind = codes "flat, sharing, trial flat, trial sharing or trial trial sharing"
expected_text SettingOnce = codes "each setting at most once"
expected_text SettingFirst = codes "settings before the first call only"
expected_text AreaName = codes "an area's name: contents, operations, methods, cells, frames, objects or slots"
expected_text AreaOnce = codes "each area's name at most once"
expected_text AreaLength = codes "the area's length, from 0 to 4294967295"
expected_text Givens = codes "the number of givens, from 0 to 4294967295"
expected_text Row = codes "a row: V, F or O with a signed number, S, U or M with a label from 0 to 65535, C, L, or KIND/LABEL/NUMBER"
expected_text Program = codes "a program's number, from 0 to 4294967295"
expected_text Allowance = codes "an allowance of reductions, from 0 to 4294967295"
expected_text Value = codes "a value: a signed number, or @ and a location"
expected_text Reductions = codes "a number of reductions, from 0 to 4294967295"
expected_text Trial = codes "a trial's number, from 0 to 4294967295"
expected_text TrialLayer = codes "a store that is a trial layer (set it by 'store trial flat', say)"
expected_text LineEnd = codes "nothing more on this line"

abbrev pub unread_text : Unread → List ℕ
unread_text (unread.Expected e) = codes "expected " ++ expected_text e
unread_text unread.NoMemory = codes "no memory is left for it"
