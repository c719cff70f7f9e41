-- The numbers that are printed for the reasons of an end and of a table.
use Rattle.std.specs.Prelude.{ℕ}
use Rattle.tcap_end.specs.declared.fault.EndFault.{EndFault}
use Rattle.tcap_end.specs.declared.fault.EndFault.TheVariants as faults
use Rattle.tcap_end.specs.declared.table.TableReason.{TableReason}
use Rattle.tcap_end.specs.declared.table.TableReason.TheVariants as reasons

-- the numbers of the reasons why an end refuses a step
abbrev pub fault_number : EndFault → ℕ
fault_number faults.NoTransaction = 40
fault_number faults.IdUsed = 41
fault_number faults.WrongPhase = 42
fault_number faults.WrongDialogue = 43
fault_number faults.UnknownOperation = 44
fault_number faults.InvokeIdBusy = 45
fault_number faults.NothingToAnswer = 46
fault_number faults.ClassForbids = 47
fault_number faults.WrongOperation = 48
fault_number faults.BadLink = 49
fault_number faults.RejectNotAllowed = 50
fault_number faults.CannotExpire = 51
fault_number faults.CannotClose = 52
fault_number faults.UniNotClass4 = 53
fault_number faults.StillOpen = 54
fault_number faults.Memory = 99

-- the numbers of the reasons why a text is not a table
abbrev pub table_number_of : TableReason → ℕ
table_number_of reasons.NotJson = 30
table_number_of reasons.TableShape = 31
table_number_of reasons.DoubleCode = 32
table_number_of reasons.BadClass = 33
table_number_of reasons.TooManyRows = 34
table_number_of reasons.Memory = 99
