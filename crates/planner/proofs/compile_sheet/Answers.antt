-- `compile_sheet` meets its contract.
use Rattle.planner.proofs.SheetCalls.{some_answered, sheets_compiled, sheets_refused, sheets_contradiction}
use Rattle.planner.proofs.compile_sheet.Goals as goal

pub finish-requires : goal.finish-requires
finish-requires c = some_answered c.compile.ensures c.compile.auto.output c.args.sheet.now _ c.in-Compiled.is c.clear_bytes.ensures c.clear_bytes.auto.s

pub returns-in-Compiled : goal.returns-in-Compiled
returns-in-Compiled c = sheets_compiled c.compile.ensures c.compile.auto.output c.args.sheet.now _ c.in-Compiled.is c.clear_bytes.ensures c.clear_bytes.auto.s c.finish.ensures

pub returns-in-Contradiction : goal.returns-in-Contradiction
returns-in-Contradiction c = sheets_contradiction c.compile.ensures c.compile.auto.output c.args.sheet.now c.in-Contradiction.is c.clear_bytes.ensures

pub returns-in-Refused : goal.returns-in-Refused
returns-in-Refused c = sheets_refused c.compile.ensures c.compile.auto.output c.args.sheet.now _ c.in-Refused.is c.clear_bytes.ensures
