-- `compile_sheet` meets its contract.
use mathlib.Core.List.{[]}
use native.Mathlib.Omega.{arith}
use Rattle.station.proofs.Numbers.{number_fits}
use Rattle.station.proofs.JoinNumbers.{minus_small_fits}
use Rattle.station.proofs.SheetNumbers.{sheet_words_small, sheet_refusal_small, returns_sheet, returns_no_sheet, returns_refused_sheet}
use Rattle.station.proofs.compile_sheet.Goals as goal

pub overflow_cast-result : goal.overflow_cast-result
overflow_cast-result c = number_fits _ (sheet_words_small _ _ _ _ _ _ _ [] _ c.compile_sheet.ensures _ _ c.in-Compiled.is)

pub overflow_cast-result-in-Refused : goal.overflow_cast-result-in-Refused
overflow_cast-result-in-Refused c = number_fits _ (omega (arith, sheet_refusal_small _ _ _ _ _ _ _ [] _ c.compile_sheet.ensures _ c.in-Refused.is))

pub overflow_sub-result : goal.overflow_sub-result
overflow_sub-result c = minus_small_fits _ (sheet_refusal_small _ _ _ _ _ _ _ [] _ c.compile_sheet.ensures _ c.in-Refused.is)

pub returns-in-Compiled : goal.returns-in-Compiled
returns-in-Compiled c = returns_sheet _ _ _ _ _ _ _ _ _ c.compile_sheet.ensures _ _ c.in-Compiled.is _ c.put_count.ensures

pub returns-in-Contradiction : goal.returns-in-Contradiction
returns-in-Contradiction c = returns_no_sheet _ _ _ _ _ _ _ _ _ c.compile_sheet.ensures c.in-Contradiction.is _ c.put_count-in-Contradiction.ensures

pub returns-in-Refused : goal.returns-in-Refused
returns-in-Refused c = returns_refused_sheet _ _ _ _ _ _ _ _ _ c.compile_sheet.ensures _ c.in-Refused.is _ c.put_count-in-Refused.ensures
