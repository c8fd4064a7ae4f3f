use native.Mathlib.Omega.{arith}
use Rattle.sheetwords.proofs.sheet_of_words.Goals as goal

pub returns-then-words-gt-MOST_WORDS : goal.returns-then-words-gt-MOST_WORDS
returns-then-words-gt-MOST_WORDS c = λ h. absurd (omega (arith, c.if-words-gt-MOST_WORDS.true))

pub returns : goal.returns
returns c = λ h. c.put_sheet.ensures.0
