use Rattle.setwriter.proofs.One.{some_rule, some_table, one_rule, one_table}
use Rattle.setwriter.proofs.write_one.Goals as goal

pub put_rule-requires : goal.put_rule-requires
put_rule-requires c = (some_rule _ _ _ _ _ c.word.ensures c.requires.0 c.if-word-eq1.true, c.requires.1)

pub returns-then-word-eq1 : goal.returns-then-word-eq1
returns-then-word-eq1 c = one_rule _ _ _ _ _ c.word.ensures c.if-word-eq1.true c.put_rule.ensures

pub write_table-t-requires : goal.write_table-t-requires
write_table-t-requires c = (some_table _ _ _ _ _ c.word.ensures c.requires.0 c.if-word-eq1.false, c.requires.1)

pub shape_of-work : goal.shape_of-work
shape_of-work c = let t = some_table _ _ _ _ _ c.word.ensures c.requires.0 c.if-word-eq1.false in (c.write_table-t.ensures t.place t.it).size

pub returns : goal.returns
returns c = one_table _ _ _ _ _ c.word.ensures c.if-word-eq1.false (λ ds es rows s h. c.write_table-t.ensures (record { domains = ds; exprs = es; rows = rows; before = s }) h)
