use mathlib.Core.Path.{◌∙◌, sym}
use Rattle.setwriter.proofs.Mapped.{mapped_one, mapped_did}
use Rattle.setwriter.proofs.write_mapped.Goals as goal

pub write_different-requires : goal.write_different-requires
write_different-requires c = (c.requires.0, sym c.word.ensures ∙ c.if-word-eq3.true, c.requires.1)

pub write_one-requires : goal.write_one-requires
write_one-requires c = let x = c.requires.0.place in (record { domains = x.problem.domains; stmt = x.stmt; before = x.before; it = mapped_one c.requires.0.it (λ z. c.if-word-eq3.false (c.word.ensures ∙ z)) }, c.requires.1)

pub shape_of-work : goal.shape_of-work
shape_of-work c = let h = c.requires.0.it in (mapped_did h (λ y. c.if-word-eq3.false (c.word.ensures ∙ y)) (c.write_one.ensures c.requires.0.place.problem.domains c.requires.0.place.stmt c.requires.0.place.before (mapped_one h (λ y. c.if-word-eq3.false (c.word.ensures ∙ y))))).same.size

pub returns : goal.returns
returns c = λ x h. mapped_did h (λ y. c.if-word-eq3.false (c.word.ensures ∙ y)) (c.write_one.ensures x.problem.domains x.stmt x.before (mapped_one h (λ y. c.if-word-eq3.false (c.word.ensures ∙ y))))
