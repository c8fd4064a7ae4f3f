use native.Mathlib.Omega.{arith}
use Rattle.setwriter.proofs.Renumbered.{walked_asks, walked_full, walked_one, walked_did}
use Rattle.setwriter.proofs.rewrite_one.Goals as goal

pub number_statement-s-requires : goal.number_statement-s-requires
number_statement-s-requires c = let h = c.requires.0.it in (h.standing.state.used, walked_asks h)

pub shape_of-work-then-room-d : goal.shape_of-work-then-room-d
shape_of-work-then-room-d c = c.number_statement-s.ensures.1.0

pub returns-then-room-d : goal.returns-then-room-d
returns-then-room-d c = λ x n h. walked_full h c.number_statement-s.ensures.0 c.number_statement-s.ensures.1.1 c.if-room-d.true

pub write_one-r-requires : goal.write_one-r-requires
write_one-r-requires c = let x = c.requires.0.place in (record { domains = x.problem.domains; stmt = x.stmt; before = x.before; it = walked_one c.requires.0.it c.number_statement-s.ensures.0 c.number_statement-s.ensures.1.1 (omega (arith, c.if-room-d.false)) c.requires.1 }, c.requires.2)

pub shape_of-work : goal.shape_of-work
shape_of-work c = let x = c.requires.0.place in let h = c.requires.0.it in (walked_did h c.number_statement-s.ensures.0 c.number_statement-s.ensures.1.1 (omega (arith, c.if-room-d.false)) (c.write_one-r.ensures x.problem.domains x.stmt x.before (walked_one h c.number_statement-s.ensures.0 c.number_statement-s.ensures.1.1 (omega (arith, c.if-room-d.false)) c.requires.1))).size

pub returns : goal.returns
returns c = λ x n h. walked_did h c.number_statement-s.ensures.0 c.number_statement-s.ensures.1.1 (omega (arith, c.if-room-d.false)) (c.write_one-r.ensures x.problem.domains x.stmt x.before (walked_one h c.number_statement-s.ensures.0 c.number_statement-s.ensures.1.1 (omega (arith, c.if-room-d.false)) c.requires.1))
