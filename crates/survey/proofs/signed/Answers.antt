use lib.IntN.{pos, negsuc}
use lib.Signed.{lt_z}
use Rattle.laws.specs.Signed.{test_of}
use Rattle.memory.specs.Places.{limit}
use Rattle.survey.proofs.Literals.{signed_above, signed_below, near, minus_fits, signed_minus, signed_same}
use Rattle.survey.proofs.signed.Goals as goal
use Rattle.survey.proofs.signed.Goals.{then-z-gt-LIMIT_WORD-via-then-z-gt-LIMIT_WORD, then-z-gt-LIMIT_WORD-via-else-z-gt-LIMIT_WORD+then-z-lt-LIMIT_NEGATED}

pub returns-then-z-gt-LIMIT_WORD : goal.returns-then-z-gt-LIMIT_WORD
returns-then-z-gt-LIMIT_WORD c =
    elim c.then-z-gt-LIMIT_WORD.branch [
      | then-z-gt-LIMIT_WORD-via-then-z-gt-LIMIT_WORD w ↦ signed_above _ _ (test_of (λ z. lt_z (pos limit) z) c.ranges.z w.if-z-gt-LIMIT_WORD.true)
      | then-z-gt-LIMIT_WORD-via-else-z-gt-LIMIT_WORD+then-z-lt-LIMIT_NEGATED w ↦ signed_below _ _ (test_of (λ z. lt_z z (negsuc 1073741823)) c.ranges.z w.if-z-lt-LIMIT_NEGATED.true)
    ]

pub overflow_sub-result : goal.overflow_sub-result
overflow_sub-result c =
    let f = c.ranges.z in
    minus_fits c.args.z f (near c.args.z (test_of (λ z. lt_z (pos limit) z) f c.if-z-gt-LIMIT_WORD.false) (test_of (λ z. lt_z z (negsuc 1073741823)) f c.if-z-lt-LIMIT_NEGATED.false))

pub returns-then-g : goal.returns-then-g
returns-then-g c =
    let f = c.ranges.z in
    signed_minus _ _ f (near c.args.z (test_of (λ z. lt_z (pos limit) z) f c.if-z-gt-LIMIT_WORD.false) (test_of (λ z. lt_z z (negsuc 1073741823)) f c.if-z-lt-LIMIT_NEGATED.false)) c.if-g.true

pub returns : goal.returns
returns c =
    let f = c.ranges.z in
    signed_same _ _ f (near c.args.z (test_of (λ z. lt_z (pos limit) z) f c.if-z-gt-LIMIT_WORD.false) (test_of (λ z. lt_z z (negsuc 1073741823)) f c.if-z-lt-LIMIT_NEGATED.false)) c.if-g.false
