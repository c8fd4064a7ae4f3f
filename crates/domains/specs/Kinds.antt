-- The domain that the code's own kinds say. Assumes nothing.
use Rattle.syntax.specs.Syntax.{Domain, Range, Enumerative}
use Rattle.syntax.specs.declared.Values.TheVariants as code

abbrev pub domain : code.the_data → Domain
domain (code.Range low high) = Range low high
domain (code.Enumerative values) = Enumerative values.now
